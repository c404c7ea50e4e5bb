use Rattle.std.proofs.Common.{ap, append_assoc, false, refl, sym, true, ◌++◌, ◌∙◌, ◌∷◌, [], ◌≡◌}
use Rattle.std.proofs.lemmas.List.{append-nil}
use Rattle.fugue_ids.specs.Identifiers.{origin_eq}
use Rattle.origin_model.specs.operations.History.{left_of}
use Rattle.order_proof.specs.Chains.{beside_up}
use Rattle.order_proof.specs.Positions.{history_at}
use Rattle.op_runs.specs.Finding.{op_of}
use Rattle.order_proof.proofs.BesideLemmas.{beside_missing, climb_last, climb_on, climb_parted, origin_same}
use Rattle.order_proof.proofs.chains.climb.Goals as goal
use Rattle.std.proofs.lemmas.Bool.{not-false, not-true}

pub returns-then-ne : goal.returns-then-ne
returns-then-ne g c =
    let ops = g.P.Positions.operations c.args.held.now in
    let parted : origin_eq (left_of (op_of c.in-Some.op)) c.args.left ≡ false =
    ap (λ o. origin_eq o c.args.left) (sym c.left_of.ensures) ∙ sym (origin_same c.left_of.result c.args.left) ∙ not-true _ (sym c.ne.ensures ∙ c.if-ne.true) in
    sym (append-nil c.scan.found.items)
    ∙ ap (λ l. c.scan.found.items ++ l) (sym (climb_parted ops c.scan.below c.args.left c.scan.current c.in-Some.at (op_of c.in-Some.op) c.in-Some.ensures.some parted))
    ∙ c.scan.invariant

pub scan-preserved : goal.scan-preserved
scan-preserved g c =
    let ops = g.P.Positions.operations c.args.held.now in
    let same : origin_eq (left_of (op_of c.in-Some.op)) c.args.left ≡ true =
    ap (λ o. origin_eq o c.args.left) (sym c.left_of.ensures) ∙ sym (origin_same c.left_of.result c.args.left) ∙ not-false _ (sym c.ne.ensures ∙ c.if-ne.false) in
    let above = beside_up (history_at ops c.in-Some.at) c.args.left c.in-Some-right_of.next in
    ap (λ l. l ++ above) c.in_ok-push.ensures.items
    ∙ append_assoc c.scan.found.items (c.scan.current ∷ []) above
    ∙ ap (λ l. c.scan.found.items ++ l)
    (sym (climb_on ops c.scan.below c.args.left c.scan.current c.in-Some.at (op_of c.in-Some.op) c.in-Some.ensures.some same c.in-Some-right_of.next
    (sym c.right_of.ensures ∙ c.in-Some-right_of.is)))
    ∙ c.scan.invariant

pub returns-in-None : goal.returns-in-None
returns-in-None g c =
    let ops = g.P.Positions.operations c.args.held.now in
    let same : origin_eq (left_of (op_of c.in-Some.op)) c.args.left ≡ true =
    ap (λ o. origin_eq o c.args.left) (sym c.left_of.ensures) ∙ sym (origin_same c.left_of.result c.args.left) ∙ not-false _ (sym c.ne.ensures ∙ c.if-ne.false) in
    c.in_ok-push.ensures.items
    ∙ ap (λ l. c.scan.found.items ++ l)
    (sym (climb_last ops c.scan.below c.args.left c.scan.current c.in-Some.at (op_of c.in-Some.op) c.in-Some.ensures.some same (sym c.right_of.ensures ∙ c.in-None.is)))
    ∙ c.scan.invariant

pub returns : goal.returns
returns g c =
    let ops = g.P.Positions.operations c.args.held.now in
    sym (append-nil c.scan.found.items)
    ∙ ap (λ l. c.scan.found.items ++ l) (sym (beside_missing (history_at ops c.scan.below) c.args.left c.scan.current (c.in_default.ensures.none refl)))
    ∙ c.scan.invariant
