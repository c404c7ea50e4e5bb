use Rattle.std.proofs.Common.{ap, arith, false, refl, sym, true, ◌<◌, ◌∙◌, ◌≡◌}
use Rattle.fugue_ids.specs.Identifiers.{origin_eq}
use Rattle.origin_model.specs.operations.History.{left_of}
use Rattle.order_proof.specs.Positions.{history_at}
use Rattle.op_runs.specs.Finding.{op_of}
use Rattle.order_proof.proofs.BesideLemmas.{origin_same, turn_last, turn_on, turn_parted, turn_short, turn_wrong, walk_over}
use Rattle.order_proof.proofs.chains.goes_up.Goals as goal
use Rattle.order_proof.proofs.chains.goes_up.Goals.{then-k-eq0-via-then-k-eq0, then-k-eq0-via-else-k-eq0+then-ne-2}
use Rattle.std.proofs.lemmas.Bool.{not-false, not-true}

pub returns-then-ne : goal.returns-then-ne
returns-then-ne g c =
    let parted : origin_eq (left_of (op_of c.in-Some.op)) c.args.left ≡ false =
    ap (λ o. origin_eq o c.args.left) (sym c.left_of.ensures) ∙ sym (origin_same c.left_of.result c.args.left) ∙ not-true _ (sym c.ne.ensures ∙ c.if-ne.true) in
    turn_parted (g.P.Positions.operations c.args.held.now) c.args.chain.now c.scan.below c.scan.k c.args.left c.scan.current c.in-Some.at
    (op_of c.in-Some.op) c.in-Some.ensures.some c.scan.invariant.within parted
    ∙ c.scan.invariant.rest

pub returns-then-k-eq0 : goal.returns-then-k-eq0
returns-then-k-eq0 g c =
    let same : origin_eq (left_of (op_of c.in-Some.op)) c.args.left ≡ true =
    ap (λ o. origin_eq o c.args.left) (sym c.left_of.ensures) ∙ sym (origin_same c.left_of.result c.args.left) ∙ not-false _ (sym c.ne.ensures ∙ c.if-ne.false) in
    elim c.then-k-eq0.branch [
      | then-k-eq0-via-then-k-eq0 w ↦
          turn_short (g.P.Positions.operations c.args.held.now) c.args.chain.now c.scan.below c.scan.k c.args.left c.scan.current c.in-Some.at
          (op_of c.in-Some.op) c.in-Some.ensures.some
          c.scan.invariant.within same w.if-k-eq0.true
          ∙ c.scan.invariant.rest
      | then-k-eq0-via-else-k-eq0+then-ne-2 w ↦
          let some : 0 < c.scan.k = omega (arith, w.if-k-eq0.false) in
          turn_wrong (g.P.Positions.operations c.args.held.now) c.args.chain.now c.scan.below c.scan.k c.args.left c.scan.current c.in-Some.at
          (op_of c.in-Some.op) c.in-Some.ensures.some
          c.scan.invariant.within same some w.index-chain-k.result w.index-chain-k.is (not-true _ (sym w.ne-else-k-eq0.ensures ∙ w.if-ne-2.true))
          ∙ c.scan.invariant.rest
    ]

pub scan-preserved : goal.scan-preserved
scan-preserved g c =
    let same : origin_eq (left_of (op_of c.in-Some.op)) c.args.left ≡ true =
    ap (λ o. origin_eq o c.args.left) (sym c.left_of.ensures) ∙ sym (origin_same c.left_of.result c.args.left) ∙ not-false _ (sym c.ne.ensures ∙ c.if-ne.false) in
    let some : 0 < c.scan.k = omega (arith, c.if-k-eq0.false) in
    record {
      rest =
          turn_on (g.P.Positions.operations c.args.held.now) c.args.chain.now c.scan.below c.scan.k c.args.left c.scan.current c.in-Some.at
          (op_of c.in-Some.op) c.in-Some.ensures.some
          c.scan.invariant.within same some c.index-chain-k.result c.index-chain-k.is (not-false _ (sym c.ne-else-k-eq0.ensures ∙ c.if-ne-2.false)) c.in-Some-right_of.next
          (sym c.right_of.ensures ∙ c.in-Some-right_of.is)
          ∙ c.scan.invariant.rest;
      within = omega (arith, c.scan.invariant.within);
    }

pub returns-in-None : goal.returns-in-None
returns-in-None g c =
    let same : origin_eq (left_of (op_of c.in-Some.op)) c.args.left ≡ true =
    ap (λ o. origin_eq o c.args.left) (sym c.left_of.ensures) ∙ sym (origin_same c.left_of.result c.args.left) ∙ not-false _ (sym c.ne.ensures ∙ c.if-ne.false) in
    let some : 0 < c.scan.k = omega (arith, c.if-k-eq0.false) in
    turn_last (g.P.Positions.operations c.args.held.now) c.args.chain.now c.scan.below c.scan.k c.args.left c.scan.current c.in-Some.at (op_of c.in-Some.op) c.in-Some.ensures.some
    c.scan.invariant.within same some c.index-chain-k.result c.index-chain-k.is (not-false _ (sym c.ne-else-k-eq0.ensures ∙ c.if-ne-2.false))
    (sym c.right_of.ensures ∙ c.in-None.is)
    ∙ c.scan.invariant.rest

pub returns : goal.returns
returns g c =
    walk_over (history_at (g.P.Positions.operations c.args.held.now) c.scan.below) c.args.chain.now c.scan.k c.args.left c.scan.current
    (c.in_default.ensures.none refl) c.scan.invariant.within
    ∙ c.scan.invariant.rest
