use Rattle.std.proofs.Common.{List, [], ap, arith, subst, ◌∙◌, ◌∷◌, ℕ}
use Rattle.std.specs.Prelude.{Err, Ok, flat_map}
use Rattle.std.proofs.lemmas.List.{take_all}
use Rattle.std.proofs.lemmas.Result.{err_from_is_err_and}
use Rattle.fugue_ids.specs.Gathers.{GathersText}
use Rattle.fugue_ids.proofs.GatherLemmas.{gathers_none, gathers_parts_grow, gathers_parts_stop}
use Rattle.passage_remarks.specs.Clusters.{byte_in_line}
use Rattle.passage_remarks.proofs.WritingLemmas.{in_line_each}
use Rattle.passage_remarks.proofs.printing.put_in_line.Goals as goal

pub letters-init : goal.letters-init
letters-init g c = gathers_none tt _ _

pub letters-preserved : goal.letters-preserved
letters-preserved g c =
    let xs : List ℕ = c.args.bytes.now in
    let i : ℕ = c.letters.byte-index in
    gathers_parts_grow (λ b. byte_in_line b ∷ []) xs i 0 tt tt _ _ _ _ _ _ (omega (arith, c.letters-test.true)) c.letters.invariant
    (subst (λ x. GathersText {T = Unit {0}} (g.O.Out.seen c.letters.output) (g.O.Out.seen c.put.new.out) c.letters.gather c.put.new.self (Ok tt) (x ∷ [])) c.spaced.ensures
    c.in_ok-put.ensures)

pub returns-in_err-put : goal.returns-in_err-put
returns-in_err-put g c =
    let xs : List ℕ = c.args.bytes.now in
    let i : ℕ = c.letters.byte-index in
    let p = err_from_is_err_and c.from_residual.result c.from_residual.ensures.1 in
    rw p.1 (subst (GathersText {T = Unit {0}} (g.O.Out.seen c.args.output.now) (g.O.Out.seen c.put.new.out) c.args.gather.now c.put.new.self (Err (record {}))) (in_line_each xs)
    (gathers_parts_stop (λ b. byte_in_line b ∷ []) xs i 0 tt _ _ _ _ _ _ (omega (arith, c.letters-test.true)) c.letters.invariant
    (subst (λ x. GathersText {T = Unit {0}} (g.O.Out.seen c.letters.output) (g.O.Out.seen c.put.new.out) c.letters.gather c.put.new.self (Err (record {})) (x ∷ []))
    c.spaced.ensures c.in_err-put.ensures)))

pub returns : goal.returns
returns g c =
    let xs : List ℕ = c.args.bytes.now in
    subst (GathersText {T = Unit {0}} (g.O.Out.seen c.args.output.now) (g.O.Out.seen c.letters.output) c.args.gather.now c.letters.gather (Ok tt))
    (ap (flat_map (λ b. byte_in_line b ∷ [])) (take_all c.letters.byte-index xs (omega (arith, c.letters-test.false))) ∙ in_line_each xs) c.letters.invariant
