use Rattle.std.proofs.Common.{List, [], ap, arith, false, subst, sym, ◌++◌, ◌∷◌, ◌≡◌, ℕ}
use Rattle.std.specs.Prelude.{Bool, Err, Ok, codes, if◌then◌else◌, nat_eq}
use Rattle.std.proofs.lemmas.Bool.Decides.{nat_tests}
use Rattle.std.proofs.lemmas.Result.{err_from_is_err_and}
use Rattle.fugue_ids.specs.Gathers.{GathersText}
use Rattle.fugue_ids.proofs.GatherLemmas.{gathers_join, gathers_stop}
use Rattle.passage_remarks.specs.Clusters.{in_line}
use Rattle.passage_remarks.specs.Remarks.{quotation_line}
use Rattle.passage_remarks.proofs.printing.put_passage.Goals as goal

-- a passage with clusters has a line
has_line : (count : ℕ) (passage : List ℕ) → (count ≡ 0 → ⊥) → codes "  " ++ in_line passage ++ 10 ∷ [] ≡ quotation_line count passage
has_line count passage some =
    let no_zero : nat_eq count 0 ≡ false = grind (arith, nat_tests) in
    sym (ap (λ (b : Bool). if b then [] else codes "  " ++ in_line passage ++ 10 ∷ []) no_zero)

pub returns-in_err-put : goal.returns-in_err-put
returns-in_err-put g c =
    let line : List ℕ = in_line c.args.passage.now in
    let p = err_from_is_err_and c.from_residual.result c.from_residual.ensures.1 in
    rw p.1 (subst (GathersText {T = Unit {0}} (g.O.Out.seen c.args.output.now) (g.O.Out.seen c.put-2.new.out) c.args.gather.now c.put-2.new.self (Err (record {})))
    (has_line c.args.count c.args.passage.now c.if-count-eq0.false)
    (gathers_stop {T = Unit {0}} {S = Unit {0}} _ _ _ _ (codes "  ") (line ++ 10 ∷ []) c.in_err-put.ensures))

pub returns-in_err-put_in_line : goal.returns-in_err-put_in_line
returns-in_err-put_in_line g c =
    let line : List ℕ = in_line c.args.passage.now in
    let p = err_from_is_err_and c.from_residual-in_err-put_in_line.result c.from_residual-in_err-put_in_line.ensures.1 in
    rw p.1 (subst (GathersText {T = Unit {0}} (g.O.Out.seen c.args.output.now) (g.O.Out.seen c.put_in_line.new.output) c.args.gather.now c.put_in_line.new.gather
    (Err (record {}))) (has_line c.args.count c.args.passage.now c.if-count-eq0.false)
    (gathers_stop {T = Unit {0}} {S = Unit {0}} _ _ _ _ (codes "  " ++ line) (10 ∷ [])
    (gathers_join {T = Unit {0}} {S = Unit {0}} tt (Err (record {})) _ _ _ _ _ _ (codes "  ") line c.in_ok-put.ensures c.in_err-put_in_line.ensures)))

pub returns : goal.returns
returns g c =
    let line : List ℕ = in_line c.args.passage.now in
    subst (GathersText {T = Unit {0}} (g.O.Out.seen c.args.output.now) (g.O.Out.seen c.put-3.new.out) c.args.gather.now c.put-3.new.self c.put-3.result)
    (has_line c.args.count c.args.passage.now c.if-count-eq0.false)
    (gathers_join {T = Unit {0}} {S = Unit {0}} tt c.put-3.result _ _ _ _ _ _ (codes "  " ++ line) (10 ∷ [])
    (gathers_join {T = Unit {0}} {S = Unit {0}} tt (Ok tt) _ _ _ _ _ _ (codes "  ") line c.in_ok-put.ensures c.in_ok-put_in_line.ensures) c.put-3.ensures)
