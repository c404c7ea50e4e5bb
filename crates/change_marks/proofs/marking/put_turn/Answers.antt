use Rattle.std.proofs.Common.{[], ap, subst, sym, false, ◌++◌, ◌∙◌, ◌≡◌}
use Rattle.std.specs.Prelude.{Bool, List, if◌then◌else◌, ℕ}
use Rattle.fugue_ids.specs.Gathers.{GathersText}
use Rattle.fugue_ids.proofs.GatherLemmas.{gathers_join}
use Rattle.change_marks.specs.Marks.{opening}
use Rattle.change_marks.specs.Steps.{closing_of, is_open}
use Rattle.change_marks.proofs.marking.put_turn.Goals as goal

pub returns : goal.returns
returns g c =
    let first : List ℕ = closing_of c.args.begun in
    let last : List ℕ = opening c.args.mark in
    let other : is_open c.args.begun c.args.mark ≡ false = sym c.is_open.ensures ∙ c.if-is_open.false in
    subst (GathersText {T = Unit {0}} (g.O.Out.seen c.args.output.now) (g.O.Out.seen c.put_opening.new.output) c.args.gather.now c.put_opening.new.gather c.put_opening.result)
    (sym (ap (λ (b : Bool). if b then [] else first ++ last) other))
    (gathers_join {T = Unit {0}} {S = Unit {0}} tt c.put_opening.result _ _ _ _ _ _ first last c.in_ok-put_closing.ensures c.put_opening.ensures)
