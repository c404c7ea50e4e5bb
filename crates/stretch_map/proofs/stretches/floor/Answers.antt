use Rattle.std.proofs.Common.{ap, sym, ◌∙◌}
use Rattle.std.specs.Prelude.{is_some}
use Rattle.fugue_ids.proofs.OrderLemmas.{at_most_from_le, at_most_from_not_lt, le_from_at_most}
use Rattle.stretch_map.proofs.stretches.floor.Goals as goal

pub returns-in-Some-clause-some : goal.returns-in-Some-clause-some
returns-in-Some-clause-some g c =
    let range = c.range.ensures.in_range tt in
    let entry = range.3 _ _ c.in-Some.ensures.steps in
    record {
      kept = entry.1;
      up_to = at_most_from_le c.in-Some.first.now c.args.key entry.0.1;
      last = λ f k m.
          at_most_from_not_lt c.in-Some.first.now f.0 (range.4 _ _ c.in-Some.ensures.steps f.0 (tt, le_from_at_most f.0 c.args.key m) (ap is_some k));
    }

pub returns-in-None-clause-none : goal.returns-in-None-clause-none
returns-in-None-clause-none g c =
    let range = c.range.ensures.in_range tt in
    λ e k m. let none = sym k ∙ range.5 c.in-None.ensures.steps.0 e.0 (tt, le_from_at_most e.0 c.args.key m) in cc
