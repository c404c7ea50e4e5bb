use Rattle.std.proofs.Common.{length-drop, ◌+◌, ◌-◌, ◌≤◌, ◌<◌, arith, drop, length, refl, subst, sym}
use Rattle.std.specs.Prelude.{None, Some, take}
use Rattle.memchr.specs.Find.{FindsNeedle}
use Rattle.std.proofs.lemmas.Bool.{true≢false}
use Rattle.std.proofs.lemmas.List.{length-take-le}
use Rattle.passage_search.proofs.StepLemmas.{begins_with, has_some, no_period, period_of_rest, rest_of}
use Rattle.passage_search.proofs.steps.step_of.Goals as goal

pub returns-in-None : goal.returns-in-None
returns-in-None c =
    let passage = c.args.passage.now in
    let half = c.div_ceil-half.result in
    let some : 0 < half = omega (arith, c.div_ceil-half.ensures, has_some passage c.requires) in
    let part : half ≤ length passage = omega (arith, c.div_ceil-half.ensures) in
    let nowhere : FindsNeedle (drop 1 passage) (take half passage) 0 None = subst (λ rest. FindsNeedle rest (take half passage) 0 None) (rest_of 1 passage) c.in-None.ensures in
    record {
      some = omega arith;
      within = omega (arith, some, part);
      least = no_period passage half (length passage - half + 1) (omega (arith, part)) (λ k low high. nowhere k low (omega (arith, high, some, part, length-drop 1 passage)));
      repeats = λ never. absurd (true≢false (sym never));
    }

pub returns-in-Some : goal.returns-in-Some
returns-in-Some c =
    let passage = c.args.passage.now in
    let half = c.div_ceil-half.result in
    let at = c.in-Some.at in
    let part : half ≤ length passage = omega (arith, c.div_ceil-half.ensures) in
    let found : FindsNeedle (drop 1 passage) (take half passage) 0 (Some at) =
    subst (λ rest. FindsNeedle rest (take half passage) 0 (Some at)) (rest_of 1 passage) c.in-Some.ensures in
    let fits : at + 1 + half ≤ length passage = omega (arith, found.1.fits, length-drop 1 passage, length-take-le half passage part, has_some passage c.requires) in
    record {
      some = omega arith;
      within = omega (arith, fits);
      least = no_period passage half (at + 1) (omega (arith, fits)) (λ k low high. found.0.before k low (omega (arith, high)));
      repeats = λ repeats. period_of_rest passage (at + 1) _
          (begins_with passage _ passage (drop (at + 1) passage) refl (rest_of (at + 1) passage) c.starts_with.result c.starts_with.ensures.value repeats);
    }
