use Rattle.std.proofs.Common.{ap, arith, drop, length, ◌+◌, ◌-◌, ◌∙◌}
use Rattle.std.specs.Prelude.{Some}
use Rattle.passage_search.proofs.PlaceLemmas.{found_after, found_here}
use Rattle.passage_search.proofs.StepLemmas.{begins_with, none_nearer, place_repeats, rest_of}
use Rattle.passage_search.proofs.steps.place_after.Goals as goal

pub returns-then-starts_with : goal.returns-then-starts_with
returns-then-starts_with c =
    let text = c.args.text.now in
    let passage = c.args.finder.now in
    let needle = c.needle-passage.result.now in
    let same = c.needle-passage.ensures in
    let at = c.args.at in
    let step = c.args.step in
    let goes_on = begins_with _ _ _ _ (rest_of (at + length needle) text ∙ ap (λ l. drop (at + length l) text) same)
    (rest_of (length needle - step.bytes) needle ∙ ap (λ l. drop (length l - step.bytes) l) same)
    c.starts_with.result c.starts_with.ensures.value c.if-starts_with.true in
    found_after text passage (at + 1) (at + step.bytes) (omega (arith, c.requires.step.some)) (none_nearer text passage step c.requires.step at c.requires.place)
    (Some (at + step.bytes))
    (found_here text passage (at + step.bytes) (place_repeats text passage step c.requires.step at c.requires.place c.if-step.true _ goes_on))

pub returns : goal.returns
returns c =
    let text = c.args.text.now in
    let passage = c.args.finder.now in
    let at = c.args.at in
    let step = c.args.step in
    found_after text passage (at + 1) (at + step.bytes) (omega (arith, c.requires.step.some))
    (none_nearer text passage step c.requires.step at c.requires.place) c.place_from.result c.place_from.ensures
