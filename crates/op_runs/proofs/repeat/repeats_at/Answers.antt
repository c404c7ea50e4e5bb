use Rattle.std.proofs.Common.{◌≡◌, ◌∙◌, ap, arith, length, sym}
use Rattle.std.proofs.lemmas.Bool.{true≢false}
use Rattle.std.proofs.lemmas.List.{drop_all}
use Rattle.fugue_ids.specs.Runs.{run_from, start_after}
use Rattle.op_runs.specs.Parts.{ops_of}
use Rattle.op_runs.specs.CommonPrefix.{common_prefix}
use Rattle.op_runs.specs.declared.part.Part.TheVariants.{Typed}
use Rattle.op_runs.specs.declared.part.TypedPart.{TypedPart}
use Rattle.op_runs.proofs.FindLemmas.{all_some, ops_len, part_read}
use Rattle.op_runs.proofs.RepeatLemmas.{no_repeats, repeats_run}
use Rattle.op_runs.proofs.repeat.repeats_at.Goals as goal

same_run : (r q : TypedPart) → Typed r ≡ Typed q → r ≡ q
same_run r q e = cc e

pub spot_of-requires-clause-some : goal.spot_of-requires-clause-some
spot_of-requires-clause-some c = all_some (length c.args.letters.now) (length c.args.others.now) c.args.parts.now c.requires.sound

pub spot_of-requires-clause-counted : goal.spot_of-requires-clause-counted
spot_of-requires-clause-counted c = c.requires.counted ∙ ops_len c.args.letters.now c.args.others.now c.args.parts.now c.requires.sound

pub returns-in_default : goal.returns-in_default
returns-in_default c =
    sym (ap (λ z. common_prefix z (run_from c.args.start.now c.args.text.now)) (drop_all c.args.position (ops_of c.args.letters.now c.args.others.now c.args.parts.now)
    (omega (arith, c.in_default.ensures.none, ops_len c.args.letters.now c.args.others.now c.args.parts.now c.requires.sound))))

pub returns-then-goes_on : goal.returns-then-goes_on
returns-then-goes_on c =
    let s = c.in-Some.ensures.some in
    let here : s.part ≡ Typed c.in-Typed.run' =
    part_read c.args.parts.now c.args.position c.in-Some.spot.part c.in-Some.spot.offset s c.index-parts-spot.result c.index-parts-spot.is ∙ c.in-Typed.is in
    c.same_len.ensures
    ∙ sym (repeats_run c.args.letters.now c.args.others.now c.args.parts.now c.args.position c.in-Some.spot.part c.in-Some.spot.offset s c.requires.sound c.requires.apart
    c.requires.others c.args.start.now c.args.text.now
    c.in-Typed.run' here (c.goes_on.ensures.0 c.if-goes_on.true))

pub returns-else-goes_on : goal.returns-else-goes_on
returns-else-goes_on c =
    let s = c.in-Some.ensures.some in
    let here : s.part ≡ Typed c.in-Typed.run' =
    part_read c.args.parts.now c.args.position c.in-Some.spot.part c.in-Some.spot.offset s c.index-parts-spot.result c.index-parts-spot.is ∙ c.in-Typed.is in
    sym (no_repeats c.args.letters.now c.args.others.now c.args.parts.now c.args.position c.in-Some.spot.part c.in-Some.spot.offset s c.requires.sound c.requires.apart
    c.requires.others c.args.start.now c.args.text.now
    (λ r is e. true≢false (sym (c.goes_on.ensures.1 (e ∙ ap (λ (z : TypedPart). start_after z.start c.in-Some.spot.offset) (same_run r c.in-Typed.run' (sym is ∙ here))))
    ∙ c.if-goes_on.false)))

pub returns-in_default-parts : goal.returns-in_default-parts
returns-in_default-parts c =
    let s = c.in-Some.ensures.some in
    let here = part_read c.args.parts.now c.args.position c.in-Some.spot.part c.in-Some.spot.offset s c.index-parts-spot.result c.index-parts-spot.is in
    sym (no_repeats c.args.letters.now c.args.others.now c.args.parts.now c.args.position c.in-Some.spot.part c.in-Some.spot.offset s c.requires.sound c.requires.apart
    c.requires.others c.args.start.now c.args.text.now
    (λ r is e. c.in_default-parts.not-Typed r (sym here ∙ is)))
