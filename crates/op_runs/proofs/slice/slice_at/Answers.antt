use Rattle.std.proofs.Common.{◌∙◌, ap, arith, length, length-drop, sym}
use Rattle.std.proofs.lemmas.List.{drop_all}
use Rattle.op_runs.specs.Parts.{ops_of}
use Rattle.op_runs.proofs.FindLemmas.{all_some, ops_len}
use Rattle.op_runs.proofs.SliceLemmas.{in_first_from, ops_from, position_inside, sound_from}
use Rattle.op_runs.proofs.slice.slice_at.Goals as goal

pub spot_of-requires-clause-some : goal.spot_of-requires-clause-some
spot_of-requires-clause-some c = all_some (length c.args.letters.now) (length c.args.others.now) c.args.parts.now c.requires.sound

pub spot_of-requires-clause-counted : goal.spot_of-requires-clause-counted
spot_of-requires-clause-counted c = c.requires.counted ∙ ops_len c.args.letters.now c.args.others.now c.args.parts.now c.requires.sound

pub overflow_sub-count : goal.overflow_sub-count
overflow_sub-count c =
    omega (
      arith,
      c.requires.counted,
      position_inside c.args.letters.now c.args.others.now c.args.parts.now c.args.position c.in-Some.spot.part c.in-Some.spot.offset
          c.in-Some.ensures.some c.requires.sound,
    )

pub of_parts-requires-clause-sound : goal.of_parts-requires-clause-sound
of_parts-requires-clause-sound c =
    sound_from c.args.letters.now c.args.others.now c.args.parts.now c.args.position c.in-Some.spot.part c.in-Some.spot.offset c.in-Some.ensures.some c.requires.sound

pub of_parts-requires-clause-in_first : goal.of_parts-requires-clause-in_first
of_parts-requires-clause-in_first c =
    in_first_from c.args.letters.now c.args.others.now c.args.parts.now c.args.position c.in-Some.spot.part c.in-Some.spot.offset c.in-Some.ensures.some c.requires.sound

pub of_parts-requires-clause-counted : goal.of_parts-requires-clause-counted
of_parts-requires-clause-counted c =
    omega (
      arith,
      c.requires.counted,
      length-drop c.args.position (ops_of c.args.letters.now c.args.others.now c.args.parts.now),
      ap length (ops_from c.args.letters.now c.args.others.now c.args.parts.now c.args.position c.in-Some.spot.part c.in-Some.spot.offset c.in-Some.ensures.some c.requires.sound),
    )

pub returns-in-Some : goal.returns-in-Some
returns-in-Some c =
    c.of_parts.ensures
    ∙ ops_from c.args.letters.now c.args.others.now c.args.parts.now c.args.position c.in-Some.spot.part c.in-Some.spot.offset c.in-Some.ensures.some c.requires.sound

pub returns-in-None : goal.returns-in-None
returns-in-None c =
    c.of.ensures
    ∙ sym (drop_all c.args.position (ops_of c.args.letters.now c.args.others.now c.args.parts.now)
    (omega (arith, c.in-None.ensures.none, ops_len c.args.letters.now c.args.others.now c.args.parts.now c.requires.sound)))
