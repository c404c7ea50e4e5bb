use Rattle.std.proofs.Common.{◌∙◌, ap, arith, length, sym}
use Rattle.std.specs.Prelude.{slice_get}
use Rattle.std.proofs.lemmas.Option.{slice_get_past}
use Rattle.op_runs.specs.Parts.{ops_of, part_ops}
use Rattle.op_runs.proofs.FindLemmas.{all_some, ops_len, part_read, spot_get}
use Rattle.op_runs.proofs.find.op_at.Goals as goal

pub spot_of-requires-clause-some : goal.spot_of-requires-clause-some
spot_of-requires-clause-some c = all_some (length c.args.letters.now) (length c.args.others.now) c.args.parts.now c.requires.sound

pub spot_of-requires-clause-counted : goal.spot_of-requires-clause-counted
spot_of-requires-clause-counted c = c.requires.counted ∙ ops_len c.args.letters.now c.args.others.now c.args.parts.now c.requires.sound

pub returns-in-Some : goal.returns-in-Some
returns-in-Some c =
    let s = c.in-Some.ensures.some in
    let here = part_read c.args.parts.now c.args.position c.in-Some.spot.part c.in-Some.spot.offset s c.index-parts-spot.result c.index-parts-spot.is in
    c.op_in.ensures
    ∙ ap (λ p. slice_get (part_ops c.args.letters.now c.args.others.now p) c.in-Some.spot.offset) (sym here)
    ∙ sym (spot_get c.args.letters.now c.args.others.now c.args.parts.now c.args.position c.in-Some.spot.part c.in-Some.spot.offset s c.requires.sound)

pub returns-in-None : goal.returns-in-None
returns-in-None c =
    sym (slice_get_past (ops_of c.args.letters.now c.args.others.now c.args.parts.now) c.args.position
    (omega (arith, c.in-None.ensures.none, ops_len c.args.letters.now c.args.others.now c.args.parts.now c.requires.sound)))
