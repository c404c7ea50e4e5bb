use Rattle.std.proofs.Common.{length}
use Rattle.section_plan.proofs.PairLemmas.{completed_more, keys_stay}
use Rattle.section_plan.proofs.completing.complete.Goals as goal

pub complete_part-requires-clause-keys : goal.complete_part-requires-clause-keys
complete_part-requires-clause-keys c =
    keys_stay c.args.sections.now (length c.args.parts.now) c.args.pairs.now c.parts.pairs c.args.key
    (length c.args.sections.now) c.requires c.parts.invariant.grows.kept c.in_ok-keys.keys c.in_ok-keys.ensures

pub parts-preserved : goal.parts-preserved
parts-preserved c =
    completed_more c.args.pairs.now c.parts.pairs c.complete_part.new.pairs c.args.sections.now c.args.parts.now c.args.key c.parts.place c.requires c.parts.invariant
    c.complete_part.ensures.kept
    c.complete_part.ensures.same c.complete_part.ensures.done
