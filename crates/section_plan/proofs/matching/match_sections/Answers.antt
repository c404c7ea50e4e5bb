use Rattle.std.proofs.Common.{length}
use Rattle.section_plan.specs.declared.keys.Key.TheVariants.{Title}
use Rattle.section_plan.proofs.PairLemmas.{kept_both, left_still, texts_kept}
use Rattle.section_plan.proofs.matching.match_sections.Goals as goal

pub pair_by-requires : goal.pair_by-requires
pair_by-requires c =
    let m = c.pair_by_text.ensures.grows.kept.matching (length c.args.sections.now) (length c.args.parts.now) c.in_ok-pairs.ensures.matching in
    c.pair_by_words.ensures.matching (length c.args.sections.now) (length c.args.parts.now) m

pub returns-clause-texts : goal.returns-clause-texts
returns-clause-texts c =
    let words = c.pair_by_words.ensures in
    let titles = kept_both c.pair_by_text.new.pairs c.pair_by_words.new.pairs c.pair_by.new.pairs words c.pair_by.ensures.grows.kept in
    let all = kept_both c.pair_by_text.new.pairs c.pair_by.new.pairs c.pair_alike.new.pairs titles c.pair_alike.ensures.kept in
    texts_kept c.args.sections.now c.args.parts.now c.in_ok-pairs.pairs c.pair_by_text.new.pairs c.pair_alike.new.pairs c.in_ok-pairs.ensures.matching c.in_ok-pairs.ensures.empty
    c.pair_by_text.ensures.grows
    c.in_ok-pair_by_text.ensures.done all

pub returns-clause-titles : goal.returns-clause-titles
returns-clause-titles c =
    let m = c.pair_by_text.ensures.grows.kept.matching (length c.args.sections.now) (length c.args.parts.now) c.in_ok-pairs.ensures.matching in
    let n = c.pair_by_words.ensures.matching (length c.args.sections.now) (length c.args.parts.now) m in
    let k = c.pair_by.ensures.grows.kept.matching (length c.args.sections.now) (length c.args.parts.now) n in
    left_still c.args.sections.now c.args.parts.now c.pair_by.new.pairs c.pair_alike.new.pairs Title k c.pair_alike.ensures.kept c.in_ok-pair_by.ensures.done
