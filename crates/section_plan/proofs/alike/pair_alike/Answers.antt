use Rattle.std.proofs.Common.{arith, length}
use Rattle.section_plan.proofs.AlikeLemmas.{served_all, served_more}
use Rattle.section_plan.proofs.PairLemmas.{kept_both}
use Rattle.section_plan.proofs.alike.pair_alike.Goals as goal

pub parts-preserved : goal.parts-preserved
parts-preserved c =
    served_more c.args.pairs.now c.parts.pairs c.serve_part.new.pairs c.args.sections.now c.args.parts.now c.in_ok-index.index.texts.items c.parts.place c.requires
    c.parts.invariant c.serve_part.ensures.kept
    c.in_ok-serve_part.ensures.served

pub returns-clause-done : goal.returns-clause-done
returns-clause-done c =
    served_all c.args.pairs.now c.parts.pairs c.args.sections.now c.args.parts.now c.in_ok-index.index.texts.items c.parts.place c.requires c.in_ok-index.ensures.texts
    c.parts.invariant (λ j l. omega arith)

pub serve_part-requires-clause-part : goal.serve_part-requires-clause-part
serve_part-requires-clause-part c =
    let m = c.parts.invariant.kept.matching (length c.args.sections.now) (length c.args.parts.now) c.requires in
    omega (arith, m.parts_are, c.parts-test.true)

pub serve_part-requires-clause-within : goal.serve_part-requires-clause-within
serve_part-requires-clause-within c = λ k s e.
    let m = c.parts.invariant.kept.matching (length c.args.sections.now) (length c.args.parts.now) c.requires in
    omega (arith, c.in_ok-index.ensures.texts.within k s e, m.sections_are)

pub returns-in_err-serve_part-clause-kept : goal.returns-in_err-serve_part-clause-kept
returns-in_err-serve_part-clause-kept c = kept_both c.args.pairs.now c.parts.pairs c.serve_part.new.pairs c.parts.invariant.kept c.serve_part.ensures.kept
