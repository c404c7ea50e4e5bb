use Rattle.std.proofs.Common.{length, subst, ◌+◌, ◌<◌, ◌≡◌}
use Rattle.std.specs.Prelude.{IfNone, None}
use Rattle.section_plan.specs.Hashes.{NoneFronted}
use Rattle.section_plan.specs.Matching.{part_of}
use Rattle.section_plan.proofs.HashLemmas.{earlier_is, none_found}
use Rattle.section_plan.proofs.alike.find_alike.Goals as goal

pub returns-clause-within : goal.returns-clause-within
returns-clause-within c =
    rw c.earlier.ensures
    (earlier_is (λ place. place < length c.args.pairs.now.of_section.items) c.find_fronted-front.result c.find_fronted-end.result c.find_fronted-front.ensures.within
    c.find_fronted-end.ensures.within)

pub returns-clause-free : goal.returns-clause-free
returns-clause-free c =
    rw c.earlier.ensures (earlier_is (λ place. part_of c.args.pairs.now place ≡ None) c.find_fronted-front.result c.find_fronted-end.result c.find_fronted-front.ensures.free
    c.find_fronted-end.ensures.free)

pub returns-clause-none : goal.returns-clause-none
returns-clause-none c =
    let p = c.args.pairs.now in
    let i = c.args.index.now in
    let t = c.args.text.now in
    let r = c.args.reversed.now in
    rw c.earlier.ensures
    (none_found p i.texts.items i.front i.end t r c.find_fronted-front.result c.find_fronted-end.result c.requires.index c.requires.reversed
    (subst (λ ts. IfNone c.find_fronted-front.result (NoneFronted p ts i.front.hashes.items t (length t + 1) t)) c.as_slice-texts.ensures.value c.find_fronted-front.ensures.none)
    (subst (λ ts. IfNone c.find_fronted-end.result (NoneFronted p ts i.end.hashes.items r (length r + 1) t)) c.as_slice-texts.ensures.value c.find_fronted-end.ensures.none))
