use Rattle.std.proofs.Common.{ap, arith, length, refl, subst, ◌∙◌}
use Rattle.std.proofs.lemmas.Option.{slice_get_read}
use Rattle.section_plan.specs.Hashes.{AreThirds, list_of, third_hash}
use Rattle.section_plan.proofs.HashLemmas.{thirds_more}
use Rattle.section_plan.proofs.alike.front_hashes.Goals as goal

pub texts-preserved : goal.texts-preserved
texts-preserved c =
    rw c.in_ok-push.ensures.items
    (thirds_more list_of c.args.texts.now c.texts.text-index c.texts.hashes.items c.text-item.result _ c.texts.invariant
    (slice_get_read c.args.texts.now (length c.args.texts.now) c.texts.text-index c.text-item.result refl c.texts-test.true c.text-item.is)
    (c.third_hash.ensures ∙ ap third_hash c.as_slice.ensures.value))

pub returns : goal.returns
returns c = subst (λ n. AreThirds list_of c.args.texts.now n c.texts.hashes.items) (omega arith) c.texts.invariant
