use Rattle.origin_model.proofs.Words.{Identifier, IsOrderedBy, List, ap, before_in, length, min, reverse, subst, sym, take, ◌∙◌, ◌≡◌}
use Rattle.origin_model.specs.declared.order.listing.Listed.{Listed}
use Rattle.origin_model.specs.order.Listed.{elements_at}
use Rattle.origin_model.proofs.order.OrderLemmas.{older-ordered}
use Rattle.origin_model.proofs.order.ListingLemmas.{listed-kept, listed-found}
use Rattle.origin_model.proofs.order.listing.list_newest.Goals as goal

pub returns-in_default-element_of-clause-ok : goal.returns-in_default-element_of-clause-ok
returns-in_default-element_of-clause-ok c =
    listed-kept c.args.ops.now c.in-Some.op.now c.args.listed.now.items (sym c.in-Some.ensures.value) (sym c.element_of.ensures ∙ c.in_default-element_of.is) c.requires.older

pub count_before-requires : goal.count_before-requires
count_before-requires c =
    let q = c.in-Some-element_of.place in
    let h = reverse c.args.ops.now in
    subst (λ (o : List Identifier). IsOrderedBy (before_in o h) o)
    (sym (c.as_slice-2.ensures.value ∙ c.in_ok-finished.ensures ∙ ap (elements_at q) c.as_slice.ensures.value ∙ c.requires.older q))
    (older-ordered q h c.requires.lawful)

pub returns-clause-ok : goal.returns-clause-ok
returns-clause-ok c =
    let q = c.in-Some-element_of.place in
    listed-found c.args.ops.now c.in-Some.op.now c.args.listed.now.items c.insert.new.self.items q c.in-Some-element_of.node c.as_slice-2.result.now c.in_ok-count.count
    c.end_of-at.result
    (sym c.in-Some.ensures.value)
    (sym c.in-Some-element_of.ensures)
    c.requires.older
    (c.as_slice-2.ensures.value ∙ c.in_ok-finished.ensures ∙ ap (elements_at q) c.as_slice.ensures.value)
    c.in_ok-count.ensures
    (subst (λ (z : List Listed). length (elements_at q (take c.end_of-at.result z)) ≡ min c.in_ok-count.count (length (elements_at q z))) c.as_slice-3.ensures.value
    c.end_of-at.ensures.cut)
    c.in_ok-insert.ensures.items
