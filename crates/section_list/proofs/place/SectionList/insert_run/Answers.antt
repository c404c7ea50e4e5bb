use Rattle.std.proofs.Common.{ap, length, subst, sym, true, ℕ, ◌<◌, ◌∙◌, ◌≡◌}
use Rattle.fugue_ids.proofs.RunLemmas.{none_after}
use Rattle.origin_model.specs.sides.Node.{IsNew, has_node, has_origin}
use Rattle.origin_model.specs.declared.operations.node.Node.{Node}
use Rattle.section_list.specs.SectionList.{AreNoNodes, Listing, with_elements}
use Rattle.section_list.proofs.GrowthLemmas.{are_fresh, grown_kept, is_grown, joins}
use Rattle.section_list.proofs.place.SectionList.insert_run.Goals as goal

-- the first node is new in the place that was looked at, which is the same
new_here : (now old : Listing) (n : Node) (count : ℕ) → now ≡ old → 0 < count → AreNoNodes old.nodes n.id count → has_origin old.nodes n.left ≡ true
    → has_origin old.nodes n.right ≡ true → IsNew now.nodes n
new_here now old n count same some fresh l r =
    subst (λ (s : Listing). IsNew s.nodes n) (sym same) (record { fresh = ap (has_node old.nodes) (sym (none_after n.id)) ∙ fresh 0 some; left = l; right = r })

-- none of the identifiers is held in what is inside
unheld : (inside now old : Listing) (n : Node) (count : ℕ) → inside ≡ now → now ≡ old → AreNoNodes old.nodes n.id count → AreNoNodes inside.nodes n.id count
unheld inside now old n count see same fresh = subst (λ (s : Listing). AreNoNodes s.nodes n.id count) (sym (see ∙ same)) fresh

pub gap_of-gap-requires : goal.gap_of-gap-requires
gap_of-gap-requires c = new_here _ _ c.args.first.now (length c.args.text.now) c.look_at.ensures c.requires.some c.requires.fresh c.requires.left c.requires.right

pub insert_run-requires-clause-fresh : goal.insert_run-requires-clause-fresh
insert_run-requires-clause-fresh c =
    let new = new_here _ _ c.args.first.now (length c.args.text.now) c.look_at.ensures c.requires.some c.requires.fresh c.requires.left c.requires.right in
    are_fresh _ _ _ _ (joins _ _ c.self.invariant _ c.self.view_is _ new c.gap_of-gap.result c.gap_of-gap.ensures.place c.gap_of-gap.ensures.beside c.gap_of-gap.ensures.alone)
    (length c.args.text.now)
    (unheld _ _ _ c.args.first.now (length c.args.text.now) c.self.view_is c.look_at.ensures c.requires.fresh)

pub insert_run-requires-clause-beside : goal.insert_run-requires-clause-beside
insert_run-requires-clause-beside c =
    let new = new_here _ _ c.args.first.now (length c.args.text.now) c.look_at.ensures c.requires.some c.requires.fresh c.requires.left c.requires.right in
    (joins _ _ c.self.invariant _ c.self.view_is _ new c.gap_of-gap.result c.gap_of-gap.ensures.place c.gap_of-gap.ensures.beside c.gap_of-gap.ensures.alone).beside

pub insert_run-requires-clause-alone : goal.insert_run-requires-clause-alone
insert_run-requires-clause-alone c =
    let new = new_here _ _ c.args.first.now (length c.args.text.now) c.look_at.ensures c.requires.some c.requires.fresh c.requires.left c.requires.right in
    (joins _ _ c.self.invariant _ c.self.view_is _ new c.gap_of-gap.result c.gap_of-gap.ensures.place c.gap_of-gap.ensures.beside c.gap_of-gap.ensures.alone).alone

pub invariant_of-self-2 : goal.invariant_of-self-2
invariant_of-self-2 c =
    let new = new_here _ _ c.args.first.now (length c.args.text.now) c.look_at.ensures c.requires.some c.requires.fresh c.requires.left c.requires.right in
    let joined = joins _ _ c.self.invariant _ c.self.view_is _ new c.gap_of-gap.result c.gap_of-gap.ensures.place c.gap_of-gap.ensures.beside c.gap_of-gap.ensures.alone in
    grown_kept _ _ _ _ joined c.with_run-self-inside.result.nodes c.insert_run.new.self.cells c.args.text.now c.requires.some
    (unheld _ _ _ c.args.first.now (length c.args.text.now) c.self.view_is c.look_at.ensures c.requires.fresh) c.with_run-self-inside.ensures c.in_ok-insert_run.ensures.ok

pub returns-clause-ok : goal.returns-clause-ok
returns-clause-ok c =
    let new = new_here _ _ c.args.first.now (length c.args.text.now) c.look_at.ensures c.requires.some c.requires.fresh c.requires.left c.requires.right in
    let joined = joins _ _ c.self.invariant _ c.self.view_is _ new c.gap_of-gap.result c.gap_of-gap.ensures.place c.gap_of-gap.ensures.beside c.gap_of-gap.ensures.alone in
    is_grown _ _ _ _ joined c.with_run-self-inside.result.nodes c.insert_run.new.self.cells c.args.text.now c.requires.some
    (unheld _ _ _ c.args.first.now (length c.args.text.now) c.self.view_is c.look_at.ensures c.requires.fresh) c.with_run-self-inside.ensures c.in_ok-insert_run.ensures.ok
    ∙ ap (with_elements c.args.first.now c.args.text.now) (c.self.view_is ∙ c.look_at.ensures)

pub returns-clause-in_order : goal.returns-clause-in_order
returns-clause-in_order c = invariant_of-self-2 c
