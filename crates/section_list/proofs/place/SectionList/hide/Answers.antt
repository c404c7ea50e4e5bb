use Rattle.std.proofs.Common.{ap, ◌∙◌}
use Rattle.origin_model.specs.sides.Node.{has_node}
use Rattle.section_list.proofs.GrowthLemmas.{cell_held}
use Rattle.section_list.proofs.KeptLemmas.{kept_hidden}
use Rattle.section_list.proofs.place.SectionList.hide.Goals as goal

pub hide-requires : goal.hide-requires
hide-requires c = record {
  held = cell_held c.self.inside.ages.nodes c.self.inside.store.cells c.self.invariant c.args.id
      (ap (λ s. has_node s.nodes c.args.id) c.self.view_is ∙ c.requires);
}

pub invariant_of-self : goal.invariant_of-self
invariant_of-self c = kept_hidden c.self.inside.ages.nodes c.self.inside.store.cells c.hide.new.self.cells c.args.id c.self.invariant c.hide.result c.hide.ensures.ok
    c.hide.ensures.err

pub returns-clause-in_order : goal.returns-clause-in_order
returns-clause-in_order c = invariant_of-self c
