use Rattle.std.proofs.Common.{ap, ◌∙◌}
use Rattle.fugue_ids.specs.Runs.{id_after}
use Rattle.origin_model.specs.sides.Node.{has_node}
use Rattle.section_list.proofs.GrowthLemmas.{cell_held}
use Rattle.section_list.proofs.KeptLemmas.{kept_run_hidden}
use Rattle.section_list.proofs.place.SectionList.hide_run.Goals as goal

pub hide_run-requires-clause-held : goal.hide_run-requires-clause-held
hide_run-requires-clause-held c = λ k less.
    let x = id_after c.args.first k in
    cell_held c.self.inside.ages.nodes c.self.inside.store.cells c.self.invariant x (ap (λ s. has_node s.nodes x) c.self.view_is ∙ c.requires.held k less)

pub invariant_of-self : goal.invariant_of-self
invariant_of-self c =
    kept_run_hidden c.self.inside.ages.nodes c.self.inside.store.cells c.hide_run.new.self.cells c.args.first c.args.count
    (λ e. e.done) c.self.invariant c.hide_run.result c.hide_run.ensures.ok c.hide_run.ensures.err

pub returns-clause-in_order : goal.returns-clause-in_order
returns-clause-in_order c = invariant_of-self c
