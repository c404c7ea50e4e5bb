use Rattle.std.proofs.Common.{ap, ◌∙◌}
use Rattle.origin_model.specs.sides.Node.{has_node}
use Rattle.section_list.specs.SectionList.{Listing}
use Rattle.section_list.proofs.KeptLemmas.{held_kept}
use Rattle.section_list.proofs.place.SectionList.holds.Goals as goal

pub returns : goal.returns
returns c =
    held_kept c.self.inside.ages.nodes c.self.inside.store.cells c.self.invariant c.args.id c.holds.result c.holds.ensures
    ∙ ap (λ (s : Listing). has_node s.nodes c.args.id) c.self.view_is
