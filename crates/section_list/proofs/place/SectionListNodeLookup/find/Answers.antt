use Rattle.std.proofs.Common.{ap, sym, ◌∙◌}
use Rattle.std.specs.Prelude.{option_map}
use Rattle.origin_model.specs.sides.Node.{find_node}
use Rattle.section_list.specs.SectionList.{Listing}
use Rattle.section_list.proofs.KeptLemmas.{found_kept, node_with}
use Rattle.section_list.proofs.place.SectionListNodeLookup.find.Goals as goal

pub returns-in-Some : goal.returns-in-Some
returns-in-Some c =
    ap (option_map (node_with c.args.id)) c.in-Some.ensures
    ∙ sym (found_kept c.self.inside.ages.nodes c.self.inside.store.cells c.self.invariant c.args.id) ∙ ap (λ (s : Listing). find_node s.nodes c.args.id) c.self.view_is

pub returns-in-None : goal.returns-in-None
returns-in-None c =
    ap (option_map (node_with c.args.id)) c.in-None.ensures
    ∙ sym (found_kept c.self.inside.ages.nodes c.self.inside.store.cells c.self.invariant c.args.id) ∙ ap (λ (s : Listing). find_node s.nodes c.args.id) c.self.view_is
