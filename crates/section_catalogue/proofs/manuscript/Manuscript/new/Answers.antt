use Rattle.std.proofs.Common.{[], refl, subst, sym}
use Rattle.std.proofs.lemmas.List.Elements.{All-nil}
use Rattle.origin_model.specs.order.Order.{order}
use Rattle.section_list.specs.SectionList.{IsOfNode}
use Rattle.section_catalogue.specs.Place.{IsCellIn}
use Rattle.section_catalogue.specs.Manuscript.{HasHistory, Represents, empty_contents}
use Rattle.section_catalogue.proofs.manuscript.Manuscript.new.Goals as goal

-- without elements, it stands for the history of none
represents : Represents empty_contents []
unfolding order
represents = record {
  lawful = tt;
  sections = record {
    in_order = record { are_nodes = tt; in_order = refl; each = All-nil (IsOfNode []) };
    same_nodes = λ x. refl;
    listed = refl;
    each = All-nil (IsCellIn []);
  };
  titles = λ s. refl;
  texts = λ s. tt;
  places = λ x. refl;
}

pub invariant_of-result : goal.invariant_of-result
invariant_of-result c = subst HasHistory (sym c.new.ensures) (record { history = []; represents = represents })

pub returns-clause-has_history : goal.returns-clause-has_history
returns-clause-has_history c = invariant_of-result c
