-- Where it is read whether a Delete names an identifier: in the list of its place, or else in a map of withdrawn notes.
use Rattle.std.specs.Prelude.{◌≡◌, is_some, None, List, ◌∷◌}
use Rattle.std.specs.FinMap.{FinMap, get}
use Rattle.fugue_ids.specs.Identifiers.{Identifier, id_cmp}
use Rattle.fugue_ids.specs.declared.op.Op.{Op}
use Rattle.fugue_ids.specs.declared.op.Op.TheVariants.{Delete}
use Rattle.origin_model.specs.operations.History.{holder}
use Rattle.origin_model.specs.operations.Verdict.{verdict}
use Rattle.origin_model.specs.order.Laws.{IsIn}
use Rattle.origin_model.specs.order.Printed.{is_hidden}
use Rattle.origin_model.specs.declared.operations.Place.{Place}
use Rattle.origin_model.specs.declared.operations.Verdict.TheVariants.{Ready}
use Rattle.section_catalogue.specs.Contents.{Contents}
use Rattle.section_catalogue.specs.Manuscript.{IsOrderedPlace, Represents}
use Rattle.section_catalogue.specs.Place.{place_held}
use Rattle.section_list.specs.SectionList.{Listing}
use Rattle.stretch_map.specs.declared.follows.Same.{Same}

-- of the identifiers that stand in no place, the map has those that a Delete names, which are those of withdrawn notes
abbrev pub HasWithdrawn : FinMap id_cmp Same → List Op → Type 0
HasWithdrawn withdrawn history =
    (x : Identifier) → place_held (holder history x) ≡ None → is_some (get withdrawn x) ≡ is_hidden history x

-- of a history that m represents and on which the Delete of x is Ready: where the old map has its withdrawn notes, the new one has those
-- of that history with the Delete
abbrev pub WithdrawsBy : Contents → (old new : FinMap id_cmp Same) → Identifier → Type 0
WithdrawsBy m old new x =
    (h : List Op) → Represents m h → verdict h (Delete x) ≡ Ready → HasWithdrawn old h → HasWithdrawn new (Delete x ∷ h)

-- x is an element of a place, and the list is that of the place
pub record StandsIn (history : List Op) (x : Identifier) (list : Listing) : Type 0 where
  pub place : Place
  pub inside : IsIn place history x
  pub listed : IsOrderedPlace place history list
