-- The histories that a manuscript stands for, and what becomes of them.
use Rattle.std.specs.Prelude.{◌≡◌, ◌↔◌, ℕ, zero, suc, List, [], ◌∷◌, Option, option_map, IfSome, IsSome, if◌then◌else◌}
use Rattle.fugue_ids.specs.Identifiers.{Identifier}
use Rattle.fugue_ids.specs.Runs.{next_id}
use Rattle.fugue_ids.specs.declared.op.Op.{Op}
use Rattle.fugue_ids.specs.declared.op.Op.TheVariants.{Delete}
use Rattle.origin_model.specs.operations.History.{holder}
use Rattle.origin_model.specs.operations.Verdict.{Lawful, verdict}
use Rattle.origin_model.specs.order.Laws.{IsIn}
use Rattle.origin_model.specs.order.Order.{order}
use Rattle.origin_model.specs.order.Printed.{is_hidden, shown, text}
use Rattle.origin_model.specs.declared.operations.Place.{Place}
use Rattle.origin_model.specs.declared.operations.Place.TheVariants.{Catalogue as catalogue, Section as within}
use Rattle.origin_model.specs.declared.operations.Verdict.TheVariants.{Ready}
use Rattle.origin_model.specs.edits.Edits.{ReadyInTurn, history_with}
use Rattle.origin_model.specs.edits.Landing.{following}
use Rattle.run_store.specs.Cells.{cell_ids, cell_text, cells_shown, is_hidden_cell}
use Rattle.section_list.specs.SectionList.{Listing, empty_listing as no_elements}
use Rattle.section_catalogue.specs.declared.tables.Section.{Section as Titled}
use Rattle.section_catalogue.specs.Contents.{Contents, section_at, place_at, text_at}
use Rattle.section_catalogue.specs.Place.{Lists, place_held, title_held}

-- the manuscript is that of the history: each place lists its elements, each section has its title, and each element its place
pub record Represents (m : Contents) (h : List Op) : Type 0 where
  pub lawful : Lawful h
  pub sections : Lists catalogue h m.catalogue
  pub titles : (s : Identifier) → option_map (λ (e : Titled). e.title) (section_at m s) ≡ title_held (holder h s)
  pub texts : (s : Identifier) → IfSome (section_at m s) (λ (e : Titled). Lists (within s) h e.text)
  pub places : (x : Identifier) → place_at m x ≡ place_held (holder h x)

-- it stands for some history
pub record HasHistory (m : Contents) : Type 0 where
  pub history : List Op
  pub represents : Represents m history

-- P holds of each history that it stands for
abbrev pub OnEach : Contents → (List Op → Type 0) → Type 0
OnEach m P = (h : List Op) → Represents m h → P h

-- the operation is Ready on a history that it stands for
pub record IsReadyOn (m : Contents) (op : Op) : Type 0 where
  pub history : List Op
  pub represents : Represents m history
  pub ready : verdict history op ≡ Ready

-- the operation came to each history on which it was Ready
abbrev pub GrowsBy : Contents → Contents → Op → Type 0
GrowsBy old new op = (h : List Op) → Represents old h → verdict h op ≡ Ready → Represents new (op ∷ h)

-- each of the operations is Ready in its turn on a history that it stands for
pub record AreReadyOn (m : Contents) (ops : List Op) : Type 0 where
  pub history : List Op
  pub represents : Represents m history
  pub ready : ReadyInTurn history ops

-- the operations came, one after another, to each history on which each was Ready in its turn
abbrev pub GrowsByAll : Contents → Contents → List Op → Type 0
GrowsByAll old new ops = (h : List Op) → Represents old h → ReadyInTurn h ops → Represents new (history_with h ops)

-- the history with a Delete of x, where none names it yet
abbrev pub once_hidden : Identifier → List Op → List Op
once_hidden x h = if is_hidden h x then h else Delete x ∷ h

-- a Delete of x came to each history in which x was shown
abbrev pub Hides : Contents → Contents → Identifier → Type 0
Hides old new x = (h : List Op) → Represents old h → Represents new (once_hidden x h)

-- the history with a Delete of each of the first k identifiers from x on, one after another, where none names it yet
abbrev pub each_hidden : Identifier → ℕ → List Op → List Op
each_hidden x zero h = h
each_hidden x (suc k) h = each_hidden (next_id x) k (once_hidden x h)

-- a Delete of each of them came to each history in which it was shown
abbrev pub HidesAll : Contents → Contents → Identifier → ℕ → Type 0
HidesAll old new x k = (h : List Op) → Represents old h → Represents new (each_hidden x k h)

-- it stands for the same histories
abbrev pub RepresentsSame : Contents → Contents → Type 0
RepresentsSame old new = (h : List Op) → Represents old h ↔ Represents new h

-- no section
abbrev pub empty_contents : Contents
empty_contents = record { catalogue = no_elements; sections = []; places = [] }

-- what a place lists is the order of the definitions, so its visible elements are those that are shown, and what
-- follows an element is the next one there
pub record IsOrderedPlace (p : Place) (h : List Op) (s : Listing) : Type 0 where
  pub all : cell_ids s.cells ≡ order p h
  pub visible : cell_ids (cells_shown s.cells) ≡ shown p h
  pub hidden : (x : Identifier) → IsIn p h x → is_hidden_cell s.cells x ≡ is_hidden h x
  pub after : (x : Option Identifier) → following (cell_ids s.cells) x ≡ following (order p h) x

-- and the text of a section is what is shown of it
pub record IsTextOf (s : Identifier) (h : List Op) (l : Listing) : Type 0 where
  pub place : IsOrderedPlace (within s) h l
  pub text : cell_text l.cells ≡ text h s

-- the look-ups of a manuscript are the definitions, for each history that it stands for and each place
pub record LookUpsAgree (m : Contents) (h : List Op) : Type 0 where
  pub catalogue_is : IsOrderedPlace catalogue h m.catalogue
  pub section_is : (s : Identifier) → IfSome (text_at m s) (IsTextOf s h)
  pub there : (s : Identifier) → IsSome (text_at m s) ↔ IsIn catalogue h s

-- what a manuscript answers is what the definitions say of the history
abbrev pub LookUpsAreDefinitions : Type 0
LookUpsAreDefinitions = (m : Contents) (h : List Op) → Represents m h → LookUpsAgree m h
