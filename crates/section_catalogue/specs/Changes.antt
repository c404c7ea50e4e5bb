-- One step of a manuscript, by its look-ups.
use Rattle.std.specs.Prelude.{◌≡◌, ◌≢◌, ◌<◌, Option, Some, true, ℕ, List, length, option_map, IfSome, IsSome}
use Rattle.fugue_ids.specs.Identifiers.{Identifier}
use Rattle.fugue_ids.specs.Keyed.{IsReplaced}
use Rattle.fugue_ids.specs.Runs.{id_after}
use Rattle.origin_model.specs.sides.Node.{has_node, has_origin}
use Rattle.origin_model.specs.declared.operations.node.Node.{Node}
use Rattle.origin_model.specs.declared.operations.Place.{Place}
use Rattle.origin_model.specs.declared.operations.Place.TheVariants.{Catalogue as catalogue, Section as within}
use Rattle.section_list.specs.SectionList.{AreNoNodes, empty_listing as no_elements, with_element, with_elements, with_hidden}
use Rattle.section_list.specs.SectionList.{with_run_hidden}
use Rattle.section_catalogue.specs.declared.tables.Section.{Section as Titled}
use Rattle.section_catalogue.specs.Contents.{Contents, section_at, place_at}

-- each answer is as before
abbrev pub AnswersSame : {X : Type 0} → (Identifier → X) → (Identifier → X) → Type 0
AnswersSame old new = (y : Identifier) → new y ≡ old y

-- a section without text
abbrev pub new_section : List ℕ → Option Titled
new_section title = Some (record { title = title; text = no_elements })

-- the section with one element more
abbrev pub section_with_text : Node → ℕ → Option Titled → Option Titled
section_with_text n ch e = option_map (λ (t : Titled). record t { text = with_element n ch t.text }) e

-- the section with the element x hidden
abbrev pub with_hidden_text : Identifier → Option Titled → Option Titled
with_hidden_text x e = option_map (λ (t : Titled). record t { text = with_hidden x t.text }) e

-- the section with an element for each letter: n, and then each typed after the one before it
abbrev pub section_with_run : Node → List ℕ → Option Titled → Option Titled
section_with_run n text e = option_map (λ (t : Titled). record t { text = with_elements n text t.text }) e

-- the section with the elements of the first k identifiers from x on hidden
abbrev pub section_with_run_hidden : Identifier → ℕ → Option Titled → Option Titled
section_with_run_hidden x k e = option_map (λ (t : Titled). record t { text = with_run_hidden x k t.text }) e

-- the first k identifiers from this one on have this answer
abbrev pub AnswersUpTo : {X : Type 0} → (Identifier → X) → Identifier → ℕ → X → Type 0
AnswersUpTo f first k value = (j : ℕ) → j < k → f (id_after first j) ≡ value

-- the first k identifiers from this one on have this answer now, and each other one has its own as before
pub record IsFilled {X : Type 0} (old new : Identifier → X) (first : Identifier) (k : ℕ) (value : X) : Type 0 where
  pub here : AnswersUpTo new first k value
  pub others : (y : Identifier) → ((j : ℕ) → j < k → y ≢ id_after first j) → new y ≡ old y

-- a node and so many after it may come to these: none of their identifiers is there, and the origins of the first are
pub record CanFollow (ns : List Node) (n : Node) (k : ℕ) : Type 0 where
  pub fresh : AreNoNodes ns n.id k
  pub left : has_origin ns n.left ≡ true
  pub right : has_origin ns n.right ≡ true

-- a section came
pub record AddsSection (old new : Contents) (n : Node) (title : List ℕ) : Type 0 where
  pub listed : new.catalogue ≡ with_element n 32 old.catalogue
  pub sections : IsReplaced (section_at old) (section_at new) n.id (new_section title)
  pub places : IsReplaced (place_at old) (place_at new) n.id (Some catalogue)

-- an element of the section s came
pub record AddsText (old new : Contents) (s : Identifier) (n : Node) (ch : ℕ) : Type 0 where
  pub listed : new.catalogue ≡ old.catalogue
  pub sections : IsReplaced (section_at old) (section_at new) s (section_with_text n ch (section_at old s))
  pub places : IsReplaced (place_at old) (place_at new) n.id (Some (within s))

-- elements of the section s came, one for each letter: n, and then each typed after the one before it
pub record AddsTyped (old new : Contents) (s : Identifier) (n : Node) (text : List ℕ) : Type 0 where
  pub listed : new.catalogue ≡ old.catalogue
  pub sections : IsReplaced (section_at old) (section_at new) s (section_with_run n text (section_at old s))
  pub places : IsFilled (place_at old) (place_at new) n.id (length text) (Some (within s))

-- the element x was hidden in the catalogue
pub record HidesSection (old new : Contents) (x : Identifier) : Type 0 where
  pub listed : new.catalogue ≡ with_hidden x old.catalogue
  pub sections : AnswersSame (section_at old) (section_at new)
  pub places : AnswersSame (place_at old) (place_at new)

-- the element x was hidden in the section s
pub record HidesText (old new : Contents) (s x : Identifier) : Type 0 where
  pub listed : new.catalogue ≡ old.catalogue
  pub sections : IsReplaced (section_at old) (section_at new) s (with_hidden_text x (section_at old s))
  pub places : AnswersSame (place_at old) (place_at new)

-- the elements of the first k identifiers from x on were hidden in the section s
pub record HidesRun (old new : Contents) (s x : Identifier) (k : ℕ) : Type 0 where
  pub listed : new.catalogue ≡ old.catalogue
  pub sections : IsReplaced (section_at old) (section_at new) s (section_with_run_hidden x k (section_at old s))
  pub places : AnswersSame (place_at old) (place_at new)

-- the section is there, and x is an element of its text
pub record HoldsText (e : Option Titled) (x : Identifier) : Type 0 where
  pub there : IsSome e
  pub held : IfSome e (λ (t : Titled). has_node t.text.nodes x ≡ true)

-- x is an element of the place p
abbrev pub IsElementAt : Contents → Place → Identifier → Type 0
IsElementAt m catalogue x = has_node m.catalogue.nodes x ≡ true
IsElementAt m (within s) x = HoldsText (section_at m s) x

-- the element x was hidden in the place p
abbrev pub HidesAt : Contents → Contents → Place → Identifier → Type 0
HidesAt old new catalogue x = HidesSection old new x
HidesAt old new (within s) x = HidesText old new s x

-- every look-up is as before
pub record IsUnchanged (old new : Contents) : Type 0 where
  pub listed : new.catalogue ≡ old.catalogue
  pub sections : AnswersSame (section_at old) (section_at new)
  pub places : AnswersSame (place_at old) (place_at new)
