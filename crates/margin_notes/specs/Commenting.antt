-- What a comment of a replica is, and when there is none. Sections and clusters count from 0.
use Rattle.std.specs.Prelude.{◌≡◌, ◌≢◌, ◌⊎◌, ℕ, ◌+◌, ◌-◌, ◌<◌, ◌≤◌, nat_lt, Option, Some, None, if◌then◌else◌, Result, Err, IfSome, List}
use Rattle.std.specs.Prelude.{[], ◌∷◌, length, option_and_then, option_map, slice_get}
use Rattle.std.specs.List.{Contains}
use Rattle.std.specs.Str.{encode_utf8_all}
use Rattle.fugue_ids.specs.Identifiers.{Identifier}
use Rattle.fugue_ids.specs.declared.op.Op.{Op}
use Rattle.origin_model.specs.declared.edit_fault.EditFault.{EditFault}
use Rattle.origin_model.specs.declared.edit_fault.EditFault.TheVariants as edit
use Rattle.origin_model.specs.declared.operations.Place.TheVariants.{Section as within}
use Rattle.origin_model.specs.edits.Noting.{IsNoted, note_refusal}
use Rattle.origin_model.specs.edits.Refusal.{section_shown}
use Rattle.origin_model.specs.edits.State.{State}
use Rattle.origin_model.specs.order.Printed.{shown, text}
use Rattle.cluster_text.specs.Clusters.{clusters, span as scalar_range}
use Rattle.margin_notes.specs.declared.commenting.CommentFault.{CommentFault}
use Rattle.margin_notes.specs.declared.commenting.CommentFault.TheVariants.{NoSection, OutOfRange, IdsSpent, TooMany, NoMemory}
use Rattle.margin_notes.specs.declared.limits.TheConstants.{COMMENT_CODE}
use Rattle.margin_notes.specs.Comments.{Comment, comments_in}
use Rattle.margin_notes.specs.Margins.{margin_span}

-- the clusters of what is shown of a section
abbrev pub clusters_of : List Op → Identifier → List (List ℕ)
clusters_of history s = clusters (encode_utf8_all (text history s))

-- how many scalars stand before the cluster `at` of a section, and how many the n clusters from there on have
abbrev pub range_of : List Op → Identifier → (at n : ℕ) → ℕ × ℕ
range_of history s at n = scalar_range (clusters_of history s) at n

-- a fault of a note, as a comment tells it
abbrev pub as_comment_fault : EditFault → CommentFault
as_comment_fault (edit.IdsSpent greatest) = IdsSpent greatest
as_comment_fault (edit.TooMany held) = TooMany held
as_comment_fault edit.NoSection = NoMemory
as_comment_fault edit.OutOfRange = NoMemory
as_comment_fault edit.NoMemory = NoMemory

-- the section has fewer clusters, or one note more is refused
abbrev pub range_refusal : State → Identifier → (at n : ℕ) → Option CommentFault
range_refusal s x at n =
    if nat_lt (length (clusters_of s.held.history x)) (at + n) then Some OutOfRange else option_map as_comment_fault (note_refusal s)

-- why there is no such comment, by the first cause that there is
abbrev pub comment_refusal : State → (k at n : ℕ) → Option CommentFault
comment_refusal s k at n = elim (section_shown s k) [ None ↦ Some NoSection | Some x ↦ range_refusal s x at n ]

-- a refusal comes with its cause alone, and where there is a cause, its refusal comes, or an allocation failure
pub record RefusesComment (s : State) (k at n : ℕ) (result : Result ℕ CommentFault) : Type 0 where
  pub only : (fault : CommentFault) → fault ≢ NoMemory → result ≡ Err fault → comment_refusal s k at n ≡ Some fault
  pub always : IfSome (comment_refusal s k at n) (λ fault. (result ≡ Err fault) ⊎ (result ≡ Err NoMemory))

-- the scalars of the clusters: how many stand before them, and how many they are
pub record IsRange (s : State) (k at n : ℕ) (found : ℕ × ℕ) : Type 0 where
  pub section : Identifier
  pub shown_at : section_shown s k ≡ Some section
  pub enough : at + n ≤ length (clusters_of s.held.history section)
  pub found_is : found ≡ range_of s.held.history section at n
  pub inside : found.0 + found.1 ≤ length (shown (within section) s.held.history)
  -- no cluster is without scalars
  pub some : 0 < n → 0 < found.1

-- why there are no such clusters
abbrev pub HasNoRange : State → (k at n : ℕ) → CommentFault → Type 0
HasNoRange s k at n NoSection = section_shown s k ≡ None
HasNoRange s k at n OutOfRange =
    (section : Identifier) × (section_shown s k ≡ Some section) × (length (clusters_of s.held.history section) < at + n)
HasNoRange s k at n NoMemory = section_shown s k ≢ None
HasNoRange s k at n _ = ⊥

-- the element with so many shown ones before it in the section with so many shown ones before it
abbrev pub shown_element : State → (k at : ℕ) → Option Identifier
shown_element s k at = option_and_then (λ x. slice_get (shown (within x) s.held.history) at) (section_shown s k)

-- a passage of a section: the elements of its first and its last scalar
pub record IsSectionPassage (s : State) (k at n : ℕ) (section first last : Identifier) : Type 0 where
  pub shown_at : section_shown s k ≡ Some section
  pub enough : at + n ≤ length (clusters_of s.held.history section)
  pub some : 0 < (range_of s.held.history section at n).1
  pub first_is : slice_get (shown (within section) s.held.history) (range_of s.held.history section at n).0 ≡ Some first
  pub last_is : slice_get (shown (within section) s.held.history)
      ((range_of s.held.history section at n).0 + (range_of s.held.history section at n).1 - 1) ≡ Some last

-- the names of a comment are the first and the last scalar of its clusters
pub record NamesPassage (s : State) (k at n : ℕ) (named : List Identifier) : Type 0 where
  pub section : Identifier
  pub first : Identifier
  pub last : Identifier
  pub passage : IsSectionPassage s k at n section first last
  pub named_are : named ≡ first ∷ last ∷ []

-- a comment was made, and nothing else
pub record IsCommentMade (old new : State) (k at n : ℕ) (body : List ℕ) (count : ℕ) : Type 0 where
  pub section : Identifier
  pub first : Identifier
  pub last : Identifier
  pub passage : IsSectionPassage old k at n section first last
  pub noted : IsNoted old new (first ∷ last ∷ []) COMMENT_CODE body count

-- it is one of the section's comments, and its span is the scalars of the clusters
pub record IsCommented (old new : State) (k at n : ℕ) (body : List ℕ) : Type 0 where
  pub section : Identifier
  pub shown_at : section_shown old k ≡ Some section
  pub comment : Comment
  pub says : comment.text ≡ body
  pub listed : Contains (comments_in new.held.history section) comment
  pub begins : (margin_span new.held.history section comment.first comment.last).from ≡ (range_of old.held.history section at n).0
  pub ends : (margin_span new.held.history section comment.first comment.last).to
      ≡ (range_of old.held.history section at n).0 + (range_of old.held.history section at n).1
