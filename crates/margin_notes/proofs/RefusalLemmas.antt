-- When a comment is refused: by its section, by its clusters, or by its note.
use Rattle.margin_notes.proofs.Words.{Bool, Identifier, None, Option, Some, ap, false, if◌then◌else◌, inl, inr, length, option_map, refl, subst, sym, true, ℕ, ◌&&◌, ◌+◌, ◌-◌, ◌∙◌}
use Rattle.margin_notes.proofs.Words.{◌≡◌, ◌≢◌}
use Rattle.std.specs.Prelude.{◌^◌, ◌↔◌, ◌⊎◌, Err, IfSome, Ok, Result, nat_lt}
use Rattle.std.proofs.lemmas.Bool.{le-ltb, lt-ltb}
use Rattle.origin_model.specs.declared.edit_fault.EditFault.{EditFault}
use Rattle.origin_model.specs.declared.edit_fault.EditFault.TheVariants as edit
use Rattle.origin_model.specs.edits.Noting.{RefusesNote, note_refusal}
use Rattle.origin_model.specs.edits.Refusal.{held_count, next_of_own, section_shown}
use Rattle.origin_model.specs.edits.State.{State}
use Rattle.margin_notes.specs.declared.commenting.CommentFault.{CommentFault}
use Rattle.margin_notes.specs.declared.commenting.CommentFault.TheVariants.{NoSection, OutOfRange, IdsSpent, TooMany, NoMemory}
use Rattle.margin_notes.specs.Commenting.{HasNoRange, IsSectionPassage, RefusesComment, as_comment_fault, clusters_of, comment_refusal, range_refusal}
use Rattle.fugue_ids.proofs.OptionLemmas.{err_inj, failed}

-- a refusal that is the cause, or an allocation failure
abbrev Comes : Result ℕ CommentFault → Option CommentFault → Type 0
Comes result cause = IfSome cause (λ fault. (result ≡ Err fault) ⊎ (result ≡ Err NoMemory))

refuses : (s : State) (k at n : ℕ) (fault : CommentFault) → comment_refusal s k at n ≡ Some fault → RefusesComment s k at n (Err fault)
refuses s k at n fault e = record { only = λ g d r. e ∙ ap Some (err_inj fault g r); always = subst (Comes (Err fault)) (sym e) (inl refl) }

wants : (s : State) (k at n : ℕ) → RefusesComment s k at n (Err NoMemory)
wants s k at n = record { only = λ g d e. absurd (d (sym (err_inj NoMemory g e))); always = any (comment_refusal s k at n) }
  where
    any : (cause : Option CommentFault) → Comes (Err NoMemory) cause
    any None = tt
    any (Some g) = inr refl

abbrev refusal_by : State → (at n : ℕ) → Option Identifier → Option CommentFault
refusal_by s at n o = elim o [ None ↦ Some NoSection | Some x ↦ range_refusal s x at n ]

-- where there is no range, that is the cause
pub refuses_range : (s : State) (k at n : ℕ) (fault : CommentFault) → HasNoRange s k at n fault → RefusesComment s k at n (Err fault)
refuses_range s k at n NoSection e = refuses s k at n NoSection (ap (refusal_by s at n) e)
refuses_range s k at n OutOfRange e =
    refuses s k at n OutOfRange (ap (refusal_by s at n) e.1
    ∙ ap (λ b. if b then Some OutOfRange else option_map as_comment_fault (note_refusal s)) (lt-ltb (length (clusters_of s.held.history e.0)) (at + n) e.2))
refuses_range s k at n NoMemory e = wants s k at n
refuses_range s k at n (IdsSpent c) e = absurd e
refuses_range s k at n (TooMany c) e = absurd e

-- and the section is not shown exactly where that is specified
some_there : (o : Option Identifier) (x : Identifier) → o ≡ Some x → o ≢ None
some_there o x e d = let no : Some x ≡ None = sym e ∙ d in cc

pub tells_section : (s : State) (k at n : ℕ) (fault : CommentFault) → HasNoRange s k at n fault → (failed fault ≡ Err NoSection) ↔ (section_shown s k ≡ None)
tells_section s k at n NoSection e = ((λ r. e), (λ r. refl))
tells_section s k at n OutOfRange e = ((λ r. let d : OutOfRange ≡ NoSection = err_inj OutOfRange NoSection r in cc), (λ r. absurd (some_there (section_shown s k) e.0 e.1 r)))
tells_section s k at n NoMemory e = ((λ r. let d : NoMemory ≡ NoSection = err_inj NoMemory NoSection r in cc), (λ r. absurd (e r)))
tells_section s k at n (IdsSpent c) e = absurd e
tells_section s k at n (TooMany c) e = absurd e

-- a note is not refused for lack of memory
not_for_memory : (s : State) (fault : EditFault) → note_refusal s ≡ Some fault → fault ≢ edit.NoMemory
not_for_memory s fault e d = by (nat_lt 0 1 && nat_lt (2 ^ 32) (next_of_own s + 1)) (nat_lt s.most (held_count s + 1)) (ap (λ z. z) e ∙ ap Some d)
  where
    by : (b c : Bool) → (if b then Some (edit.IdsSpent (next_of_own s - 1)) else (if c then Some (edit.TooMany (held_count s)) else None)) ≡ Some edit.NoMemory → ⊥
    by true c e = cc e
    by false true e = cc e
    by false false e = cc e

-- where the clusters are there, a comment is refused as its note is
module _ (s : State) (k at n : ℕ) (x first last : Identifier) (p : IsSectionPassage s k at n x first last) where
  as_note : comment_refusal s k at n ≡ option_map as_comment_fault (note_refusal s)
  as_note =
      ap (refusal_by s at n) p.shown_at
      ∙ ap (λ b. if b then Some OutOfRange else option_map as_comment_fault (note_refusal s)) (le-ltb (length (clusters_of s.held.history x)) (at + n) p.enough)

  comes : (result : Result ℕ CommentFault) → ((g : EditFault) → note_refusal s ≡ Some g → result ≡ Err (as_comment_fault g)) → Comes result (comment_refusal s k at n)
  comes result f = subst (Comes result) (sym as_note) (by (note_refusal s) f)
    where
      by : (o : Option EditFault) → ((g : EditFault) → o ≡ Some g → result ≡ Err (as_comment_fault g)) → Comes result (option_map as_comment_fault o)
      by None f = tt
      by (Some g) f = inl (f g refl)

  pub refuses_made : (count : ℕ) → RefusesNote s (Ok count) → RefusesComment s k at n (Ok count)
  refuses_made count r = record {
    only = λ fault d e. cc e;
    always = comes (Ok count) (λ g e. let no : Ok count ≡ failed g = (r g (not_for_memory s g e)).1 e in cc);
  }

  pub refuses_fault : (fault : EditFault) → RefusesNote s (Err fault) → RefusesComment s k at n (Err (as_comment_fault fault))
  refuses_fault fault r = record {
    only = λ f d e.
        let same : as_comment_fault fault ≡ f = err_inj (as_comment_fault fault) f e in
        as_note ∙ ap (option_map as_comment_fault) ((r fault (λ z. d (sym same ∙ ap as_comment_fault z))).0 refl) ∙ ap Some same;
    always = comes (Err (as_comment_fault fault)) (λ g e. ap (λ z. Err (as_comment_fault z)) (err_inj fault g ((r g (not_for_memory s g e)).1 e)));
  }

  pub tells_made : (count : ℕ) → (◌≡◌ {A = Result ℕ CommentFault} (Ok count) (Err NoSection)) ↔ (section_shown s k ≡ None)
  tells_made count = ((λ e. cc e), (λ e. absurd (some_there (section_shown s k) x p.shown_at e)))

  pub tells_fault : (fault : EditFault) → (failed (as_comment_fault fault) ≡ Err NoSection) ↔ (section_shown s k ≡ None)
  tells_fault fault = ((λ e. absurd (other fault (err_inj (as_comment_fault fault) NoSection e))), (λ e. absurd (some_there (section_shown s k) x p.shown_at e)))
    where
      other : (fault : EditFault) → as_comment_fault fault ≡ NoSection → ⊥
      other (edit.IdsSpent c) e = cc
      other (edit.TooMany c) e = cc
      other edit.NoSection e = cc
      other edit.OutOfRange e = cc
      other edit.NoMemory e = cc
