-- Look-ups in a history, and what one more operation changes in them.
use Rattle.std.proofs.Common.{ℕ, Bool, List, [], ap, false, inl, inr, refl, subst, sym, true, ◌∙◌, ◌∷◌, ◌≡◌, ◌⊎◌}
use Rattle.std.specs.Prelude.{None, Option, Some, is_some}
use Rattle.std.specs.List.{All}
use Rattle.std.proofs.lemmas.Bool.{cases_Bool, false_from_ne_true, false≢true}
use Rattle.std.proofs.lemmas.List.Elements.{All-weaker}
use Rattle.fugue_ids.specs.Identifiers.{Identifier}
use Rattle.fugue_ids.specs.Ops.{id_of}
use Rattle.fugue_ids.specs.declared.op.Op.{Op}
use Rattle.fugue_ids.specs.declared.op.Op.TheVariants.{Note}
use Rattle.fugue_ids.proofs.IdentifierLemmas.{id_eq-true}
use Rattle.origin_model.specs.declared.operations.Role.{Role}
use Rattle.origin_model.specs.declared.operations.Role.TheVariants.{Any, Section as SectionRole}
use Rattle.origin_model.specs.declared.operations.Verdict.TheVariants.{Ready}
use Rattle.origin_model.specs.operations.History.{holder, holds, is_own}
use Rattle.origin_model.specs.operations.Verdict.{Lawful, fits, names, verdict}
use Rattle.origin_model.specs.order.Printed.{title_of}
use Rattle.origin_model.proofs.SharedLemmas.{fit_each, Fits, holder-other, holder-own, own_id, ready_is_new, when_ready}
use Rattle.origin_model.specs.edits.Noting.{AreHeld}
use Rattle.catalogue_notes.specs.Lift.{is_section}

-- an option is None, or there is something
pub cases_option : {X : Type 0} → (o : Option X) → (o ≡ None) ⊎ ((x : X) × (o ≡ Some x))
cases_option None = inl refl
cases_option (Some x) = inr (x, refl)

-- not both
pub not_both : {X : Type 0} → (o : Option X) (x : X) → o ≡ None → o ≡ Some x → ⊥
not_both o x a b = false≢true (sym (ap is_some a) ∙ ap is_some b)

-- the value of an option is one
pub same_value : {X : Type 0} → (o : Option X) (x y : X) → o ≡ Some x → o ≡ Some y → x ≡ y
same_value o x y a b = cc

-- what is not there is None
pub none_there : {X : Type 0} → (o : Option X) → is_some o ≡ false → o ≡ None
none_there None k = refl
none_there (Some x) k = absurd (false≢true (sym k))

-- what a Ready operation is: its identifier is new, and what it names is held and fits
pub record Joins (h : List Op) (e : Op) : Type 0 where
  pub fresh : (x : Identifier) → id_of e ≡ Some x → holder h x ≡ None
  pub fit : All (Fits h) (names e)

pub joins : (h : List Op) (e : Op) → verdict h e ≡ Ready → Joins h e
joins h e w = record { fresh = λ x k. none_there (holder h x) (ready_is_new h e x w k); fit = let r = when_ready h e w in fit_each h (names e) r.none_stray r.none_missing }

-- a new operation owns no held identifier
pub not_own : (e f : Op) (h : List Op) (x : Identifier) → Joins h e → holder h x ≡ Some f → is_own x e ≡ false
not_own e f h x w k = false_from_ne_true (is_own x e) (λ t. not_both (holder h x) f (w.fresh x (own_id e x t)) k)

-- what is held stays held
pub holder-kept : (e f : Op) (h : List Op) (x : Identifier) → Joins h e → holder h x ≡ Some f → holder (e ∷ h) x ≡ Some f
holder-kept e f h x w k = holder-other e h x (not_own e f h x w k) ∙ k

-- what fits still fits
pub fits-kept : (e : Op) (h : List Op) → Joins h e → (ns : List (Identifier × Role)) → All (Fits h) ns → All (Fits (e ∷ h)) ns
fits-kept e h w ns all = All-weaker (Fits h) (Fits (e ∷ h)) (λ n k. (k.0, holder-kept e k.0 h n.0 w k.1, k.2)) ns all

-- what an operation of the history names is held and fits
pub names_held : (h : List Op) (x : Identifier) (f : Op) → Lawful h → holder h x ≡ Some f → All (Fits h) (names f)
names_held [] x f w k = cc
names_held (e ∷ h) x f w k =
    let j = joins h e w.0 in
    elim (cases_Bool (is_own x e)) [
      | inl t ↦ let d : e ≡ f = same_value (holder (e ∷ h) x) e f (holder-own e h x t) k in
          fits-kept e h j (names f) (subst (λ z. All (Fits h) (names z)) d j.fit)
      | inr t ↦ fits-kept e h j (names f) (names_held h x f w.1 (sym (holder-other e h x t) ∙ k))
    ]

-- whether what a look-up found is a Section
abbrev pub section_by : Option Op → Bool
section_by o = elim o [ None ↦ false | Some op ↦ fits SectionRole op ]

-- a look-up that finds a Section tells so
pub is_section-held : (h : List Op) (x : Identifier) (f : Op) → holder h x ≡ Some f → fits SectionRole f ≡ true → is_section h x ≡ true
is_section-held h x f k s = ap section_by k ∙ s

pub section_held : (h : List Op) (x : Identifier) → is_section h x ≡ true → (f : Op) × (holder h x ≡ Some f) × (fits SectionRole f ≡ true)
section_held h x k =
    elim (cases_option (holder h x)) [
      | inl n ↦ absurd (false≢true (sym (ap section_by n) ∙ k))
      | inr f ↦ (f.0, f.1, sym (ap section_by f.1) ∙ k)
    ]

-- a name that may be anything
abbrev pub anything : Identifier → Identifier × Role
anything i = (i, Any)

-- the identifier has a holder
abbrev pub IsHeld : List Op → Identifier → Type 0
IsHeld h i = (f : Op) × (holder h i ≡ Some f)

-- so a note may name it
pub are_held : (h : List Op) (named : List Identifier) → All (IsHeld h) named → AreHeld h named
are_held h named all = All-weaker (IsHeld h) (λ i. holds h i ≡ true) (λ i k. ap is_some k.1) named all

-- a note leaves the titles
pub title-note : (h : List Op) (id t : Identifier) (named : List Identifier) (code : ℕ) (body : List ℕ) → holder h id ≡ None
    → title_of (holder (Note id named code body ∷ h) t) ≡ title_of (holder h t)
title-note h id t named code body new =
    let e : Op = Note id named code body in
    elim (cases_Bool (is_own t e)) [
      | inl k ↦ ap title_of (holder-own e h t k) ∙ sym (ap title_of (ap (holder h) (sym (id_eq-true id t k)) ∙ new))
      | inr k ↦ ap title_of (holder-other e h t k)
    ]
