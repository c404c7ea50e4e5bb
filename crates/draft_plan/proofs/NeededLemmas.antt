-- What operations write, delete and add.
use Rattle.std.proofs.Common.{Bool, List, [], ap, cond, drop, false, inl, inr, refl, subst, suc, sym, take, true, ℕ, ◌++◌, ◌∙◌, ◌∷◌, ◌≡◌}
use Rattle.std.specs.Prelude.{All, None, Option, Some, is_some, slice_get}
use Rattle.std.specs.List.{Contains}
use Rattle.std.proofs.lemmas.Bool.{cases_Bool, false≢true}
use Rattle.std.proofs.lemmas.List.{take-append-drop}
use Rattle.std.proofs.lemmas.List.Elements.{All-append, All-cons, All-head, All-nil, All-tail, All-weaker, Contains-append_left, Contains-append_right}
use Rattle.fugue_ids.specs.Identifiers.{Identifier, id_eq}
use Rattle.fugue_ids.specs.declared.op.Op.{Op}
use Rattle.fugue_ids.specs.declared.op.Op.TheVariants.{Delete, Note, Section, Text}
use Rattle.fugue_ids.proofs.IdentifierLemmas.{id_eq-true}
use Rattle.fugue_ids.proofs.ListLemmas.{all_from_contains}
use Rattle.origin_model.specs.declared.operations.Place.TheVariants.{Catalogue as catalogue, Section as within}
use Rattle.origin_model.specs.edits.Edits.{Cut, Put, deletes_of, id_at, left_for, made, next_counter, right_for, typed_texts}
use Rattle.origin_model.specs.edits.Effect.{Gains}
use Rattle.origin_model.specs.edits.State.{State}
use Rattle.origin_model.specs.operations.History.{element_of, holder, holds, is_own}
use Rattle.origin_model.specs.operations.Verdict.{Lawful, given_as}
use Rattle.origin_model.specs.order.Printed.{shown}
use Rattle.origin_model.specs.declared.operations.Role.TheVariants.{Section as SectionRole, TextOf}
use Rattle.origin_model.proofs.SharedLemmas.{Fits, holder-other, holder-own}
use Rattle.origin_model.proofs.edits.MadeLemmas.{cut_made, put_made}
use Rattle.catalogue_notes.proofs.HolderLemmas.{cases_option, holder-kept, joins, same_value}
use Rattle.draft_plan.specs.Needed.{InText, MakesOnly, Touches}
use Rattle.draft_plan.proofs.ChangeLemmas.{gains_join, gains_none}

-- what is in a front or a rest is in the list
pub in_take : (xs : List Identifier) (n : ℕ) (x : Identifier) → Contains (take n xs) x → Contains xs x
in_take xs n x m = subst (λ l. Contains l x) (take-append-drop n xs) (Contains-append_left (take n xs) (drop n xs) x m)

pub in_drop : (xs : List Identifier) (n : ℕ) (x : Identifier) → Contains (drop n xs) x → Contains xs x
in_drop xs n x m = subst (λ l. Contains l x) (take-append-drop n xs) (Contains-append_right (take n xs) (drop n xs) x m)

-- a kind of operations within a wider one
pub touches_weaker : (W D : Identifier → Type 0) (A : Type 0) (V E : Identifier → Type 0) (B : Type 0) → ((s : Identifier) → W s → V s) → ((x : Identifier) → D x → E x) → (A → B)
    → (op : Op) → Touches W D A op → Touches V E B op
touches_weaker W D A V E B w d a (Section id left right title) k = a k
touches_weaker W D A V E B w d a (Text id section left right ch) k = w section k
touches_weaker W D A V E B w d a (Delete x) k = d x k
touches_weaker W D A V E B w d a (Note id named code body) k = tt

-- nothing was made
pub only_none : (Kind : Op → Type 0) (s : State) → MakesOnly Kind s s
only_none Kind s = ([], gains_none s, All-nil Kind)

-- operations, and then others
pub only_join : (Kind : Op → Type 0) (old mid new : State) → MakesOnly Kind old mid → MakesOnly Kind mid new → MakesOnly Kind old new
only_join Kind old mid new first next =
    (first.0 ++ next.0, gains_join old mid new first.0 next.0 first.1 next.1, All-append Kind first.0 next.0 first.2 next.2)

pub only_weaker : (Kind Wide : Op → Type 0) (old new : State) → ((op : Op) → Kind op → Wide op) → MakesOnly Kind old new → MakesOnly Wide old new
only_weaker Kind Wide old new w only = (only.0, only.1, All-weaker Kind Wide w only.0 only.2)

-- one operation
pub only_one : (Kind : Op → Type 0) (old new : State) (op : Op) → Gains old new (op ∷ []) → Kind op → MakesOnly Kind old new
only_one Kind old new op gained k = (op ∷ [], gained, All-cons Kind op [] k (All-nil Kind))

-- texts that are typed
typed_in : (chs : List ℕ) (r c : ℕ) (s : Identifier) (left right : Option Identifier) (xs : List Identifier) → All (InText s xs) (typed_texts r c s left right chs)
typed_in [] r c s left right xs = All-nil (InText s xs)
typed_in (ch ∷ chs) r c s left right xs =
    All-cons (InText s xs) (Text (id_at r c) s left right ch) (typed_texts r (suc c) s (Some (id_at r c)) right chs) refl (typed_in chs r (suc c) s (Some (id_at r c)) right xs)

pub put_in_text : (r : ℕ) (h w : List Op) (k at : ℕ) (new : List ℕ) (s : Identifier) (xs : List Identifier) → slice_get (shown catalogue h) k ≡ Some s
    → All (InText s xs) (made r h w (Put k at new))
put_in_text r h w k at new s xs e =
    subst (All (InText s xs)) (sym (put_made r h w k s at new e)) (typed_in new r (next_counter r h w) s (left_for (within s) h at) (right_for (within s) h at) xs)

-- Deletes
deletes_in : (s : Identifier) (xs ys : List Identifier) → All (Contains xs) ys → All (InText s xs) (deletes_of ys)
deletes_in s xs [] k = All-nil (InText s xs)
deletes_in s xs (y ∷ ys) k =
    All-cons (InText s xs) (Delete y) (deletes_of ys) (All-head (Contains xs) y ys k) (deletes_in s xs ys (All-tail (Contains xs) y ys k))

pub cut_in_text : (r : ℕ) (h w : List Op) (k at n : ℕ) (s : Identifier) → slice_get (shown catalogue h) k ≡ Some s
    → All (InText s (take n (drop at (shown (within s) h)))) (made r h w (Cut k at n))
cut_in_text r h w k at n s e =
    let ys : List Identifier = take n (drop at (shown (within s) h)) in
    subst (All (InText s ys)) (sym (cut_made r h w k s at n e)) (deletes_in s ys ys (all_from_contains (Contains ys) ys (λ y m. m)))

-- a section of whose text something is held is held
pub section_held : (h : List Op) (s x : Identifier) (f : Op) → Lawful h → holder h x ≡ Some f → element_of (within s) f ≡ Some x → holds h s ≡ true
section_held [] s x f w e is = cc
section_held (op ∷ h) s x f w e is =
    elim (cases_Bool (is_own x op)) [
      | inl own ↦
          let same : op ≡ f = same_value (holder (op ∷ h) x) op f (holder-own op h x own) e in
          more op s w (names_held op s x w (ap (element_of (within s)) same ∙ is))
      | inr other ↦ more op s w (section_held h s x f w.1 (sym (holder-other op h x other) ∙ e) is)
    ]
  where
    more : (op : Op) (s : Identifier) → Lawful (op ∷ h) → holds h s ≡ true → holds (op ∷ h) s ≡ true
    more op s w k = elim (cases_option (holder h s)) [ inl n ↦ absurd (false≢true (sym (ap is_some n) ∙ k)) | inr g ↦ ap is_some (holder-kept op g.0 h s (joins h op w.0) g.1) ]

    is_there : (b : Bool) (i x : Identifier) → cond b (Some i) None ≡ Some x → b ≡ true
    is_there true i x e = refl
    is_there false i x e = cc

    names_held : (op : Op) (s x : Identifier) → Lawful (op ∷ h) → element_of (within s) op ≡ Some x → holds h s ≡ true
    names_held (Section id left right title) s x w e = cc
    names_held (Text id section left right ch) s x w e =
        let same : section ≡ s = id_eq-true section s (is_there (id_eq section s) id x e) in
        let fit : Fits h (section, SectionRole) =
        All-head (Fits h) (section, SectionRole) (given_as (TextOf section) left ++ given_as (TextOf section) right) (joins h (Text id section left right ch) w.0).fit in
        ap (holds h) (sym same) ∙ ap is_some fit.1
    names_held (Delete target) s x w e = cc
    names_held (Note id named code body) s x w e = cc
