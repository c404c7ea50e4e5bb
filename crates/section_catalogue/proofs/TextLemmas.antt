-- The text of a section, changed where it stands in the map.
use Rattle.std.proofs.Common.{List, ap, inl, inr, refl, subst, sym, ◌∙◌, ◌≡◌, ◌≢◌}
use Rattle.std.specs.Prelude.{IfSome, None, Option, Some, option_map}
use Rattle.fugue_ids.specs.Identifiers.{Identifier}
use Rattle.fugue_ids.proofs.IdentifierLemmas.{cases_id}
use Rattle.fugue_ids.specs.Keyed.{IsReplaced}
use Rattle.section_catalogue.specs.declared.tables.Section.{Section as Titled}
use Rattle.section_catalogue.specs.Changes.{AnswersSame}
use Rattle.section_catalogue.specs.Contents.{entry_at}

-- what holds of a value that may be there
pub if_some : {X : Type 0} (o : Option X) (P Q : X → Type 0) → ((x : X) → P x → Q x) → IfSome o P → IfSome o Q
if_some None P Q f p = tt
if_some (Some x) P Q f p = f x p

-- what holds of a value that is made of another
if_some_map : {X : Type 0} (f : X → X) (o : Option X) (P Q : X → Type 0) → ((x : X) → P x → Q (f x)) → IfSome o P → IfSome (option_map f o) Q
if_some_map f None P Q g p = tt
if_some_map f (Some x) P Q g p = g x p

-- a section that keeps its title
title_stays : (f : Titled → Titled) (o : Option Titled) → ((t : Titled) → (f t).title ≡ t.title)
    → option_map (λ (t : Titled). t.title) (option_map f o) ≡ option_map (λ (t : Titled). t.title) o
title_stays f None k = refl
title_stays f (Some t) k = ap Some (k t)

module _ (m n : List (Identifier × Titled)) (s : Identifier) (e w : Titled) (was : Some e ≡ entry_at m s) (here : entry_at n s ≡ Some w)
    (others : (y : Identifier) → y ≢ s → entry_at n y ≡ entry_at m y) where
  -- the section was changed
  pub changed : (f : Titled → Titled) → w ≡ f e → IsReplaced (entry_at m) (entry_at n) s (option_map f (entry_at m s))
  changed f d = record { here = here ∙ ap Some d ∙ ap (option_map f) was; others = others }

  -- the section was written back as it was
  pub kept : w ≡ e → AnswersSame (entry_at m) (entry_at n)
  kept d y =
      elim (cases_id y s) [
        | inl k ↦ ap (entry_at n) k ∙ here ∙ ap Some d ∙ was ∙ ap (entry_at m) (sym k)
        | inr k ↦ others y k
      ]

-- the look-ups of sections, of which one was changed
module _ (old new : Identifier → Option Titled) (s : Identifier) (f : Titled → Titled) (c : IsReplaced old new s (option_map f (old s))) where
  -- each title stays where that one's does
  pub titles_stay : ((t : Titled) → (f t).title ≡ t.title) → (y : Identifier) → option_map (λ (t : Titled). t.title) (new y) ≡ option_map (λ (t : Titled). t.title) (old y)
  titles_stay k y =
      elim (cases_id y s) [
        | inl d ↦ subst (λ z. option_map (λ (t : Titled). t.title) (new z) ≡ option_map (λ (t : Titled). t.title) (old z)) (sym d)
            (ap (option_map (λ (t : Titled). t.title)) c.here ∙ title_stays f (old s) k)
        | inr n ↦ ap (option_map (λ (t : Titled). t.title)) (c.others y n)
      ]

  -- what follows of the one changed, and of each other
  pub each_text : (P Q : Identifier → Titled → Type 0) → ((t : Titled) → P s t → Q s (f t)) → ((y : Identifier) (t : Titled) → y ≢ s → P y t → Q y t)
      → ((y : Identifier) → IfSome (old y) (P y)) → (y : Identifier) → IfSome (new y) (Q y)
  each_text P Q g k was y =
      elim (cases_id y s) [
        | inl d ↦ subst (λ z. IfSome (new z) (Q z)) (sym d) (subst (λ o. IfSome o (Q s)) (sym c.here) (if_some_map f (old s) (P s) (Q s) g (was s)))
        | inr n ↦ subst (λ o. IfSome o (Q y)) (sym (c.others y n)) (if_some (old y) (P y) (Q y) (λ t. k y t n) (was y))
      ]
