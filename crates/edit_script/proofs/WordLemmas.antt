-- Words, which have no space.
use Rattle.std.proofs.Common.{◌≡◌, ◌<◌, ◌+◌, ◌^◌, ◌%◌, ℕ, true, false, not, nat_eq, inl, inr, refl, List, [], ◌∷◌, arith}
use Rattle.std.specs.Prelude.{decimal, codes, Option, Some, None, MatchOption, IsSomeAnd}
use Rattle.std.proofs.lemmas.Fmt.{decimal_by_steps}
use Rattle.std.specs.List.{list_all}
use Rattle.std.proofs.lemmas.Bool.{cases_Bool, eqb-false}
use Rattle.std.proofs.lemmas.List.Elements.{All-nil, All-cons, All-append}
use Rattle.edit_script.specs.Grammar.{HasNoSpace}
use Rattle.edit_script.specs.Forms.{form_word}
use Rattle.edit_script.specs.declared.edit.Form.{Form}
use Rattle.edit_script.specs.declared.edit.Form.TheVariants.{Add, Put, Cut, Drop}

before : (byte : ℕ) (rest : List ℕ) → (byte ≡ 32 → ⊥) → HasNoSpace rest → HasNoSpace (byte ∷ rest)
before byte rest differs spaceless = All-cons (λ (b : ℕ). b ≡ 32 → ⊥) byte rest differs spaceless

none : HasNoSpace []
none = All-nil (λ (b : ℕ). b ≡ 32 → ⊥)

-- a number is a word
pub decimal_spaceless : (n : ℕ) → n < 2 ^ 64 → HasNoSpace (decimal n)
decimal_spaceless = decimal_by_steps (λ (n : ℕ) (ds : List ℕ). HasNoSpace ds)
    (λ n small. before (48 + n) [] (λ is. omega (arith, is)) none)
    (λ n ds ten front. All-append (λ (b : ℕ). b ≡ 32 → ⊥) ds ((48 + n % 10) ∷ []) front (before (48 + n % 10) [] (λ is. omega (arith, is)) none))

spaceless_if : (word : List ℕ) → list_all (λ (b : ℕ). not (nat_eq b 32)) word ≡ true → HasNoSpace word
spaceless_if [] all = none
spaceless_if (byte ∷ word) all =
    elim (cases_Bool (nat_eq byte 32)) [
      | inl is ↦ absurd (differ (rw is at all))
      | inr differs ↦ before byte word (eqb-false byte 32 differs) (spaceless_if word (rw differs at all))
    ]
  where
    differ : false ≡ true → ⊥
    differ e = cc

-- the first word of a line is one
pub form_spaceless : (form : Form) → HasNoSpace (form_word form)
form_spaceless Add = spaceless_if (codes "add") refl
form_spaceless Put = spaceless_if (codes "put") refl
form_spaceless Cut = spaceless_if (codes "cut") refl
form_spaceless Drop = spaceless_if (codes "drop") refl

-- a value is there, and what is said holds of it
pub is_some_with : {X : Type 0} (found : Option X) (P : X → Type 0) → MatchOption found ⊥ P → IsSomeAnd found P
is_some_with None P none_is = none_is
is_some_with (Some x) P holds = holds
