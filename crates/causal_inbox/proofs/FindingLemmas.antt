-- What is found by keys is what a search of the whole list finds.
use Rattle.std.proofs.Common.{ap, arith, false, inl, inr, refl, sym, length, true, ℕ, suc, List, [], ◌∷◌, Bool, nat_eq, ◌||◌, ◌<◌, ◌∙◌, ◌≡◌, get_or}
use Rattle.std.specs.Prelude.{is_some, slice_get, AllPairs}
use Rattle.std.specs.List.{list_any, position_or_len}
use Rattle.std.proofs.lemmas.Bool.{cases_Bool, false_from_ne_true, or_left, true≢false}
use Rattle.std.proofs.lemmas.Option.{slice_get-get_or}
use Rattle.fugue_ids.specs.Identifiers.{Identifier}
use Rattle.fugue_ids.specs.Ops.{op_eq}
use Rattle.fugue_ids.specs.declared.op.Op.{Op}
use Rattle.fugue_ids.proofs.OpLemmas.{op_eq-true}
use Rattle.origin_model.specs.operations.History.{has_op, holds}
use Rattle.origin_model.proofs.SharedLemmas.{holds-cons}
use Rattle.causal_inbox.specs.Index.{ages_with, is_equal, is_equal_at}
use Rattle.causal_inbox.specs.Key.{has_key, main_key, own_key_of}
use Rattle.causal_inbox.specs.declared.key.Key.{Key}
use Rattle.causal_inbox.proofs.AgeLemmas.{position_found}
use Rattle.causal_inbox.proofs.KeyLemmas.{key_eq-refl, keys_are}

-- an operation without the main key of another is not equal to it
unequal : (o op : Op) → has_key (main_key op) o ≡ false → op_eq o op ≡ false
unequal o op e = false_from_ne_true (op_eq o op) (λ same.
    let own : has_key (main_key op) op ≡ true = sym (keys_are op (main_key op)) ∙ or_left _ _ (key_eq-refl (main_key op)) in
    true≢false (sym own ∙ ap (has_key (main_key op)) (sym (op_eq-true o op same)) ∙ e))

-- a test of the ages under the main key that tells of each whether its operation is equal
found_by : (passes : ℕ → Bool) (op : Op) (ops : List Op) (ages : List ℕ) → length ages ≡ length ops
    → ((i : ℕ) → i < length ops → passes (get_or ages i 0) ≡ op_eq (get_or ops i op) op) → list_any passes (ages_with (main_key op) ops ages) ≡ has_op ops op
found_by passes op [] ages same each = refl
found_by passes op (o ∷ ops) [] same each = absurd (omega (arith, same))
found_by passes op (o ∷ ops) (b ∷ ages) same each =
    let rest = found_by passes op ops ages (omega (arith, same)) (λ i within. each (suc i) (omega (arith, within))) in
    elim (cases_Bool (has_key (main_key op) o)) [ inl e ↦ rw e (λ i. each 0 (omega arith) i || rest i) | inr e ↦ rw (e, unequal o op e) rest ]

-- an equal operation stands at an age under the main key
pub equal_found : (op : Op) (ops : List Op) (ages : List ℕ) → length ages ≡ length ops → AllPairs ◌<◌ ages
    → list_any (λ a. is_equal_at ops op (position_or_len (λ b. nat_eq b a) ages)) (ages_with (main_key op) ops ages) ≡ has_op ops op
equal_found op ops ages same r = found_by _ op ops ages same (λ i within.
    ap (is_equal_at ops op) (position_found ages i (get_or ages i 0) r (omega (arith, same, within)) refl) ∙ ap (is_equal op) (slice_get-get_or ops i op within))

-- an age stands under a key where an operation has it
pub some_age : (key : Key) (ops : List Op) (ages : List ℕ) → length ages ≡ length ops → is_some (slice_get (ages_with key ops ages) 0) ≡ list_any (has_key key) ops
some_age key [] ages same = refl
some_age key (o ∷ ops) [] same = absurd (omega (arith, same))
some_age key (o ∷ ops) (b ∷ ages) same = elim (cases_Bool (has_key key o)) [ inl e ↦ rw e | inr e ↦ rw e (some_age key ops ages (omega (arith, same))) ]

-- an identifier is held where an age stands under it
pub own_found : (i : Identifier) (ops : List Op) (ages : List ℕ) → length ages ≡ length ops → is_some (slice_get (ages_with (own_key_of i) ops ages) 0) ≡ holds ops i
own_found i ops ages same = some_age (own_key_of i) ops ages same ∙ any_holds ops
  where
    any_holds : (ops : List Op) → list_any (has_key (own_key_of i)) ops ≡ holds ops i
    any_holds [] = refl
    any_holds (o ∷ ops) = ap (λ b. has_key (own_key_of i) o || b) (any_holds ops) ∙ sym (holds-cons o ops i)
