-- What an operation that leaves an inbox leaves, and which one leaves first.
use Rattle.std.proofs.Common.{ap, refl, ◌<◌, ◌≡◌, ◌≤◌, ◌∙◌, Bool, false, true, get_or, List, [], ◌∷◌, ℕ, ◌+◌, inl, inr, length, arith}
use Rattle.std.specs.List.{position, position_or_len, remove}
use Rattle.std.specs.Prelude.{None, Some, slice_get}
use Rattle.std.proofs.lemmas.Bool.{cases_lt, le-ltb, lt-ltb}
use Rattle.std.proofs.lemmas.List.Edits.{length-remove}
use Rattle.std.proofs.lemmas.List.Sums.{position_or_len_is}
use Rattle.std.proofs.lemmas.Option.{get_or_from_slice_get, slice_get_within}
use Rattle.fugue_ids.specs.declared.op.Op.{Op}

-- with one operation less as many wait as may
pub still_within : (ops left : List Op) (p hold : ℕ) (op : Op) → slice_get ops p ≡ Some op → left ≡ remove ops p → length ops ≤ hold → length left ≤ hold
still_within ops left p hold op there is within = omega (arith, ap length is, length-remove ops p (slice_get_within ops p op there), within)

-- the first one that passes a test
pub first_found : (test : Op → Bool) (ops : List Op) (i : ℕ) (op : Op) → slice_get ops i ≡ Some op → ((k : ℕ) (d : Op) → k < i → test (get_or ops k d) ≡ false) → test op ≡ true
    → Some i ≡ position test ops
first_found test ops i op there before passes =
    let within : i < length ops = slice_get_within ops i op there in
    let first : position_or_len test ops ≡ i =
    position_or_len_is test ops i op (omega (arith, within)) (λ k l. before k op l) (λ l. ap test (get_or_from_slice_get ops i op op there) ∙ passes) in
    rw (first, lt-ltb i (length ops) within) refl

-- none passes it
pub none_found : (test : Op → Bool) (ops : List Op) (i : ℕ) → length ops ≤ i → ((k : ℕ) (d : Op) → k < i → test (get_or ops k d) ≡ false) → None ≡ position test ops
none_found test [] i all fails = refl
none_found test (op ∷ ops) i all fails =
    let none : position_or_len test (op ∷ ops) ≡ length (op ∷ ops) =
    position_or_len_is test (op ∷ ops) (length (op ∷ ops)) op (omega arith) (λ k l. fails k op (omega (arith, l, all))) (λ l. absurd (omega (arith, l))) in
    rw (none, le-ltb (length (op ∷ ops)) (length (op ∷ ops)) (omega arith)) refl

-- one more does not
pub one_more_fails : (test : Op → Bool) (ops : List Op) (i : ℕ) (op : Op) → slice_get ops i ≡ Some op → ((k : ℕ) (d : Op) → k < i → test (get_or ops k d) ≡ false) → test op ≡ false
    → (k : ℕ) (d : Op) → k < i + 1 → test (get_or ops k d) ≡ false
one_more_fails test ops i op there before fails k d l = elim (cases_lt k i) [
  | inl b ↦ before k d b
  | inr b ↦ let same : k ≡ i = omega (arith, l, b) in ap (λ n. test (get_or ops n d)) same ∙ ap test (get_or_from_slice_get ops i op d there) ∙ fails
]
