-- The sum over a text, one scalar after another.
use Rattle.std.proofs.Common.{List, ap, arith, drop, get_or, length, refl, sym, ◌%◌, ◌*◌, ◌+◌, ◌<◌, ◌≤◌, ◌∙◌, ◌∷◌, ◌≡◌, ℕ, suc}
use Rattle.std.proofs.Math.Nat.{add-mod-mod, add-zero, mod-add-mod, mod-mod, zero-add}
use Rattle.std.proofs.lemmas.List.{at_drop_all, at_drop_more}
use Rattle.std.proofs.lemmas.Nat.{mul-mod_first}
use Rattle.bulk_world.specs.Summary.{sum_of, weighted_scalars}

abbrev m : ℕ
m = 4294967296

-- k scalars of a text were summed
pub record IsSummed (chs : List ℕ) (k place sum : ℕ) : Type 0 where
  pub place_is : place ≡ (k + 1) % m
  pub sum_is : (sum + weighted_scalars (k + 1) (drop k chs)) % m ≡ sum_of chs
  pub small : sum % m ≡ sum

-- none at first
pub none_summed : (chs : List ℕ) → IsSummed chs 0 1 0
none_summed chs = record { place_is = refl; sum_is = ap (λ n. n % m) (zero-add (weighted_scalars 1 chs)); small = refl }

swapped : (s q w : ℕ) → s + q + w ≡ s + w + q
swapped s q w = omega arith

grouped : (s w z : ℕ) → s + w + z ≡ s + (z + w)
grouped s w z = omega arith

-- what a scalar adds, by its place
one_more : (s w place p ch : ℕ) → place ≡ p % m → ((s + (place * ch) % m) % m + w) % m ≡ (s + (p * ch + w)) % m
one_more s w place p ch e =
    mod-add-mod (s + (place * ch) % m) m w ∙ ap (λ n. n % m) (swapped s ((place * ch) % m) w)
    ∙ ap (λ q. (s + w + q) % m) (ap (λ l. (l * ch) % m) e ∙ mul-mod_first p ch m)
    ∙ add-mod-mod (s + w) (p * ch) m ∙ ap (λ n. n % m) (grouped s w (p * ch))

-- then one more
pub next_summed : (chs : List ℕ) (k place sum ch next_place next_sum product n : ℕ) → IsSummed chs k place sum → (k < length chs) × (ch ≡ get_or chs k ch)
    → product ≡ (place * ch) % m
    → next_sum ≡ (sum + product) % m → next_place ≡ (place + 1) % m → n ≡ k + 1 → IsSummed chs n next_place next_sum
next_summed chs k place sum ch next_place next_sum product n u at pe se le ne =
    let W : List ℕ → ℕ = λ l. (sum + weighted_scalars (k + 1) l) % m in
    let w : ℕ = weighted_scalars (suc (k + 1)) (drop (k + 1) chs) in
    let places : weighted_scalars (n + 1) (drop n chs) ≡ w = (λ i. weighted_scalars (ne i + 1) (drop (ne i) chs)) ∙ ap (λ p. weighted_scalars p (drop (k + 1) chs)) (omega arith) in
    let rest : W (drop k chs) ≡ (sum + ((k + 1) * ch + w)) % m = at_drop_more W chs k ch at.0 ∙ ap (λ x. W (x ∷ drop (k + 1) chs)) (sym at.1) in
    let sum_now : next_sum ≡ (sum + (place * ch) % m) % m = se ∙ ap (λ p. (sum + p) % m) pe in
    record {
      place_is = le ∙ ap (λ p. (p + 1) % m) u.place_is ∙ mod-add-mod (k + 1) m 1 ∙ ap (λ p. (p + 1) % m) (sym ne);
      sum_is = (λ i. (sum_now i + places i) % m) ∙ one_more sum w place (k + 1) ch u.place_is ∙ sym rest ∙ u.sum_is;
      small = ap (λ s. s % m) se ∙ mod-mod (sum + product) m ∙ sym se;
    }

-- and all at the end
pub all_summed : (chs : List ℕ) (k place sum : ℕ) → IsSummed chs k place sum → length chs ≤ k → sum ≡ sum_of chs
all_summed chs k place sum u l =
    sym u.small ∙ ap (λ s. s % m) (sym (add-zero sum)) ∙ sym (at_drop_all (λ l. (sum + weighted_scalars (k + 1) l) % m) chs k l) ∙ u.sum_is
