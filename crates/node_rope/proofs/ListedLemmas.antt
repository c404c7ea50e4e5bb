-- Lists of nodes, seen through one of their parts.
use Rattle.std.proofs.Common.{◌≡◌, ◌⊎◌, inl, inr, ℕ, zero, suc, ◌<◌, ◌≤◌, List, [], ◌∷◌, ◌++◌, length, map, get_or, slice_get, slice_set, Some, refl, sym, ap, ◌∙◌, subst, arith}
use lib.ListN.{length-set, length-append}
use Rattle.node_rope.specs.Heaps.{Mooring, LiesAt}
use Rattle.node_rope.specs.declared.pile.Spot.{Spot}
use Rattle.node_rope.specs.declared.cells.Node.{Node}
use Rattle.node_rope.specs.Filed.{MooringsLead, IsFiled}
use Rattle.node_rope.proofs.BoxLemmas.{lies-longer, lies-shorter, lies-last}
use Rattle.std.proofs.lemmas.Option.{slice_get_within}
use Rattle.fugue_ids.proofs.ListLemmas.{slice_get-seam}

module _ {X Y : Type 0} (f : X → Y) where
  pub got-mapped : (xs : List X) (i : ℕ) (r : X) (d : Y) → r ≡ get_or xs i r → i < length xs → f r ≡ get_or (map f xs) i d
  got-mapped [] i r d e h = absurd (omega arith)
  got-mapped (x ∷ xs) zero r d e h = ap f e
  got-mapped (x ∷ xs) (suc i) r d e h = got-mapped xs i r d e (omega arith)

  pub map-set : (xs : List X) (i : ℕ) (w : X) → map f (slice_set xs i w) ≡ slice_set (map f xs) i (f w)
  map-set [] i w = refl
  map-set (x ∷ xs) zero w = refl
  map-set (x ∷ xs) (suc i) w = ap (λ ys. f x ∷ ys) (map-set xs i w)

  pub map-same : (xs : List X) (i : ℕ) (w r : X) → r ≡ get_or xs i r → f w ≡ f r → map f (slice_set xs i w) ≡ map f xs
  map-same [] i w r e h = refl
  map-same (x ∷ xs) zero w r e h = ap (λ y. y ∷ map f xs) (h ∙ ap f e)
  map-same (x ∷ xs) (suc i) w r e h = ap (λ ys. f x ∷ ys) (map-same xs i w r e h)

older-same : {T : Type 0} (ns : List (Node T)) (i j : ℕ) (w r : Node T) → r ≡ get_or ns i r → w.older ≡ r.older → (n : Node T) → slice_get (slice_set ns i w) j ≡ Some n
    → (m : Node T) × (slice_get ns j ≡ Some m) × (m.older ≡ n.older)
older-same [] i j w r e h n g = absurd (cc)
older-same (x ∷ ns) zero zero w r e h n g = let k : w ≡ n = cc in (x, refl, sym (ap (λ y. y.older) e) ∙ sym h ∙ ap (λ y. y.older) k)
older-same (x ∷ ns) zero (suc j) w r e h n g = (n, g, refl)
older-same (x ∷ ns) (suc i) zero w r e h n g = let k : x ≡ n = cc in (x, refl, ap (λ y. y.older) k)
older-same (x ∷ ns) (suc i) (suc j) w r e h n g = older-same ns i j w r e h n g

pub filed-set : {T Z : Type 0} (s : Spot) (ns : List (Node T)) (ms : List (Mooring Z)) (i : ℕ) (w r : Node T) → r ≡ get_or ns i r → w.older ≡ r.older → IsFiled s ns ms
    → IsFiled s (slice_set ns i w) ms
filed-set s ns ms i w r e h f = record {
  last = subst (λ (k : ℕ). MooringsLead ms s k) (sym (length-set ns i w)) f.last;
  each = λ j n g. let m = older-same ns i j w r e h n g in subst (λ (q : Spot). MooringsLead ms q j) m.2 (f.each j m.0 m.1);
}

-- one more node
pub leads-longer : {Z : Type 0} (ms ks : List (Mooring Z)) (s : Spot) (n : ℕ) → MooringsLead ms s n → MooringsLead (ms ++ ks) s n
leads-longer ms ks s zero e = e
leads-longer ms ks s (suc n) e = lies-longer ms ks n s.address e

got-last : {T : Type 0} (ns : List (Node T)) (w : Node T) (i : ℕ) (n : Node T) → slice_get (ns ++ w ∷ []) i ≡ Some n → (slice_get ns i ≡ Some n) ⊎ ((i ≡ length ns) × (w ≡ n))
got-last [] w zero n g = inr (refl, cc)
got-last [] w (suc i) n g = absurd (cc)
got-last (x ∷ ns) w zero n g = inl g
got-last (x ∷ ns) w (suc i) n g =
    elim (got-last ns w i n g) as (λ _. (slice_get ns i ≡ Some n) ⊎ ((suc i ≡ suc (length ns)) × (w ≡ n))) [ inl h ↦ inl h | inr h ↦ inr (ap suc h.0, h.1) ]

pub filed-more : {T Z : Type 0} (s : Spot) (ns : List (Node T)) (ms : List (Mooring Z)) (w : Node T) (t : Spot) (m : Mooring Z) → length ns ≡ length ms → IsFiled s ns ms
    → w.older ≡ s → t.address ≡ m.0
    → IsFiled t (ns ++ w ∷ []) (ms ++ m ∷ [])
filed-more s ns ms w t m pair f h a = record {
  last =
      let longer : suc (length ns) ≡ length (ns ++ w ∷ []) = omega (arith, length-append ns (w ∷ [])) in
      subst (λ (n : ℕ). MooringsLead (ms ++ m ∷ []) t n) longer (subst (λ (p : denote.RawPtr.Ptr). LiesAt (ms ++ m ∷ []) (length ns) p) (sym a) (lies-last ms m (length ns) pair));
  each = λ i n g. elim (got-last ns w i n g) as (λ _. MooringsLead (ms ++ m ∷ []) n.older i) [
    | inl k ↦ leads-longer ms (m ∷ []) n.older i (f.each i n k)
    | inr k ↦ leads-longer ms (m ∷ []) n.older i
        (subst (λ (q : Spot). MooringsLead ms q i) (sym h ∙ ap (λ y. y.older) k.1) (subst (λ (j : ℕ). MooringsLead ms s j) (sym k.0) f.last))
  ];
}

-- one node less
leads-shorter : {Z : Type 0} (ms ks : List (Mooring Z)) (s : Spot) (n : ℕ) → n ≤ length ms → MooringsLead (ms ++ ks) s n → MooringsLead ms s n
leads-shorter ms ks s zero h e = e
leads-shorter ms ks s (suc n) h e = lies-shorter ms ks n s.address (omega arith) e

got-first : {T : Type 0} (ns : List T) (w : T) (i : ℕ) (n : T) → slice_get ns i ≡ Some n → slice_get (ns ++ w ∷ []) i ≡ Some n
got-first [] w i n g = absurd (cc)
got-first (x ∷ ns) w zero n g = g
got-first (x ∷ ns) w (suc i) n g = got-first ns w i n g

pub filed-less : {T Z : Type 0} (s : Spot) (ns : List (Node T)) (ms : List (Mooring Z)) (w : Node T) (m : Mooring Z) → length ns ≡ length ms
    → IsFiled s (ns ++ w ∷ []) (ms ++ m ∷ []) → IsFiled w.older ns ms
filed-less s ns ms w m pair f = record {
  last = leads-shorter ms (m ∷ []) w.older (length ns) (omega arith) (f.each (length ns) w (slice_get-seam ns w));
  each = λ i n g. let h = slice_get_within ns i n g in leads-shorter ms (m ∷ []) n.older i (omega arith) (f.each i n (got-first ns w i n g));
}
