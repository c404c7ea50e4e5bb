-- The boundaries of clusters, as they are kept and as they are counted.
use Rattle.std.proofs.Common.{List, [], ap, arith, cond, drop, false, get_or, length, map, refl, suc, sym, take, true, zero, ℕ, ◌+◌, ◌++◌, ◌<◌, ◌∙◌, ◌∷◌, ◌≡◌, ◌≤◌, append_assoc}
use Rattle.std.proofs.Common.{length-append, take-add, subst, ◌-◌}
use Rattle.std.specs.Prelude.{Bool, count_by, if◌then◌else◌, nat_le, nat_lt}
use Rattle.std.specs.List.{concat}
use Rattle.std.specs.List.Sorted.{IsNonDecreasingBy, IsPartitionPoint}
use Rattle.std.specs.Str.{chars}
use Rattle.std.proofs.lemmas.List.{drop-map, drop_at, take-append-drop, take-map, take_at}
use Rattle.std.proofs.lemmas.List.Folds.{concat-append}
use Rattle.std.proofs.lemmas.List.Sums.{sum_by-cons}
use Rattle.passage_remarks.specs.Boundaries.{kept_boundaries}
use Rattle.passage_remarks.specs.Clusters.{boundaries_from, cluster_text, first_cluster, cluster_starts}
use Rattle.passage_remarks.specs.declared.page.Boundary.{Boundary}

abbrev pub scalars_before : Boundary → ℕ
scalars_before b = b.scalars

-- there is one more than there are clusters
pub kept-count : (n b : ℕ) (cs : List (List ℕ)) → length (kept_boundaries n b cs) ≡ suc (length cs)
kept-count n b [] = refl
kept-count n b (c ∷ cs) = ap suc (kept-count (n + length (chars c)) (b + length c) cs)

-- their scalars are the boundaries
pub kept-scalars : (n b : ℕ) (cs : List (List ℕ)) → map scalars_before (kept_boundaries n b cs) ≡ boundaries_from n cs
kept-scalars n b [] = refl
kept-scalars n b (c ∷ cs) = ap (λ l. n ∷ l) (kept-scalars (n + length (chars c)) (b + length c) cs)

-- none stands before the first
least : (n b : ℕ) (cs : List (List ℕ)) (i : ℕ) (d : Boundary) → i < length (kept_boundaries n b cs) → n ≤ scalars_before (get_or (kept_boundaries n b cs) i d)
least n b [] zero d l = omega arith
least n b [] (suc i) d l = absurd (omega (arith, l))
least n b (c ∷ cs) zero d l = omega arith
least n b (c ∷ cs) (suc i) d l = omega (arith, least (n + length (chars c)) (b + length c) cs i d (omega (arith, l)))

-- and they stand in order
pub kept-rises : (n b : ℕ) (cs : List (List ℕ)) → IsNonDecreasingBy scalars_before (kept_boundaries n b cs)
kept-rises n b [] zero zero d l m = omega arith
kept-rises n b [] zero (suc j) d l m = absurd (omega (arith, m))
kept-rises n b [] (suc i) zero d l m = absurd (omega (arith, l))
kept-rises n b [] (suc i) (suc j) d l m = absurd (omega (arith, m))
kept-rises n b (c ∷ cs) zero j d l m = least n b (c ∷ cs) j d m
kept-rises n b (c ∷ cs) (suc i) zero d l m = absurd (omega (arith, l))
kept-rises n b (c ∷ cs) (suc i) (suc j) d l m = kept-rises (n + length (chars c)) (b + length c) cs i j d (omega (arith, l)) (omega (arith, m))

-- the bytes before the boundary k are those of the first k clusters
pub kept-bytes : (n b : ℕ) (cs : List (List ℕ)) (k : ℕ) (d : Boundary) → k ≤ length cs → (get_or (kept_boundaries n b cs) k d).bytes ≡ b + length (concat (take k cs))
kept-bytes n b [] zero d l = omega arith
kept-bytes n b [] (suc k) d l = absurd (omega (arith, l))
kept-bytes n b (c ∷ cs) zero d l = omega arith
kept-bytes n b (c ∷ cs) (suc k) d l =
    kept-bytes (n + length (chars c)) (b + length c) cs k d (omega (arith, l)) ∙ omega (arith, length-append c (concat (take k cs)))

abbrev one_if : Bool → ℕ
one_if b = if b then 1 else 0

-- a count of one more
pub count-more : {X : Type 0} (p : X → Bool) (x : X) (xs : List X) → count_by p (x ∷ xs) ≡ one_if (p x) + count_by p xs
count-more p x xs = sum_by-cons (λ y. cond (p y) 1 0) x xs

-- the number of what passes is the place where what passes ends
pub point-counts : {X : Type 0} (p : X → Bool) (xs : List X) (k : ℕ) → k ≤ length xs → IsPartitionPoint (λ y. p y ≡ true) (λ y. p y ≡ false) xs k → k ≡ count_by p xs
point-counts p [] zero l pt = refl
point-counts p [] (suc k) l pt = absurd (omega (arith, l))
point-counts p (x ∷ xs) zero l pt =
    let rest : zero ≡ count_by p xs = point-counts p xs zero (omega arith) (λ i d m k. absurd (omega (arith, k)), λ i d m k. pt.1 (suc i) d (omega arith) (omega (arith, k))) in
    let first : p x ≡ false = pt.1 0 x (omega arith) (omega arith) in
    omega (arith, rest, count-more p x xs, ap one_if first)
point-counts p (x ∷ xs) (suc k) l pt =
    let rest : k ≡ count_by p xs =
    point-counts p xs k (omega (arith, l)) (λ i d m j. pt.0 (suc i) d (omega arith) (omega (arith, j)), λ i d m j. pt.1 (suc i) d (omega (arith, m)) (omega (arith, j))) in
    let first : p x ≡ true = pt.0 0 x (omega arith) (omega arith) in
    omega (arith, rest, count-more p x xs, ap one_if first)

-- a count of what a function gives
pub count-map : {X Y : Type 0} (f : X → Y) (p : Y → Bool) (xs : List X) → count_by (λ x. p (f x)) xs ≡ count_by p (map f xs)
count-map f p [] = refl
count-map f p (x ∷ xs) = count-more (λ y. p (f y)) x xs ∙ ap (λ n. one_if (p (f x)) + n) (count-map f p xs) ∙ sym (count-more p (f x) (map f xs))

-- what is kept of a text's clusters
module _ (cs : List (List ℕ)) (kept : List Boundary) (are : kept ≡ kept_boundaries 0 0 cs) where
  pub kept_len : length kept ≡ suc (length cs)
  kept_len = ap length are ∙ kept-count 0 0 cs

  pub rises : IsNonDecreasingBy scalars_before kept
  rises = subst (IsNonDecreasingBy scalars_before) (sym are) (kept-rises 0 0 cs)

  scalars_are : map scalars_before kept ≡ boundaries_from 0 cs
  scalars_are = ap (map scalars_before) are ∙ kept-scalars 0 0 cs

  pub ends_counted : (at : ℕ) → count_by (λ (b : Boundary). nat_le b.scalars at) (drop 1 kept) ≡ first_cluster cs at
  ends_counted at =
      count-map scalars_before (λ n. nat_le n at) (drop 1 kept)
      ∙ ap (count_by (λ n. nat_le n at)) (sym (drop-map scalars_before 1 kept) ∙ ap (drop 1) scalars_are)

  pub starts_counted : (at n : ℕ) → n ≡ length cs → count_by (λ (b : Boundary). nat_lt b.scalars at) (take n kept) ≡ count_by (λ start. nat_lt start at) (cluster_starts cs)
  starts_counted at n e =
      count-map scalars_before (λ m. nat_lt m at) (take n kept)
      ∙ ap (count_by (λ m. nat_lt m at)) (sym (take-map scalars_before n kept) ∙ (λ i. take (e i) (scalars_are i)))

  pub bytes_are : (k : ℕ) (d : Boundary) → k ≤ length cs → (get_or kept k d).bytes ≡ length (concat (take k cs))
  bytes_are k d l = ap (λ (bs : List Boundary). (get_or bs k d).bytes) are ∙ kept-bytes 0 0 cs k d l ∙ omega arith

-- the text of some clusters stands after that of those before them
front_bytes : (cs : List (List ℕ)) (first count : ℕ) → concat (take (first + count) cs) ≡ concat (take first cs) ++ concat (take count (drop first cs))
front_bytes cs first count = ap concat (take-add first count cs) ∙ concat-append (take first cs) (take count (drop first cs))

pub bytes_between : (text : List ℕ) (cs : List (List ℕ)) (first count start end : ℕ) → concat cs ≡ text → first + count ≤ length cs
    → start ≡ length (concat (take first cs)) → end ≡ length (concat (take (first + count) cs))
    → (start ≤ end) × (end ≤ length text) × (take (end - start) (drop start text) ≡ cluster_text cs first count)
bytes_between text cs first count start end whole l s e =
    let a : List ℕ = concat (take first cs) in
    let b : List ℕ = cluster_text cs first count in
    let c : List ℕ = concat (drop (first + count) cs) in
    let ab = ap length (front_bytes cs first count) ∙ length-append a b in
    let parts : text ≡ (a ++ b) ++ c =
    sym whole
    ∙ ap concat (sym (take-append-drop (first + count) cs))
    ∙ concat-append (take (first + count) cs) (drop (first + count) cs)
    ∙ ap (λ z. z ++ c) (front_bytes cs first count) in
    let count_is : end - start ≡ length b = omega (arith, s, e, ab) in (
      omega (arith, s, e, ab),
      omega (arith, e, ab, ap length parts, length-append (a ++ b) c, length-append a b),
      (λ i. take (count_is i) (drop (s i) ((parts ∙ append_assoc a b c) i)))
          ∙ ap (take (length b)) (drop_at a (b ++ c) (length a) refl)
          ∙ take_at b c (length b) refl,
    )
