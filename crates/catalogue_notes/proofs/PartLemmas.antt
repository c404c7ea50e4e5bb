-- Lists of distinct members: filters, and lists made of the parts at each member of another list.
use Rattle.std.proofs.Common.{Bool, List, [], ap, append_assoc, arith, drop, false, inl, inr, length, length-append, not, refl, subst, suc, sym, take, true, zero, ℕ, ◌&&◌, ◌++◌}
use Rattle.std.proofs.Common.{◌<◌, ◌≤◌, ◌∙◌, ◌∷◌, ◌≡◌, ◌≢◌}
use Rattle.std.specs.Prelude.{None, Option, Some, filter, flat_map, if◌then◌else◌, slice_get}
use Rattle.std.specs.List.{All, AllPairs, Contains}
use Rattle.std.proofs.lemmas.Bool.{cases_Bool}
use Rattle.std.proofs.lemmas.List.Elements.{All-contains, Contains-append_cases, Contains-append_left, Contains-append_right, filter-append}
use Rattle.fugue_ids.specs.Identifiers.{Identifier, id_eq}
use Rattle.fugue_ids.proofs.IdentifierLemmas.{cases_id, eq-id_eq, ne-id_eq}
use Rattle.fugue_ids.proofs.ListLemmas.{all_from_contains, all_pairs_append, all_pairs_head, all_pairs_nil, all_pairs_tail, contains_cases, contains_here, contains_middle}
use Rattle.fugue_ids.proofs.ListLemmas.{contains_middle_cases, contains_none, contains_there}
use Rattle.origin_model.specs.edits.Landing.{following, first_after}
use Rattle.origin_model.proofs.edits.SplitLemmas.{get_in}
use Rattle.origin_model.proofs.SharedLemmas.{split_member}

-- no two members are the same
abbrev pub Distinct : List Identifier → Type 0
Distinct xs = AllPairs (λ x y. x ≢ y) xs

-- a filter keeps what passes, and drops what does not
pub filter_yes : {X : Type 0} → (g : X → Bool) (y : X) (ys : List X) → g y ≡ true → filter g (y ∷ ys) ≡ y ∷ filter g ys
filter_yes g y ys h = rw (h, filter)

pub filter_no : {X : Type 0} → (g : X → Bool) (y : X) (ys : List X) → g y ≡ false → filter g (y ∷ ys) ≡ filter g ys
filter_no g y ys h = rw (h, filter)

-- tests that agree on the members keep the same
pub filter_same : {X : Type 0} → (f g : X → Bool) (xs : List X) → ((t : X) → Contains xs t → f t ≡ g t) → filter f xs ≡ filter g xs
filter_same f g [] s = refl
filter_same f g (x ∷ xs) s =
    let rest : filter f xs ≡ filter g xs = filter_same f g xs (λ t m. s t (contains_there x xs t m)) in
    let e : f x ≡ g x = s x (contains_here x xs) in
    elim (cases_Bool (f x)) [
      | inl k ↦ filter_yes f x xs k ∙ ap (λ l. x ∷ l) rest ∙ sym (filter_yes g x xs (sym e ∙ k))
      | inr k ↦ filter_no f x xs k ∙ rest ∙ sym (filter_no g x xs (sym e ∙ k))
    ]

-- two filters are one
pub filter-filter : {X : Type 0} → (q f : X → Bool) (xs : List X) → filter q (filter f xs) ≡ filter (λ t. q t && f t) xs
filter-filter q f [] = refl
filter-filter q f (x ∷ xs) =
    elim (cases_Bool (f x)) [
      | inl k ↦ ap (filter q) (filter_yes f x xs k)
          ∙ elim (cases_Bool (q x)) [
            | inl j ↦ filter_yes q x (filter f xs) j ∙ ap (λ l. x ∷ l) (filter-filter q f xs) ∙ sym (filter_yes (λ t. q t && f t) x xs ((λ i. j i && k i)))
            | inr j ↦ filter_no q x (filter f xs) j ∙ filter-filter q f xs ∙ sym (filter_no (λ t. q t && f t) x xs ((λ i. j i && k i)))
          ]
      | inr k ↦ ap (filter q) (filter_no f x xs k) ∙ filter-filter q f xs
          ∙ sym (filter_no (λ t. q t && f t) x xs (elim (q x) as (λ b. (b && f x) ≡ false) [ true ↦ k | false ↦ refl ]))
    ]

-- where none passes nothing is left
filter_none : {X : Type 0} → (f : X → Bool) (xs : List X) → ((t : X) → Contains xs t → f t ≡ false) → filter f xs ≡ []
filter_none f [] s = refl
filter_none f (x ∷ xs) s = filter_no f x xs (s x (contains_here x xs)) ∙ filter_none f xs (λ t m. s t (contains_there x xs t m))

-- where all pass all is left
pub filter_full : {X : Type 0} → (f : X → Bool) (xs : List X) → ((t : X) → Contains xs t → f t ≡ true) → filter f xs ≡ xs
filter_full f [] s = refl
filter_full f (x ∷ xs) s = filter_yes f x xs (s x (contains_here x xs)) ∙ ap (λ l. x ∷ l) (filter_full f xs (λ t m. s t (contains_there x xs t m)))

-- the first is no later member
head_apart : (x : Identifier) (xs : List Identifier) (t : Identifier) → Distinct (x ∷ xs) → Contains xs t → x ≢ t
head_apart x xs t d m = All-contains (λ y. x ≢ y) xs t (all_pairs_head (λ a b. a ≢ b) x xs d) m

-- of distinct members one is s
pub filter_one : (xs : List Identifier) (s : Identifier) → Distinct xs → Contains xs s → filter (λ t. id_eq t s) xs ≡ s ∷ []
filter_one [] s d m = absurd (contains_none s m)
filter_one (x ∷ xs) s d m =
    elim (cases_id x s) [
      | inl e ↦ filter_yes (λ t. id_eq t s) x xs (eq-id_eq x s e)
          ∙ (λ i. e i ∷ filter_none (λ t. id_eq t s) xs (λ t k. ne-id_eq t s (λ j. head_apart x xs t d k (e ∙ sym j))) i)
      | inr n ↦ filter_no (λ t. id_eq t s) x xs (ne-id_eq x s n)
          ∙ filter_one xs s (all_pairs_tail (λ a b. a ≢ b) x xs d) (elim (contains_cases x xs s m) [ inl e ↦ absurd (n e) | inr k ↦ k ])
    ]

-- another member
abbrev pub is_other : Identifier → Identifier → Bool
is_other s t = not (id_eq t s)

-- a list of distinct members without s, which stands at k
pub filter_out : (xs : List Identifier) (k : ℕ) (s : Identifier) → Distinct xs → slice_get xs k ≡ Some s → filter (is_other s) xs ≡ take k xs ++ drop (suc k) xs
filter_out [] k s d e = cc
filter_out (x ∷ xs) zero s d e =
    let x_is : x ≡ s = cc in
    filter_no (is_other s) x xs (ap not (eq-id_eq x s x_is))
    ∙ filter_full (is_other s) xs (λ t m. ap not (ne-id_eq t s (λ j. head_apart x xs t d m (x_is ∙ sym j))))
filter_out (x ∷ xs) (suc k) s d e =
    filter_yes (is_other s) x xs (ap not (ne-id_eq x s (head_apart x xs s d (get_in xs k s e))))
    ∙ ap (λ l. x ∷ l) (filter_out xs k s (all_pairs_tail (λ a b. a ≢ b) x xs d) e)

-- where a list of distinct members has one
pub index_once : (front : List Identifier) (t : Identifier) (back : List Identifier) (i : ℕ) → Distinct (front ++ t ∷ back) → slice_get (front ++ t ∷ back) i ≡ Some t
    → i ≡ length front
index_once [] t back zero d e = refl
index_once [] t back (suc i) d e = absurd (head_apart t back t d (get_in back i t e) refl)
index_once (x ∷ front) t back zero d e = let x_is : x ≡ t = cc in absurd (head_apart x (front ++ t ∷ back) t d (contains_middle front t back) x_is)
index_once (x ∷ front) t back (suc i) d e = let k = index_once front t back i (all_pairs_tail (λ a b. a ≢ b) x (front ++ t ∷ back) d) e in ap suc k

-- a place within a list has a member
pub get_some : (xs : List Identifier) (k : ℕ) → k < length xs → (x : Identifier) × (slice_get xs k ≡ Some x)
get_some [] k l = absurd (omega (arith, l))
get_some (x ∷ xs) zero l = (x, refl)
get_some (x ∷ xs) (suc k) l = get_some xs k (omega (arith, l))

-- one member less
pub length-out : (xs : List Identifier) (k : ℕ) (s : Identifier) → slice_get xs k ≡ Some s → length xs ≡ suc (length (take k xs ++ drop (suc k) xs))
length-out [] k s e = cc
length-out (x ∷ xs) zero s e = omega arith
length-out (x ∷ xs) (suc k) s e = let n = length-out xs k s e in omega (arith, n)

-- distinct members of a list are no more than it has
pub within_length : (xs ys : List Identifier) → Distinct xs → ((x : Identifier) → Contains xs x → Contains ys x) → length xs ≤ length ys
within_length [] ys d f = omega arith
within_length (x ∷ xs) ys d f =
    let c = split_member ys x (f x (contains_here x xs)) in
    let rest : (z : Identifier) → Contains xs z → Contains (c.0 ++ c.1) z = λ z m.
    elim (contains_middle_cases c.0 x c.1 z (subst (λ l. Contains l z) c.2 (f z (contains_there x xs z m)))) [
      | inl e ↦ absurd (head_apart x xs z d m e)
      | inr k ↦ k
    ] in
    let l = within_length xs (c.0 ++ c.1) (all_pairs_tail (λ a b. a ≢ b) x xs d) rest in
    let n : length ys ≡ length (c.0 ++ x ∷ c.1) = ap length c.2 in
    omega (arith, l, n, length-append c.0 c.1, length-append c.0 (x ∷ c.1))

-- what follows an origin is a member
head_in : (xs : List Identifier) (r : Identifier) → first_after xs ≡ Some r → Contains xs r
head_in [] r e = cc
head_in (x ∷ xs) r e = let d : x ≡ r = cc in subst (Contains (x ∷ xs)) d (contains_here x xs)

pub following_in : (xs : List Identifier) (l : Option Identifier) (r : Identifier) → following xs l ≡ Some r → Contains xs r
following_in xs None r e = head_in xs r e
following_in [] (Some l) r e = cc
following_in (x ∷ xs) (Some l) r e =
    elim (cases_Bool (id_eq x l)) [
      | inl k ↦ contains_there x xs r (head_in xs r (sym (ap (λ b. if b then first_after xs else following xs (Some l)) k) ∙ e))
      | inr k ↦ contains_there x xs r (following_in xs (Some l) r (sym (ap (λ b. if b then first_after xs else following xs (Some l)) k) ∙ e))
    ]

-- a list made of parts
module _ {X Y : Type 0} (f : X → List Y) where
  pub contains_parts : (xs : List X) (x : X) (y : Y) → Contains xs x → Contains (f x) y → Contains (flat_map f xs) y
  contains_parts [] x y m k = absurd (contains_none x m)
  contains_parts (z ∷ xs) x y m k =
      elim (contains_cases z xs x m) [
        | inl e ↦ Contains-append_left (f z) (flat_map f xs) y (subst (λ w. Contains (f w) y) (sym e) k)
        | inr n ↦ Contains-append_right (f z) (flat_map f xs) y (contains_parts xs x y n k)
      ]

  pub contains_parts_from : (xs : List X) (y : Y) → Contains (flat_map f xs) y → (x : X) × Contains xs x × Contains (f x) y
  contains_parts_from [] y m = absurd (contains_none y m)
  contains_parts_from (z ∷ xs) y m =
      elim (Contains-append_cases (f z) (flat_map f xs) y m) [
        | inl k ↦ (z, contains_here z xs, k)
        | inr k ↦ let r = contains_parts_from xs y k in (r.0, contains_there z xs r.0 r.1, r.2)
      ]

  pub parts-append : (xs ys : List X) → flat_map f (xs ++ ys) ≡ flat_map f xs ++ flat_map f ys
  parts-append [] ys = refl
  parts-append (x ∷ xs) ys = ap (λ l. f x ++ l) (parts-append xs ys) ∙ sym (append_assoc (f x) (flat_map f xs) (flat_map f ys))

  -- parts stand in the order of what they are parts of
  pub parts_in_order : (R : X → X → Type 0) (p : Y → X) → ((x : X) (y : Y) → Contains (f x) y → p y ≡ x) → ((x : X) → AllPairs (λ y z. R (p y) (p z)) (f x))
      → (xs : List X) → AllPairs R xs → AllPairs (λ y z. R (p y) (p z)) (flat_map f xs)
  parts_in_order R p at inner [] o = all_pairs_nil (λ y z. R (p y) (p z))
  parts_in_order R p at inner (x ∷ xs) o =
      let S : Y → Y → Type 0 = λ y z. R (p y) (p z) in
      all_pairs_append S (f x) (flat_map f xs) (inner x) (parts_in_order R p at inner xs (all_pairs_tail R x xs o))
      (all_from_contains (λ y. All (S y) (flat_map f xs)) (f x) (λ y k.
      all_from_contains (S y) (flat_map f xs) (λ z j.
      let r = contains_parts_from xs z j in
      subst (λ a. R a (p z)) (sym (at x y k)) (subst (R x) (sym (at r.0 z r.2)) (All-contains (R x) xs r.0 (all_pairs_head R x xs o) r.1)))))

-- parts that are the same at each member
pub parts_same : {X Y : Type 0} → (f g : X → List Y) (xs : List X) → ((x : X) → Contains xs x → f x ≡ g x) → flat_map f xs ≡ flat_map g xs
parts_same f g [] s = refl
parts_same f g (x ∷ xs) s =
    let a = s x (contains_here x xs) in
    let b = parts_same f g xs (λ y m. s y (contains_there x xs y m)) in
    λ i. a i ++ b i

-- a filter of parts
pub filter-parts : {X Y : Type 0} → (q : Y → Bool) (f : X → List Y) (xs : List X) → filter q (flat_map f xs) ≡ flat_map (λ x. filter q (f x)) xs
filter-parts q f [] = refl
filter-parts q f (x ∷ xs) = filter-append q (f x) (flat_map f xs) ∙ ap (λ l. filter q (f x) ++ l) (filter-parts q f xs)
