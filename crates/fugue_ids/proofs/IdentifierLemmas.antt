-- The tests of identifiers and of origins tell whether they are equal.
use Rattle.std.specs.Prelude.{◌≡◌, ◌≢◌, ◌⊎◌, ◌<◌, ◌≤◌, zero, suc, true, false, List, [], ◌∷◌, length, Option, Some, None, refl}
use Rattle.std.specs.List.{AllPairs, Contains, insert}
use Rattle.std.specs.Ordering.{is_eq, nat_cmp, ordering_then}
use Rattle.std.specs.declared.cmp.Ordering.{Ordering}
use Rattle.std.specs.declared.cmp.Ordering.TheVariants.{Equal, Greater, Less}
use Rattle.std.proofs.Common.{ap, arith, get_or, inl, inr, nat_eq, subst, sym, ℕ, ◌&&◌, ◌∙◌}
use Rattle.std.proofs.lemmas.Bool.{and_from, and_parts, cases_Bool, eq-eqb, eqb-true, false_from_ne_true, false≢true, true≢false}
use Rattle.std.proofs.lemmas.Bool.Decides.{nat_tests}
use Rattle.std.proofs.lemmas.List.Sums.{passes_at_first, position_or_len_is}
use Rattle.fugue_ids.specs.Identifiers.{Identifier, id_cmp, id_eq, origin_eq}
use Rattle.fugue_ids.specs.Listed.{index_of}
use Rattle.fugue_ids.proofs.ListLemmas.{contains_none, contains_here, contains_there, contains_cases}

-- identifiers that pass the test are equal
pub id_eq-true : (a b : Identifier) → id_eq a b ≡ true → a ≡ b
id_eq-true a b h =
    let p = and_parts _ _ h in
    let e : a.replica ≡ b.replica = eqb-true _ _ p.0 in
    let f : a.counter ≡ b.counter = eqb-true _ _ p.1 in
    λ i. record { replica = e i; counter = f i }

-- an identifier passes the test with itself
pub id_eq-refl : (a : Identifier) → id_eq a a ≡ true
id_eq-refl a = and_from _ _ (eq-eqb a.replica a.replica refl) (eq-eqb a.counter a.counter refl)

-- equal identifiers pass the test
pub eq-id_eq : (a b : Identifier) → a ≡ b → id_eq a b ≡ true
eq-id_eq a b e = subst (λ c. id_eq a c ≡ true) e (id_eq-refl a)

-- distinct identifiers fail the test
pub ne-id_eq : (a b : Identifier) → a ≢ b → id_eq a b ≡ false
ne-id_eq a b n = false_from_ne_true _ (λ e. n (id_eq-true a b e))

-- identifiers that fail the test are distinct
pub id_eq-false : (a b : Identifier) → id_eq a b ≡ false → a ≢ b
id_eq-false a b h e = true≢false (sym (eq-id_eq a b e) ∙ h)

-- two identifiers are equal or distinct
pub cases_id : (a b : Identifier) → (a ≡ b) ⊎ (a ≢ b)
cases_id a b = elim (cases_Bool (id_eq a b)) [ inl e ↦ inl (id_eq-true a b e) | inr e ↦ inr (id_eq-false a b e) ]

-- the comparison of two numbers, as a test
nat_cmp-eq : (a b : ℕ) → is_eq (nat_cmp a b) ≡ nat_eq a b
nat_cmp-eq a b = grind (arith, nat_tests)

-- a number compares as equal with itself, and with no other
pub nat_at-same : (a : ℕ) → is_eq (nat_cmp a a) ≡ true
nat_at-same a = nat_cmp-eq a a ∙ eq-eqb a a refl

pub nat_at-other : (a b : ℕ) → b ≢ a → is_eq (nat_cmp a b) ≡ false
nat_at-other a b n = grind (arith, nat_tests)

-- the second of two comparisons decides where the first tells nothing apart
then-eq : (o q : Ordering) → is_eq (ordering_then o q) ≡ (is_eq o && is_eq q)
then-eq Less q = refl
then-eq Equal q = refl
then-eq Greater q = refl

-- identifiers compare as equal where they are
pub id_cmp-eq : (a b : Identifier) → is_eq (id_cmp a b) ≡ id_eq a b
id_cmp-eq a b =
    then-eq (nat_cmp a.replica b.replica) (nat_cmp a.counter b.counter)
    ∙ (λ i. nat_cmp-eq a.replica b.replica i && nat_cmp-eq a.counter b.counter i)

-- an identifier compares as equal with itself
pub id_at-same : (a : Identifier) → is_eq (id_cmp a a) ≡ true
id_at-same a = id_cmp-eq a a ∙ id_eq-refl a

-- and with no other
pub id_at-other : (a b : Identifier) → b ≢ a → is_eq (id_cmp a b) ≡ false
id_at-other a b n = id_cmp-eq a b ∙ ne-id_eq a b (λ e. n (sym e))

-- origins that pass the test are equal
pub origin_eq-true : (a b : Option Identifier) → origin_eq a b ≡ true → a ≡ b
origin_eq-true None None h = refl
origin_eq-true None (Some b) h = absurd (false≢true h)
origin_eq-true (Some a) None h = absurd (false≢true h)
origin_eq-true (Some a) (Some b) h = ap Some (id_eq-true a b h)

-- an origin passes the test with itself
pub origin_eq-refl : (a : Option Identifier) → origin_eq a a ≡ true
origin_eq-refl None = refl
origin_eq-refl (Some a) = id_eq-refl a

-- an origin is absent or an identifier
pub cases_origin : (o : Option Identifier) → (o ≡ None) ⊎ ((x : Identifier) × (o ≡ Some x))
cases_origin None = inl refl
cases_origin (Some x) = inr (x, refl)

-- what two present origins have in common
pub same_some : (a b : Identifier) → Some a ≡ Some b → id_eq a b ≡ true
same_some a b e = let d : a ≡ b = cc in eq-id_eq a b d

-- a present origin is not absent
pub not_some : (i : Identifier) → Some i ≡ None → ⊥
not_some i e = cc

-- the first of a list stands at its start
pub index_of-here : (e : Identifier) (es : List Identifier) (x : Identifier) → x ≡ e → index_of (e ∷ es) x ≡ 0
index_of-here e es x same = rw (eq-id_eq x e same) refl

-- any other stands one further than after it
pub index_of-there : (e : Identifier) (es : List Identifier) (x : Identifier) → x ≢ e → index_of (e ∷ es) x ≡ suc (index_of es x)
index_of-there e es x other = rw (ne-id_eq x e other) (omega arith)

pub index_of-within : (list : List Identifier) (x : Identifier) → index_of list x ≤ length list
index_of-within [] x = omega arith
index_of-within (e ∷ es) x = elim (cases_id x e) [
  | inl same ↦ rw (index_of-here e es x same) (omega arith)
  | inr other ↦ rw (index_of-there e es x other) (omega (arith, index_of-within es x))
]

-- a member stands below the length
pub contains-below : (list : List Identifier) (x : Identifier) → Contains list x → index_of list x < length list
contains-below [] x c = absurd (contains_none x c)
contains-below (e ∷ es) x c = elim (cases_id x e) [
  | inl same ↦ rw (index_of-here e es x same) (omega arith)
  | inr other ↦ rw (index_of-there e es x other) (elim (contains_cases e es x c) [
    | inl at ↦ absurd (other (sym at))
    | inr behind ↦ let below = contains-below es x behind in omega (arith, below)
  ])
]

-- and what stands below the length is a member
pub below-contains : (list : List Identifier) (x : Identifier) → index_of list x < length list → Contains list x
below-contains [] x below = absurd (omega (arith, below))
below-contains (e ∷ es) x below = elim (cases_id x e) [
  | inl same ↦ subst (Contains (e ∷ es)) (sym same) (contains_here e es)
  | inr other ↦ contains_there e es x (below-contains es x (omega (arith, index_of-there e es x other, below)))
]

-- where all are distinct, the k-th stands at k
pub index_of-at : (list : List Identifier) (k : ℕ) (d : Identifier) → AllPairs (λ x y. x ≢ y) list → k < length list → index_of list (get_or list k d) ≡ k
index_of-at list k d apart within =
    position_or_len_is (id_eq (get_or list k d)) list k d (omega (arith, within))
    (λ j before. ne-id_eq (get_or list k d) (get_or list j d) (λ e. apart j k d before within (sym e)))
    (λ _. id_eq-refl (get_or list k d))

-- what stands at the index of a member is that member
pub at-index_of : (list : List Identifier) (x d : Identifier) → Contains list x → get_or list (index_of list x) d ≡ x
at-index_of list x d c = sym (id_eq-true x _ (passes_at_first (id_eq x) list d (contains-below list x c)))

-- no two have the index of a member
pub same-index_of : (list : List Identifier) (x y : Identifier) → Contains list x → index_of list x ≡ index_of list y → x ≡ y
same-index_of list x y c same =
    let d : Contains list y = below-contains list y (subst (λ k. k < length list) same (contains-below list x c)) in
    sym (at-index_of list x x c) ∙ ap (λ k. get_or list k x) same ∙ at-index_of list y x d

-- a new one stands where it was inserted
pub index_of-insert : (list : List Identifier) (k : ℕ) (x : Identifier) → k ≤ length list → (Contains list x → ⊥) → index_of (insert list k x) x ≡ k
index_of-insert list zero x within new = index_of-here x list x refl
index_of-insert [] (suc k) x within new = absurd (omega (arith, within))
index_of-insert (e ∷ es) (suc k) x within new =
    index_of-there e (insert es k x) x (λ d. new (subst (Contains (e ∷ es)) (sym d) (contains_here e es)))
    ∙ ap suc (index_of-insert es k x (omega (arith, within)) (λ c. new (contains_there e es x c)))
