-- A list cut in two at a place of what is kept of it.
use Rattle.origin_model.proofs.Words.{All, All-contains, All-head, All-tail, AllPairs, Bool, Contains, Contains-append_left, Identifier, List, None, Op, Option, Some, []}
use Rattle.origin_model.proofs.Words.{all_pairs_head, all_pairs_tail, ap, arith, cases_Bool, cases_origin, contains_here, contains_middle, contains_there, drop, false, filter}
use Rattle.origin_model.proofs.Words.{id_eq, id_eq-refl, if◌then◌else◌, inl, inr, is_hidden, length, ne-id_eq, not, refl, slice_get, subst, suc, sym, take, true, zero, ℕ, ◌++◌}
use Rattle.origin_model.proofs.Words.{◌∙◌, ◌∷◌, ◌≡◌, ◌≢◌, ◌≤◌}
use Rattle.origin_model.proofs.order.{Stands, filter_no, filter_yes, no_member, not_nil}
use Rattle.origin_model.specs.edits.Landing.{following, first_after}
use Rattle.fugue_ids.specs.Listed.{last_before}
use Rattle.origin_model.specs.edits.Edits.{in_front}

-- a list's end and its head
pub end_split : (xs : List Identifier) (l : Identifier) → last_before xs ≡ Some l → (f : List Identifier) × (xs ≡ f ++ l ∷ [])
end_split [] l e = cc
end_split (x ∷ []) l e = let d : x ≡ l = cc in ([], λ i. d i ∷ [])
end_split (x ∷ y ∷ ys) l e = let r = end_split (y ∷ ys) l e in (x ∷ r.0, λ i. x ∷ r.1 i)

-- a list without a last member is empty
pub end_none : (xs : List Identifier) → last_before xs ≡ None → xs ≡ []
end_none [] e = refl
end_none (x ∷ []) e = cc
end_none (x ∷ y ∷ ys) e = absurd (not_nil [] y ys (sym (end_none (y ∷ ys) e)))

-- a list, by its first member
pub head_split : (xs : List Identifier) (r : Identifier) → first_after xs ≡ Some r → (f : List Identifier) × (xs ≡ r ∷ f)
head_split [] r e = cc
head_split (x ∷ xs) r e = let d : x ≡ r = cc in (xs, λ i. d i ∷ xs)

-- a list without a first member is empty
pub head_none : (xs : List Identifier) → first_after xs ≡ None → xs ≡ []
head_none [] e = refl
head_none (x ∷ xs) e = cc

-- the last of a list that has it at its end
pub end_push : (f : List Identifier) (l : Identifier) → last_before (f ++ l ∷ []) ≡ Some l
end_push [] l = refl
end_push (e ∷ []) l = refl
end_push (e ∷ g ∷ f) l = end_push (g ∷ f) l

-- the front ends in the member of the kept list that is in front of the place
abbrev EndsAt : List Identifier → List Identifier → ℕ → Type 0
EndsAt front kept zero = front ≡ []
EndsAt front kept (suc k) = (f : List Identifier) × (l : Identifier) × (front ≡ f ++ l ∷ []) × (slice_get kept k ≡ Some l)

-- so it ends in the left origin
ends_origin : (front kept : List Identifier) (at : ℕ) → EndsAt front kept at → last_before front ≡ in_front kept at
ends_origin front kept zero e = ap last_before e
ends_origin front kept (suc k) e = ap last_before e.2 ∙ end_push e.0 e.1 ∙ sym e.3

pub record Split (keep : Identifier → Bool) (o : List Identifier) (at : ℕ) : Type 0 where
  pub front : List Identifier
  pub back : List Identifier
  pub whole : o ≡ front ++ back
  pub kept_front : filter keep front ≡ take at (filter keep o)
  pub kept_back : filter keep back ≡ drop at (filter keep o)
  pub ends : EndsAt front (filter keep o) at

-- one more kept member in front
ends_kept : (keep : Identifier → Bool) (e : Identifier) (front kept : List Identifier) (k : ℕ) → EndsAt front kept k → EndsAt (e ∷ front) (e ∷ kept) (suc k)
ends_kept keep e front kept zero d = ([], e, ap (λ f. e ∷ f) d, refl)
ends_kept keep e front kept (suc k) d = (e ∷ d.0, d.1, ap (λ f. e ∷ f) d.2, d.3)

-- a list is cut at each place of what is kept
pub split : (keep : Identifier → Bool) (o : List Identifier) (at : ℕ) → at ≤ length (filter keep o) → Split keep o at
split keep o zero l = record { front = []; back = o; whole = refl; kept_front = refl; kept_back = refl; ends = refl }
split keep [] (suc k) l = absurd (omega arith)
split keep (e ∷ es) (suc k) l =
    elim (cases_Bool (keep e)) [
      | inl t ↦
          let eq : filter keep (e ∷ es) ≡ e ∷ filter keep es = filter_yes keep e es t in
          let l' : suc k ≤ length (e ∷ filter keep es) = subst (λ z. suc k ≤ length z) eq l in
          let s = split keep es k (omega (arith, l')) in
          record {
            front = e ∷ s.front;
            back = s.back;
            whole = ap (λ z. e ∷ z) s.whole;
            kept_front = filter_yes keep e s.front t ∙ ap (λ z. e ∷ z) s.kept_front ∙ ap (take (suc k)) (sym eq);
            kept_back = s.kept_back ∙ ap (drop (suc k)) (sym eq);
            ends = subst (λ z. EndsAt (e ∷ s.front) z (suc k)) (sym eq) (ends_kept keep e s.front (filter keep es) k s.ends);
          }
      | inr t ↦
          let eq : filter keep (e ∷ es) ≡ filter keep es = filter_no keep e es t in
          let s = split keep es (suc k) (subst (λ z. suc k ≤ length z) eq l) in
          record {
            front = e ∷ s.front;
            back = s.back;
            whole = ap (λ z. e ∷ z) s.whole;
            kept_front = filter_no keep e s.front t ∙ s.kept_front ∙ ap (take (suc k)) (sym eq);
            kept_back = s.kept_back ∙ ap (drop (suc k)) (sym eq);
            ends = subst (λ z. EndsAt (e ∷ s.front) z (suc k)) (sym eq) (e ∷ s.ends.0, s.ends.1, ap (λ z. e ∷ z) s.ends.2, s.ends.3);
          }
    ]

-- the front ends in the left origin
pub split_origin : (keep : Identifier → Bool) (o : List Identifier) (at : ℕ) (s : Split keep o at) → last_before s.front ≡ in_front (filter keep o) at
split_origin keep o at s = ends_origin s.front (filter keep o) at s.ends

-- what follows the last of the front is the first after it, in a list of distinct members
abbrev pub Distinct : List Identifier → Type 0
Distinct xs = AllPairs (λ x y. x ≢ y) xs

-- after the first member
follow-own : (e : Identifier) (es : List Identifier) → following (e ∷ es) (Some e) ≡ first_after es
follow-own e es = ap (λ b. if b then first_after es else following es (Some e)) (id_eq-refl e)

-- after a later member
follow-other : (e l : Identifier) (es : List Identifier) → id_eq e l ≡ false → following (e ∷ es) (Some l) ≡ following es (Some l)
follow-other e l es k = ap (λ b. if b then first_after es else following es (Some l)) k

-- the last member is a member
pub end_in : (xs : List Identifier) (l : Identifier) → last_before xs ≡ Some l → Contains xs l
end_in xs l e = let s = end_split xs l e in subst (λ c. Contains c l) (sym s.1) (contains_middle s.0 l [])

-- what follows the end of the front is the first of the rest
pub following_end : (front back : List Identifier) → Distinct (front ++ back) → following (front ++ back) (last_before front) ≡ first_after back
following_end [] back d = refl
following_end (e ∷ []) back d = follow-own e back
following_end (e ∷ f ∷ es) back d =
    let rest : List Identifier = f ∷ es in
    elim (cases_origin (last_before rest)) [
      | inl n ↦ absurd (no_member rest f (end_none rest n) (contains_here f es))
      | inr m ↦
          let apart : e ≢ m.0 = All-contains (λ y. e ≢ y) (rest ++ back) m.0 (all_pairs_head (λ x y. x ≢ y) e (rest ++ back) d)
          (Contains-append_left rest back m.0 (end_in rest m.0 m.1)) in
          ap (following (e ∷ rest ++ back)) m.1 ∙ follow-other e m.0 (rest ++ back) (ne-id_eq e m.0 apart) ∙ ap (following (rest ++ back)) (sym m.1)
          ∙ following_end (f ∷ es) back (all_pairs_tail (λ x y. x ≢ y) e (rest ++ back) d)
    ]

-- an origin that stands in a list stands in a longer one
stands_cons : (e : Identifier) (xs : List Identifier) (o : Option Identifier) → Stands o xs → Stands o (e ∷ xs)
stands_cons e xs None s = tt
stands_cons e xs (Some x) s = contains_there e xs x s

-- the end of a front stands in the list
pub end_stands : (front back : List Identifier) → Stands (last_before front) (front ++ back)
end_stands [] back = tt
end_stands (e ∷ []) back = contains_here e back
end_stands (e ∷ f ∷ es) back = stands_cons e (f ∷ es ++ back) (last_before (f ∷ es)) (end_stands (f ∷ es) back)

-- the first of a rest stands in the list
pub head_stands : (front back : List Identifier) → Stands (first_after back) (front ++ back)
head_stands [] [] = tt
head_stands [] (b ∷ back) = contains_here b back
head_stands (e ∷ es) back = stands_cons e (es ++ back) (first_after back) (head_stands es back)

-- a member at a place is a member
pub get_in : (xs : List Identifier) (k : ℕ) (x : Identifier) → slice_get xs k ≡ Some x → Contains xs x
get_in [] k x e = cc
get_in (y ∷ xs) zero x e = let d : y ≡ x = cc in subst (Contains (y ∷ xs)) d (contains_here y xs)
get_in (y ∷ xs) (suc k) x e = contains_there y xs x (get_in xs k x e)

-- a list is its members before the place, the one there, and those after
pub get_split : (xs : List Identifier) (k : ℕ) (x : Identifier) → slice_get xs k ≡ Some x → xs ≡ take k xs ++ x ∷ drop (suc k) xs
get_split [] k x e = cc
get_split (y ∷ xs) zero x e = let d : y ≡ x = cc in ap (λ z. z ∷ xs) d
get_split (y ∷ xs) (suc k) x e = ap (λ z. y ∷ z) (get_split xs k x e)

-- a filter that all pass
pub filter_all : (g : Identifier → Bool) (xs : List Identifier) → All (λ x. g x ≡ true) xs → filter g xs ≡ xs
filter_all g [] e = refl
filter_all g (x ∷ xs) e = filter_yes g x xs (All-head (λ y. g y ≡ true) x xs e) ∙ ap (λ z. x ∷ z) (filter_all g xs (All-tail (λ y. g y ≡ true) x xs e))

-- no Delete names the element
abbrev pub is_shown : List Op → Identifier → Bool
is_shown h x = not (is_hidden h x)
