-- A list of distinct elements, parted at some of them.
use Rattle.std.proofs.Common.{List, [], ap, append_assoc, false, inl, inr, refl, subst, sym, ◌++◌, ◌∙◌, ◌∷◌, ◌≡◌, ◌≢◌}
use Rattle.std.specs.List.{All, AllPairs, Contains}
use Rattle.std.specs.Prelude.{None, Option, Some, if◌then◌else◌}
use Rattle.std.proofs.lemmas.Bool.{cases_Bool}
use Rattle.std.proofs.lemmas.List.{append-nil, map-append}
use Rattle.std.proofs.lemmas.List.Elements.{All-cons, All-contains, All-head, All-nil, All-tail, Contains-append_left, Contains-append_right}
use Rattle.fugue_ids.specs.Identifiers.{Identifier, id_eq, origin_eq}
use Rattle.fugue_ids.specs.Keys.{Keyed, between, first_id, front_of, ids, last_id, rest_of}
use Rattle.fugue_ids.specs.Listed.{HoldsOrigin}
use Rattle.fugue_ids.proofs.IdentifierLemmas.{eq-id_eq, ne-id_eq}
use Rattle.fugue_ids.proofs.ListLemmas.{all_pairs_before, all_pairs_after, all_pairs_head, all_pairs_tail, contains_cases, contains_here, contains_none, contains_there}

-- what stands after an element that is in the list once
pub rest_at : (front back : List Keyed) (e : Keyed) → All (λ z. z.id ≢ e.id) front → rest_of (Some e.id) (front ++ e ∷ back) ≡ back
rest_at [] back e f = ap (λ b. if b then back else rest_of (Some e.id) back) (eq-id_eq e.id e.id refl)
rest_at (a ∷ front) back e f =
    ap (λ b. if b then front ++ e ∷ back else rest_of (Some e.id) (front ++ e ∷ back)) (ne-id_eq a.id e.id (All-head (λ z. z.id ≢ e.id) a front f))
    ∙ rest_at front back e (All-tail (λ z. z.id ≢ e.id) a front f)

-- what stands before it
pub front_at : (front back : List Keyed) (e : Keyed) → All (λ z. z.id ≢ e.id) front → front_of (Some e.id) (front ++ e ∷ back) ≡ front
front_at [] back e f = ap (λ b. if b then [] else e ∷ front_of (Some e.id) back) (eq-id_eq e.id e.id refl)
front_at (a ∷ front) back e f =
    ap (λ b. if b then [] else a ∷ front_of (Some e.id) (front ++ e ∷ back)) (ne-id_eq a.id e.id (All-head (λ z. z.id ≢ e.id) a front f))
    ∙ ap (λ t. a ∷ t) (front_at front back e (All-tail (λ z. z.id ≢ e.id) a front f))

-- no identifier comes twice
abbrev pub Apart : List Keyed → Type 0
Apart es = AllPairs (λ x y. x ≢ y) (ids es)

-- the first element is none of those after it
pub apart_first : (e : Keyed) (es : List Keyed) (x : Identifier) → Apart (e ∷ es) → Contains (ids es) x → e.id ≢ x
apart_first e es x a c = All-contains (λ y. e.id ≢ y) (ids es) x (all_pairs_head (λ x y. x ≢ y) e.id (ids es) a) c

-- those after it are distinct
pub apart_rest : (e : Keyed) (es : List Keyed) → Apart (e ∷ es) → Apart es
apart_rest e es a = all_pairs_tail (λ x y. x ≢ y) e.id (ids es) a

-- an element in the midst
pub there : (fs : List Keyed) (e : Keyed) (bs : List Keyed) → Contains (ids (fs ++ e ∷ bs)) e.id
there [] e bs = contains_here e.id (ids bs)
there (f ∷ fs) e bs = contains_there f.id (ids (fs ++ e ∷ bs)) e.id (there fs e bs)

-- the elements before one are others
pub others : (fs bs : List Keyed) (e : Keyed) → Apart (fs ++ e ∷ bs) → All (λ z. z.id ≢ e.id) fs
others [] bs e a = All-nil (λ z. z.id ≢ e.id)
others (f ∷ fs) bs e a =
    All-cons (λ z. z.id ≢ e.id) f fs (apart_first f (fs ++ e ∷ bs) e.id a (there fs e bs)) (others fs bs e (apart_rest f (fs ++ e ∷ bs) a))

-- an element of the list: the list parted there
pub record At (es : List Keyed) (x : Identifier) : Type 0 where
  pub front : List Keyed
  pub here : Keyed
  pub back : List Keyed
  pub whole : es ≡ front ++ here ∷ back
  pub is : here.id ≡ x

pub part_at : (es : List Keyed) (x : Identifier) → Contains (ids es) x → At es x
part_at [] x c = absurd (contains_none x c)
part_at (e ∷ es) x c =
    elim (contains_cases e.id (ids es) x c) [
      | inl d ↦ record { front = []; here = e; back = es; whole = refl; is = d }
      | inr d ↦ let r = part_at es x d in record { front = e ∷ r.front; here = r.here; back = r.back; whole = ap (λ t. e ∷ t) r.whole; is = r.is }
    ]

-- the list ends with the element, or is empty
abbrev pub EndsWith : Option Identifier → List Keyed → Type 0
EndsWith None es = es ≡ []
EndsWith (Some x) es = (fs : List Keyed) × (e : Keyed) × (es ≡ fs ++ e ∷ []) × (e.id ≡ x)

-- the list begins with the element, or is empty
abbrev pub BeginsWith : Option Identifier → List Keyed → Type 0
BeginsWith None es = es ≡ []
BeginsWith (Some x) es = (e : Keyed) × (bs : List Keyed) × (es ≡ e ∷ bs) × (e.id ≡ x)

-- the list in three: the part between the two elements, and what stands before and after it
pub record InThree (es : List Keyed) (from to : Option Identifier) : Type 0 where
  pub front : List Keyed
  pub mid : List Keyed
  pub back : List Keyed
  pub whole : es ≡ front ++ (mid ++ back)
  pub ends : EndsWith from front
  pub begins : BeginsWith to back

-- a list whose front ends with an element, and what stands after that
rest_is : (es : List Keyed) (from : Option Identifier) (front more : List Keyed) → Apart es → es ≡ front ++ more → EndsWith from front → rest_of from es ≡ more
rest_is es None front more a w e = w ∙ ap (λ f. f ++ more) e
rest_is es (Some x) front more a w (fs, e, is, same) =
    let whole : es ≡ fs ++ e ∷ more = w ∙ ap (λ f. f ++ more) is ∙ append_assoc fs (e ∷ []) more in
    ap (λ z. rest_of (Some z) es) (sym same) ∙ ap (rest_of (Some e.id)) whole ∙ rest_at fs more e (others fs more e (subst Apart whole a))

-- a list whose back begins with an element, and what stands before that
pub front_is : (es : List Keyed) (to : Option Identifier) (more back : List Keyed) → Apart es → es ≡ more ++ back → BeginsWith to back → front_of to es ≡ more
front_is es None more back a w b = w ∙ ap (λ t. more ++ t) b ∙ append-nil more
front_is es (Some y) more back a w (e, bs, is, same) =
    let whole : es ≡ more ++ e ∷ bs = w ∙ ap (λ t. more ++ t) is in
    ap (λ z. front_of (Some z) es) (sym same) ∙ ap (front_of (Some e.id)) whole ∙ front_at more bs e (others more bs e (subst Apart whole a))

-- no element stands in both of two parts
apart_across : (xs ys : List Keyed) (x : Identifier) → Apart (xs ++ ys) → Contains (ids xs) x → Contains (ids ys) x → ⊥
apart_across [] ys x a c d = contains_none x c
apart_across (e ∷ es) ys x a c d =
    elim (contains_cases e.id (ids es) x c) [
      | inl at ↦ apart_first e (es ++ ys) x a (subst (λ l. Contains l x) (sym (map-append (λ z. z.id) es ys)) (Contains-append_right (ids es) (ids ys) x d)) at
      | inr behind ↦ apart_across es ys x (apart_rest e (es ++ ys) a) behind d
    ]

-- the front and the back of distinct elements
pub apart_front : (xs ys : List Keyed) → Apart (xs ++ ys) → Apart xs
apart_front xs ys a = all_pairs_before (λ x y. x ≢ y) (ids xs) (ids ys) (subst (AllPairs (λ x y. x ≢ y)) (map-append (λ z. z.id) xs ys) a)

pub apart_back : (xs ys : List Keyed) → Apart (xs ++ ys) → Apart ys
apart_back xs ys a = all_pairs_after (λ x y. x ≢ y) (ids xs) (ids ys) (subst (AllPairs (λ x y. x ≢ y)) (map-append (λ z. z.id) xs ys) a)

-- members of parts are members
pub in_front : (xs ys : List Keyed) (x : Identifier) → Contains (ids xs) x → Contains (ids (xs ++ ys)) x
in_front xs ys x c = subst (λ l. Contains l x) (sym (map-append (λ z. z.id) xs ys)) (Contains-append_left (ids xs) (ids ys) x c)

pub in_back : (xs ys : List Keyed) (x : Identifier) → Contains (ids ys) x → Contains (ids (xs ++ ys)) x
in_back xs ys x c = subst (λ l. Contains l x) (sym (map-append (λ z. z.id) xs ys)) (Contains-append_right (ids xs) (ids ys) x c)

-- the list in two, after an origin
record Behind (es : List Keyed) (from : Option Identifier) : Type 0 where
  pub front : List Keyed
  pub more : List Keyed
  pub whole : es ≡ front ++ more
  pub ends : EndsWith from front

after_at : (es : List Keyed) (from : Option Identifier) → HoldsOrigin (ids es) from → Behind es from
after_at es None c = record { front = []; more = es; whole = refl; ends = refl }
after_at es (Some x) c =
    let r = part_at es x c in
    record { front = r.front ++ r.here ∷ []; more = r.back; whole = r.whole ∙ sym (append_assoc r.front (r.here ∷ []) r.back); ends = (r.front, r.here, refl, r.is) }

-- the list in two, before an origin
record Before (es : List Keyed) (to : Option Identifier) : Type 0 where
  pub more : List Keyed
  pub back : List Keyed
  pub whole : es ≡ more ++ back
  pub begins : BeginsWith to back

before_at : (es : List Keyed) (to : Option Identifier) → HoldsOrigin (ids es) to → Before es to
before_at es None c = record { more = es; back = []; whole = sym (append-nil es); begins = refl }
before_at es (Some y) c =
    let r = part_at es y c in
    record { more = r.front; back = r.here ∷ r.back; whole = r.whole; begins = (r.here, r.back, refl, r.is) }

-- the list in three
pub in_three : (es : List Keyed) (from to : Option Identifier) → Apart es → HoldsOrigin (ids es) from → HoldsOrigin (ids (rest_of from es)) to → InThree es from to
in_three es from to a f t =
    let b = after_at es from f in
    let r : rest_of from es ≡ b.more = rest_is es from b.front b.more a b.whole b.ends in
    let d = before_at b.more to (subst (λ l. HoldsOrigin (ids l) to) r t) in
    record {
      front = b.front;
      mid = d.more;
      back = d.back;
      whole = b.whole ∙ ap (λ l. b.front ++ l) d.whole;
      ends = b.ends;
      begins = d.begins;
    }

-- what stands before the second element
pub front_three : (es : List Keyed) (from to : Option Identifier) (a : Apart es) (p : InThree es from to) → front_of to es ≡ p.front ++ p.mid
front_three es from to a p = front_is es to (p.front ++ p.mid) p.back a (p.whole ∙ sym (append_assoc p.front p.mid p.back)) p.begins

-- what stands after the first element
pub rest_three : (es : List Keyed) (from to : Option Identifier) (a : Apart es) (p : InThree es from to) → rest_of from es ≡ p.mid ++ p.back
rest_three es from to a p = rest_is es from p.front (p.mid ++ p.back) a p.whole p.ends

-- what stands between them
pub mid_three : (es : List Keyed) (from to : Option Identifier) (a : Apart es) (p : InThree es from to) → between from to es ≡ p.mid
mid_three es from to a p =
    front_is (rest_of from es) to p.mid p.back (subst Apart (sym (rest_three es from to a p)) (apart_back p.front (p.mid ++ p.back) (subst Apart p.whole a)))
    (rest_three es from to a p) p.begins

-- the first element of a list begins it
pub first_begins : (es : List Keyed) → BeginsWith (first_id es) es
first_begins [] = refl
first_begins (e ∷ es) = (e, es, refl, refl)

-- and is one of it
pub first_held : (es : List Keyed) → HoldsOrigin (ids es) (first_id es)
first_held [] = tt
first_held (e ∷ es) = contains_here e.id (ids es)

-- the last of two parts is that of the second, where that has any
pub last_after : (xs : List Keyed) (y : Keyed) (ys : List Keyed) → last_id (xs ++ y ∷ ys) ≡ last_id (y ∷ ys)
last_after [] y ys = refl
last_after (x ∷ []) y ys = refl
last_after (x ∷ z ∷ xs) y ys = last_after (z ∷ xs) y ys

pub last_tail : (xs ys : List Keyed) (y : Identifier) → last_id ys ≡ Some y → last_id (xs ++ ys) ≡ Some y
last_tail xs [] y e = cc
last_tail xs (z ∷ zs) y e = last_after xs z zs ∙ e

pub last_push : (es : List Keyed) (e : Keyed) → last_id (es ++ e ∷ []) ≡ Some e.id
last_push es e = last_after es e []

-- the first of two parts is that of the first, where that has any
pub first_front : (xs ys : List Keyed) (y : Identifier) → first_id xs ≡ Some y → first_id (xs ++ ys) ≡ Some y
first_front [] ys y e = cc
first_front (x ∷ xs) ys y e = e

-- the last of a list that ends with an element
pub last_ends : (es : List Keyed) (from : Option Identifier) → EndsWith from es → last_id es ≡ from
last_ends es None e = ap last_id e
last_ends es (Some x) (fs, e, is, same) = ap last_id is ∙ last_push fs e ∙ ap Some same

-- a list that has any has a last one
pub last_some : (y : Keyed) (ys : List Keyed) → (z : Identifier) × (last_id (y ∷ ys) ≡ Some z) × Contains (ids (y ∷ ys)) z
last_some y [] = (y.id, refl, contains_here y.id [])
last_some y (z ∷ zs) = let r = last_some z zs in (r.0, r.1, contains_there y.id (ids (z ∷ zs)) r.0 r.2)

-- an element after the front is not the one that the front ends with
pub not_last : (front mid : List Keyed) → Apart (front ++ mid) → (from : Option Identifier) (z : Identifier) → EndsWith from front → Contains (ids mid) z
    → origin_eq (Some z) from ≡ false
not_last front mid a None z e c = refl
not_last front mid a (Some x) z (fs, e, is, same) c =
    ne-id_eq z x (λ d. apart_across front mid z a (subst (λ l. Contains (ids l) z) (sym is) (subst (Contains (ids (fs ++ e ∷ []))) (same ∙ sym d) (there fs e []))) c)

-- an element before the back is not the one that the back begins with
pub not_first : (mid back : List Keyed) → Apart (mid ++ back) → (to : Option Identifier) (z : Identifier) → BeginsWith to back → Contains (ids mid) z
    → origin_eq (Some z) to ≡ false
not_first mid back a None z e c = refl
not_first mid back a (Some y) z (e, bs, is, same) c =
    ne-id_eq z y (λ d. apart_across mid back z a c (subst (λ l. Contains (ids l) z) (sym is) (subst (Contains (ids (e ∷ bs))) (same ∙ sym d) (contains_here e.id (ids bs)))))

-- what stands after an origin is held
rest_held : (x : Identifier) (es : List Keyed) (y : Identifier) → Contains (ids (rest_of (Some x) es)) y → Contains (ids es) y
rest_held x [] y c = c
rest_held x (e ∷ es) y c =
    contains_there e.id (ids es) y (elim (cases_Bool (id_eq e.id x)) [
      | inl t ↦ subst (λ b. Contains (ids (if b then es else rest_of (Some x) es)) y) t c
      | inr f ↦ rest_held x es y (subst (λ b. Contains (ids (if b then es else rest_of (Some x) es)) y) f c)
    ])

pub to_held : (es : List Keyed) (from to : Option Identifier) → HoldsOrigin (ids (rest_of from es)) to → HoldsOrigin (ids es) to
to_held es from None c = tt
to_held es None (Some y) c = c
to_held es (Some x) (Some y) c = rest_held x es y c
