-- The elements of a list whose keys are at most a given one, and what a search for them finds.
use Rattle.std.proofs.Common.{List, [], ap, append_assoc, false, inl, inr, refl, subst, sym, true, ◌++◌, ◌∙◌, ◌∷◌, ◌≡◌}
use Rattle.std.specs.List.{Contains}
use Rattle.std.specs.Prelude.{None, Option, Some, filter, if◌then◌else◌}
use Rattle.std.proofs.lemmas.Bool.{cases_Bool}
use Rattle.std.proofs.lemmas.List.{append-nil}
use Rattle.std.proofs.lemmas.List.Elements.{filter-append}
use Rattle.fugue_ids.specs.Identifiers.{Identifier, id_eq, origin_eq}
use Rattle.fugue_ids.specs.Keys.{Keyed, between, first_id, first_low, front_of, ids, is_low, last_id, last_low, rest_of}
use Rattle.fugue_ids.specs.Listed.{HoldsOrigin}
use Rattle.fugue_ids.specs.declared.key.Key.{Key}
use Rattle.fugue_ids.proofs.IdentifierLemmas.{origin_eq-refl}
use Rattle.fugue_ids.proofs.ListLemmas.{contains_cases, contains_here, contains_none, contains_there}
use Rattle.fugue_ids.proofs.PartedLemmas.{Apart, BeginsWith, EndsWith, apart_back, apart_first, apart_front, apart_rest, first_held, front_three, in_three, last_after, last_ends}
use Rattle.fugue_ids.proofs.PartedLemmas.{last_some, mid_three, not_first, not_last, rest_three, there, to_held}

-- elements of keys up to k
module _ (k : Key) where
  abbrev pub lows : List Keyed → List Keyed
  lows es = filter (is_low k) es

  -- are elements of the list
  pub low_in : (es : List Keyed) (x : Identifier) → Contains (ids (lows es)) x → Contains (ids es) x
  low_in [] x c = absurd (contains_none x c)
  low_in (e ∷ es) x c =
      elim (cases_Bool (is_low k e)) [
        | inl t ↦
            elim (contains_cases e.id (ids (lows es)) x (subst (λ b. Contains (ids (if b then e ∷ lows es else lows es)) x) t c)) [
              | inl at ↦ subst (Contains (ids (e ∷ es))) at (contains_here e.id (ids es))
              | inr behind ↦ contains_there e.id (ids es) x (low_in es x behind)
            ]
        | inr f ↦ contains_there e.id (ids es) x (low_in es x (subst (λ b. Contains (ids (if b then e ∷ lows es else lows es)) x) f c))
      ]

  pub low_held : (es : List Keyed) (o : Option Identifier) → HoldsOrigin (ids (lows es)) o → HoldsOrigin (ids es) o
  low_held es None c = tt
  low_held es (Some x) c = low_in es x c

  -- a low element by its identifier
  pub low_here : (fs : List Keyed) (e : Keyed) (bs : List Keyed) → Apart (fs ++ e ∷ bs) → Contains (ids (lows (fs ++ e ∷ bs))) e.id → is_low k e ≡ true
  low_here [] e bs a c =
      elim (cases_Bool (is_low k e)) [
        | inl t ↦ t
        | inr f ↦ absurd (apart_first e bs e.id a (low_in bs e.id (subst (λ b. Contains (ids (if b then e ∷ lows bs else lows bs)) e.id) f c)) refl)
      ]
  low_here (f ∷ fs) e bs a c =
      let rest = apart_rest f (fs ++ e ∷ bs) a in
      elim (cases_Bool (is_low k f)) [
        | inl t ↦
            elim (contains_cases f.id (ids (lows (fs ++ e ∷ bs))) e.id (subst (λ b. Contains (ids (if b then f ∷ lows (fs ++ e ∷ bs) else lows (fs ++ e ∷ bs))) e.id) t c)) [
              | inl at ↦ absurd (apart_first f (fs ++ e ∷ bs) e.id a (there fs e bs) at)
              | inr behind ↦ low_here fs e bs rest behind
            ]
        | inr n ↦ low_here fs e bs rest (subst (λ b. Contains (ids (if b then f ∷ lows (fs ++ e ∷ bs) else lows (fs ++ e ∷ bs))) e.id) n c)
      ]

  -- one low element
  pub low_one : (e : Keyed) (es : List Keyed) → is_low k e ≡ true → lows (e ∷ es) ≡ e ∷ lows es
  low_one e es t = ap (λ b. if b then e ∷ lows es else lows es) t

  -- and one that is not
  pub low_other : (e : Keyed) (es : List Keyed) → is_low k e ≡ false → lows (e ∷ es) ≡ lows es
  low_other e es t = ap (λ b. if b then e ∷ lows es else lows es) t

  -- where a front ends with a low element, so do its low ones
  low_ends : (es : List Keyed) (from : Option Identifier) (front more : List Keyed) → Apart es → es ≡ front ++ more → EndsWith from front → HoldsOrigin (ids (lows es)) from
      → EndsWith from (lows front)
  low_ends es None front more a w e c = ap lows e
  low_ends es (Some x) front more a w (fs, e, is, same) c =
      let whole : es ≡ fs ++ e ∷ more = w ∙ ap (λ f. f ++ more) is ∙ append_assoc fs (e ∷ []) more in
      let t : is_low k e ≡ true =
      low_here fs e more (subst Apart whole a) (subst (λ z. Contains (ids (lows (fs ++ e ∷ more))) z) (sym same) (subst (λ l. Contains (ids (lows l)) x) whole c)) in
      (lows fs, e, ap lows is ∙ filter-append (is_low k) fs (e ∷ []) ∙ ap (λ l. lows fs ++ l) (low_one e [] t), same)

  -- where a back begins with a low element, so do its low ones
  pub low_begins : (es : List Keyed) (to : Option Identifier) (more back : List Keyed) → Apart es → es ≡ more ++ back → BeginsWith to back → HoldsOrigin (ids (lows es)) to
      → BeginsWith to (lows back)
  low_begins es None more back a w b c = ap lows b
  low_begins es (Some y) more back a w (e, bs, is, same) c =
      let whole : es ≡ more ++ e ∷ bs = w ∙ ap (λ t. more ++ t) is in
      let t : is_low k e ≡ true =
      low_here more e bs (subst Apart whole a) (subst (λ z. Contains (ids (lows (more ++ e ∷ bs))) z) (sym same) (subst (λ l. Contains (ids (lows l)) y) whole c)) in
      (e, lows bs, ap lows is ∙ low_one e bs t, same)

  -- what the last low one is, where the search may end at the element that the part begins after
  pub last_in : (es : List Keyed) (from to v : Option Identifier) → Apart es → HoldsOrigin (ids (lows es)) from → HoldsOrigin (ids (rest_of from es)) to
      → v ≡ last_low k (front_of to es) → (if origin_eq v from then None else v) ≡ last_low k (between from to es)
  last_in es from to v a f t e =
      let p = in_three es from to a (low_held es from f) t in
      let ends : EndsWith from (lows p.front) = low_ends es from p.front (p.mid ++ p.back) a p.whole p.ends f in
      let found : v ≡ last_id (lows p.front ++ lows p.mid) = e ∙ ap (last_low k) (front_three es from to a p) ∙ ap last_id (filter-append (is_low k) p.front p.mid) in
      chosen p.front p.mid (apart_front (p.front ++ p.mid) p.back (subst Apart (p.whole ∙ sym (append_assoc p.front p.mid p.back)) a)) from v ends p.ends (lows p.mid) refl found
      ∙ ap (last_low k) (sym (mid_three es from to a p))
    where
      chosen : (front mid : List Keyed) → Apart (front ++ mid) → (from v : Option Identifier) → EndsWith from (lows front) → EndsWith from front → (found : List Keyed)
          → lows mid ≡ found
          → v ≡ last_id (lows front ++ lows mid) → (if origin_eq v from then None else v) ≡ last_id (lows mid)
      chosen front mid a from v ends own [] is e =
          let same : v ≡ from = e ∙ ap (λ l. last_id (lows front ++ l)) is ∙ ap last_id (append-nil (lows front)) ∙ last_ends (lows front) from ends in
          ap (λ b. if b then None else v) (ap (λ z. origin_eq v z) (sym same) ∙ origin_eq-refl v) ∙ sym (ap last_id is)
      chosen front mid a from v ends own (y ∷ ys) is e =
          let s = last_some y ys in
          let here : v ≡ Some s.0 = e ∙ ap (λ l. last_id (lows front ++ l)) is ∙ last_after (lows front) y ys ∙ s.1 in
          let member : Contains (ids mid) s.0 = low_in mid s.0 (subst (λ l. Contains (ids l) s.0) (sym is) s.2) in
          ap (λ b. if b then None else v) (ap (λ z. origin_eq z from) here ∙ not_last front mid a from s.0 own member) ∙ here ∙ sym (ap last_id is ∙ s.1)

  -- what the first low one is, where the search may end at the element that the part ends before
  pub first_in : (es : List Keyed) (from to v : Option Identifier) → Apart es → HoldsOrigin (ids es) from → HoldsOrigin (ids (lows (rest_of from es))) to
      → v ≡ first_low k (rest_of from es) → (if origin_eq v to then None else v) ≡ first_low k (between from to es)
  first_in es from to v a f t e =
      let p = in_three es from to a f (low_held (rest_of from es) to t) in
      let rest : rest_of from es ≡ p.mid ++ p.back = rest_three es from to a p in
      let apart : Apart (p.mid ++ p.back) = apart_back p.front (p.mid ++ p.back) (subst Apart p.whole a) in
      let begins : BeginsWith to (lows p.back) = low_begins (p.mid ++ p.back) to p.mid p.back apart refl p.begins (subst (λ l. HoldsOrigin (ids (lows l)) to) rest t) in
      let found : v ≡ first_id (lows p.mid ++ lows p.back) = e ∙ ap (first_low k) rest ∙ ap first_id (filter-append (is_low k) p.mid p.back) in
      chosen p.mid p.back apart to v begins p.begins (lows p.mid) refl found ∙ ap (first_low k) (sym (mid_three es from to a p))
    where
      begun : (to : Option Identifier) (back : List Keyed) → BeginsWith to back → first_id back ≡ to
      begun None back b = ap first_id b
      begun (Some y) back (e, bs, is, same) = ap first_id is ∙ ap Some same

      chosen : (mid back : List Keyed) → Apart (mid ++ back) → (to v : Option Identifier) → BeginsWith to (lows back) → BeginsWith to back → (found : List Keyed) → lows mid ≡ found
          → v ≡ first_id (lows mid ++ lows back) → (if origin_eq v to then None else v) ≡ first_id (lows mid)
      chosen mid back a to v begins own [] is e =
          let same : v ≡ to = e ∙ ap (λ l. first_id (l ++ lows back)) is ∙ begun to (lows back) begins in
          ap (λ b. if b then None else v) (ap (λ z. origin_eq v z) (sym same) ∙ origin_eq-refl v) ∙ sym (ap first_id is)
      chosen mid back a to v begins own (y ∷ ys) is e =
          let here : v ≡ Some y.id = e ∙ ap (λ l. first_id (l ++ lows back)) is in
          let member : Contains (ids mid) y.id = low_in mid y.id (subst (λ l. Contains (ids l) y.id) (sym is) (contains_here y.id (ids ys))) in
          ap (λ b. if b then None else v) (ap (λ z. origin_eq z to) here ∙ not_first mid back a to y.id own member) ∙ here ∙ sym (ap first_id is)

-- what a search finds is held
first_held_in : (k : Key) (es : List Keyed) → HoldsOrigin (ids es) (first_low k es)
first_held_in k es = low_held k es (first_low k es) (first_held (lows k es))

pub first_low_held : (k : Key) (es : List Keyed) (from : Option Identifier) → HoldsOrigin (ids es) (first_low k (rest_of from es))
first_low_held k es from = to_held es from (first_low k (rest_of from es)) (first_held_in k (rest_of from es))

last_held : (es : List Keyed) → HoldsOrigin (ids es) (last_id es)
last_held [] = tt
last_held (e ∷ es) = let r = last_some e es in subst (HoldsOrigin (ids (e ∷ es))) (sym r.1) r.2

pub front_held : (es : List Keyed) (to o : Option Identifier) → HoldsOrigin (ids (front_of to es)) o → HoldsOrigin (ids es) o
front_held es to None c = tt
front_held es None (Some y) c = c
front_held es (Some x) (Some y) c = before x es y c
  where
    before : (x : Identifier) (es : List Keyed) (y : Identifier) → Contains (ids (front_of (Some x) es)) y → Contains (ids es) y
    before x [] y c = c
    before x (e ∷ es) y c =
        elim (cases_Bool (id_eq e.id x)) [
          | inl t ↦ absurd (contains_none y (subst (λ b. Contains (ids (if b then [] else e ∷ front_of (Some x) es)) y) t c))
          | inr f ↦ elim (contains_cases e.id (ids (front_of (Some x) es)) y (subst (λ b. Contains (ids (if b then [] else e ∷ front_of (Some x) es)) y) f c)) [
            | inl at ↦ subst (Contains (ids (e ∷ es))) at (contains_here e.id (ids es))
            | inr behind ↦ contains_there e.id (ids es) y (before x es y behind)
          ]
        ]

pub last_low_held : (k : Key) (es : List Keyed) (to : Option Identifier) → HoldsOrigin (ids es) (last_low k (front_of to es))
last_low_held k es to = front_held es to (last_low k (front_of to es)) (low_held k (front_of to es) (last_low k (front_of to es)) (last_held (lows k (front_of to es))))
