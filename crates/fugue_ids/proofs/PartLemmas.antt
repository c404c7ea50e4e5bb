-- A part of an order, and an element of it: what stands around that.
use Rattle.std.proofs.Common.{List, [], ap, append_assoc, refl, subst, sym, ◌++◌, ◌∙◌, ◌∷◌, ◌≡◌, ◌≢◌}
use Rattle.std.specs.List.{All, Contains}
use Rattle.std.specs.Prelude.{Bool, IfSome, IsNone, None, Option, Some, false, not, true, ◌↔◌}
use Rattle.std.proofs.lemmas.Bool.{true≢false}
use Rattle.std.proofs.lemmas.List.Elements.{All-head, All-tail, filter-append}
use Rattle.fugue_ids.specs.Identifiers.{Identifier}
use Rattle.fugue_ids.specs.Keys.{HasKey, Keyed, between, first_id, first_low, ids, is_low, key_lt, last_id, last_low, rest_of}
use Rattle.fugue_ids.specs.Listed.{HoldsOrigin}
use Rattle.fugue_ids.specs.declared.key.Key.{Key}
use Rattle.fugue_ids.proofs.IdentifierLemmas.{eq-id_eq, ne-id_eq}
use Rattle.fugue_ids.proofs.ListLemmas.{contains_here, contains_none}
use Rattle.fugue_ids.proofs.PartedLemmas.{Apart, BeginsWith, apart_back, first_begins, first_held, front_is, in_back, in_front, in_three, last_some, mid_three, others, part_at}
use Rattle.fugue_ids.proofs.PartedLemmas.{rest_at, rest_three, there, to_held}
use Rattle.fugue_ids.proofs.LowLemmas.{low_begins, low_held, low_one, lows}

-- a part of the list, and an element of it: what stands around that
pub record Around (es : List Keyed) (from to : Option Identifier) (m : Identifier) : Type 0 where
  pub front : List Keyed
  pub here : Keyed
  pub back : List Keyed
  pub is : here.id ≡ m
  pub whole : between from to es ≡ front ++ here ∷ back
  pub rest : rest_of from es ≡ front ++ here ∷ rest_of (Some m) es
  pub apart : Apart (rest_of from es)
  pub outside : List Keyed
  pub all : es ≡ outside ++ rest_of from es
  pub after : List Keyed
  pub more : rest_of (Some m) es ≡ back ++ after
  pub begins : BeginsWith to after
  pub before : between from (Some m) es ≡ front
  pub up_to : between from (first_id (rest_of (Some m) es)) es ≡ front ++ here ∷ []
  pub behind : between (Some m) to es ≡ back

pub around : (es : List Keyed) (from to : Option Identifier) (m : Identifier) → Apart es → HoldsOrigin (ids es) from → HoldsOrigin (ids (rest_of from es)) to
    → Contains (ids (between from to es)) m → Around es from to m
around es from to m a f t c =
    let p = in_three es from to a f t in
    let mid : between from to es ≡ p.mid = mid_three es from to a p in
    let q = part_at p.mid m (subst (λ l. Contains (ids l) m) mid c) in
    let more : List Keyed = q.back ++ p.back in
    let rest : rest_of from es ≡ q.front ++ q.here ∷ more =
    rest_three es from to a p ∙ ap (λ l. l ++ p.back) q.whole ∙ append_assoc q.front (q.here ∷ q.back) p.back in
    let apart : Apart (rest_of from es) = subst Apart (sym (rest_three es from to a p)) (apart_back p.front (p.mid ++ p.back) (subst Apart p.whole a)) in
    let whole : es ≡ (p.front ++ q.front) ++ q.here ∷ more =
    p.whole ∙ ap (λ l. p.front ++ (l ++ p.back)) q.whole ∙ ap (λ l. p.front ++ l) (append_assoc q.front (q.here ∷ q.back) p.back)
    ∙ sym (append_assoc p.front q.front (q.here ∷ more)) in
    let after_m : rest_of (Some m) es ≡ more =
    ap (λ z. rest_of (Some z) es) (sym q.is) ∙ ap (rest_of (Some q.here.id)) whole
    ∙ rest_at (p.front ++ q.front) more q.here (others (p.front ++ q.front) more q.here (subst Apart whole a)) in
    record {
      front = q.front;
      here = q.here;
      back = q.back;
      is = q.is;
      whole = mid ∙ q.whole;
      rest = rest ∙ ap (λ l. q.front ++ q.here ∷ l) (sym after_m);
      apart = apart;
      outside = p.front;
      all = p.whole ∙ ap (λ l. p.front ++ l) (sym (rest_three es from to a p));
      after = p.back;
      more = after_m;
      begins = p.begins;
      before = front_is (rest_of from es) (Some m) q.front (q.here ∷ more) apart rest (q.here, more, refl, q.is);
      up_to = front_is (rest_of from es) (first_id (rest_of (Some m) es)) (q.front ++ q.here ∷ []) more apart
          (rest ∙ sym (append_assoc q.front (q.here ∷ []) more)) (subst (λ o. BeginsWith o more) (ap first_id (sym after_m)) (first_begins more));
      behind = front_is (rest_of (Some m) es) to q.back p.back
          (subst Apart (sym after_m) (apart_back (q.here ∷ []) more (apart_back (p.front ++ q.front) (q.here ∷ more) (subst Apart whole a)))) after_m p.begins;
    }

-- what a list begins with, it holds
begins_held : (xs : List Keyed) (to : Option Identifier) → BeginsWith to xs → HoldsOrigin (ids xs) to
begins_held xs None b = tt
begins_held xs (Some y) (e, bs, is, same) = subst (λ l. Contains (ids l) y) (sym is) (subst (Contains (ids (e ∷ bs))) same (contains_here e.id (ids bs)))

-- what is held of a back is held of the whole
back_held : (xs ys : List Keyed) (o : Option Identifier) → HoldsOrigin (ids ys) o → HoldsOrigin (ids (xs ++ ys)) o
back_held xs ys None c = tt
back_held xs ys (Some x) c = in_back xs ys x c

-- the first and the last that are found are members
pub first_found : (xs : List Keyed) (s : Identifier) → first_id xs ≡ Some s → Contains (ids xs) s
first_found [] s e = cc
first_found (x ∷ xs) s e = let d : x.id ≡ s = cc in subst (Contains (ids (x ∷ xs))) d (contains_here x.id (ids xs))

pub last_found : (xs : List Keyed) (s : Identifier) → last_id xs ≡ Some s → Contains (ids xs) s
last_found [] s e = cc
last_found (x ∷ xs) s e = let r = last_some x xs in let d : r.0 ≡ s = cc in subst (Contains (ids (x ∷ xs))) d r.2

-- a list without a first or without a last member is empty
pub no_first : (xs : List Keyed) → first_id xs ≡ None → xs ≡ []
no_first [] e = refl
no_first (x ∷ xs) e = cc

pub no_last : (xs : List Keyed) → last_id xs ≡ None → xs ≡ []
no_last [] e = refl
no_last (x ∷ xs) e = let r = last_some x xs in let d : Some r.0 ≡ None = sym r.1 ∙ e in cc

-- the key of an element that no other one has before it
has_here : (fs : List Keyed) (e : Keyed) (bs : List Keyed) (k : Key) → All (λ z. z.id ≢ e.id) fs → HasKey (fs ++ e ∷ bs) e.id k → e.key ≡ k
has_here [] e bs k apart has = let Has : Bool → Type 0 = λ b. elim b [ true ↦ (e.key ≡ k) | false ↦ HasKey bs e.id k ] in subst Has (eq-id_eq e.id e.id refl) has
has_here (f ∷ fs) e bs k apart has =
    let Has : Bool → Type 0 = λ b. elim b [ true ↦ (f.key ≡ k) | false ↦ HasKey (fs ++ e ∷ bs) e.id k ] in
    has_here fs e bs k (All-tail (λ (z : Keyed). z.id ≢ e.id) f fs apart) (subst Has (ne-id_eq f.id e.id (All-head (λ (z : Keyed). z.id ≢ e.id) f fs apart)) has)

-- with an element in the part
module _ (es : List Keyed) (from to : Option Identifier) (m : Identifier) (r : Around es from to m) where
  -- the element after it stands after the beginning
  pub next_held : HoldsOrigin (ids (rest_of from es)) (first_id (rest_of (Some m) es))
  next_held =
      subst (λ l. HoldsOrigin (ids l) (first_id (rest_of (Some m) es))) (sym (r.rest ∙ sym (append_assoc r.front (r.here ∷ []) (rest_of (Some m) es))))
      (back_held (r.front ++ r.here ∷ []) (rest_of (Some m) es) (first_id (rest_of (Some m) es)) (first_held (rest_of (Some m) es)))

  -- the element is held
  pub member_held : Contains (ids es) m
  member_held =
      let c : Contains (ids (r.front ++ r.here ∷ rest_of (Some m) es)) m =
      subst (Contains (ids (r.front ++ r.here ∷ rest_of (Some m) es))) r.is (there r.front r.here (rest_of (Some m) es)) in
      to_held es from (Some m) (subst (λ l. Contains (ids l) m) (sym r.rest) c)

  -- the element is a low one of the part, where its key is low
  pub low_member : (k : Key) → Apart es → (own : Key) → HasKey es m own → not (key_lt k own) ≡ true → Contains (ids (lows k (between from to es))) m
  low_member k a own has low =
      let behind : List Keyed = rest_of (Some m) es in
      let whole : es ≡ (r.outside ++ r.front) ++ r.here ∷ behind = r.all ∙ ap (λ l. r.outside ++ l) r.rest ∙ sym (append_assoc r.outside r.front (r.here ∷ behind)) in
      let key : r.here.key ≡ own =
      has_here (r.outside ++ r.front) r.here behind own (others (r.outside ++ r.front) behind r.here (subst Apart whole a))
      (subst (λ x. HasKey ((r.outside ++ r.front) ++ r.here ∷ behind) x own) (sym r.is) (subst (λ l. HasKey l m own) whole has))
      in
      let parts : lows k (between from to es) ≡ lows k r.front ++ r.here ∷ lows k r.back =
      ap (lows k) r.whole ∙ filter-append (is_low k) r.front (r.here ∷ r.back) ∙ ap (λ l. lows k r.front ++ l) (low_one k r.here r.back (ap (λ z. not (key_lt k z)) key ∙ low))
      in
      subst (λ l. Contains (ids l) m) (sym parts) (subst (Contains (ids (lows k r.front ++ r.here ∷ lows k r.back))) r.is (there (lows k r.front) r.here (lows k r.back)))

  -- the low elements of the part
  module _ (k : Key) where
    -- the part ends before a low element still
    pub end_held : HoldsOrigin (ids (lows k (rest_of from es))) to → HoldsOrigin (ids (lows k (rest_of (Some m) es))) to
    end_held t =
        let whole : rest_of from es ≡ (r.front ++ r.here ∷ r.back) ++ r.after =
        r.rest ∙ ap (λ l. r.front ++ r.here ∷ l) r.more ∙ sym (append_assoc r.front (r.here ∷ r.back) r.after) in
        let b : BeginsWith to (lows k r.after) = low_begins k (rest_of from es) to (r.front ++ r.here ∷ r.back) r.after r.apart whole r.begins t in
        subst (λ l. HoldsOrigin (ids l) to) (sym (ap (lows k) r.more ∙ filter-append (is_low k) r.back r.after))
        (back_held (lows k r.back) (lows k r.after) to (begins_held (lows k r.after) to b))

    abbrev up_to : List Keyed
    up_to = r.front ++ r.here ∷ []

    both : lows k (between from to es) ≡ lows k up_to ++ lows k r.back
    both = ap (lows k) (r.whole ∙ sym (append_assoc r.front (r.here ∷ []) r.back)) ∙ filter-append (is_low k) up_to r.back

    -- the last low one up to the element is one of the part
    pub found_before : (s : Identifier) (next : Option Identifier) → next ≡ first_id (rest_of (Some m) es) → last_low k (between from next es) ≡ Some s
        → Contains (ids (lows k (between from to es))) s
    found_before s next is e =
        let last : last_id (lows k up_to) ≡ Some s = sym (ap (last_low k) (ap (λ o. between from o es) is ∙ r.up_to)) ∙ e in
        subst (λ l. Contains (ids l) s) (sym both) (in_front (lows k up_to) (lows k r.back) s (last_found (lows k up_to) s last))

    -- where there is none, the first low one after the element is the first of the part
    pub found_after : (o next : Option Identifier) → next ≡ first_id (rest_of (Some m) es) → last_low k (between from next es) ≡ None → o ≡ first_low k (between (Some m) to es)
        → (IsNone o ↔ (ids (lows k (between from to es)) ≡ [])) × IfSome o (Contains (ids (lows k (between from to es))))
    found_after o next is n e =
        let front : lows k up_to ≡ [] = no_last (lows k up_to) (sym (ap (last_low k) (ap (λ o. between from o es) is ∙ r.up_to)) ∙ n) in
        let rest : lows k (between from to es) ≡ lows k r.back = both ∙ ap (λ l. l ++ lows k r.back) front in
        subst (λ l. (IsNone o ↔ (ids l ≡ [])) × IfSome o (Contains (ids l))) (sym rest) (first_of (lows k r.back) o (e ∙ ap (first_low k) r.behind))
      where
        first_of : (xs : List Keyed) (o : Option Identifier) → o ≡ first_id xs → (IsNone o ↔ (ids xs ≡ [])) × IfSome o (Contains (ids xs))
        first_of xs None e = ((λ _. ap ids (no_first xs (sym e)), λ _. refl), tt)
        first_of xs (Some s) e = ((λ f. absurd (true≢false f), λ f. absurd (contains_none s (subst (λ l. Contains l s) f (first_found xs s (sym e))))), first_found xs s (sym e))

-- an element of a part whose ends are low
pub around_low : (es : List Keyed) (k : Key) (from to : Option Identifier) (m : Identifier) → Apart es → HoldsOrigin (ids (lows k es)) from
    → HoldsOrigin (ids (lows k (rest_of from es))) to
    → Contains (ids (between from to es)) m → Around es from to m
around_low es k from to m a f t c = around es from to m a (low_held k es from f) (low_held k (rest_of from es) to t) c
