-- The order of a part of a history is that of the whole with the elements that the part lacks left out, where both are lawful.
use Rattle.origin_model.proofs.Words.{Bool, Identifier, IsIn, Lawful, List, None, Op, Option, Place, Some, [], ap, before_in, cases_Bool, cases_origin, chain, contains_filter_from}
use Rattle.origin_model.proofs.Words.{element_of, false, false≢true, filter, fork_before, holder, holds, id_lt, inl, inr, is_own, is_some, left_of, lefts, next_left, next_right}
use Rattle.origin_model.proofs.Words.{older_of, order, origin_eq, refl, right_at, right_of, rights, subst, sym, true, ◌&&◌, ◌++◌, ◌||◌, ◌∙◌, ◌∷◌, ◌≡◌}
use Rattle.origin_model.proofs.order.OrderedListLemmas.{Ordered-agree, same_ordered}
use Rattle.origin_model.proofs.order.PositionLemmas.{Stands, origin_before, origin_lt, origin_same}
use Rattle.origin_model.proofs.operations.LookupLemmas.{IsHeld, IsReady, found, held_not_own, holder-other, holder-own, holds-older, left_named, right_by, right_named, when_ready}
use Rattle.origin_model.proofs.order.StrictOrderLemmas.{before_agree, before_in-irrefl, before_in-trans}
use Rattle.origin_model.proofs.order.OrderLemmas.{IsIn-held, before_in-older, lefts-in, order-has, order-in, order-member, order-ordered, right_at_in, rights-in}
use Rattle.fugue_ids.proofs.ListLemmas.{contains_filter}
use Rattle.std.proofs.lemmas.List.Kept.{AllPairs-filter}
use Rattle.origin_model.proofs.order.ChainLemmas.{above-same, beside-same, beside_is, chain-other, chain-own, chain_above}

-- what the part holds is held by the whole as the same operation
abbrev pub Within : List Op → List Op → Type 0
Within s h = (i : Identifier) (op : Op) → holder s i ≡ Some op → holder h i ≡ Some op

-- without its newest operation the part is still within the whole
pub within-older : (op : Op) (s h : List Op) → IsReady s op → Within (op ∷ s) h → Within s h
within-older op s h w f i o e = f i o (holder-other op s i (held_not_own op s i w (ap is_some e)) ∙ e)

-- an origin of held elements that is held when they come
module _ (origin : Op → Option Identifier) (named : (h : List Op) (op : Op) (l : Identifier) → IsReady h op → origin op ≡ Some l → IsHeld h l) where
  -- it is held from then on
  pub origin_held : (h : List Op) (c : Identifier) (op : Op) (l : Identifier) → Lawful h → holder h c ≡ Some op → origin op ≡ Some l → IsHeld h l
  origin_held [] c op l w e f = cc
  origin_held (o ∷ older) c op l w e f =
      elim (cases_Bool (is_own c o)) [
        | inl k ↦ let d : o ≡ op = cc (holder-own o older c k, e) in holds-older o older l (named older o l (when_ready older o w.0) (ap origin d ∙ f))
        | inr k ↦ holds-older o older l (origin_held older c op l w.1 (sym (holder-other o older c k) ∙ e) f)
      ]

-- the left origin of a held element is held
pub left_origin_held : (h : List Op) (c : Identifier) (op : Op) (l : Identifier) → Lawful h → holder h c ≡ Some op → left_of op ≡ Some l → IsHeld h l
left_origin_held = origin_held left_of (λ h op l w. left_named h op l w)

-- the right origin of a held element is held
pub right_origin_held : (h : List Op) (c : Identifier) (op : Op) (l : Identifier) → Lawful h → holder h c ≡ Some op → right_of op ≡ Some l → IsHeld h l
right_origin_held = origin_held right_of (λ h op l w. right_named h op l w)

-- whether what a look-up found has this left origin
abbrev pub has_left_by : Option Identifier → Option Op → Bool
has_left_by l o = elim o [ None ↦ false | Some op ↦ origin_eq (left_of op) l ]

-- the origins of an operation are held
pub record RestsOn (h : List Op) (op : Op) : Type 0 where
  pub left : (l : Identifier) → left_of op ≡ Some l → IsHeld h l
  pub right : (r : Identifier) → right_of op ≡ Some r → IsHeld h r

-- a Ready operation rests on the history
pub ready_rests : (h : List Op) (op : Op) → IsReady h op → RestsOn h op
ready_rests h op w = record { left = λ l. left_named h op l w; right = λ r. right_named h op r w }

-- so does each that is held
pub held_rests : (h : List Op) (c : Identifier) (op : Op) → Lawful h → holder h c ≡ Some op → RestsOn h op
held_rests h c op w e = record { left = λ l. left_origin_held h c op l w e; right = λ r. right_origin_held h c op r w e }

-- chains, where the next one is held, and is the same in every history that has those origins
module _ (next : List Op → Op → Option Identifier) (held : (h : List Op) (op : Op) (y : Identifier) → RestsOn h op → next h op ≡ Some y → IsHeld h y)
    (kept : (s h : List Op) (op : Op) → RestsOn s op → Within s h → next s op ≡ next h op) where
  -- the chain at an element, by what is next to it in the whole history
  chain-at : (h : List Op) (x : Identifier) (op : Op) → Lawful h → holder h x ≡ Some op → chain next h x ≡ chain_above next h (next h op) ++ x ∷ []
  chain-at [] x op w e = cc
  chain-at (o ∷ older) x op w e =
      let ready = when_ready older o w.0 in
      let h : List Op = o ∷ older in
      let grown : (a : Op) → RestsOn older a → chain_above next older (next older a) ++ x ∷ [] ≡ chain_above next h (next h a) ++ x ∷ [] = λ a r.
      ap (λ c. c ++ x ∷ [])
      (above-same next older h (next older a) (λ y f. sym (chain-other next o older y (held_not_own o older y ready (held older a y r f))))
      ∙ ap (chain_above next h) (kept older h a r (λ i b k. holder-other o older i (held_not_own o older i ready (ap is_some k)) ∙ k))) in
      elim (cases_Bool (is_own x o)) [
        | inl k ↦ let d : o ≡ op =
            cc (holder-own o older x k, e) in chain-own next o older x k ∙ grown o (ready_rests older o ready) ∙ ap (λ a. chain_above next h (next h a) ++ x ∷ []) d
        | inr k ↦ let g : holder older x ≡ Some op =
            sym (holder-other o older x k) ∙ e in chain-other next o older x k ∙ chain-at older x op w.1 g ∙ grown op (held_rests older x op w.1 g)
      ]

  -- an element of the part has the same chain in the whole
  chain-within : (s h : List Op) (x : Identifier) → Lawful s → Lawful h → Within s h → IsHeld s x → chain next s x ≡ chain next h x
  chain-within [] h x v w f p = absurd (false≢true p)
  chain-within (op ∷ s) h x v w f p =
      let ready = when_ready s op v.0 in
      let g : Within s h = within-older op s h ready f in
      let r = ready_rests s op ready in
      elim (cases_Bool (is_own x op)) [
        | inl k ↦ chain-own next op s x k
            ∙ ap (λ c. c ++ x ∷ []) (above-same next s h (next s op) (λ y e. chain-within s h y v.1 w g (held s op y r e)) ∙ ap (chain_above next h) (kept s h op r g))
            ∙ sym (chain-at h x op w (f x op (holder-own op s x k)))
        | inr k ↦ chain-other next op s x k ∙ chain-within s h x v.1 w g (ap is_some (sym (holder-other op s x k)) ∙ p)
      ]

-- the next one in a chain of left origins is held
pub left_held : (h : List Op) (op : Op) (y : Identifier) → RestsOn h op → next_left h op ≡ Some y → IsHeld h y
left_held h op y r e = r.left y e

-- and in one of right origins
pub right_held : (h : List Op) (op : Op) (y : Identifier) → RestsOn h op → next_right h op ≡ Some y → IsHeld h y
right_held h op y r e = r.right y (beside_is h (left_of op) (right_of op) y e).0

-- a held right origin has the same left origin in the whole
right_kept : (s h : List Op) (op : Op) → RestsOn s op → Within s h → next_right s op ≡ next_right h op
right_kept s h op r f =
    beside-same s h (left_of op) (right_of op) (λ q e. let o = found (holder s q) (r.right q e) in ap (has_left_by (left_of op)) (o.1 ∙ sym (f q o.0 o.1)))

-- the chain of left origins at an element, by its left origin in the whole history
pub lefts-at : (h : List Op) (x : Identifier) (op : Op) → Lawful h → holder h x ≡ Some op → lefts h x ≡ chain_above next_left h (left_of op) ++ x ∷ []
lefts-at = chain-at next_left left_held (λ s h op r f. refl)

-- the chain of right origins at an element, by its origins in the whole history
pub rights-at : (h : List Op) (x : Identifier) (op : Op) → Lawful h → holder h x ≡ Some op → rights h x ≡ chain_above next_right h (next_right h op) ++ x ∷ []
rights-at = chain-at next_right right_held right_kept

-- an element of the part has the same left origins in the whole
pub lefts-within : (s h : List Op) (x : Identifier) → Lawful s → Lawful h → Within s h → IsHeld s x → lefts s x ≡ lefts h x
lefts-within = chain-within next_left left_held (λ s h op r f. refl)

-- an element of the part has the same right origins in the whole
pub rights-within : (s h : List Op) (x : Identifier) → Lawful s → Lawful h → Within s h → IsHeld s x → rights s x ≡ rights h x
rights-within = chain-within next_right right_held right_kept

-- x stands before y in the history
abbrev pub before_at : Place → List Op → Identifier → Identifier → Bool
before_at p h = before_in (order p (older_of h)) h

-- without its newest operation a lawful history is lawful
pub older_lawful : (h : List Op) → Lawful h → Lawful (older_of h)
older_lawful [] w = tt
older_lawful (op ∷ h) w = w.1

-- a right origin stands in the finished order
pub right_stands : (p : Place) (h : List Op) (c : Identifier) → Lawful h → IsIn p h c → Stands (right_at h c) (order p (older_of h))
right_stands p h c w m =
    elim (cases_origin (right_at h c)) [
      | inl e ↦ subst (λ o. Stands o (order p (older_of h))) (sym e) tt
      | inr f ↦ subst (λ o. Stands o (order p (older_of h))) (sym f.1) (order-has p (older_of h) f.0 (right_at_in p h c f.0 w m f.1))
    ]

-- the comparison at a fork without positions: by the order itself, which is known for older elements
abbrev pub fork_by : (Identifier → Identifier → Bool) → Option Identifier → Option Identifier → Identifier → Identifier → Bool
fork_by R a b c d = origin_before R b a || (origin_eq b a && id_lt c d)

-- positions compare at a fork as the order does
pub fork-by : (p : Place) (h : List Op) (c d : Identifier) → Lawful h → IsIn p h c → IsIn p h d
    → fork_before (order p (older_of h)) h c d ≡ fork_by (before_at p (older_of h)) (right_at h c) (right_at h d) c d
fork-by p h c d w m n =
    let o : List Identifier = order p (older_of h) in
    let g : List Op = older_of h in
    let lt = origin_lt (before_at p g) (before_in-irrefl (order p (older_of g)) g) (before_in-trans (order p (older_of g)) g) o (right_at h d) (right_at h c)
    (order-ordered p g (older_lawful h w)) (right_stands p h d w n) (right_stands p h c w m) in
    let eq = origin_same o (right_at h d) (right_at h c) (right_stands p h d w n) (right_stands p h c w m) in
    λ i. lt i || (eq i && id_lt c d)

-- orders that agree on two origins say alike which stands first
origin_before-same : (R S : Identifier → Identifier → Bool) (a b : Option Identifier) → ((x y : Identifier) → a ≡ Some x → b ≡ Some y → R x y ≡ S x y)
    → origin_before R a b ≡ origin_before S a b
origin_before-same R S None b f = refl
origin_before-same R S (Some x) None f = refl
origin_before-same R S (Some x) (Some y) f = f x y refl refl

-- older elements keep their comparison
pub before_at-older : (p : Place) (h : List Op) (x y : Identifier) → Lawful h → IsHeld (older_of h) x → IsHeld (older_of h) y → before_at p h x y ≡ before_at p (older_of h) x y
before_at-older p [] x y w k l = refl
before_at-older p (op ∷ older) x y w k l = before_in-older p op older w x y k l

-- an element of the part is one of the whole
pub IsIn-within : (p : Place) (s h : List Op) (x : Identifier) → Within s h → IsIn p s x → IsIn p h x
IsIn-within p s h x f m = record { op = m.op; held = f x m.op m.held; place = m.place }

-- an element of the part has the same right origin in the whole
right_at-within : (p : Place) (s h : List Op) (x : Identifier) → Within s h → IsIn p s x → right_at s x ≡ right_at h x
right_at-within p s h x f m = ap right_by (m.held ∙ sym (f x m.op m.held))

-- where older elements compare as in the whole, elements of the part compare at a fork as there
fork-agree : (p : Place) (op : Op) (s h : List Op) → Lawful (op ∷ s) → Lawful h → Within (op ∷ s) h
    → ((x y : Identifier) → IsIn p s x → IsIn p s y → before_at p s x y ≡ before_at p h x y)
    → (c d : Identifier) → IsIn p (op ∷ s) c → IsIn p (op ∷ s) d → fork_before (order p s) (op ∷ s) c d ≡ fork_before (order p (older_of h)) h c d
fork-agree p op s h v w f before c d k l =
    let t : List Op = op ∷ s in
    let rc = right_at-within p t h c f k in
    let rd = right_at-within p t h d f l in
    let older = origin_before-same (before_at p s) (before_at p (older_of h)) (right_at t d) (right_at t c) (λ a b e j.
    before a b (right_at_in p t d a v l e) (right_at_in p t c b v k j)
    ∙ before_at-older p h a b w
    (IsIn-held p (older_of h) a (right_at_in p h d a w (IsIn-within p t h d f l) (sym rd ∙ e)))
    (IsIn-held p (older_of h) b (right_at_in p h c b w (IsIn-within p t h c f k) (sym rc ∙ j)))) in
    fork-by p t c d v k l
    ∙ (λ i. older i || (origin_eq (right_at t d) (right_at t c) && id_lt c d))
    ∙ (λ i. fork_by (before_at p (older_of h)) (rc i) (rd i) c d)
    ∙ sym (fork-by p h c d w (IsIn-within p t h c f k) (IsIn-within p t h d f l))

-- elements of the part compare as in the whole
pub before-within : (p : Place) (s h : List Op) → Lawful s → Lawful h → Within s h → (x y : Identifier) → IsIn p s x → IsIn p s y → before_at p s x y ≡ before_at p h x y
before-within p [] h v w f x y m n = cc (m.held)
before-within p (op ∷ s) h v w f x y m n =
    let t : List Op = op ∷ s in
    let g : Within s h = within-older op s h (when_ready s op v.0) f in
    before_agree (order p s) (order p (older_of h)) t h (IsIn p t) (fork-agree p op s h v w f (before-within p s h v.1 w g))
    (λ a k. lefts-within t h a v w f (IsIn-held p t a k)) (λ a k. rights-within t h a v w f (IsIn-held p t a k)) (λ a. lefts-in p t a v) (λ a. rights-in p t a v) x y m n

-- elements of the part compare at a fork as in the whole
pub fork-within : (p : Place) (s h : List Op) → Lawful s → Lawful h → Within s h
    → (c d : Identifier) → IsIn p s c → IsIn p s d → fork_before (order p (older_of s)) s c d ≡ fork_before (order p (older_of h)) h c d
fork-within p [] h v w f c d k l = cc (k.held)
fork-within p (op ∷ s) h v w f c d k l =
    fork-agree p op s h v w f (before-within p s h v.1 w (within-older op s h (when_ready s op v.0) f)) c d k l

-- two lawful histories within each other have one order
pub order-same : (p : Place) (s h : List Op) → Lawful s → Lawful h → Within s h → Within h s → order p s ≡ order p h
order-same p s h v w f g =
    same_ordered (before_at p h) (before_in-irrefl (order p (older_of h)) h) (before_in-trans (order p (older_of h)) h) (order p s) (order p h)
    (Ordered-agree (before_at p s) (before_at p h) (IsIn p s) (before-within p s h v w f) (order p s) (order-in p s v) (order-ordered p s v))
    (order-ordered p h w)
    (λ x m. order-has p h x (IsIn-within p s h x f (order-member p s x v m)))
    (λ x m. order-has p s x (IsIn-within p h s x g (order-member p h x w m)))

-- an element of the whole that the part holds is an element of the part
IsIn-narrowed : (p : Place) (s h : List Op) (x : Identifier) → Within s h → IsHeld s x → IsIn p h x → IsIn p s x
IsIn-narrowed p s h x f k m =
    let o = found (holder s x) k in
    let e : m.op ≡ o.0 = cc (f x o.0 o.1, m.held) in
    record { op = o.0; held = o.1; place = ap (element_of p) (sym e) ∙ m.place }

-- the order of the part is that of the whole without the elements that the part lacks
pub order-within : (p : Place) (s h : List Op) → Lawful s → Lawful h → Within s h → order p s ≡ filter (holds s) (order p h)
order-within p s h v w f =
    same_ordered (before_at p h) (before_in-irrefl (order p (older_of h)) h) (before_in-trans (order p (older_of h)) h) (order p s) (filter (holds s) (order p h))
    (Ordered-agree (before_at p s) (before_at p h) (IsIn p s) (before-within p s h v w f) (order p s) (order-in p s v) (order-ordered p s v))
    (AllPairs-filter (λ x y. before_at p h x y ≡ true) (holds s) (order p h) (order-ordered p h w))
    (λ x m. let k = order-member p s x v m in contains_filter (holds s) (order p h) x (order-has p h x (IsIn-within p s h x f k)) (IsIn-held p s x k))
    (λ x m. let r = contains_filter_from (holds s) (order p h) x m in order-has p s x (IsIn-narrowed p s h x f r.1 (order-member p h x w r.0)))

-- the older operations of a history are within it
pub Within-append : (new s : List Op) → Lawful (new ++ s) → Within s (new ++ s)
Within-append [] s w i op e = e
Within-append (o ∷ new) s w i op e =
    let k = Within-append new s w.1 i op e in
    holder-other o (new ++ s) i (held_not_own o (new ++ s) i (when_ready (new ++ s) o w.0) (ap is_some k)) ∙ k

-- the older operations of a lawful history are a lawful history
pub Lawful-append : (new s : List Op) → Lawful (new ++ s) → Lawful s
Lawful-append [] s w = w
Lawful-append (o ∷ new) s w = Lawful-append new s w.1
