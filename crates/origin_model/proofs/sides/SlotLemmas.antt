-- Slots of the sided tree: the chains of the children of a slot, and which slot an element of a chain hangs in.
use Rattle.origin_model.proofs.Words.{All-contains, Contains, Identifier, IsIn, Lawful, List, None, Op, Option, Place, Some, [], ap, cases_Bool, contains_middle, false, has_left}
use Rattle.origin_model.proofs.Words.{holder, if◌then◌else◌, inl, inr, is_some, left_at, left_of, lefts, next_left, next_right, refl, right_beside, right_of, rights}
use Rattle.origin_model.proofs.Words.{same_from_push, subst, sym, true, ◌++◌, ◌∙◌, ◌∷◌, ◌≡◌}
use Rattle.origin_model.specs.sides.Slot.{IsChild, slot_by, slot_of}
use Rattle.origin_model.specs.declared.sides.Slot.{Slot}
use Rattle.origin_model.specs.declared.sides.Slot.TheVariants.{LeftOf, RightOf}
use Rattle.origin_model.proofs.order.{IsIn-held, chain-ends, chain_above, has_left-at, left_at-is, left_origin_held, lefts-above, lefts-at, lefts-in, lefts-prefix, never_none}
use Rattle.origin_model.proofs.order.{only_one, right_origin_held, rights-at, rights-in, rights-prefix, same_chain}
use Rattle.origin_model.proofs.operations.LookupLemmas.{IsHeld, found}

-- the left origin that the children of a slot have
abbrev pub slot_left : List Op → Slot → Option Identifier
slot_left h (RightOf l) = l
slot_left h (LeftOf q) = left_at h q

-- the right origins above the children of a slot
abbrev pub over : List Op → Slot → List Identifier
over h (RightOf l) = []
over h (LeftOf q) = rights h q

-- the node of the slot is held
abbrev pub IsThere : List Op → Slot → Type 0
IsThere h (RightOf None) = Unit {0}
IsThere h (RightOf (Some l)) = IsHeld h l
IsThere h (LeftOf q) = IsHeld h q

-- a right origin with the same left origin has the element among its left children
pub slot-yes : (h : List Op) (l : Option Identifier) (q : Identifier) → has_left h q l ≡ true → slot_by h l (Some q) ≡ LeftOf q
slot-yes h l q e = ap (λ b. if b then LeftOf q else RightOf l) e

-- with any other right origin the element is a right child of its left origin
pub slot-no : (h : List Op) (l : Option Identifier) (q : Identifier) → has_left h q l ≡ false → slot_by h l (Some q) ≡ RightOf l
slot-no h l q e = ap (λ b. if b then LeftOf q else RightOf l) e

-- the slot of an element tells its left origin
pub slot_by-left : (h : List Op) (l r : Option Identifier) → slot_left h (slot_by h l r) ≡ l
slot_by-left h l None = refl
slot_by-left h l (Some q) =
    elim (cases_Bool (has_left h q l)) [
      | inl t ↦ ap (slot_left h) (slot-yes h l q t) ∙ has_left-at h q l t
      | inr t ↦ ap (slot_left h) (slot-no h l q t)
    ]

-- the chain of right origins is the one above the slot, with the element at its end
pub slot_by-over : (h : List Op) (v : Identifier) (l r : Option Identifier) → chain_above next_right h (right_beside h l r) ++ v ∷ [] ≡ over h (slot_by h l r) ++ v ∷ []
slot_by-over h v l None = refl
slot_by-over h v l (Some q) =
    elim (has_left h q l) as (λ b. chain_above next_right h (if b then Some q else None) ++ v ∷ [] ≡ over h (if b then LeftOf q else RightOf l) ++ v ∷ [])
    [ true ↦ refl | false ↦ refl ]

-- a child has the left origin of its slot
pub child-left : (p : Place) (h : List Op) (s : Slot) (v : Identifier) → IsChild p h s v → left_at h v ≡ slot_left h s
child-left p h s v k = left_at-is h v k.op k.held ∙ sym (slot_by-left h (left_of k.op) (right_of k.op)) ∙ ap (slot_left h) k.slot

-- a child is an element of the place
pub child-in : (p : Place) (h : List Op) (s : Slot) (v : Identifier) → IsChild p h s v → IsIn p h v
child-in p h s v k = record { op = k.op; held = k.held; place = k.place }

-- a child is held
pub child-held : (p : Place) (h : List Op) (s : Slot) (v : Identifier) → IsChild p h s v → IsHeld h v
child-held p h s v k = ap is_some k.held

-- the chain of left origins of a child
pub child-lefts : (p : Place) (h : List Op) (s : Slot) (v : Identifier) → Lawful h → IsChild p h s v → lefts h v ≡ chain_above next_left h (slot_left h s) ++ v ∷ []
child-lefts p h s v w k = lefts-above h v w (child-held p h s v k) ∙ ap (λ l. chain_above next_left h l ++ v ∷ []) (child-left p h s v k)

-- the chain of right origins of a child
pub child-rights : (p : Place) (h : List Op) (s : Slot) (v : Identifier) → Lawful h → IsChild p h s v → rights h v ≡ over h s ++ v ∷ []
child-rights p h s v w k = rights-at h v k.op w k.held ∙ slot_by-over h v (left_of k.op) (right_of k.op) ∙ ap (λ s. over h s ++ v ∷ []) k.slot

-- a slot is fixed by the left origin and the right origins above
same_slot : (h : List Op) (s : Slot) (l r : Option Identifier) → IsThere h s → l ≡ slot_left h s → ((q : Identifier) → r ≡ Some q → IsHeld h q) → over h (slot_by h l r) ≡ over h s
    → slot_by h l r ≡ s
same_slot h (RightOf m) l None t e f o = ap RightOf e
same_slot h (LeftOf q) l None t e f o = absurd (never_none next_right h q t (sym o))
same_slot h (RightOf m) l (Some z) t e f o =
    elim (cases_Bool (has_left h z l)) [
      | inl k ↦ absurd (never_none next_right h z (f z refl) (sym (ap (over h) (slot-yes h l z k)) ∙ o))
      | inr k ↦ slot-no h l z k ∙ ap RightOf e
    ]
same_slot h (LeftOf q) l (Some z) t e f o =
    elim (cases_Bool (has_left h z l)) [
      | inl k ↦ slot-yes h l z k ∙ ap LeftOf (same_chain next_right h z q (f z refl) t (sym (ap (over h) (slot-yes h l z k)) ∙ o))
      | inr k ↦ absurd (never_none next_right h q t (sym o ∙ ap (over h) (slot-no h l z k)))
    ]

-- an origin is fixed by the chain above
pub same_above : (h : List Op) (l m : Option Identifier) → ((r : Identifier) → l ≡ Some r → IsHeld h r) → IsThere h (RightOf m)
    → chain_above next_left h l ≡ chain_above next_left h m → l ≡ m
same_above h None None f t e = refl
same_above h None (Some b) f t e = absurd (never_none next_left h b t (sym e))
same_above h (Some a) None f t e = absurd (never_none next_left h a (f a refl) e)
same_above h (Some a) (Some b) f t e = ap Some (same_chain next_left h a b (f a refl) t e)

-- the last but one of a chain of left origins is the left origin
pub left_from : (h : List Op) (u : Identifier) (l : Option Identifier) → Lawful h → IsHeld h u → IsThere h (RightOf l) → lefts h u ≡ chain_above next_left h l ++ u ∷ []
    → left_at h u ≡ l
left_from h u l w k t e =
    let o = found (holder h u) k in
    left_at-is h u o.0 o.1
    ∙ same_above h (left_of o.0) l (λ r f. left_origin_held h u o.0 r w o.1 f) t
    (same_from_push (chain_above next_left h (left_of o.0)) (chain_above next_left h l) u u (sym (lefts-at h u o.0 w o.1) ∙ e)).0

-- the first after a slot in a chain of right origins is a child of the slot
pub child_under : (p : Place) (h : List Op) (s : Slot) (u z : Identifier) (ws : List Identifier) → Lawful h → IsThere h s → IsIn p h u → left_at h u ≡ slot_left h s
    → rights h u ≡ over h s ++ z ∷ ws → IsChild p h s z
child_under p h s u z ws w t m l q =
    let i = rights-prefix h u z (over h s) ws w (IsIn-held p h u m) q in
    let mz : IsIn p h z = All-contains (IsIn p h) (rights h u) z (rights-in p h u w m) (subst (λ l. Contains l z) (sym q) (contains_middle (over h s) z ws)) in
    let lz : left_of mz.op ≡ slot_left h s = sym (left_at-is h z mz.op mz.held) ∙ i.1 ∙ l in
    let path : over h (slot_of h mz.op) ++ z ∷ [] ≡ over h s ++ z ∷ [] = sym (rights-at h z mz.op w mz.held ∙ slot_by-over h z (left_of mz.op) (right_of mz.op)) ∙ i.0 in
    record {
      op = mz.op;
      held = mz.held;
      place = mz.place;
      slot = same_slot h s (left_of mz.op) (right_of mz.op) t lz (λ r e. right_origin_held h z mz.op r w mz.held e)
          (same_from_push (over h (slot_of h mz.op)) (over h s) z z path).0;
    }

-- u has the left origin l
pub record Under (p : Place) (h : List Op) (l : Option Identifier) (u : Identifier) : Type 0 where
  pub member : IsIn p h u
  pub lefts_u : lefts h u ≡ chain_above next_left h l ++ u ∷ []
  pub left_u : left_at h u ≡ l

-- the first after l in a chain of left origins has the left origin l
pub under_left : (p : Place) (h : List Op) (l : Option Identifier) (e u : Identifier) (more : List Identifier) → Lawful h → IsThere h (RightOf l) → IsIn p h e
    → lefts h e ≡ chain_above next_left h l ++ u ∷ more → Under p h l u
under_left p h l e u more w t m q =
    let mu : IsIn p h u = All-contains (IsIn p h) (lefts h e) u (lefts-in p h e w m) (subst (λ l. Contains l u) (sym q) (contains_middle (chain_above next_left h l) u more)) in
    let lu = lefts-prefix h e u (chain_above next_left h l) more w (IsIn-held p h e m) q in
    record { member = mu; lefts_u = lu; left_u = left_from h u l w (IsIn-held p h u mu) t lu }

-- an element with the left origin l stands in the forest below a right child of l
pub record Rooted (p : Place) (h : List Op) (l : Option Identifier) (u : Identifier) : Type 0 where
  pub root : Identifier
  pub below : List Identifier
  pub path : rights h u ≡ root ∷ below
  pub is_child : IsChild p h (RightOf l) root
  pub own : below ≡ [] → u ≡ root

-- a list with a last member has a first
front_of : (c : List Identifier) (u : Identifier) → (r : Identifier) × (below : List Identifier) × (c ++ u ∷ [] ≡ r ∷ below)
front_of [] u = (u, [], refl)
front_of (y ∷ c) u = (y, c ++ u ∷ [], refl)

-- each element with the left origin l stands in such a forest
pub rooted : (p : Place) (h : List Op) (l : Option Identifier) (u : Identifier) → Lawful h → IsThere h (RightOf l) → IsIn p h u → left_at h u ≡ l → Rooted p h l u
rooted p h l u w t m e =
    let r = chain-ends next_right h u (IsIn-held p h u m) in
    let f = front_of r.0 u in
    let path : rights h u ≡ f.0 ∷ f.1 = r.1 ∙ f.2 in
    record {
      root = f.0;
      below = f.1;
      path = path;
      is_child = child_under p h (RightOf l) u f.0 f.1 w t m e path;
      own = only_one h u f.0 f.1 (IsIn-held p h u m) path;
    }

-- an origin that is held, as a slot
pub there : (h : List Op) (l : Option Identifier) → ((q : Identifier) → l ≡ Some q → IsHeld h q) → IsThere h (RightOf l)
there h None f = tt
there h (Some q) f = f q refl

-- a left origin is held
pub left_there : (p : Place) (h : List Op) (q : Identifier) → Lawful h → IsIn p h q → IsThere h (RightOf (left_at h q))
left_there p h q w m = there h (left_at h q) (λ l e. left_origin_held h q m.op l w m.held (sym (left_at-is h q m.op m.held) ∙ e))
