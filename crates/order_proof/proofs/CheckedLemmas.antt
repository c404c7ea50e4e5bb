-- The test of a certificate tells whether it is valid.
use Rattle.std.proofs.Common.{Bool, List, [], ap, false, inl, inr, not, refl, subst, sym, true, ◌++◌, ◌&&◌, ◌∙◌, ◌∷◌, ◌≡◌, ◌≢◌, ◌↔◌}
use Rattle.std.specs.Prelude.{None, Option, Some, if◌then◌else◌, is_none, is_some}
use Rattle.std.specs.List.{Contains}
use Rattle.std.proofs.lemmas.Bool.{and_from, and_parts, cases_Bool, false≢true, not-true}
use Rattle.std.proofs.lemmas.List.{append-nil, same_from_push}
use Rattle.std.proofs.lemmas.List.Elements.{All-contains}
use Rattle.fugue_ids.specs.Identifiers.{Identifier, id_eq, id_lt, origin_eq}
use Rattle.fugue_ids.specs.declared.op.Op.{Op}
use Rattle.fugue_ids.proofs.IdentifierLemmas.{id_eq-false, id_eq-refl, id_eq-true, ne-id_eq, origin_eq-refl, origin_eq-true}
use Rattle.fugue_ids.proofs.ListLemmas.{contains_middle}
use Rattle.origin_model.specs.declared.operations.Place.{Place}
use Rattle.origin_model.specs.operations.History.{holder, place, place_eq}
use Rattle.origin_model.specs.operations.Verdict.{Lawful}
use Rattle.origin_model.specs.order.Laws.{IsIn}
use Rattle.origin_model.specs.order.Order.{left_at, lefts, next_left, right_at}
unfoldable use Rattle.origin_model.specs.order.Order.{chain}
use Rattle.origin_model.proofs.SharedLemmas.{IsHeld, IsIn-held, cases_held, chain-held, chain_above, element_stands, found, holder_owns, left_at-is, left_origin_held, lefts-above}
use Rattle.origin_model.proofs.SharedLemmas.{lefts-prefix, never_none, own_id, place_eq-true, place_stands, same_chain, stands_element}
use Rattle.order_proof.specs.declared.step.Reason.{Reason}
use Rattle.order_proof.specs.declared.step.Reason.TheVariants.{End, Inner, Later, Prefix, Tie}
use Rattle.order_proof.specs.declared.step.Step.{Step}
use Rattle.order_proof.specs.Certificates.{ByRightChains, ByRightOrigins, Certificate, Chain, HoldsBy, IsFork, IsPrefixStep, IsSiblingStep, IsStep, IsValid, OfOnePlace, is_later}
use Rattle.order_proof.specs.Checks.{chains_decide, rests_on_none, continues_chain, in_one_place, is_inner, origins_decide, place_holding, prefix_test, reason_test, rests_test}
use Rattle.order_proof.specs.Checks.{same_place, sibling_test, siblings_at, step_test, test}
use Rattle.order_proof.specs.Chains.{is_down, is_empty, is_rights}
use Rattle.order_proof.proofs.BesideLemmas.{rights_from, rights_to}
use Rattle.order_proof.proofs.WalkLemmas.{if_parts, walked}

if_both : (a b : Bool) → a ≡ true → b ≡ true → (if a then b else false) ≡ true
if_both a b e f = ap (λ z. if z then b else false) e ∙ f

-- an option, by its tests
none_from : (o : Option Identifier) → is_none o ≡ true → o ≡ None
none_from None e = refl
none_from (Some x) e = absurd (false≢true e)

some_from : (o : Option Identifier) → o ≢ None → is_some o ≡ true
some_from None n = absurd (n refl)
some_from (Some x) n = refl

-- an origin is held, where there is one
abbrev HeldOrigin : List Op → Option Identifier → Type 0
HeldOrigin h o = (y : Identifier) → o ≡ Some y → IsHeld h y

-- the chain above tells what it belongs to
above_once : (next : List Op → Op → Option Identifier) (h : List Op) (o q : Option Identifier) → HeldOrigin h o → HeldOrigin h q → chain_above next h o ≡ chain_above next h q
    → o ≡ q
above_once next h None None a b e = refl
above_once next h None (Some y) a b e = absurd (never_none next h y (b y refl) (sym e))
above_once next h (Some x) None a b e = absurd (never_none next h x (a x refl) e)
above_once next h (Some x) (Some y) a b e = ap Some (same_chain next h x y (a x refl) (b y refl) e)

-- in a lawful history
module _ (h : List Op) (w : Lawful h) where
  -- what is above a held element is held
  left_up : (x y : Identifier) → IsHeld h x → left_at h x ≡ Some y → IsHeld h y
  left_up x y k e = let o = found (holder h x) k in left_origin_held h x o.0 y w o.1 (sym (left_at-is h x o.0 o.1) ∙ e)

  -- the chain from a member on, and what is above it
  down_front : (x a : Identifier) (c more : Chain) → IsHeld h x → lefts h x ≡ c ++ a ∷ more → IsHeld h a × (c ≡ chain_above next_left h (left_at h a))
  down_front x a c more k e =
      let held : IsHeld h a = All-contains (IsHeld h) (lefts h x) a (chain-held next_left h x) (subst (λ l. Contains l a) (sym e) (contains_middle c a more)) in
      (held, (same_from_push c (chain_above next_left h (left_at h a)) a a (sym (lefts-prefix h x a c more w k e) ∙ lefts-above h a w held)).0)

  -- a suffix of the chain of left origins
  down_to : (x : Identifier) (c down : Chain) (a : Identifier) (more : Chain) → IsHeld h x → lefts h x ≡ c ++ down → down ≡ a ∷ more → is_down h x down ≡ true
  down_to x c down a more k e f =
      ap (is_down h x) f ∙ (walked h x (a ∷ more)).1 (c, e ∙ ap (λ l. c ++ l) f)

  -- what stands above a suffix
  down_from : (x a : Identifier) (more : Chain) → IsHeld h x → is_down h x (a ∷ more) ≡ true → lefts h x ≡ chain_above next_left h (left_at h a) ++ a ∷ more
  down_from x a more k e =
      let r = (walked h x (a ∷ more)).0 e in
      r.1 ∙ ap (λ l. l ++ a ∷ more) (down_front x a r.0 more k r.1).1

  -- right origins decide by the test
  origins_from : (c d : Identifier) (r : Reason) → origins_decide (right_at h c) (right_at h d) c d r ≡ true → ByRightOrigins h c d r
  origins_from c d End e =
      let p = and_parts (is_none (right_at h c)) (is_some (right_at h d)) e in
      (none_from (right_at h c) p.0, λ f. false≢true (sym (ap is_some f) ∙ p.1))
  origins_from c d (Later u v) e =
      let p = and_parts (origin_eq (right_at h c) (Some u)) (origin_eq (right_at h d) (Some v) && not (id_eq u v)) e in
      let q = and_parts (origin_eq (right_at h d) (Some v)) (not (id_eq u v)) p.1 in
      (origin_eq-true (right_at h c) (Some u) p.0, origin_eq-true (right_at h d) (Some v) q.0, id_eq-false u v (not-true (id_eq u v) q.1))
  origins_from c d Tie e =
      let p = and_parts (origin_eq (right_at h c) (right_at h d)) (id_lt c d) e in
      (origin_eq-true (right_at h c) (right_at h d) p.0, p.1)
  origins_from c d _ e = absurd (false≢true e)

  origins_to : (c d : Identifier) (r : Reason) → ByRightOrigins h c d r → origins_decide (right_at h c) (right_at h d) c d r ≡ true
  origins_to c d End t = and_from _ _ (ap is_none t.0) (some_from (right_at h d) t.1)
  origins_to c d (Later u v) t =
      and_from _ _ (ap (λ o. origin_eq o (Some u)) t.0 ∙ id_eq-refl u)
      (and_from _ _ (ap (λ o. origin_eq o (Some v)) t.1 ∙ id_eq-refl v) (ap not (ne-id_eq u v t.2)))
  origins_to c d Tie t = and_from _ _ (ap (λ o. origin_eq o (right_at h d)) t.0 ∙ origin_eq-refl (right_at h d)) t.1
  origins_to c d _ t = absurd t

  -- chains that part, with one more member in front
  fork-cons : (c d : Identifier) (xs ys : Chain) (r : Reason) → c ≡ d → IsFork h xs ys r → IsFork h (c ∷ xs) (d ∷ ys) r
  fork-cons c d xs ys r e t =
      record {
        c = t.c;
        d = t.d;
        from_c = t.from_c;
        from_d = t.from_d;
        parts = record {
          common = c ∷ t.parts.common;
          more_x = t.parts.more_x;
          more_y = t.parts.more_y;
          first = t.parts.first;
          second = t.parts.second;
          whole_x = λ i. c ∷ t.parts.whole_x i;
          whole_y = λ i. sym e i ∷ t.parts.whole_y i;
          differ = t.parts.differ;
        };
        decides = t.decides;
      }

  chains-cons : (c d : Identifier) (xs ys : Chain) (r : Reason) → c ≡ d → ByRightChains h xs ys r → ByRightChains h (c ∷ xs) (d ∷ ys) r
  chains-cons c d xs ys Inner e t = (t.0, t.1, λ i. e i ∷ t.2 i)
  chains-cons c d xs ys r e t = fork-cons c d xs ys r e t

  -- a reason of two right origins is one of the chains that part there
  fork_here : (c d : Identifier) (xs ys : Chain) (r : Reason) → c ≢ d → ByRightOrigins h c d r → ByRightChains h (c ∷ xs) (d ∷ ys) r
  fork_here c d xs ys Inner n t = absurd t
  fork_here c d xs ys r n t =
      record {
        c = c;
        d = d;
        from_c = c ∷ xs;
        from_d = d ∷ ys;
        parts = record { common = []; more_x = xs; more_y = ys; first = refl; second = refl; whole_x = refl; whole_y = refl; differ = n };
        decides = t;
      }

  -- a chain that goes on beyond the other decides by Inner alone
  inner_from : (c : Identifier) (xs : Chain) (r : Reason) → is_inner r ≡ true → ByRightChains h (c ∷ xs) [] r
  inner_from c xs Inner e = (c, xs, refl)
  inner_from c xs _ e = absurd (false≢true e)

  -- chains of right origins decide by the test
  chains_from : (r : Reason) (xs ys : Chain) → chains_decide h r xs ys ≡ true → ByRightChains h xs ys r
  chains_from r [] ys e = absurd (false≢true e)
  chains_from r (c ∷ xs) [] e = inner_from c xs r e
  chains_from r (c ∷ xs) (d ∷ ys) e =
      elim (cases_Bool (id_eq c d)) [
        | inl k ↦ chains-cons c d xs ys r (id_eq-true c d k)
            (chains_from r xs ys (sym (ap (λ b. if b then chains_decide h r xs ys else origins_decide (right_at h c) (right_at h d) c d r) k) ∙ e))
        | inr k ↦ fork_here c d xs ys r (id_eq-false c d k)
            (origins_from c d r (sym (ap (λ b. if b then chains_decide h r xs ys else origins_decide (right_at h c) (right_at h d) c d r) k) ∙ e))
      ]

  -- a common front does not count
  decide-common : (r : Reason) (front xs ys : Chain) → chains_decide h r (front ++ xs) (front ++ ys) ≡ chains_decide h r xs ys
  decide-common r [] xs ys = refl
  decide-common r (a ∷ front) xs ys =
      ap (λ b. if b then chains_decide h r (front ++ xs) (front ++ ys) else origins_decide (right_at h a) (right_at h a) a a r) (id_eq-refl a) ∙ decide-common r front xs ys

  fork_to : (r : Reason) (xs ys : Chain) → IsFork h xs ys r → chains_decide h r xs ys ≡ true
  fork_to r xs ys t =
      let p = t.parts in
      (λ i. chains_decide h r (p.whole_x i) (p.whole_y i))
      ∙ decide-common r p.common t.from_c t.from_d
      ∙ (λ i. chains_decide h r (p.first i) (p.second i))
      ∙ ap (λ b. if b then chains_decide h r p.more_x p.more_y else origins_decide (right_at h t.c) (right_at h t.d) t.c t.d r) (ne-id_eq t.c t.d p.differ)
      ∙ origins_to t.c t.d r t.decides

  chains_to : (r : Reason) (xs ys : Chain) → ByRightChains h xs ys r → chains_decide h r xs ys ≡ true
  chains_to Inner xs ys t = (λ i. chains_decide h Inner (t.2 i) (sym (append-nil ys) i)) ∙ decide-common Inner ys (t.0 ∷ t.1) []
  chains_to r xs ys t = fork_to r xs ys t

  -- two chains that begin with siblings
  siblings_from : (x y : Identifier) (down_x down_y right_x right_y : Chain) (r q : Reason) → IsHeld h x → IsHeld h y
      → siblings_at h down_x down_y right_x right_y ≡ true → is_down h x down_x ≡ true → is_down h y down_y ≡ true → chains_decide h r right_x right_y ≡ true
      → IsSiblingStep h (record { x = x; y = y; down_x = down_x; down_y = down_y; right_x = right_x; right_y = right_y; reason = q }) r
  siblings_from x y [] down_y right_x right_y r q k l e f g j = absurd (false≢true e)
  siblings_from x y (a ∷ m) [] right_x right_y r q k l e f g j = absurd (false≢true e)
  siblings_from x y (a ∷ m) (b ∷ n) right_x right_y r q k l e f g j =
      let s = and_parts (not (id_eq a b)) (origin_eq (left_at h a) (left_at h b) && (is_rights h a right_x && is_rights h b right_y)) e in
      let t = and_parts (origin_eq (left_at h a) (left_at h b)) (is_rights h a right_x && is_rights h b right_y) s.1 in
      let u = and_parts (is_rights h a right_x) (is_rights h b right_y) t.1 in
      let v : lefts h x ≡ chain_above next_left h (left_at h a) ++ a ∷ m = down_from x a m k f in
      let z : lefts h y ≡ chain_above next_left h (left_at h b) ++ b ∷ n = down_from y b n l g in
      let held_a = down_front x a (chain_above next_left h (left_at h a)) m k v in
      let held_b = down_front y b (chain_above next_left h (left_at h b)) n l z in
      record {
        a = a;
        b = b;
        parts = record {
          common = chain_above next_left h (left_at h a);
          more_x = m;
          more_y = n;
          first = refl;
          second = refl;
          whole_x = v;
          whole_y = z ∙ ap (λ o. chain_above next_left h o ++ b ∷ n) (sym (origin_eq-true (left_at h a) (left_at h b) t.0));
          differ = id_eq-false a b (not-true (id_eq a b) s.0);
        };
        right_x = sym (rights_from h a right_x u.0);
        right_y = sym (rights_from h b right_y u.1);
        decides = chains_from r right_x right_y j;
      }

  -- a step at siblings holds by the test
  sibling_from : (s : Step) (r : Reason) → IsHeld h s.x → IsHeld h s.y → sibling_test h s r ≡ true → IsSiblingStep h s r
  sibling_from s r k l e =
      let p = and_parts (siblings_at h s.down_x s.down_y s.right_x s.right_y) (is_down h s.x s.down_x && (is_down h s.y s.down_y && chains_decide h r s.right_x s.right_y)) e in
      let q = and_parts (is_down h s.x s.down_x) (is_down h s.y s.down_y && chains_decide h r s.right_x s.right_y) p.1 in
      let t = and_parts (is_down h s.y s.down_y) (chains_decide h r s.right_x s.right_y) q.1 in
      siblings_from s.x s.y s.down_x s.down_y s.right_x s.right_y r s.reason k l p.0 q.0 t.0 t.1

  -- siblings have one left origin
  one_origin : (x y a b : Identifier) (c m n : Chain) → IsHeld h x → IsHeld h y → lefts h x ≡ c ++ a ∷ m → lefts h y ≡ c ++ b ∷ n → left_at h a ≡ left_at h b
  one_origin x y a b c m n k l e f =
      let p = down_front x a c m k e in
      let q = down_front y b c n l f in
      above_once next_left h
      (left_at h a) (left_at h b) (λ z g. left_up a z p.0 g) (λ z g. left_up b z q.0 g) (sym p.1 ∙ q.1)

  sibling_to : (s : Step) (r : Reason) → IsHeld h s.x → IsHeld h s.y → IsSiblingStep h s r → sibling_test h s r ≡ true
  sibling_to s r k l t =
      let p = t.parts in
      let e : lefts h s.x ≡ p.common ++ t.a ∷ p.more_x = p.whole_x ∙ ap (λ z. p.common ++ z) p.first in
      let f : lefts h s.y ≡ p.common ++ t.b ∷ p.more_y = p.whole_y ∙ ap (λ z. p.common ++ z) p.second in
      let a = down_front s.x t.a p.common p.more_x k e in
      let b = down_front s.y t.b p.common p.more_y l f in
      let d : left_at h t.a ≡ left_at h t.b = one_origin s.x s.y t.a t.b p.common p.more_x p.more_y k l e f in
      and_from _ _
      ((λ i. siblings_at h (p.first i) (p.second i) s.right_x s.right_y)
      ∙ and_from _ _ (ap not (ne-id_eq t.a t.b p.differ)) (and_from _ _ (ap (λ o. origin_eq o (left_at h t.b)) d ∙ origin_eq-refl (left_at h t.b))
      (and_from _ _ (rights_to h t.a s.right_x (sym t.right_x)) (rights_to h t.b s.right_y (sym t.right_y)))))
      (and_from _ _ (down_to s.x p.common s.down_x t.a p.more_x k p.whole_x p.first)
      (and_from _ _ (down_to s.y p.common s.down_y t.b p.more_y l p.whole_y p.second) (chains_to r s.right_x s.right_y t.decides)))

  -- an empty chain, by its test
  empty_from : (c : Chain) → is_empty c ≡ true → c ≡ []
  empty_from [] e = refl
  empty_from (a ∷ c) e = absurd (false≢true e)

  -- a step by Prefix holds by the test
  prefix_at : (x y : Identifier) (down_x down_y right_x right_y : Chain) (q : Reason) → IsHeld h y
      → continues_chain x down_y ≡ true → is_down h y down_y ≡ true → down_x ≡ [] → right_x ≡ [] → right_y ≡ []
      → IsPrefixStep h (record { x = x; y = y; down_x = down_x; down_y = down_y; right_x = right_x; right_y = right_y; reason = q })
  prefix_at x y down_x [] right_x right_y q l e f g i j = absurd (false≢true e)
  prefix_at x y down_x (z ∷ []) right_x right_y q l e f g i j = absurd (false≢true e)
  prefix_at x y down_x (z ∷ next ∷ more) right_x right_y q l e f g i j =
      let d : z ≡ x = id_eq-true z x e in
      record {
        above = chain_above next_left h (left_at h z);
        suffix = down_from y z (next ∷ more) l f;
        next = next;
        more = more;
        from_x = ap (λ a. a ∷ next ∷ more) d;
        no_down_x = g;
        no_right_x = i;
        no_right_y = j;
      }

  prefix_from : (s : Step) → IsHeld h s.y → prefix_test h s ≡ true → IsPrefixStep h s
  prefix_from s l e =
      let p = and_parts (continues_chain s.x s.down_y) (is_down h s.y s.down_y && (is_empty s.down_x && (is_empty s.right_x && is_empty s.right_y))) e in
      let q = and_parts (is_down h s.y s.down_y) (is_empty s.down_x && (is_empty s.right_x && is_empty s.right_y)) p.1 in
      let t = and_parts (is_empty s.down_x) (is_empty s.right_x && is_empty s.right_y) q.1 in
      let u = and_parts (is_empty s.right_x) (is_empty s.right_y) t.1 in
      prefix_at s.x s.y s.down_x s.down_y s.right_x s.right_y s.reason l p.0 q.0 (empty_from s.down_x t.0) (empty_from s.right_x u.0) (empty_from s.right_y u.1)

  prefix_to : (s : Step) → IsHeld h s.y → IsPrefixStep h s → prefix_test h s ≡ true
  prefix_to s l t =
      and_from _ _ (ap (continues_chain s.x) t.from_x ∙ id_eq-refl s.x)
      (and_from _ _ (down_to s.y t.above s.down_y s.x (t.next ∷ t.more) l t.suffix t.from_x)
      (and_from _ _ (ap is_empty t.no_down_x) (and_from _ _ (ap is_empty t.no_right_x) (ap is_empty t.no_right_y))))

  -- a step holds by the test
  holds_from : (s : Step) (r : Reason) → IsHeld h s.x → IsHeld h s.y → reason_test h s r ≡ true → HoldsBy h s r
  holds_from s Prefix k l e = prefix_from s l e
  holds_from s r k l e = sibling_from s r k l e

  holds_to : (s : Step) (r : Reason) → IsHeld h s.x → IsHeld h s.y → HoldsBy h s r → reason_test h s r ≡ true
  holds_to s Prefix k l t = prefix_to s l t
  holds_to s r k l t = sibling_to s r k l t

-- places, by their tests
both_from : (o q : Option Place) → same_place o q ≡ true → (p : Place) × (o ≡ Some p) × (q ≡ Some p)
both_from None q e = absurd (false≢true e)
both_from (Some p) None e = absurd (false≢true e)
both_from (Some p) (Some q) e = (p, refl, ap Some (sym (place_eq-true p q e)))

-- the place of what a look-up found
abbrev place_by : Option Op → Option Place
place_by o = elim o [ None ↦ None | Some op ↦ place op ]

in_from : (h : List Op) (p : Place) (x : Identifier) → place_holding h x ≡ Some p → IsIn p h x
in_from h p x e =
    elim (cases_held (holder h x)) [
      | inl k ↦ let d : None ≡ Some p = sym (ap place_by k) ∙ e in cc (d)
      | inr k ↦ record { op = k.0; held = k.1; place = stands_element p k.0 (sym (ap place_by k.1) ∙ e) ∙ own_id k.0 x (holder_owns h x k.0 k.1) }
    ]

in_to : (h : List Op) (p : Place) (x : Identifier) → IsIn p h x → place_holding h x ≡ Some p
in_to h p x m = ap place_by m.held ∙ (element_stands p m.op x m.place).0

place_from : (h : List Op) (x y : Identifier) → in_one_place h x y ≡ true → OfOnePlace h x y
place_from h x y e =
    let b = both_from (place_holding h x) (place_holding h y) e in
    (b.0, in_from h b.0 x b.1, in_from h b.0 y b.2)

place_to : (h : List Op) (x y : Identifier) → OfOnePlace h x y → in_one_place h x y ≡ true
place_to h x y t =
    let k : place t.1.op ≡ Some t.0 = (element_stands t.0 t.1.op x t.1.place).0 in
    (λ i. same_place (in_to h t.0 x t.1 i) (in_to h t.0 y t.2 i))
    ∙ sym (ap (λ (o : Option Place). elim o [ None ↦ false | Some q ↦ place_eq q t.0 ]) k)
    ∙ place_stands t.1.op t.0 k

-- the test of what a step rests on
rests_from : (r : Reason) (t : Step) → rests_test r t ≡ true → r ≡ Later t.y t.x
rests_from (Later u v) t e =
    let p = and_parts (id_eq t.y u) (id_eq t.x v) e in
    λ i. Later (sym (id_eq-true t.y u p.0) i) (sym (id_eq-true t.x v p.1) i)
rests_from _ t e = absurd (false≢true e)

rests_to : (r : Reason) (t : Step) → r ≡ Later t.y t.x → rests_test r t ≡ true
rests_to r t e = ap (λ q. rests_test q t) e ∙ and_from _ _ (id_eq-refl t.y) (id_eq-refl t.x)

module _ (h : List Op) (w : Lawful h) where
  step_from : (s : Step) → step_test h s ≡ true → IsStep h s
  step_from s e =
      let p = and_parts (in_one_place h s.x s.y) (reason_test h s s.reason) e in
      let o = place_from h s.x s.y p.0 in
      record { one_place = o; holds = holds_from h w s s.reason (IsIn-held o.0 h s.x o.1) (IsIn-held o.0 h s.y o.2) p.1 }

  step_to : (s : Step) → IsStep h s → step_test h s ≡ true
  step_to s t =
      let o = t.one_place in
      and_from _ _ (place_to h s.x s.y o) (holds_to h w s s.reason (IsIn-held o.0 h s.x o.1) (IsIn-held o.0 h s.y o.2) t.holds)

  -- what passes the test is valid
  valid_from : (certificate : Certificate) → test h certificate ≡ true → IsValid h certificate
  valid_from [] e = absurd (false≢true e)
  valid_from (s ∷ []) e =
      let p = if_parts (step_test h s) (rests_on_none s.reason) e in
      (step_from s p.0, not-true (is_later s.reason) p.1)
  valid_from (s ∷ t ∷ more) e =
      let p = if_parts (step_test h s) (if rests_test s.reason t then test h (t ∷ more) else false) e in
      let q = if_parts (rests_test s.reason t) (test h (t ∷ more)) p.1 in
      (step_from s p.0, rests_from s.reason t q.0, valid_from (t ∷ more) q.1)

  valid_to : (certificate : Certificate) → IsValid h certificate → test h certificate ≡ true
  valid_to [] v = absurd v
  valid_to (s ∷ []) v = if_both (step_test h s) (rests_on_none s.reason) (step_to s v.0) (ap not v.1)
  valid_to (s ∷ t ∷ more) v =
      if_both (step_test h s) (if rests_test s.reason t then test h (t ∷ more) else false) (step_to s v.0)
      (if_both (rests_test s.reason t) (test h (t ∷ more)) (rests_to s.reason t v.1) (valid_to (t ∷ more) v.2))

  pub tested : (certificate : Certificate) → (test h certificate ≡ true) ↔ IsValid h certificate
  tested certificate = (valid_from certificate, valid_to certificate)
