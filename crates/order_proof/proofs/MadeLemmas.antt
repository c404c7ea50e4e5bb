-- The certificate that is made is valid.
use Rattle.std.proofs.Common.{arith, get_or, ◌-◌, ◌+◌, List, [], ap, append_assoc, drop, inl, inr, refl, reverse, subst, suc, sym, take, true, ℕ, ◌++◌, ◌∙◌, ◌∷◌, ◌≡◌, ◌<◌, ◌≤◌}
use Rattle.std.proofs.Common.{length}
use Rattle.std.specs.Prelude.{None, Option, Some, if◌then◌else◌}
use Rattle.std.proofs.lemmas.List.{append-nil, reverse-append, take_more}
use Rattle.fugue_ids.specs.Identifiers.{Identifier}
use Rattle.fugue_ids.specs.declared.op.Op.{Op}
use Rattle.fugue_ids.specs.declared.op.Op.TheVariants.{Delete}
use Rattle.fugue_ids.proofs.IdentifierLemmas.{cases_origin, id_eq-refl, ne-id_eq}
use Rattle.origin_model.specs.declared.operations.Place.{Place}
use Rattle.origin_model.specs.operations.Verdict.{Lawful}
use Rattle.origin_model.specs.order.Laws.{IsIn}
use Rattle.origin_model.specs.order.Order.{before, lefts, right_at, rights}
use Rattle.origin_model.proofs.SharedLemmas.{IsHeld, IsIn-held, before_at}
use Rattle.order_proof.specs.declared.step.Reason.{Reason}
use Rattle.order_proof.specs.declared.step.Reason.TheVariants.{End, Inner, Later, Prefix, Tie}
use Rattle.order_proof.specs.declared.step.Step.{Step}
use Rattle.order_proof.specs.Certificates.{ByRightChains, ByRightOrigins, Certificate, Chain, Claims, HoldsBy, IsFork, IsProperPrefix, IsSiblingStep, IsStep, IsValid, PartsAt}
use Rattle.order_proof.specs.Certificates.{IsOrderedBefore, is_later}
use Rattle.order_proof.specs.Making.{common_count, certificate_made, certificate_made_at, reason_at, reason_between, reason_of, rests_on}
unfoldable use Rattle.order_proof.specs.Making.{certificate}
use Rattle.order_proof.proofs.BeforeLemmas.{prefix_of}
use Rattle.order_proof.proofs.FoundLemmas.{Open, extended, first_step}

-- what a certificate has after its first step
abbrev pub below : List Op → Option (Identifier × Identifier) → Certificate
below older o = elim o [ None ↦ [] | Some claim ↦ certificate older claim.0 claim.1 ]

-- the first step, and what it rests on
pub certificate-cons : (op : Op) (older : List Op) (x y : Identifier)
    → certificate (op ∷ older) x y ≡ certificate_made (op ∷ older) x y ∷ below older (rests_on ((certificate_made (op ∷ older) x y).reason))
unfolding certificate
certificate-cons op older x y = refl

pub certificate-none : (x y : Identifier) → certificate [] x y ≡ []
unfolding certificate
certificate-none x y = refl

abbrev none : Op
none = Delete (record { replica = 0; counter = 0 })

-- the newest of the first n operations
reversed-take : (ops : List Op) (n : ℕ) → 0 < n → n ≤ length ops → reverse (take n ops) ≡ get_or ops (n - 1) none ∷ reverse (take (n - 1) ops)
reversed-take ops n l k =
    let on : n ≡ n - 1 + 1 = omega (arith, l) in
    ap (λ m. reverse (take m ops)) on ∙ ap reverse (take_more ops (n - 1) none (omega (arith, l, k))) ∙ reverse-append (take (n - 1) ops) (get_or ops (n - 1) none ∷ [])

turn : (ops : List Op) (n : ℕ) (x y : Identifier) → 0 < n → n ≤ length ops
    → certificate (reverse (take n ops)) x y ≡ certificate_made (reverse (take n ops)) x y ∷ below (reverse (take (n - 1) ops))
    (rests_on ((certificate_made (reverse (take n ops)) x y).reason))
turn ops n x y l k =
    let older : List Op = reverse (take (n - 1) ops) in
    let e : reverse (take n ops) ≡ get_or ops (n - 1) none ∷ older = reversed-take ops n l k in
    ap (λ h. certificate h x y) e
    ∙ certificate-cons (get_or ops (n - 1) none) older x y
    ∙ (λ i. certificate_made (sym e i) x y ∷ below older (rests_on ((certificate_made (sym e i) x y).reason)))

-- a turn of the loop
module _ (ops : List Op) (n : ℕ) (x y : Identifier) (items all : Certificate) (s : Step) (b : Option (Identifier × Identifier)) (l : 0 < n) (k : n ≤ length ops)
    (rest : items ++ certificate (reverse (take n ops)) x y ≡ all) (is : s ≡ certificate_made (reverse (take n ops)) x y) (at : b ≡ rests_on s.reason) where
  after_any : (items ++ s ∷ []) ++ below (reverse (take (n - 1) ops)) b ≡ all
  after_any =
      append_assoc items (s ∷ []) (below (reverse (take (n - 1) ops)) b)
      ∙ ap (λ o. items ++ s ∷ below (reverse (take (n - 1) ops)) o) at
      ∙ ap (λ (z : Step). items ++ z ∷ below (reverse (take (n - 1) ops)) (rests_on z.reason)) is
      ∙ ap (λ z. items ++ z) (sym (turn ops n x y l k))
      ∙ rest

  pub after_some : (next : Identifier × Identifier) → b ≡ Some next → (items ++ s ∷ []) ++ certificate (reverse (take (n - 1) ops)) next.0 next.1 ≡ all
  after_some next e = ap (λ o. (items ++ s ∷ []) ++ below (reverse (take (n - 1) ops)) o) (sym e) ∙ after_any

  pub after_none : b ≡ None → items ++ s ∷ [] ≡ all
  after_none e = sym (append-nil (items ++ s ∷ [])) ∙ ap (λ o. (items ++ s ∷ []) ++ below (reverse (take (n - 1) ops)) o) (sym e) ∙ after_any

-- where no operation is left
pub spent : (ops : List Op) (n : ℕ) (x y : Identifier) (items all : Certificate) → n ≤ 0 → items ++ certificate (reverse (take n ops)) x y ≡ all → items ≡ all
spent ops n x y items all l rest =
    let z : n ≡ 0 = omega (arith, l) in
    sym (append-nil items)
    ∙ ap (λ c. items ++ c) (sym (certificate-none x y))
    ∙ ap (λ k. items ++ certificate (reverse (take k ops)) x y) (sym z)
    ∙ rest

-- after a common front
count-common : (c xs ys : Chain) → (drop (common_count (c ++ xs) (c ++ ys)) (c ++ xs) ≡ drop (common_count xs ys) xs)
    × (drop (common_count (c ++ xs) (c ++ ys)) (c ++ ys) ≡ drop (common_count xs ys) ys)
count-common [] xs ys = (refl, refl)
count-common (a ∷ c) xs ys =
    let k = count-common c xs ys in
    let e : common_count (a ∷ (c ++ xs)) (a ∷ (c ++ ys)) ≡ suc (common_count (c ++ xs) (c ++ ys)) =
    ap (λ b. if b then suc (common_count (c ++ xs) (c ++ ys)) else 0) (id_eq-refl a) in
    (ap (λ n. drop n (a ∷ (c ++ xs))) e ∙ k.0, ap (λ n. drop n (a ∷ (c ++ ys))) e ∙ k.1)

-- what two chains have after their common front
abbrev Rests : (xs ys us vs : Chain) → Type 0
Rests xs ys us vs = (drop (common_count xs ys) xs ≡ us) × (drop (common_count xs ys) ys ≡ vs)

rests-parted : (xs ys u v : Chain) (a b : Identifier) (t : PartsAt xs ys u v a b) → Rests xs ys (a ∷ t.more_x) (b ∷ t.more_y)
rests-parted xs ys u v a b t =
    let p : xs ≡ t.common ++ a ∷ t.more_x = t.whole_x ∙ ap (λ l. t.common ++ l) t.first in
    let q : ys ≡ t.common ++ b ∷ t.more_y = t.whole_y ∙ ap (λ l. t.common ++ l) t.second in
    let k = count-common t.common (a ∷ t.more_x) (b ∷ t.more_y) in
    let e : common_count (a ∷ t.more_x) (b ∷ t.more_y) ≡ 0 = ap (λ z. if z then suc (common_count t.more_x t.more_y) else 0) (ne-id_eq a b t.differ) in (
      (λ i. drop (common_count (p i) (q i)) (p i)) ∙ k.0 ∙ ap (λ n. drop n (a ∷ t.more_x)) e,
      (λ i. drop (common_count (p i) (q i)) (q i)) ∙ k.1 ∙ ap (λ n. drop n (b ∷ t.more_y)) e,
    )

rests-shorter : (xs ys : Chain) (t : IsProperPrefix xs ys) → Rests xs ys [] (t.0 ∷ t.1)
rests-shorter xs ys t =
    let p : xs ≡ xs ++ [] = sym (append-nil xs) in
    let k = count-common xs [] (t.0 ∷ t.1) in
    ((λ i. drop (common_count (p i) (t.2 i)) (p i)) ∙ k.0, (λ i. drop (common_count (p i) (t.2 i)) (t.2 i)) ∙ k.1)

rests-longer : (xs ys : Chain) (t : IsProperPrefix ys xs) → Rests xs ys (t.0 ∷ t.1) []
rests-longer xs ys t =
    let p : ys ≡ ys ++ [] = sym (append-nil ys) in
    let k = count-common ys (t.0 ∷ t.1) [] in
    ((λ i. drop (common_count (t.2 i) (p i)) (t.2 i)) ∙ k.0, (λ i. drop (common_count (t.2 i) (p i)) (p i)) ∙ k.1)

-- the reason that two right origins give
reason-same : (o : Option Identifier) → reason_of o o ≡ Tie
reason-same None = refl
reason-same (Some p) = ap (λ b. if b then Tie else Later p p) (id_eq-refl p)

origins_give : (h : List Op) (c d : Identifier) (r : Reason) → ByRightOrigins h c d r → reason_of (right_at h c) (right_at h d) ≡ r
origins_give h c d End t =
    elim (cases_origin (right_at h d)) [
      | inl e ↦ absurd (t.1 e)
      | inr f ↦ λ i. reason_of (t.0 i) (f.1 i)
    ]
origins_give h c d (Later p q) t =
    (λ i. reason_of (t.0 i) (t.1 i)) ∙ ap (λ b. if b then Tie else Later p q) (ne-id_eq p q t.2)
origins_give h c d Tie t = (λ i. reason_of (t.0 i) (right_at h d)) ∙ reason-same (right_at h d)
origins_give h c d _ t = absurd t

-- the reason that two chains of right origins give
fork_gives : (h : List Op) (xs ys : Chain) (r : Reason) → IsFork h xs ys r → reason_between h xs ys ≡ r
fork_gives h xs ys r t =
    let k = rests-parted xs ys t.from_c t.from_d t.c t.d t.parts in
    (λ i. reason_at h (k.0 i) (k.1 i)) ∙ origins_give h t.c t.d r t.decides

chains_give : (h : List Op) (xs ys : Chain) (r : Reason) → ByRightChains h xs ys r → reason_between h xs ys ≡ r
chains_give h xs ys Inner t = let k = rests-longer xs ys t in λ i. reason_at h (k.0 i) (k.1 i)
chains_give h xs ys r t = fork_gives h xs ys r t

-- a step at siblings is the one that is made
made_sibling : (h : List Op) (s : Step) (r : Reason) → s.reason ≡ r → IsSiblingStep h s r → certificate_made h s.x s.y ≡ s
made_sibling h s r e t =
    let m = rests-parted (lefts h s.x) (lefts h s.y) s.down_x s.down_y t.a t.b t.parts in
    let reason : reason_between h (rights h t.a) (rights h t.b) ≡ s.reason =
    (λ i. reason_between h (sym t.right_x i) (sym t.right_y i)) ∙ chains_give h s.right_x s.right_y r t.decides ∙ sym e in
    (λ i. certificate_made_at h s.x s.y (m.0 i) (m.1 i))
    ∙ (λ i. record { x = s.x; y = s.y; down_x = sym t.parts.first i; down_y = sym t.parts.second i; right_x = sym t.right_x i; right_y = sym t.right_y i; reason = reason i })

-- a step that holds is the one that is made
made_is : (h : List Op) → Lawful h → (s : Step) → IsHeld h s.y → (r : Reason) → s.reason ≡ r → HoldsBy h s r → certificate_made h s.x s.y ≡ s
made_is h w s k Prefix e t =
    let m = rests-shorter (lefts h s.x) (lefts h s.y) (prefix_of h s w k t) in
    (λ i. certificate_made_at h s.x s.y (m.0 i) (m.1 i))
    ∙ (λ i. record { x = s.x; y = s.y; down_x = sym t.no_down_x i; down_y = sym t.from_x i; right_x = sym t.no_right_x i; right_y = sym t.no_right_y i; reason = sym e i })
made_is h w s k r e t = made_sibling h s r e t

-- the certificate that is made is valid, and claims what it is made for
abbrev IsMade : List Op → Identifier → Identifier → Certificate → Type 0
IsMade h x y c = IsValid h c × Claims x y c

-- so it is where what its first step rests on is
made_joined : (p : Place) (op : Op) (older : List Op) → Lawful (op ∷ older) → (s : Step) → IsStep (op ∷ older) s → (r : Reason) → s.reason ≡ r → Open p older r
    → ((v u : Identifier) → IsIn p older v → IsIn p older u → before_at p older v u ≡ true → IsMade older v u (certificate older v u))
    → IsMade (op ∷ older) s.x s.y (s ∷ below older (rests_on r))
made_joined p op older w s t (Later u v) e k rest =
    let found = rest v u k.1 k.0 k.2 in
    (extended op older w s t u v e (certificate older v u) found.0 found.1, (refl, refl))
made_joined p op older w s t Prefix e k rest = ((t, ap is_later e), (refl, refl))
made_joined p op older w s t Inner e k rest = ((t, ap is_later e), (refl, refl))
made_joined p op older w s t End e k rest = ((t, ap is_later e), (refl, refl))
made_joined p op older w s t Tie e k rest = ((t, ap is_later e), (refl, refl))

made_valid : (p : Place) (h : List Op) → Lawful h → (x y : Identifier) → IsIn p h x → IsIn p h y → before_at p h x y ≡ true → IsMade h x y (certificate h x y)
made_valid p [] w x y m n k = cc (m.held)
made_valid p (op ∷ older) w x y m n k =
    let h : List Op = op ∷ older in
    let f = first_step p h w x y m n k in
    let held : IsHeld h f.step.y = subst (IsHeld h) (sym f.is_y) (IsIn-held p h y n) in
    let is : certificate_made h x y ≡ f.step = (λ i. certificate_made h (sym f.is_x i) (sym f.is_y i)) ∙ made_is h w f.step held f.step.reason refl f.holds.holds in
    let all : certificate h x y ≡ f.step ∷ below older (rests_on f.step.reason) = certificate-cons op older x y ∙ ap (λ (s : Step). s ∷ below older (rests_on s.reason)) is in
    let j = made_joined p op older w f.step f.holds f.step.reason refl f.rests (λ v u a b d. made_valid p older w.1 v u a b d) in
    subst (IsMade h x y) (sym all)
    (subst (λ z. IsMade h z y (f.step ∷ below older (rests_on f.step.reason))) f.is_x (subst (λ z. IsMade h f.step.x z (f.step ∷ below older (rests_on f.step.reason))) f.is_y j))

-- where x stands before y
pub made_before : (h : List Op) → Lawful h → (x y : Identifier) → IsOrderedBefore h x y → IsMade h x y (certificate h x y)
unfolding before
made_before h w x y b = made_valid b.0 h w x y b.1 b.2 b.3
