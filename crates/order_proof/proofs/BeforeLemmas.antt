-- What a valid certificate claims holds.
use Rattle.std.proofs.Common.{List, [], ap, append_assoc, false, inl, inr, subst, sym, true, ◌++◌, ◌&&◌, ◌∙◌, ◌∷◌, ◌≡◌}
use Rattle.std.specs.Prelude.{Option}
use Rattle.std.proofs.lemmas.Bool.{and_from, or_left, or_right, true≢false}
use Rattle.fugue_ids.specs.Identifiers.{Identifier, id_eq, id_lt, origin_eq}
use Rattle.fugue_ids.specs.declared.op.Op.{Op}
use Rattle.fugue_ids.proofs.IdentifierLemmas.{cases_origin, origin_eq-refl}
use Rattle.origin_model.specs.declared.operations.Place.{Place}
use Rattle.origin_model.specs.operations.Verdict.{Lawful}
use Rattle.origin_model.specs.order.Laws.{IsIn}
use Rattle.origin_model.specs.order.Order.{before, fork_before, lefts, older_of, order, right_at, rights, sibling}
use Rattle.origin_model.proofs.SharedLemmas.{IsHeld, IsIn-held, before_at, before_at-older, fork-by, fork_by, further, lefts-in, lefts-prefix, origin_before, right_at_held}
use Rattle.origin_model.proofs.SharedLemmas.{right_at_in, rights-in}
use Rattle.order_proof.specs.declared.step.Reason.{Reason}
use Rattle.order_proof.specs.declared.step.Reason.TheVariants.{End, Inner, Later, Prefix, Tie}
use Rattle.order_proof.specs.declared.step.Step.{Step}
use Rattle.order_proof.specs.Certificates.{ByRightOrigins, ByRightChains, Certificate, HoldsBy, IsFork, IsPrefixStep, IsProperPrefix, IsSiblingStep, IsValid, is_later}
use Rattle.order_proof.specs.Laws.{ValidMeansBefore}
use Rattle.order_proof.proofs.PartedLemmas.{before-longer, before-parted, before-prefix, parted-in}

-- the claim on which a step rests holds
abbrev pub Due : Place → List Op → Reason → Type 0
Due p h (Later u v) = before_at p h v u ≡ true
Due p h _ = Unit {0}

-- what is not Later rests on nothing
not_due : (p : Place) (h : List Op) (r : Reason) → is_later r ≡ false → Due p h r
not_due p h (Later u v) e = absurd (true≢false e)
not_due p h _ e = tt

-- a step by Prefix begins after the front of x's own chain
pub prefix_front : (h : List Op) (s : Step) → Lawful h → IsHeld h s.y → (t : IsPrefixStep h s) → lefts h s.x ≡ t.above ++ s.x ∷ []
prefix_front h s w k t = lefts-prefix h s.y s.x t.above (t.next ∷ t.more) w k (t.suffix ∙ ap (λ l. t.above ++ l) t.from_x)

-- and is of a proper prefix
abbrev pub prefix_of : (h : List Op) (s : Step) → Lawful h → IsHeld h s.y → IsPrefixStep h s → IsProperPrefix (lefts h s.x) (lefts h s.y)
prefix_of h s w k t = (
  t.next,
  t.more,
  t.suffix ∙ ap (λ l. t.above ++ l) t.from_x
      ∙ sym (append_assoc t.above (s.x ∷ []) (t.next ∷ t.more))
      ∙ ap (λ l. l ++ t.next ∷ t.more) (sym (prefix_front h s w k t)),
)

-- the chains of right origins that a step has are those of its siblings
of_rights : (h : List Op) (s : Step) (r : Reason) (t : IsSiblingStep h s r) → ByRightChains h (rights h t.a) (rights h t.b) r
of_rights h s r t = subst (λ l. ByRightChains h l (rights h t.b) r) t.right_x (subst (λ l. ByRightChains h s.right_x l r) t.right_y t.decides)

module _ (p : Place) (h : List Op) (w : Lawful h) where
  -- right origins that decide put c before d
  origins_before : (c d : Identifier) → IsIn p h c → IsIn p h d → (r : Reason) → ByRightOrigins h c d r → Due p h r → fork_before (order p (older_of h)) h c d ≡ true
  origins_before c d m n End t k =
      elim (cases_origin (right_at h d)) [
        | inl e ↦ absurd (t.1 e)
        | inr f ↦ fork-by p h c d w m n ∙ (λ i. fork_by (before_at p (older_of h)) (t.0 i) (f.1 i) c d)
      ]
  origins_before c d m n (Later u v) t k =
      fork-by p h c d w m n
      ∙ (λ i. fork_by (before_at p (older_of h)) (t.0 i) (t.1 i) c d)
      ∙ or_left (before_at p (older_of h) v u) (id_eq v u && id_lt c d)
      (sym (before_at-older p h v u w (right_at_held h d v w t.1) (right_at_held h c u w t.0)) ∙ k)
  origins_before c d m n Tie t k =
      let o : Option Identifier = right_at h d in
      fork-by p h c d w m n
      ∙ (λ i. fork_by (before_at p (older_of h)) (t.0 i) o c d)
      ∙ or_right (origin_before (before_at p (older_of h)) o o) (origin_eq o o && id_lt c d) (and_from _ _ (origin_eq-refl o) t.1)
  origins_before c d m n _ t k = absurd t

  -- so do chains of right origins that part there
  fork_holds : (a b : Identifier) → IsIn p h a → IsIn p h b → (r : Reason) → IsFork h (rights h a) (rights h b) r → Due p h r → sibling (order p (older_of h)) h a b ≡ true
  fork_holds a b m n r t k =
      let ins = parted-in (IsIn p h) (rights h a) (rights h b) t.from_c t.from_d t.c t.d t.parts (rights-in p h a w m) (rights-in p h b w n) in
      before-parted false (fork_before (order p (older_of h)) h) (rights h a) (rights h b) t.from_c t.from_d t.c t.d t.parts
      ∙ origins_before t.c t.d ins.0 ins.1 r t.decides k

  -- siblings that decide stand in their order
  siblings_before : (a b : Identifier) → IsIn p h a → IsIn p h b → (r : Reason) → ByRightChains h (rights h a) (rights h b) r → Due p h r
      → sibling (order p (older_of h)) h a b ≡ true
  siblings_before a b m n Inner t k = before-longer false (fork_before (order p (older_of h)) h) (rights h a) (rights h b) t
  siblings_before a b m n r t k = fork_holds a b m n r t k

  -- where the chains of left origins part at them, x stands before y
  sibling_step : (s : Step) → IsIn p h s.x → IsIn p h s.y → (r : Reason) → IsSiblingStep h s r → Due p h r → before_at p h s.x s.y ≡ true
  sibling_step s m n r t k =
      let ins = parted-in (IsIn p h) (lefts h s.x) (lefts h s.y) s.down_x s.down_y t.a t.b t.parts (lefts-in p h s.x w m) (lefts-in p h s.y w n) in
      before-parted true (sibling (order p (older_of h)) h) (lefts h s.x) (lefts h s.y) s.down_x s.down_y t.a t.b t.parts
      ∙ siblings_before t.a t.b ins.0 ins.1 r (of_rights h s r t) k

  -- a step holds where what it rests on does
  step_before : (s : Step) → IsIn p h s.x → IsIn p h s.y → (r : Reason) → HoldsBy h s r → Due p h r → before_at p h s.x s.y ≡ true
  step_before s m n Prefix t k = before-prefix true (sibling (order p (older_of h)) h) (lefts h s.x) (lefts h s.y) (prefix_of h s w (IsIn-held p h s.y n) t)
  step_before s m n r t k = sibling_step s m n r t k

  -- the right origins of a step by Later are older elements of the place
  pub later_in : (s : Step) → IsIn p h s.x → IsIn p h s.y → (u v : Identifier) → IsSiblingStep h s (Later u v) → IsIn p (older_of h) u × IsIn p (older_of h) v
  later_in s m n u v t =
      let ins = parted-in (IsIn p h) (lefts h s.x) (lefts h s.y) s.down_x s.down_y t.a t.b t.parts (lefts-in p h s.x w m) (lefts-in p h s.y w n) in
      let f : IsFork h (rights h t.a) (rights h t.b) (Later u v) = of_rights h s (Later u v) t in
      let at = parted-in (IsIn p h) (rights h t.a) (rights h t.b) f.from_c f.from_d f.c f.d f.parts (rights-in p h t.a w ins.0) (rights-in p h t.b w ins.1) in
      (right_at_in p h f.c u w at.0 f.decides.0, right_at_in p h f.d v w at.1 f.decides.1)

  -- so the first claim of a valid certificate holds
  pub valid_before : (s : Step) (more : Certificate) → IsValid h (s ∷ more) → IsIn p h s.x → IsIn p h s.y → before_at p h s.x s.y ≡ true
  valid_before s [] v m n = step_before s m n s.reason v.0.holds (not_due p h s.reason v.1)
  valid_before s (t ∷ more) v m n =
      let holds : HoldsBy h s (Later t.y t.x) = subst (HoldsBy h s) v.1 v.0.holds in
      let ins = later_in s m n t.y t.x holds in
      step_before s m n (Later t.y t.x) holds (valid_before t more v.2 (further p h t.x w ins.1) (further p h t.y w ins.0))

pub valid_means_before : ValidMeansBefore
unfolding before
valid_means_before p h w x y m n [] v c = absurd v
valid_means_before p h w x y m n (s ∷ more) v c =
    (λ i. before_at p h (sym c.0 i) (sym c.1 i))
    ∙ valid_before p h w s more v (subst (IsIn p h) (sym c.0) m) (subst (IsIn p h) (sym c.1) n)
