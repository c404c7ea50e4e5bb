-- A valid certificate stays valid in every lawful history that has the operations of its own.
use Rattle.std.proofs.Common.{List, [], ap, subst, sym, ◌++◌, ◌∙◌, ◌∷◌, ◌≡◌}
use Rattle.std.specs.List.{All}
use Rattle.fugue_ids.specs.Identifiers.{Identifier}
use Rattle.fugue_ids.specs.declared.op.Op.{Op}
use Rattle.origin_model.specs.declared.operations.Place.{Place}
use Rattle.origin_model.specs.operations.History.{holder}
use Rattle.origin_model.specs.operations.Verdict.{Lawful}
use Rattle.origin_model.specs.order.Laws.{IsIn}
use Rattle.origin_model.specs.order.Order.{lefts, next_left, next_right, right_at, rights}
use Rattle.origin_model.proofs.SharedLemmas.{IsHeld, IsIn-held, Lawful-append, Within, Within-append, Within-part, chain-held, found, lefts-within, right_by, rights-within}
use Rattle.order_proof.specs.declared.step.Reason.{Reason}
use Rattle.order_proof.specs.declared.step.Reason.TheVariants.{End, Inner, Later, Prefix, Tie}
use Rattle.order_proof.specs.declared.step.Step.{Step}
use Rattle.order_proof.specs.Certificates.{ByRightOrigins, ByRightChains, Certificate, Chain, HoldsBy, IsFork, IsSiblingStep, IsStep, IsValid, PartsAt}
use Rattle.order_proof.specs.Laws.{CertificatesOfParts, CertificatesStay}
use Rattle.order_proof.proofs.PartedLemmas.{parted-in}

-- equal chains part alike
parted-same : (xs ys ws zs u v : Chain) (a b : Identifier) → xs ≡ ws → ys ≡ zs → PartsAt xs ys u v a b → PartsAt ws zs u v a b
parted-same xs ys ws zs u v a b p q t = subst (λ l. PartsAt l zs u v a b) p (subst (λ l. PartsAt xs l u v a b) q t)

-- a lawful history s within another, h
module _ (s h : List Op) (v : Lawful s) (w : Lawful h) (f : Within s h) where
  -- held elements keep their chains and right origins
  lefts-stay : (x : Identifier) → IsHeld s x → lefts s x ≡ lefts h x
  lefts-stay x k = lefts-within s h x v w f k

  rights-stay : (x : Identifier) → IsHeld s x → rights s x ≡ rights h x
  rights-stay x k = rights-within s h x v w f k

  right_at-stay : (x : Identifier) → IsHeld s x → right_at s x ≡ right_at h x
  right_at-stay x k = let o = found (holder s x) k in ap right_by (o.1 ∙ sym (f x o.0 o.1))

  origins_stay : (c d : Identifier) → IsHeld s c → IsHeld s d → (r : Reason) → ByRightOrigins s c d r → ByRightOrigins h c d r
  origins_stay c d k l End t = (sym (right_at-stay c k) ∙ t.0, λ e. t.1 (right_at-stay d l ∙ e))
  origins_stay c d k l (Later p q) t = (sym (right_at-stay c k) ∙ t.0, sym (right_at-stay d l) ∙ t.1, t.2)
  origins_stay c d k l Tie t = (sym (right_at-stay c k) ∙ t.0 ∙ right_at-stay d l, t.1)
  origins_stay c d k l _ t = absurd t

  fork_stays : (xs ys : Chain) → All (IsHeld s) xs → All (IsHeld s) ys → (r : Reason) → IsFork s xs ys r → IsFork h xs ys r
  fork_stays xs ys k l r t =
      let ins = parted-in (IsHeld s) xs ys t.from_c t.from_d t.c t.d t.parts k l in
      record { c = t.c; d = t.d; from_c = t.from_c; from_d = t.from_d; parts = t.parts; decides = origins_stay t.c t.d ins.0 ins.1 r t.decides }

  chains_stay : (xs ys : Chain) → All (IsHeld s) xs → All (IsHeld s) ys → (r : Reason) → ByRightChains s xs ys r → ByRightChains h xs ys r
  chains_stay xs ys k l Inner t = t
  chains_stay xs ys k l r t = fork_stays xs ys k l r t

  sibling_stays : (e : Step) → IsHeld s e.x → IsHeld s e.y → (r : Reason) → IsSiblingStep s e r → IsSiblingStep h e r
  sibling_stays e k l r t =
      let ins = parted-in (IsHeld s) (lefts s e.x) (lefts s e.y) e.down_x e.down_y t.a t.b t.parts (chain-held next_left s e.x) (chain-held next_left s e.y) in
      record {
        a = t.a;
        b = t.b;
        parts = parted-same (lefts s e.x) (lefts s e.y) (lefts h e.x) (lefts h e.y) e.down_x e.down_y t.a t.b (lefts-stay e.x k) (lefts-stay e.y l) t.parts;
        right_x = t.right_x ∙ rights-stay t.a ins.0;
        right_y = t.right_y ∙ rights-stay t.b ins.1;
        decides = chains_stay e.right_x e.right_y
            (subst (All (IsHeld s)) (sym t.right_x) (chain-held next_right s t.a)) (subst (All (IsHeld s)) (sym t.right_y) (chain-held next_right s t.b)) r t.decides;
      }

  holds_stay : (e : Step) → IsHeld s e.x → IsHeld s e.y → (r : Reason) → HoldsBy s e r → HoldsBy h e r
  holds_stay e k l Prefix t =
      record {
        above = t.above;
        suffix = sym (lefts-stay e.y l) ∙ t.suffix;
        next = t.next;
        more = t.more;
        from_x = t.from_x;
        no_down_x = t.no_down_x;
        no_right_x = t.no_right_x;
        no_right_y = t.no_right_y;
      }
  holds_stay e k l r t = sibling_stays e k l r t

  -- an element of s is one of h
  pub in_stays : (p : Place) (x : Identifier) → IsIn p s x → IsIn p h x
  in_stays p x m = record { op = m.op; held = f x m.op m.held; place = m.place }

  step_stays : (e : Step) → IsStep s e → IsStep h e
  step_stays e t =
      let o = t.one_place in
      record {
        one_place = (o.0, in_stays o.0 e.x o.1, in_stays o.0 e.y o.2);
        holds = holds_stay e (IsIn-held o.0 s e.x o.1) (IsIn-held o.0 s e.y o.2) e.reason t.holds;
      }

  -- a valid certificate stays valid
  pub valid_stays : (certificate : Certificate) → IsValid s certificate → IsValid h certificate
  valid_stays [] t = absurd t
  valid_stays (e ∷ []) t = (step_stays e t.0, t.1)
  valid_stays (e ∷ g ∷ more) t = (step_stays e t.0, t.1, valid_stays (g ∷ more) t.2)

pub certificates_stay : CertificatesStay
certificates_stay new h w = valid_stays h (new ++ h) (Lawful-append new h w) w (Within-append new h w)

pub certificates_of_parts : CertificatesOfParts
certificates_of_parts part whole v w f = valid_stays part whole v w (Within-part part whole w f)
