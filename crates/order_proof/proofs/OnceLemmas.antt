-- A claim has one valid certificate at most, and so exactly one where it holds.
use Rattle.std.proofs.Common.{List, [], ap, refl, subst, sym, ◌++◌, ◌∙◌, ◌∷◌, ◌≡◌}
use Rattle.std.proofs.lemmas.Bool.{true≢false}
use Rattle.std.proofs.lemmas.List.{append_cancel_left, same_from_push}
use Rattle.fugue_ids.specs.Identifiers.{Identifier}
use Rattle.fugue_ids.specs.declared.op.Op.{Op}
use Rattle.fugue_ids.proofs.IdentifierLemmas.{not_some}
use Rattle.origin_model.specs.operations.Verdict.{Lawful}
use Rattle.origin_model.specs.order.Order.{before, lefts, rights}
use Rattle.origin_model.proofs.SharedLemmas.{IsHeld, IsIn-held, Within-part, parts_keep_order}
use Rattle.order_proof.specs.declared.step.Reason.{Reason}
use Rattle.order_proof.specs.declared.step.Reason.TheVariants.{End, Inner, Later, Prefix, Tie}
use Rattle.order_proof.specs.declared.step.Step.{Step}
use Rattle.order_proof.specs.Certificates.{ByRightOrigins, ByRightChains, Certificate, Chain, Claims, HoldsBy, IsFork, IsPrefixStep, IsProperPrefix, IsSiblingStep, IsStep, IsValid}
use Rattle.order_proof.specs.Certificates.{PartsAt, is_later}
use Rattle.order_proof.specs.Laws.{CertificatesInParts, HasOneCertificate}
use Rattle.order_proof.proofs.PartedLemmas.{parted-longer, parted-shorter, parted_once}
use Rattle.order_proof.proofs.BeforeLemmas.{prefix_front, prefix_of, valid_means_before}
use Rattle.order_proof.proofs.StayLemmas.{in_stays, valid_stays}
use Rattle.order_proof.proofs.FoundLemmas.{certificate_found}

-- two right origins decide by one reason
origins_once : (h : List Op) (c d : Identifier) (r q : Reason) → ByRightOrigins h c d r → ByRightOrigins h c d q → r ≡ q
origins_once h c d End End t k = refl
origins_once h c d End (Later u v) t k = absurd (not_some u (sym k.0 ∙ t.0))
origins_once h c d End Tie t k = absurd (t.1 (sym k.0 ∙ t.0))
origins_once h c d (Later u v) End t k = absurd (not_some u (sym t.0 ∙ k.0))
origins_once h c d (Later u v) (Later a b) t k =
    let e : u ≡ a = cc (t.0, k.0) in
    let f : v ≡ b = cc (t.1, k.1) in
    λ i. Later (e i) (f i)
origins_once h c d (Later u v) Tie t k = absurd (t.2 (cc (t.0, t.1, k.0)))
origins_once h c d Tie End t k = absurd (k.1 (sym t.0 ∙ k.0))
origins_once h c d Tie (Later u v) t k = absurd (k.2 (cc (k.0, k.1, t.0)))
origins_once h c d Tie Tie t k = refl
origins_once h c d Prefix q t k = absurd t
origins_once h c d Inner q t k = absurd t
origins_once h c d r Prefix t k = absurd k
origins_once h c d r Inner t k = absurd k

-- so do two chains of right origins
fork_once : (h : List Op) (xs ys : Chain) (r q : Reason) → IsFork h xs ys r → IsFork h xs ys q → r ≡ q
fork_once h xs ys r q t k =
    let e = parted_once xs ys t.from_c t.from_d k.from_c k.from_d t.c t.d k.c k.d t.parts k.parts in
    origins_once h t.c t.d r q t.decides (subst (λ z. ByRightOrigins h z t.d q) (sym e.2) (subst (λ z. ByRightOrigins h k.c z q) (sym e.3) k.decides))

chains_once : (h : List Op) (xs ys : Chain) (r q : Reason) → ByRightChains h xs ys r → ByRightChains h xs ys q → r ≡ q
chains_once h xs ys Inner Inner t k = refl
chains_once h xs ys Inner q t k = absurd (parted-longer xs ys k.from_c k.from_d k.c k.d k.parts t)
chains_once h xs ys r Inner t k = absurd (parted-longer xs ys t.from_c t.from_d t.c t.d t.parts k)
chains_once h xs ys r q t k = fork_once h xs ys r q t k

-- two steps of one claim have the same chains and the same reason
record SameRest (s t : Step) (r q : Reason) : Type 0 where
  down_x : s.down_x ≡ t.down_x
  down_y : s.down_y ≡ t.down_y
  right_x : s.right_x ≡ t.right_x
  right_y : s.right_y ≡ t.right_y
  reason : r ≡ q

module _ (h : List Op) (w : Lawful h) (s t : Step) (e : s.x ≡ t.x) (f : s.y ≡ t.y) (m : IsHeld h s.y) (n : IsHeld h t.y) where
  -- the parts of the one claim are those of the other
  parts_moved : (a b : Identifier) → PartsAt (lefts h t.x) (lefts h t.y) t.down_x t.down_y a b → PartsAt (lefts h s.x) (lefts h s.y) t.down_x t.down_y a b
  parts_moved a b k = subst (λ z. PartsAt (lefts h z) (lefts h s.y) t.down_x t.down_y a b) (sym e) (subst (λ z. PartsAt (lefts h t.x) (lefts h z) t.down_x t.down_y a b) (sym f) k)

  -- chains that part are no prefixes of each other
  no_prefix : (a b : Identifier) → PartsAt (lefts h s.x) (lefts h s.y) s.down_x s.down_y a b → IsPrefixStep h t → ⊥
  no_prefix a b j k = parted-shorter (lefts h s.x) (lefts h s.y) s.down_x s.down_y a b j
      (subst (λ z. IsProperPrefix (lefts h z) (lefts h s.y)) (sym e) (subst (λ z. IsProperPrefix (lefts h t.x) (lefts h z)) (sym f) (prefix_of h t w n k)))

  prefix_no : (a b : Identifier) → PartsAt (lefts h t.x) (lefts h t.y) t.down_x t.down_y a b → IsPrefixStep h s → ⊥
  prefix_no a b j k = parted-shorter (lefts h s.x) (lefts h s.y) t.down_x t.down_y a b (parts_moved a b j) (prefix_of h s w m k)

  -- both by Prefix
  both_prefix : IsPrefixStep h s → IsPrefixStep h t → SameRest s t Prefix Prefix
  both_prefix j k =
      let c = same_from_push j.above k.above s.x t.x (sym (prefix_front h s w m j) ∙ ap (lefts h) e ∙ prefix_front h t w n k) in
      record {
        down_x = j.no_down_x ∙ sym k.no_down_x;
        down_y = append_cancel_left j.above s.down_y t.down_y (sym j.suffix ∙ ap (lefts h) f ∙ k.suffix ∙ ap (λ l. l ++ t.down_y) (sym c.0));
        right_x = j.no_right_x ∙ sym k.no_right_x;
        right_y = j.no_right_y ∙ sym k.no_right_y;
        reason = refl;
      }

  -- both at siblings
  both_siblings : (r q : Reason) → IsSiblingStep h s r → IsSiblingStep h t q → SameRest s t r q
  both_siblings r q j k =
      let c = parted_once (lefts h s.x) (lefts h s.y) s.down_x s.down_y t.down_x t.down_y j.a j.b k.a k.b j.parts (parts_moved k.a k.b k.parts) in
      let right_x : s.right_x ≡ t.right_x = j.right_x ∙ ap (rights h) c.2 ∙ sym k.right_x in
      let right_y : s.right_y ≡ t.right_y = j.right_y ∙ ap (rights h) c.3 ∙ sym k.right_y in
      record {
        down_x = c.0;
        down_y = c.1;
        right_x = right_x;
        right_y = right_y;
        reason = chains_once h s.right_x s.right_y r q j.decides
            (subst (λ l. ByRightChains h l s.right_y q) (sym right_x) (subst (λ l. ByRightChains h t.right_x l q) (sym right_y) k.decides));
      }

  same_rest : (r q : Reason) → HoldsBy h s r → HoldsBy h t q → SameRest s t r q
  same_rest Prefix Prefix j k = both_prefix j k
  same_rest Prefix q j k = absurd (prefix_no k.a k.b k.parts j)
  same_rest r Prefix j k = absurd (no_prefix j.a j.b j.parts k)
  same_rest r q j k = both_siblings r q j k

  -- they are one step
  step_once : HoldsBy h s s.reason → HoldsBy h t t.reason → s ≡ t
  step_once j k =
      let c = same_rest s.reason t.reason j k in
      λ i. record { x = e i; y = f i; down_x = c.down_x i; down_y = c.down_y i; right_x = c.right_x i; right_y = c.right_y i; reason = c.reason i }

-- two steps of one claim that hold are one
step_at : (h : List Op) → Lawful h → (s t : Step) → IsStep h s → IsStep h t → s.x ≡ t.x → s.y ≡ t.y → s ≡ t
step_at h w s t j k e f =
    step_once h w s t e f (IsIn-held j.one_place.0 h s.y j.one_place.2) (IsIn-held k.one_place.0 h t.y k.one_place.2) j.holds k.holds

step_reason : (h : List Op) → Lawful h → (s t : Step) → IsStep h s → IsStep h t → s.x ≡ t.x → s.y ≡ t.y → s.reason ≡ t.reason
step_reason h w s t j k e f = ap (λ (z : Step). z.reason) (step_at h w s t j k e f)

-- two valid certificates of one claim are one
valid_once : (h : List Op) → Lawful h → (s : Step) (more : Certificate) (t : Step) (rest : Certificate)
    → IsValid h (s ∷ more) → IsValid h (t ∷ rest) → s.x ≡ t.x → s.y ≡ t.y → s ∷ more ≡ t ∷ rest
valid_once h w s [] t [] j k e f = λ i. step_at h w s t j.0 k.0 e f i ∷ []
valid_once h w s [] t (g ∷ rest) j k e f = absurd (true≢false (sym (ap is_later (step_reason h w s t j.0 k.0 e f ∙ k.1)) ∙ j.1))
valid_once h w s (g ∷ more) t [] j k e f = absurd (true≢false (sym (ap is_later (sym (step_reason h w s t j.0 k.0 e f) ∙ j.1)) ∙ k.1))
valid_once h w s (g ∷ more) t (l ∷ rest) j k e f =
    let r : Later g.y g.x ≡ Later l.y l.x = sym j.1 ∙ step_reason h w s t j.0 k.0 e f ∙ k.1 in
    let a : g.x ≡ l.x = cc in
    let b : g.y ≡ l.y = cc in
    let tail = valid_once h w g more l rest j.2 k.2 a b in
    λ i. step_at h w s t j.0 k.0 e f i ∷ tail i

-- a certificate of the claim of another is the same
only_one : (h : List Op) → Lawful h → (x y : Identifier) (one other : Certificate) → IsValid h one → Claims x y one → IsValid h other → Claims x y other → other ≡ one
only_one h w x y [] other j c k d = absurd j
only_one h w x y (s ∷ more) [] j c k d = absurd k
only_one h w x y (s ∷ more) (t ∷ rest) j c k d = valid_once h w t rest s more k j (d.0 ∙ sym c.0) (d.1 ∙ sym c.1)

pub has_one_certificate : HasOneCertificate
unfolding before
has_one_certificate p h w x y m n k =
    let f = certificate_found p h w x y m n k in
    record { certificate = f.0; valid = f.1; claims = f.2; only = λ other v c. only_one h w x y f.0 other f.1 f.2 v c }

-- the certificate of a part is that of the whole
pub certificates_in_parts : CertificatesInParts
unfolding before
certificates_in_parts p part whole v w f x y m n c valid claims =
    let g = Within-part part whole w f in
    let later = valid_means_before p whole w x y (in_stays part whole v w g p x m) (in_stays part whole v w g p y n) c valid claims in
    let own = certificate_found p part v x y m n ((parts_keep_order p part whole v w f).same_before x y m n ∙ later) in
    subst (IsValid part) (sym (only_one whole w x y own.0 c (valid_stays part whole v w g own.0 own.1) own.2 valid claims)) own.1
