-- Where x stands before y, there is a valid certificate of it: a step by Later rests on elements of the older history.
use Rattle.std.proofs.Common.{Bool, List, [], ap, append_assoc, false, inl, inr, refl, subst, sym, true, ◌++◌, ◌&&◌, ◌∙◌, ◌∷◌, ◌≡◌}
use Rattle.std.specs.Prelude.{Option, Some}
use Rattle.std.proofs.lemmas.Bool.{and_parts, false≢true, or_cases, true≢false}
use Rattle.fugue_ids.specs.Identifiers.{Identifier, id_eq, id_lt}
use Rattle.fugue_ids.specs.declared.op.Op.{Op}
use Rattle.fugue_ids.proofs.IdentifierLemmas.{cases_id, cases_origin, id_eq-true, not_some}
use Rattle.origin_model.specs.declared.operations.Place.{Place}
use Rattle.origin_model.specs.operations.Verdict.{Lawful}
use Rattle.origin_model.specs.order.Laws.{IsIn}
use Rattle.origin_model.specs.order.Order.{chain_before, fork_before, lefts, next_left, older_of, order, right_at, rights, sibling}
use Rattle.origin_model.proofs.SharedLemmas.{IsIn-held, Within-append, before_at, before_in-irrefl, chain-ends, chain_before-irrefl, fork-by, fork_by, lefts-in, right_at_in}
use Rattle.origin_model.proofs.SharedLemmas.{rights-in}
use Rattle.order_proof.specs.declared.step.Reason.{Reason}
use Rattle.order_proof.specs.declared.step.Reason.TheVariants.{End, Inner, Later, Prefix, Tie}
use Rattle.order_proof.specs.declared.step.Step.{Step}
use Rattle.order_proof.specs.Certificates.{ByRightOrigins, ByRightChains, Certificate, Chain, Claims, HoldsBy, IsFork, IsProperPrefix, IsSiblingStep, IsStep, IsValid, PartsAt}
use Rattle.order_proof.specs.Certificates.{is_later}
use Rattle.order_proof.proofs.PartedLemmas.{before-longer, before-parted, before-prefix, longer, parted, parted-in, related, same, shorter}
use Rattle.order_proof.proofs.StayLemmas.{valid_stays}

-- what a step by this reason still has to rest on: a claim on elements of the older history that holds there
abbrev pub Open : Place → List Op → Reason → Type 0
Open p g (Later u v) = IsIn p g u × IsIn p g v × (before_at p g v u ≡ true)
Open p g _ = Unit {0}

-- a chain does not stand before itself
not_before-same : (f : Bool) (R : Identifier → Identifier → Bool) (xs ys : Chain) → xs ≡ ys → chain_before f R xs ys ≡ true → ⊥
not_before-same f R xs ys e k = true≢false (sym k ∙ (λ i. chain_before f R xs (sym e i)) ∙ chain_before-irrefl f R xs)

-- a valid certificate that claims that x stands before y
abbrev pub Found : List Op → Identifier → Identifier → Type 0
Found h x y = (certificate : Certificate) × IsValid h certificate × Claims x y certificate

-- a step of this claim
pub record First (p : Place) (h : List Op) (x y : Identifier) : Type 0 where
  pub step : Step
  pub is_x : step.x ≡ x
  pub is_y : step.y ≡ y
  pub holds : IsStep h step
  pub rests : Open p (older_of h) step.reason

module _ (p : Place) (h : List Op) (w : Lawful h) where
  -- why c goes before d
  abbrev WhyFork : Identifier → Identifier → Type 0
  WhyFork c d = (r : Reason) × ByRightOrigins h c d r × Open p (older_of h) r

  -- the test at a fork, by the two right origins
  abbrev test : Option Identifier → Option Identifier → Identifier → Identifier → Bool
  test a b c d = fork_by (before_at p (older_of h)) a b c d

  -- both have a right origin
  both_right : (c d u v : Identifier) → IsIn p h c → IsIn p h d → right_at h c ≡ Some u → right_at h d ≡ Some v → test (Some u) (Some v) c d ≡ true → WhyFork c d
  both_right c d u v m n e f k =
      let R : Identifier → Identifier → Bool = before_at p (older_of h) in
      elim (cases_id u v) [
        | inl s ↦ (
          Tie,
          (
            e ∙ ap Some s ∙ sym f,
            elim (or_cases (R v u) (id_eq v u && id_lt c d) k) [
              | inl t ↦ absurd (true≢false (sym t ∙ ap (R v) s ∙ before_in-irrefl (order p (older_of (older_of h))) (older_of h) v))
              | inr t ↦ (and_parts (id_eq v u) (id_lt c d) t).1
            ],
          ),
          tt,
        )
        | inr s ↦ elim (or_cases (R v u) (id_eq v u && id_lt c d) k) [
          | inl t ↦ (Later u v, (e, f, s), (right_at_in p h c u w m e, right_at_in p h d v w n f, t))
          | inr t ↦ absurd (s (sym (id_eq-true v u (and_parts (id_eq v u) (id_lt c d) t).0)))
        ]
      ]

  -- why c goes before d at a fork
  why_fork : (c d : Identifier) → IsIn p h c → IsIn p h d → fork_before (order p (older_of h)) h c d ≡ true → WhyFork c d
  why_fork c d m n k =
      let by : test (right_at h c) (right_at h d) c d ≡ true = sym (fork-by p h c d w m n) ∙ k in
      elim (cases_origin (right_at h c)) [
        | inl e ↦ elim (cases_origin (right_at h d)) [
          | inl f ↦ (Tie, (e ∙ sym f, (λ i. test (sym e i) (sym f i) c d) ∙ by), tt)
          | inr f ↦ (End, (e, λ g. not_some f.0 (sym f.1 ∙ g)), tt)
        ]
        | inr e ↦ elim (cases_origin (right_at h d)) [
          | inl f ↦ absurd (false≢true ((λ i. test (sym e.1 i) (sym f i) c d) ∙ by))
          | inr f ↦ both_right c d e.0 f.0 m n e.1 f.1 ((λ i. test (sym e.1 i) (sym f.1 i) c d) ∙ by)
        ]
      ]

  -- a reason of a fork is one of siblings
  of_siblings : (a b : Identifier) (r : Reason) → IsFork h (rights h a) (rights h b) r → ByRightChains h (rights h a) (rights h b) r
  of_siblings a b Inner t = absurd (t.decides)
  of_siblings a b r t = t

  -- why a stands before b among siblings
  abbrev WhySiblings : Identifier → Identifier → Type 0
  WhySiblings a b = (r : Reason) × ByRightChains h (rights h a) (rights h b) r × Open p (older_of h) r

  why_siblings : (a b : Identifier) → IsIn p h a → IsIn p h b → sibling (order p (older_of h)) h a b ≡ true → WhySiblings a b
  why_siblings a b m n k =
      let F : Identifier → Identifier → Bool = fork_before (order p (older_of h)) h in
      elim (related (rights h a) (rights h b)) [
        | same e ↦ absurd (not_before-same false F (rights h a) (rights h b) e k)
        | shorter t ↦ absurd (false≢true (sym (before-prefix false F (rights h a) (rights h b) t) ∙ k))
        | longer t ↦ (Inner, t, tt)
        | parted u v c d t ↦
            let ins = parted-in (IsIn p h) (rights h a) (rights h b) u v c d t (rights-in p h a w m) (rights-in p h b w n) in
            let y = why_fork c d ins.0 ins.1 (sym (before-parted false F (rights h a) (rights h b) u v c d t) ∙ k) in
            (y.0, of_siblings a b y.0 (record { c = c; d = d; from_c = u; from_d = v; parts = t; decides = y.1 }), y.2)
      ]

  -- a step at siblings holds by its reason
  of_step : (s : Step) (r : Reason) → IsSiblingStep h s r → HoldsBy h s r
  of_step s Prefix t = absurd (t.decides.decides)
  of_step s r t = t

  -- the step by Prefix
  prefix_step : (x y : Identifier) → IsIn p h x → IsIn p h y → IsProperPrefix (lefts h x) (lefts h y) → First p h x y
  prefix_step x y m n t =
      let end = chain-ends next_left h x (IsIn-held p h x m) in
      record {
        step = record { x = x; y = y; down_x = []; down_y = x ∷ t.0 ∷ t.1; right_x = []; right_y = []; reason = Prefix };
        is_x = refl;
        is_y = refl;
        holds = record {
          one_place = (p, m, n);
          holds = record {
            above = end.0;
            suffix = t.2 ∙ ap (λ l. l ++ t.0 ∷ t.1) end.1 ∙ append_assoc end.0 (x ∷ []) (t.0 ∷ t.1);
            next = t.0;
            more = t.1;
            from_x = refl;
            no_down_x = refl;
            no_right_x = refl;
            no_right_y = refl;
          };
        };
        rests = tt;
      }

  -- the step at siblings
  sibling_step : (x y : Identifier) (u v : Chain) (a b : Identifier) → IsIn p h x → IsIn p h y → PartsAt (lefts h x) (lefts h y) u v a b → WhySiblings a b → First p h x y
  sibling_step x y u v a b m n t k =
      let s : Step = record { x = x; y = y; down_x = u; down_y = v; right_x = rights h a; right_y = rights h b; reason = k.0 } in
      record {
        step = s;
        is_x = refl;
        is_y = refl;
        holds = record { one_place = (p, m, n); holds = of_step s k.0 (record { a = a; b = b; parts = t; right_x = refl; right_y = refl; decides = k.1 }) };
        rests = k.2;
      }

  -- the step of a claim that holds
  pub first_step : (x y : Identifier) → IsIn p h x → IsIn p h y → before_at p h x y ≡ true → First p h x y
  first_step x y m n k =
      let S : Identifier → Identifier → Bool = sibling (order p (older_of h)) h in
      elim (related (lefts h x) (lefts h y)) [
        | same e ↦ absurd (not_before-same true S (lefts h x) (lefts h y) e k)
        | shorter t ↦ prefix_step x y m n t
        | longer t ↦ absurd (false≢true (sym (before-longer true S (lefts h x) (lefts h y) t) ∙ k))
        | parted u v a b t ↦
            let ins = parted-in (IsIn p h) (lefts h x) (lefts h y) u v a b t (lefts-in p h x w m) (lefts-in p h y w n) in
            sibling_step x y u v a b m n t (why_siblings a b ins.0 ins.1 (sym (before-parted true S (lefts h x) (lefts h y) u v a b t) ∙ k))
      ]

-- a step by Later before a certificate of what it rests on
pub extended : (op : Op) (older : List Op) → Lawful (op ∷ older) → (s : Step) → IsStep (op ∷ older) s → (u v : Identifier) → s.reason ≡ Later u v
    → (certificate : Certificate) → IsValid older certificate → Claims v u certificate → IsValid (op ∷ older) (s ∷ certificate)
extended op older w s t u v e [] a c = absurd a
extended op older w s t u v e (g ∷ more) a c =
    (t, e ∙ (λ i. Later (sym c.1 i) (sym c.0 i)), valid_stays older (op ∷ older) w.1 w (Within-append (op ∷ []) older w) (g ∷ more) a)

-- a step that is not Later is a certificate, and one that is goes on with one of what it rests on
joined : (p : Place) (op : Op) (older : List Op) → Lawful (op ∷ older) → (s : Step) → IsStep (op ∷ older) s → (r : Reason) → s.reason ≡ r → Open p older r
    → ((v u : Identifier) → IsIn p older v → IsIn p older u → before_at p older v u ≡ true → Found older v u) → Found (op ∷ older) s.x s.y
joined p op older w s t (Later u v) e k rest =
    let found = rest v u k.1 k.0 k.2 in
    (s ∷ found.0, extended op older w s t u v e found.0 found.1 found.2, (refl, refl))
joined p op older w s t r e k rest = (s ∷ [], (t, ap is_later e), (refl, refl))

-- where x stands before y there is a valid certificate of it
pub certificate_found : (p : Place) (h : List Op) → Lawful h → (x y : Identifier) → IsIn p h x → IsIn p h y → before_at p h x y ≡ true → Found h x y
certificate_found p [] w x y m n k = cc (m.held)
certificate_found p (op ∷ older) w x y m n k =
    let f = first_step p (op ∷ older) w x y m n k in
    let c = joined p op older w f.step f.holds f.step.reason refl f.rests (λ v u a b d. certificate_found p older w.1 v u a b d) in
    subst (λ z. Found (op ∷ older) z y) f.is_x (subst (λ z. Found (op ∷ older) f.step.x z) f.is_y c)
