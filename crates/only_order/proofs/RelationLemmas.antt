-- What the four sentences say of two elements whose chains part.
use Rattle.std.proofs.Common.{List, [], ap, false, inl, inr, not, subst, sym, true, ◌++◌, ◌∙◌, ◌∷◌, ◌≡◌, ◌≢◌}
use Rattle.std.proofs.lemmas.Bool.{cases_Bool, true≢false}
use Rattle.std.proofs.lemmas.List.{append-nil}
use Rattle.fugue_ids.specs.Identifiers.{Identifier}
use Rattle.fugue_ids.specs.declared.op.Op.{Op}
use Rattle.fugue_ids.proofs.IdentifierLemmas.{cases_id}
use Rattle.origin_model.specs.declared.operations.Place.{Place}
use Rattle.origin_model.specs.operations.Verdict.{Lawful}
use Rattle.origin_model.specs.order.Laws.{IsIn}
use Rattle.origin_model.specs.order.Order.{Passes, left_at, lefts, next_left, rights}
use Rattle.origin_model.specs.edits.Passages.{IsOnLeft, Relation}
use Rattle.origin_model.proofs.SharedLemmas.{IsIn-held, chain_above, lefts-above, lefts-prefix, rights-prefix}
use Rattle.only_order.specs.Chains.{IsOrderByChains}
use Rattle.only_order.proofs.PartedLemmas.{next_same, passed_same, passes_from}

-- another element whose chain of right origins passes r is on the left of r
pub on_left : (p : Place) (h : List Op) (r u : Identifier) → IsIn p h u → u ≢ r → left_at h u ≡ left_at h r → Passes (rights h r) (rights h u) → IsOnLeft p h r u
on_left p h r u m d l k = record { top = u; member = m; other = d; same_left = l; through = k; below = ([], sym (append-nil (lefts h u))) }

-- of two siblings that part at the ends of their chains of right origins, neither is on the left of the other
pub not_on_left : (p : Place) (h : List Op) (c d : Identifier) (front : List Identifier) → Lawful h → IsIn p h c → left_at h c ≡ left_at h d
    → rights h c ≡ front ++ c ∷ [] → rights h d ≡ front ++ d ∷ [] → IsOnLeft p h d c → d ≡ c
not_on_left p h c d front w m l rc rd g =
    let A : List Identifier = chain_above next_left h (left_at h d) in
    let lt : lefts h g.top ≡ A ++ g.top ∷ [] = lefts-above h g.top w (IsIn-held p h g.top g.member) ∙ ap (λ z. chain_above next_left h z ++ g.top ∷ []) g.same_left in
    let lc : lefts h c ≡ A ++ c ∷ [] = lefts-above h c w (IsIn-held p h c m) ∙ ap (λ z. chain_above next_left h z ++ c ∷ []) l in
    let e : g.top ≡ c = passed_same A g.top c [] (lefts h g.top) (lefts h c) lt lc g.below in
    passed_same front d c [] (rights h d) (rights h c) rd rc (subst (λ z. Passes (rights h d) (rights h z)) e g.through)

-- in an order by chains
module _ (p : Place) (h : List Op) (R : Relation) (w : Lawful h) (t : IsOrderByChains p h R) where
  -- no two elements stand before each other
  pub no_loop : (a b : Identifier) → IsIn p h a → IsIn p h b → R a b ≡ true → R b a ≡ true → ⊥
  no_loop a b m n k j = true≢false (sym (t.strict.transitive a b a m n m k j) ∙ t.strict.irreflexive a m)

  -- of two elements one stands first
  pub turned : (a b : Identifier) → IsIn p h a → IsIn p h b → a ≢ b → R a b ≡ false → R b a ≡ true
  turned a b m n d k = t.strict.one_first b a n m (λ e. d (sym e)) ∙ ap not k

  -- and the other does not
  pub second : (a b : Identifier) → IsIn p h a → IsIn p h b → a ≢ b → R b a ≡ true → R a b ≡ false
  second a b m n d k = t.strict.one_first a b m n d ∙ ap not k

  -- two elements stand as two others
  pub carried : (a b e x : Identifier) → IsIn p h a → IsIn p h b → IsIn p h e → IsIn p h x → a ≢ b → e ≢ x
      → (R a b ≡ true → R e x ≡ true) → (R b a ≡ true → R x e ≡ true) → R e x ≡ R a b
  carried a b e x ma mb me mx d n f g =
      elim (cases_Bool (R a b)) [
        | inl k ↦ f k ∙ sym k
        | inr k ↦ second e x me mx n (g (turned a b ma mb d k)) ∙ sym k
      ]

  -- what stands below a goes before what stands below b, where a goes before b and their chains part there
  blocks : (a b e x : Identifier) (front m n : List Identifier) → IsIn p h a → IsIn p h b → IsIn p h e → IsIn p h x → a ≢ b
      → lefts h e ≡ front ++ a ∷ m → lefts h x ≡ front ++ b ∷ n → R a b ≡ true → R e x ≡ true
  blocks a b e x front m n ma mb me mx d q r k =
      let la : lefts h a ≡ front ++ a ∷ [] = lefts-prefix h e a front m w (IsIn-held p h e me) q in
      let lb : lefts h b ≡ front ++ b ∷ [] = lefts-prefix h x b front n w (IsIn-held p h x mx) r in
      let pa : Passes (lefts h a) (lefts h e) = passes_from front a m (lefts h a) (lefts h e) la q in
      let pb : Passes (lefts h b) (lefts h x) = passes_from front b n (lefts h b) (lefts h x) lb r in
      let o : e ≢ x = λ i. d (next_same front a b m n (sym q ∙ ap (lefts h) i ∙ r)) in
      elim (cases_Bool (R e x)) [
        | inl y ↦ y
        | inr y ↦
            let j : R x e ≡ true = turned e x me mx o y in
            let be : R b e ≡ true = elim (cases_id x b) [
              | inl i ↦ ap (λ z. R z e) (sym i) ∙ j
              | inr i ↦ t.strict.transitive b x e mb mx me ((t.together b mb).first x mx i pb) j
            ] in
            absurd (d (passed_same front a b [] (lefts h a) (lefts h b) la lb ((t.together a ma).no_gap b e mb me pa k be)))
      ]

  -- elements stand as those at which their chains of left origins part
  pub by_lefts : (a b e x : Identifier) (front m n : List Identifier) → IsIn p h a → IsIn p h b → IsIn p h e → IsIn p h x → a ≢ b
      → lefts h e ≡ front ++ a ∷ m → lefts h x ≡ front ++ b ∷ n → R e x ≡ R a b
  by_lefts a b e x front m n ma mb me mx d q r =
      carried a b e x ma mb me mx d (λ i. d (next_same front a b m n (sym q ∙ ap (lefts h) i ∙ r)))
      (blocks a b e x front m n ma mb me mx d q r)
      (blocks b a x e front n m mb ma mx me (λ i. d (sym i)) r q)

  -- a goes before b, where the members go so at which their chains of right origins part
  forests : (c d a b : Identifier) (front m n : List Identifier) → IsIn p h c → IsIn p h d → IsIn p h a → IsIn p h b → c ≢ d → a ≢ b
      → left_at h a ≡ left_at h b → rights h a ≡ front ++ c ∷ m → rights h b ≡ front ++ d ∷ n → R c d ≡ true → R a b ≡ true
  forests c d a b front m n mc md ma mb o u l q r k =
      let pc = rights-prefix h a c front m w (IsIn-held p h a ma) q in
      let pd = rights-prefix h b d front n w (IsIn-held p h b mb) r in
      let tc : Passes (rights h c) (rights h a) = passes_from front c m (rights h c) (rights h a) pc.0 q in
      let td : Passes (rights h d) (rights h b) = passes_from front d n (rights h d) (rights h b) pd.0 r in
      elim (cases_Bool (R a b)) [
        | inl y ↦ y
        | inr y ↦
            let j : R b a ≡ true = turned a b ma mb u y in
            let bc : R b c ≡ true = elim (cases_id a c) [
              | inl i ↦ ap (R b) (sym i) ∙ j
              | inr i ↦ t.strict.transitive b a c mb ma mc j ((t.before_right c mc).last a ma (on_left p h c a ma i (sym pc.1) tc))
            ] in
            elim (cases_id b d) [
              | inl i ↦ absurd (no_loop c d mc md k (ap (λ z. R z c) (sym i) ∙ bc))
              | inr i ↦ absurd (o (sym (not_on_left p h c d front w mc (pc.1 ∙ l ∙ sym pd.1) pc.0 pd.0
                  ((t.before_right d md).no_gap b c mb mc (on_left p h d b mb i (sym pd.1) td) bc k))))
            ]
      ]

  -- siblings stand as those at which their chains of right origins part
  pub by_rights : (c d a b : Identifier) (front m n : List Identifier) → IsIn p h c → IsIn p h d → IsIn p h a → IsIn p h b → c ≢ d → a ≢ b
      → left_at h a ≡ left_at h b → rights h a ≡ front ++ c ∷ m → rights h b ≡ front ++ d ∷ n → R a b ≡ R c d
  by_rights c d a b front m n mc md ma mb o u l q r =
      carried c d a b mc md ma mb o u
      (forests c d a b front m n mc md ma mb o u l q r)
      (forests d c b a front n m md mc mb ma (λ i. o (sym i)) (λ i. u (sym i)) (sym l) r q)
