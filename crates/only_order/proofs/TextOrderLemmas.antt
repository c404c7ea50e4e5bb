-- The order of a place is a text order, and the only one.
use Rattle.std.proofs.Common.{Bool, List, [], ap, false, inl, inr, refl, subst, sym, true, ◌++◌, ◌&&◌, ◌∙◌, ◌∷◌, ◌≡◌, ◌≢◌}
use Rattle.std.specs.Prelude.{None, Option, Some}
use Rattle.std.specs.List.{All}
use Rattle.std.proofs.lemmas.Bool.{or_left, true≢false}
use Rattle.fugue_ids.specs.Identifiers.{Identifier, id_lt, origin_eq}
use Rattle.fugue_ids.specs.declared.op.Op.{Op}
use Rattle.fugue_ids.proofs.IdentifierLemmas.{cases_id}
use Rattle.origin_model.specs.declared.operations.Place.{Place}
use Rattle.origin_model.specs.operations.Verdict.{Lawful}
use Rattle.origin_model.specs.order.Laws.{IsIn}
use Rattle.origin_model.specs.edits.Passages.{Relation}
use Rattle.origin_model.specs.order.Order.{chain_before, fork_before, left_at, lefts, next_left, next_right, older_of, order, right_at, rights, sibling}
unfoldable use Rattle.origin_model.specs.order.Order.{before}
unfoldable use Rattle.origin_model.specs.order.Printed.{manuscript}
use Rattle.origin_model.proofs.SharedLemmas.{IsIn-held, Ordered-agree, Within, Within-append, before_at, before_at-older, chain_above, chain_before-fork, common, fork-by}
use Rattle.origin_model.proofs.SharedLemmas.{lefts-above, member_lt, order_total, origin_before, right_at_held, same_ordered}
use Rattle.origin_model.proofs.edits.PassageLemmas.{before_right, by_identifier, together}
use Rattle.only_order.specs.TextOrder.{HasLaterRight, OriginIsLater, IsText, OneOrder, OnlyList, OnlyOrder, stands_earlier}
use Rattle.fugue_ids.proofs.ListLemmas.{all_from_contains}
use Rattle.only_order.specs.Chains.{IsOrderByChains}
use Rattle.only_order.proofs.OriginLemmas.{by_chains}
use Rattle.only_order.specs.Reading.{OnlyManuscript, manuscript_of}
use Rattle.only_order.proofs.AlikeLemmas.{alike}
use Rattle.only_order.proofs.ListedLemmas.{by_index}
use Rattle.only_order.proofs.OutcomeLemmas.{always, outcome, rests}
use Rattle.only_order.proofs.HeldLemmas.{alone_to, rights_above}

-- the comparison, by the order before the newest operation
before-is : (p : Place) (h : List Op) (x y : Identifier) → before p h x y ≡ before_at p h x y
unfolding before
before-is p h x y = refl

module _ (p : Place) (h : List Op) (w : Lawful h) where
  -- no right origin stands later than itself
  not_later : (x y : Identifier) → (o q : Option Identifier) → right_at h x ≡ o → right_at h y ≡ q → OriginIsLater (before p h) o q → x ≢ y
  not_later x y None None e f k i = k
  not_later x y (Some a) None e f k i = k
  not_later x y None (Some b) e f k i = absurd (let d : None ≡ Some b = sym e ∙ ap (right_at h) i ∙ f in cc d)
  not_later x y (Some a) (Some b) e f k i =
      let d : Some a ≡ Some b = sym e ∙ ap (right_at h) i ∙ f in
      let c : a ≡ b = cc d in
      true≢false (sym k ∙ ap (before p h b) c ∙ (order_total p h w).irreflexive b)

  -- the right origin that stands later does so in the older order
  later_older : (x y : Identifier) (o q : Option Identifier) → right_at h x ≡ o → right_at h y ≡ q → OriginIsLater (before p h) o q
      → origin_before (before_at p (older_of h)) q o ≡ true
  later_older x y o None e f k = absurd k
  later_older x y None (Some b) e f k = refl
  later_older x y (Some a) (Some b) e f k =
      sym (before_at-older p h b a w (right_at_held h y b w f) (right_at_held h x a w e)) ∙ sym (before-is p h b a) ∙ k

  -- in the order the later right origin goes first
  later_first : (x y : Identifier) → HasLaterRight p h (before p h) x y → before p h x y ≡ true
  later_first x y t =
      let F : Identifier → Identifier → Bool = fork_before (order p (older_of h)) h in
      let S : Identifier → Identifier → Bool = sibling (order p (older_of h)) h in
      let A : List Identifier = chain_above next_left h (left_at h y) in
      let n : x ≢ y = not_later x y (right_at h x) (right_at h y) refl refl t.later in
      let lx : lefts h x ≡ A ++ x ∷ [] = lefts-above h x w (IsIn-held p h x t.first) ∙ ap (λ z. chain_above next_left h z ++ x ∷ []) t.same_left in
      let ly : lefts h y ≡ A ++ y ∷ [] = lefts-above h y w (IsIn-held p h y t.second) in
      let rx : rights h x ≡ x ∷ [] = rights_above h w x (IsIn-held p h x t.first) ∙ ap (λ z. chain_above next_right h z ++ x ∷ []) (alone_to h w x t.alone_x) in
      let ry : rights h y ≡ y ∷ [] = rights_above h w y (IsIn-held p h y t.second) ∙ ap (λ z. chain_above next_right h z ++ y ∷ []) (alone_to h w y t.alone_y) in
      before-is p h x y
      ∙ (λ i. chain_before true S (lx i) (ly i)) ∙ common true S A (x ∷ []) (y ∷ []) ∙ chain_before-fork true S x y [] [] n
      ∙ (λ i. chain_before false F (rx i) (ry i)) ∙ chain_before-fork false F x y [] [] n
      ∙ fork-by p h x y w t.first t.second
      ∙ or_left (origin_before (before_at p (older_of h)) (right_at h y) (right_at h x)) (origin_eq (right_at h y) (right_at h x) && id_lt x y)
      (later_older x y (right_at h x) (right_at h y) refl refl t.later)

-- the order meets the sentences by chains
order_by_chains : (p : Place) (h : List Op) → Lawful h → IsOrderByChains p h (before p h)
order_by_chains p h w =
    let o = order_total p h w in
    record {
      strict = record { irreflexive = λ x _. o.irreflexive x; one_first = o.one_first; transitive = λ x y z _ _ _. o.transitive x y z };
      together = λ x m. together p h x w m;
      before_right = λ r m. before_right p h r w m;
      by_identifier = λ x y t. by_identifier p h x y w t;
      later_right_first = λ x y t. later_first p h w x y t;
    }

-- the order is a text order
pub one_order : OneOrder
one_order p h w = (by_chains p h (before p h) w).1 (order_by_chains p h w)

-- two orders by chains agree on the elements of each older part of the history
module _ (p : Place) (h : List Op) (w : Lawful h) (R S : Relation) (s : IsOrderByChains p h R) (t : IsOrderByChains p h S) where
  agree : (g : List Op) → Lawful g → Within g h → (e x : Identifier) → IsIn p g e → IsIn p g x → R e x ≡ S e x
  agree [] v f e x me mx = cc (me.held)
  agree (op ∷ older) v f e x me mx =
      let g : List Op = op ∷ older in
      let up : Within older h = λ i o k. f i o (Within-append (op ∷ []) older v i o k) in
      let whole : IsIn p h e = record { op = me.op; held = f e me.op me.held; place = me.place } in
      elim (cases_id e x) [
        | inl i ↦ ap (R e) (sym i) ∙ s.strict.irreflexive e whole ∙ sym (t.strict.irreflexive e whole) ∙ ap (S e) i
        | inr n ↦ (elim (outcome p h w g v f e x me mx n) [
          | always b k ↦ k R s ∙ sym (k S t)
          | rests q r mq mr k ↦ k R s ∙ agree older v.1 up q r mq mr ∙ sym (k S t)
        ])
      ]

-- every text order is the order
pub only_order : OnlyOrder
only_order p h R w t x y m n = agree p h w R (before p h) ((by_chains p h R w).0 t) (order_by_chains p h w) h w (λ i o k. k) x y m n

-- the order lists the elements in a text order, and no other list does
pub only_list : OnlyList
only_list p h xs w =
    let o = order_total p h w in (
      λ t.
          let inside : All (IsIn p h) xs = all_from_contains (IsIn p h) xs (λ x m. (t.lists x).1 m) in
          same_ordered (before p h) o.irreflexive o.transitive xs (order p h)
          (Ordered-agree (stands_earlier xs) (before p h) (IsIn p h) (only_order p h (stands_earlier xs) w t.is_order) xs inside (by_index xs t.once))
          o.agrees
          (λ x m. (o.lists x).0 ((t.lists x).1 m))
          (λ x m. (t.lists x).0 ((o.lists x).1 m)),
      λ e. subst (IsText p h) (sym e)
          (record {
            lists = o.lists;
            once = o.once;
            is_order = alike p h w (before p h) (stands_earlier (order p h))
                (λ x y m n. sym (member_lt (before p h) o.irreflexive o.transitive (order p h) x y o.agrees ((o.lists x).0 m) ((o.lists y).0 n)))
                (one_order p h w);
          }),
    )

-- what is printed, by the order of each place
printed-by : (h : List Op) → manuscript h ≡ manuscript_of (λ q. order q h) h
unfolding manuscript
printed-by h = refl

-- so the sentences tell what is printed
pub only_manuscript : OnlyManuscript
only_manuscript h texts w f =
    let same : (q : Place) → order q h ≡ texts q = λ q. sym ((only_list q h (texts q) w).0 (f q)) in
    printed-by h ∙ (λ i. manuscript_of (λ q. same q i) h)
