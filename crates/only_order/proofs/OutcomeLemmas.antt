-- How two elements stand in every text order: one way in all of them, or as two older elements.
use Rattle.std.proofs.Common.{Bool, List, [], ap, false, inl, inr, refl, subst, sym, true, ◌++◌, ◌∙◌, ◌∷◌, ◌≡◌, ◌≢◌}
use Rattle.std.specs.Prelude.{None, Option, Some}
use Rattle.std.specs.List.{Contains}
use Rattle.std.proofs.lemmas.List.{same_from_push}
use Rattle.std.proofs.lemmas.List.Elements.{All-contains}
use Rattle.fugue_ids.specs.Identifiers.{Identifier, id_lt}
use Rattle.fugue_ids.specs.declared.op.Op.{Op}
use Rattle.fugue_ids.proofs.IdentifierLemmas.{cases_id, cases_origin}
use Rattle.fugue_ids.proofs.ListLemmas.{contains_middle}
use Rattle.origin_model.specs.declared.operations.Place.{Place}
use Rattle.origin_model.specs.operations.Verdict.{Lawful}
use Rattle.origin_model.specs.order.Laws.{IsIn}
use Rattle.origin_model.specs.edits.Passages.{Relation}
use Rattle.origin_model.specs.order.Order.{left_at, lefts, next_left, next_right, older_of, right_at, rights}
use Rattle.origin_model.proofs.SharedLemmas.{beside_is, chain_above, further, IsHeld, IsIn-held, IsIn-within, lefts-above, lefts-in, lefts-prefix, lefts-within, never_none}
use Rattle.origin_model.proofs.SharedLemmas.{right_at_in, right_by, rights-in, rights-prefix, rights-within, same_chain, Within}
use Rattle.only_order.proofs.HeldLemmas.{right_sibling, left_held, alone_from, rights_above, sibling_held}
use Rattle.only_order.specs.TextOrder.{OriginIsLater}
use Rattle.only_order.specs.Chains.{IsOrderByChains}
use Rattle.only_order.proofs.PartedLemmas.{Related, longer, parted, passes_on, related, same, shorter}
use Rattle.only_order.proofs.RelationLemmas.{by_lefts, by_rights, carried, on_left, second}

-- how e and x stand: in every text order alike, or as q and r, which the older history has
pub data Outcome (p : Place) (h older : List Op) (e x : Identifier) : Type 0 where
  always : (v : Bool) → ((R : Relation) → IsOrderByChains p h R → R e x ≡ v) → Outcome p h older e x
  rests : (q r : Identifier) → IsIn p older q → IsIn p older r → ((R : Relation) → IsOrderByChains p h R → R e x ≡ R q r) → Outcome p h older e x

-- elements that stand as two others in every text order have their outcome
moved : (p : Place) (h older : List Op) (a b e x : Identifier) → ((R : Relation) → IsOrderByChains p h R → R e x ≡ R a b) → Outcome p h older a b → Outcome p h older e x
moved p h older a b e x f (always v g) = always v (λ R t. f R t ∙ g R t)
moved p h older a b e x f (rests q r m n g) = rests q r m n (λ R t. f R t ∙ g R t)

-- the chain above tells what it belongs to
above_once : (next : List Op → Op → Option Identifier) (h : List Op) (o q : Option Identifier) → ((y : Identifier) → o ≡ Some y → IsHeld h y)
    → ((y : Identifier) → q ≡ Some y → IsHeld h y)
    → chain_above next h o ≡ chain_above next h q → o ≡ q
above_once next h None None a b e = refl
above_once next h None (Some y) a b e = absurd (never_none next h y (b y refl) (sym e))
above_once next h (Some x) None a b e = absurd (never_none next h x (a x refl) e)
above_once next h (Some x) (Some y) a b e = ap Some (same_chain next h x y (a x refl) (b y refl) e)

module _ (p : Place) (h : List Op) (w : Lawful h) where
  -- elements after one front of their chains of left origins have one left origin
  same_left : (a b : Identifier) (front : List Identifier) → IsIn p h a → IsIn p h b → lefts h a ≡ front ++ a ∷ [] → lefts h b ≡ front ++ b ∷ [] → left_at h a ≡ left_at h b
  same_left a b front m n q r =
      let above : (x : Identifier) → IsIn p h x → lefts h x ≡ front ++ x ∷ [] → chain_above next_left h (left_at h x) ≡ front = λ x k e.
      (same_from_push (chain_above next_left h (left_at h x)) front x x (sym (lefts-above h x w (IsIn-held p h x k)) ∙ e)).0 in
      above_once next_left h (left_at h a) (left_at h b) (λ y. left_held h w a y (IsIn-held p h a m)) (λ y. left_held h w b y (IsIn-held p h b n)) (above a m q ∙ sym (above b n r))

  -- elements after one front of their chains of right origins have the same one
  same_beside : (c d : Identifier) (front : List Identifier) → IsIn p h c → IsIn p h d → rights h c ≡ front ++ c ∷ [] → rights h d ≡ front ++ d ∷ []
      → right_sibling h c ≡ right_sibling h d
  same_beside c d front m n q r =
      let above : (x : Identifier) → IsIn p h x → rights h x ≡ front ++ x ∷ [] → chain_above next_right h (right_sibling h x) ≡ front = λ x k e.
      (same_from_push (chain_above next_right h (right_sibling h x)) front x x (sym (rights_above h w x (IsIn-held p h x k)) ∙ e)).0 in
      above_once next_right h (right_sibling h c) (right_sibling h d) (λ y. sibling_held h w c y (IsIn-held p h c m)) (λ y. sibling_held h w d y (IsIn-held p h d n))
      (above c m q ∙ sym (above d n r))

  -- the right origin that stands later, by the right origins
  later_by : (R : Relation) (c d : Identifier) (o q : Option Identifier) → right_at h c ≡ o → right_at h d ≡ q → OriginIsLater R o q → OriginIsLater R (right_at h c) (right_at h d)
  later_by R c d o q e f k = subst (λ z. OriginIsLater R z (right_at h d)) (sym e) (subst (λ z. OriginIsLater R o z) (sym f) k)

  -- for an older part of the history
  module _ (g : List Op) (v : Lawful g) (f : Within g h) where
    -- an element of it is one of the whole
    whole : (x : Identifier) → IsIn p g x → IsIn p h x
    whole x m = IsIn-within p g h x f m

    held : (x : Identifier) → IsIn p g x → IsHeld h x
    held x m = IsIn-held p h x (whole x m)

    -- its right origin is older still
    older_right : (x r : Identifier) → IsIn p g x → right_at h x ≡ Some r → IsIn p (older_of g) r
    older_right x r m e = right_at_in p g x r v m (ap right_by m.held ∙ sym (ap right_by (f x m.op m.held)) ∙ e)

    -- and an element of the whole
    right_whole : (x r : Identifier) → IsIn p g x → right_at h x ≡ Some r → IsIn p h r
    right_whole x r m e = whole r (further p g r v (older_right x r m e))

    -- a member of a chain of left origins is in it
    in_lefts : (e a : Identifier) (front more : List Identifier) → IsIn p g e → lefts h e ≡ front ++ a ∷ more → IsIn p g a
    in_lefts e a front more m q =
        All-contains (IsIn p g) (lefts g e) a (lefts-in p g e v m)
        (subst (λ l. Contains l a) (sym (lefts-within g h e v w f (IsIn-held p g e m) ∙ q)) (contains_middle front a more))

    -- and one of a chain of right origins
    in_rights : (e a : Identifier) (front more : List Identifier) → IsIn p g e → rights h e ≡ front ++ a ∷ more → IsIn p g a
    in_rights e a front more m q =
        All-contains (IsIn p g) (rights g e) a (rights-in p g e v m)
        (subst (λ l. Contains l a) (sym (rights-within g h e v w f (IsIn-held p g e m) ∙ q)) (contains_middle front a more))

    -- two siblings after one front of their chains of right origins
    module _ (c d : Identifier) (mc : IsIn p g c) (md : IsIn p g d) (apart : c ≢ d) (left : left_at h c ≡ left_at h d) where
      -- with one right origin they stand by identifier
      tie : right_at h c ≡ right_at h d → Outcome p h (older_of g) c d
      tie e = always (id_lt c d) (λ R t. t.by_identifier c d (record { first = whole c mc; second = whole d md; apart = apart; same_left = left; same_right = e }))

      module _ (nc : right_sibling h c ≡ None) (nd : right_sibling h d ≡ None) where
        -- the one whose right origin stands later goes first
        first_later : (R : Relation) → IsOrderByChains p h R → OriginIsLater R (right_at h c) (right_at h d) → R c d ≡ true
        first_later R t k = t.later_right_first c d
            (record { first = whole c mc; second = whole d md; same_left = left; alone_x = alone_from h w c (held c mc) nc; alone_y = alone_from h w d (held d md) nd; later = k })

        second_later : (R : Relation) → IsOrderByChains p h R → OriginIsLater R (right_at h d) (right_at h c) → R d c ≡ true
        second_later R t k = t.later_right_first d c
            (record {
              first = whole d md;
              second = whole c mc;
              same_left = sym left;
              alone_x = alone_from h w d (held d md) nd;
              alone_y = alone_from h w c (held c mc) nc;
              later = k;
            })

        -- so the right origins decide
        outside : Outcome p h (older_of g) c d
        outside =
            elim (cases_origin (right_at h c)) [
              | inl e ↦ elim (cases_origin (right_at h d)) [
                | inl k ↦ tie (e ∙ sym k)
                | inr k ↦ always true (λ R t. first_later R t (later_by R c d None (Some k.0) e k.1 tt))
              ]
              | inr e ↦ elim (cases_origin (right_at h d)) [
                | inl k ↦ always false (λ R t. second p h R w t c d (whole c mc) (whole d md) apart (second_later R t (later_by R d c None (Some e.0) k e.1 tt)))
                | inr k ↦ elim (cases_id e.0 k.0) [
                  | inl i ↦ tie (e.1 ∙ ap Some i ∙ sym k.1)
                  | inr n ↦
                      let r : Identifier = e.0 in
                      let q : Identifier = k.0 in
                      let mr : IsIn p (older_of g) r = older_right c r mc e.1 in
                      let mq : IsIn p (older_of g) q = older_right d q md k.1 in
                      rests q r mq mr (λ R t.
                      carried p h R w t q r c d (right_whole d q md k.1) (right_whole c r mc e.1) (whole c mc) (whole d md) (λ i. n (sym i)) apart
                      (λ j. first_later R t (later_by R c d (Some r) (Some q) e.1 k.1 j))
                      (λ j. second_later R t (later_by R d c (Some q) (Some r) k.1 e.1 j)))
                ]
              ]
            ]

      -- with one right origin beside, or with none
      at_fork : (front : List Identifier) → rights h c ≡ front ++ c ∷ [] → rights h d ≡ front ++ d ∷ [] → Outcome p h (older_of g) c d
      at_fork front q r =
          let e : right_sibling h c ≡ right_sibling h d = same_beside c d front (whole c mc) (whole d md) q r in
          elim (cases_origin (right_sibling h c)) [
            | inl n ↦ outside n (sym e ∙ n)
            | inr n ↦ tie
                ((beside_is h (left_at h c) (right_at h c) n.0 n.1).0
                ∙ sym (beside_is h (left_at h d) (right_at h d) n.0 (sym e ∙ n.1)).0)
          ]

    -- two siblings, by their chains of right origins
    siblings : (a b : Identifier) → IsIn p g a → IsIn p g b → a ≢ b → left_at h a ≡ left_at h b → Outcome p h (older_of g) a b
    siblings a b ma mb n l = by_related (related (rights h a) (rights h b))
      where
        by_related : Related (rights h a) (rights h b) → Outcome p h (older_of g) a b
        by_related (same e) = absurd (n (same_chain next_right h a b (held a ma) (held b mb) e))
        by_related (shorter t) =
            always false (λ R k. second p h R w k a b (whole a ma) (whole b mb) n
            ((k.before_right a (whole a ma)).last b (whole b mb) (on_left p h a b (whole b mb) (λ i. n (sym i)) (sym l) (passes_on (rights h a) (rights h b) t))))
        by_related (longer t) =
            always true (λ R k. (k.before_right b (whole b mb)).last a (whole a ma) (on_left p h b a (whole a ma) n l (passes_on (rights h b) (rights h a) t)))
        by_related (parted c d t) =
            let mc : IsIn p g c = in_rights a c t.front t.more_x ma t.whole_x in
            let md : IsIn p g d = in_rights b d t.front t.more_y mb t.whole_y in
            let pc = rights-prefix h a c t.front t.more_x w (held a ma) t.whole_x in
            let pd = rights-prefix h b d t.front t.more_y w (held b mb) t.whole_y in
            moved p h (older_of g) c d a b
            (λ R k. by_rights p h R w k c d a b t.front t.more_x t.more_y (whole c mc) (whole d md) (whole a ma) (whole b mb) t.apart n l t.whole_x t.whole_y)
            (at_fork c d mc md t.apart (pc.1 ∙ l ∙ sym pd.1) t.front pc.0 pd.0)

    -- two elements, by their chains of left origins
    pub outcome : (e x : Identifier) → IsIn p g e → IsIn p g x → e ≢ x → Outcome p h (older_of g) e x
    outcome e x me mx n = by_related (related (lefts h e) (lefts h x))
      where
        by_related : Related (lefts h e) (lefts h x) → Outcome p h (older_of g) e x
        by_related (same k) = absurd (n (same_chain next_left h e x (held e me) (held x mx) k))
        by_related (shorter t) = always true (λ R k. (k.together e (whole e me)).first x (whole x mx) (λ i. n (sym i)) (passes_on (lefts h e) (lefts h x) t))
        by_related (longer t) =
            always false (λ R k. second p h R w k e x (whole e me) (whole x mx) n ((k.together x (whole x mx)).first e (whole e me) n (passes_on (lefts h x) (lefts h e) t)))
        by_related (parted a b t) =
            let ma : IsIn p g a = in_lefts e a t.front t.more_x me t.whole_x in
            let mb : IsIn p g b = in_lefts x b t.front t.more_y mx t.whole_y in
            let la = lefts-prefix h e a t.front t.more_x w (held e me) t.whole_x in
            let lb = lefts-prefix h x b t.front t.more_y w (held x mx) t.whole_y in
            moved p h (older_of g) a b e x
            (λ R k. by_lefts p h R w k a b e x t.front t.more_x t.more_y (whole a ma) (whole b mb) (whole e me) (whole x mx) t.apart t.whole_x t.whole_y)
            (siblings a b ma mb t.apart (same_left a b t.front (whole a ma) (whole b mb) la lb))
