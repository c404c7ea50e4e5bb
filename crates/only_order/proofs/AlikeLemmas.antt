-- A relation that agrees with a text order on the elements is one itself.
use Rattle.std.proofs.Common.{ap, List, not, refl, sym, ◌∙◌, ◌≡◌}
use Rattle.std.specs.Prelude.{None, Option, Some}
use Rattle.fugue_ids.specs.Identifiers.{Identifier}
use Rattle.fugue_ids.specs.declared.op.Op.{Op}
use Rattle.origin_model.specs.declared.operations.Place.{Place}
use Rattle.origin_model.specs.operations.Verdict.{Lawful}
use Rattle.origin_model.specs.order.Laws.{IsIn}
use Rattle.origin_model.specs.edits.Passages.{Relation}
use Rattle.origin_model.specs.order.Order.{right_at}
use Rattle.origin_model.proofs.SharedLemmas.{further, right_at_in}
use Rattle.only_order.specs.TextOrder.{OriginIsLater, IsTextOrder}

module _ (p : Place) (h : List Op) (w : Lawful h) (R S : Relation) (same : (x y : Identifier) → IsIn p h x → IsIn p h y → R x y ≡ S x y) (t : IsTextOrder p h R) where
  -- a right origin that stands later by the one stands later by the other
  later_alike : (o q : Option Identifier) → ((x : Identifier) → o ≡ Some x → IsIn p h x) → ((x : Identifier) → q ≡ Some x → IsIn p h x) → OriginIsLater S o q → OriginIsLater R o q
  later_alike o None f g k = absurd k
  later_alike None (Some b) f g k = tt
  later_alike (Some a) (Some b) f g k = same b a (g b refl) (f a refl) ∙ k

  right_in : (x r : Identifier) → IsIn p h x → right_at h x ≡ Some r → IsIn p h r
  right_in x r m e = further p h r w (right_at_in p h x r w m e)

  pub alike : IsTextOrder p h S
  alike =
      record {
        strict = record {
          irreflexive = λ x m. sym (same x x m m) ∙ t.strict.irreflexive x m;
          one_first = λ x y m n d. sym (same x y m n) ∙ t.strict.one_first x y m n d ∙ ap not (same y x n m);
          transitive = λ x y z m n l j k. sym (same x z m l) ∙ t.strict.transitive x y z m n l (same x y m n ∙ j) (same y z n l ∙ k);
        };
        together = λ x m.
            let b = t.together x m in
            record { first = λ e n d q. sym (same x e m n) ∙ b.first e n d q; no_gap = λ z e k n q i j. b.no_gap z e k n q (same x z m k ∙ i) (same z e k n ∙ j) };
        before_right = λ r m.
            let b = t.before_right r m in
            record { last = λ e n g. sym (same e r n m) ∙ b.last e n g; no_gap = λ e z n k g i j. b.no_gap e z n k g (same e z n k ∙ i) (same z r k m ∙ j) };
        by_identifier = λ x y k. sym (same x y k.first k.second) ∙ t.by_identifier x y k;
        later_right_first = λ x y k.
            sym (same x y k.first k.second)
            ∙ t.later_right_first x y (record {
              first = k.first;
              second = k.second;
              same_left = k.same_left;
              alone_x = k.alone_x;
              alone_y = k.alone_y;
              later = later_alike (right_at h x) (right_at h y) (λ r e. right_in x r k.first e) (λ r e. right_in y r k.second e) k.later;
            });
      }
