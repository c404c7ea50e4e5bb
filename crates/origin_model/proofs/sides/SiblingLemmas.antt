-- The siblings of a new element compare with it as at a fork of two chains.
use Rattle.origin_model.proofs.Words.{All, All-contains, Bool, Contains, Contains-append_left, Contains-append_right, Identifier, Lawful, List, Op, Place, Some, all_from_contains}
use Rattle.origin_model.proofs.Words.{ap, element_of, false, fork_before, index_of_origin, is_own, order, precedes, right_at, right_of, subst, sym, true, true≢false, ◌∙◌, ◌∷◌, ◌≡◌}
use Rattle.origin_model.proofs.Words.{◌≢◌}
use Rattle.origin_model.specs.sides.Slot.{IsParted, goes_before}
use Rattle.origin_model.proofs.operations.LookupLemmas.{IsHeld, held_not_own, holder-own, right_by, when_ready}
use Rattle.origin_model.proofs.operations.ElementLemmas.{element_own}
use Rattle.origin_model.proofs.order.{fork-total, right-older}

-- a new element x of the place
module _ (p : Place) (op : Op) (older : List Op) (x : Identifier) (w : Lawful (op ∷ older)) (at : element_of p op ≡ Some x) where
  -- the comparison at a fork of the longer history
  abbrev fork : Identifier → Identifier → Bool
  fork = fork_before (order p older) (op ∷ older)

  -- a held element compares with x as at a fork
  goes-fork : (v : Identifier) → IsHeld older v → goes_before (order p older) older op x v ≡ fork v x
  goes-fork v k =
      let there : right_at (op ∷ older) x ≡ right_of op = ap right_by (holder-own op older x (element_own p op x at)) in
      λ i. precedes (index_of_origin (order p older) (sym (right-older p op older w v k) i)) (index_of_origin (order p older) (sym there i)) v x

  -- a held element is not x
  held_apart : (v : Identifier) → IsHeld older v → v ≢ x
  held_apart v k d = true≢false (sym (element_own p op x at) ∙ ap (λ z. is_own z op) (sym d) ∙ held_not_own op older v (when_ready older op w.0) k)

  -- siblings that are held, parted where x goes in
  module _ (children earlier later : List Identifier) (held : (v : Identifier) → Contains children v → IsHeld older v)
      (c : IsParted (order p older) older op x children earlier later) where
    -- the earlier ones are held
    earlier_held : (v : Identifier) → Contains earlier v → IsHeld older v
    earlier_held v m = held v (subst (λ l. Contains l v) (sym c.whole) (Contains-append_left earlier later v m))

    -- the later ones are held
    younger_held : (v : Identifier) → Contains later v → IsHeld older v
    younger_held v m = held v (subst (λ l. Contains l v) (sym c.whole) (Contains-append_right earlier later v m))

    -- the earlier ones go before x
    pub elders_first : All (λ v. fork v x ≡ true) earlier
    elders_first =
        all_from_contains (λ v. fork v x ≡ true) earlier
        (λ v m. sym (goes-fork v (earlier_held v m)) ∙ All-contains (λ z. goes_before (order p older) older op x z ≡ true) earlier v c.earlier_sibling m)

    -- x goes before the later ones
    pub youngers_last : All (λ v. fork x v ≡ true) later
    youngers_last =
        all_from_contains (λ v. fork x v ≡ true) later (λ v m.
        let k = younger_held v m in
        fork-total (order p older) (op ∷ older) v x (held_apart v k)
        (sym (goes-fork v k) ∙ All-contains (λ z. goes_before (order p older) older op x z ≡ false) later v c.later_sibling m))
