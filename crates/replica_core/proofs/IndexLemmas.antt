-- What an index finds in a history, and what it is as the newest operation goes.
use Rattle.std.proofs.Common.{Bool, List, [], ap, arith, false, inl, inr, length, refl, reverse, subst, suc, sym, true, ℕ, ◌++◌, ◌<◌, ◌∙◌, ◌∷◌, ◌≡◌, ◌≢◌, ◌+◌}
use Rattle.std.specs.Prelude.{IfSome, None, Option, Some, cond, is_some, option_map, slice_get}
use Rattle.std.specs.FinMap.{FinMap, get, get-insert, get-remove, insert, remove}
use Rattle.std.specs.Ordering.{is_eq}
use Rattle.std.proofs.lemmas.Bool.{cases_Bool}
use Rattle.std.proofs.lemmas.List.{length-reverse, reverse-append, reverse-reverse}
use Rattle.fugue_ids.specs.Identifiers.{Identifier, id_cmp, id_eq, origin_eq}
use Rattle.fugue_ids.specs.Ops.{id_of}
use Rattle.fugue_ids.proofs.IdentifierLemmas.{cases_id, id_at-other, id_at-same, id_eq-refl, ne-id_eq}
use Rattle.fugue_ids.specs.declared.op.Op.{Op}
use Rattle.origin_model.specs.operations.History.{holder, holds, is_own}
use Rattle.origin_model.specs.operations.Verdict.{verdict}
use Rattle.origin_model.specs.declared.operations.Verdict.TheVariants.{Ready}
use Rattle.origin_model.proofs.SharedLemmas.{holder-other, holder-own, holds-other, holds-own, ready_is_new}
use Rattle.replica_core.specs.Feeding.{AreUnheld}
use Rattle.replica_core.specs.Index.{ArePositions, IsUnnoted, as_position, newest_position}
use Rattle.stretch_map.specs.Rules.{AreFree, IsFollowedBy, later}
use Rattle.stretch_map.specs.declared.follows.Position.{Position}
use Rattle.fugue_ids.proofs.OrderLemmas.{id_cmp_total}
use Rattle.fugue_ids.specs.Runs.{id_after}
use Rattle.fugue_ids.proofs.ListLemmas.{slice_get-append, slice_get-seam}
use Rattle.fugue_ids.proofs.OptionLemmas.{is_some-false}

-- the newest operation has the position after the others
position-own : (test : Op → Bool) (op : Op) (h : List Op) → test op ≡ true → newest_position test (op ∷ h) ≡ Some (length h)
position-own test op h e = rw (e, newest_position)

-- others have the positions that they had
position-other : (test : Op → Bool) (op : Op) (h : List Op) → test op ≡ false → newest_position test (op ∷ h) ≡ newest_position test h
position-other test op h e = rw (e, newest_position)

-- an identifier has a position where it is held
pub has_position : (h : List Op) (x : Identifier) → is_some (newest_position (is_own x) h) ≡ holds h x
has_position [] x = refl
has_position (op ∷ h) x =
    elim (cases_Bool (is_own x op)) [
      | inl own ↦ ap is_some (position-own (is_own x) op h own) ∙ sym (holds-own op h x own)
      | inr other ↦ ap is_some (position-other (is_own x) op h other) ∙ has_position h x ∙ sym (holds-other op h x other)
    ]

-- what a look-up finds has a position
pub is_some-as : (o : Option ℕ) → is_some (option_map as_position o) ≡ is_some o
is_some-as None = refl
is_some-as (Some k) = refl

-- an identifier that is not held has no position
unheld_none : (h : List Op) (x : Identifier) → holds h x ≡ false → newest_position (is_own x) h ≡ None
unheld_none h x e = is_some-false (newest_position (is_own x) h) (has_position h x ∙ e)

-- an operation has one identifier at most
own_is : (op : Op) (i x : Identifier) → id_of op ≡ Some i → is_own x op ≡ id_eq i x
own_is op i x e = ap (λ o. origin_eq o (Some x)) e

other_is : (op : Op) (i x : Identifier) → id_of op ≡ Some i → x ≢ i → is_own x op ≡ false
other_is op i x e apart = own_is op i x e ∙ ne-id_eq i x (λ same. apart (sym same))

none_is : (op : Op) (x : Identifier) → id_of op ≡ None → is_own x op ≡ false
none_is op x e = ap (λ o. origin_eq o (Some x)) e

module _ (op : Op) (h : List Op) (m : FinMap id_cmp Position) where
  -- the newest operation has no identifier
  pub noted_none : id_of op ≡ None → ArePositions m h → ArePositions m (op ∷ h)
  noted_none none are x = are x ∙ ap (option_map as_position) (sym (position-other (is_own x) op h (none_is op x none)))

  pub forgot_none : id_of op ≡ None → ArePositions m (op ∷ h) → ArePositions m h
  forgot_none none are x = are x ∙ ap (option_map as_position) (position-other (is_own x) op h (none_is op x none))

  -- its identifier was put in
  pub noted_own : (n : FinMap id_cmp Position) (i : Identifier) (k : ℕ) → id_of op ≡ Some i → n ≡ insert m i (as_position k) → ArePositions m h → length h ≡ k
      → ArePositions n (op ∷ h)
  noted_own n i k own is are same x =
      let at : get n x ≡ cond (is_eq (id_cmp x i)) (Some (as_position k)) (get m x) = ap (λ z. get z x) is ∙ get-insert id_cmp_total m i (as_position k) x in
      elim (cases_id x i) [
        | inl e ↦
            at ∙ ap (λ b. cond b (Some (as_position k)) (get m x)) (ap (λ y. is_eq (id_cmp y i)) e ∙ id_at-same i)
            ∙ ap (λ j. Some (as_position j)) (sym same)
            ∙ ap (option_map as_position) (sym (position-own (is_own x) op h (ap (λ y. is_own y op) e ∙ own_is op i i own ∙ id_eq-refl i)))
        | inr e ↦
            at ∙ ap (λ b. cond b (Some (as_position k)) (get m x)) (id_at-other x i (λ d. e (sym d)))
            ∙ are x ∙ ap (option_map as_position) (sym (position-other (is_own x) op h (other_is op i x own e)))
      ]

  -- and was taken out
  pub forgot_own : (n : FinMap id_cmp Position) (i : Identifier) → id_of op ≡ Some i → n ≡ remove m i → ArePositions m (op ∷ h) → verdict h op ≡ Ready → ArePositions n h
  forgot_own n i own is are ready x =
      let at : get n x ≡ cond (is_eq (id_cmp x i)) None (get m x) = ap (λ z. get z x) is ∙ get-remove id_cmp_total m i x in
      elim (cases_id x i) [
        | inl e ↦
            at ∙ ap (λ b. cond b None (get m x)) (ap (λ y. is_eq (id_cmp y i)) e ∙ id_at-same i)
            ∙ ap (option_map as_position) (sym (unheld_none h x (ap (holds h) e ∙ ready_is_new h op i ready own)))
        | inr e ↦
            at ∙ ap (λ b. cond b None (get m x)) (id_at-other x i (λ d. e (sym d)))
            ∙ are x ∙ ap (option_map as_position) (position-other (is_own x) op h (other_is op i x own e))
      ]

-- an operation that is Ready has no position
pub unnoted : (m : FinMap id_cmp Position) (h : List Op) (op : Op) → ArePositions m h → verdict h op ≡ Ready → IsUnnoted m op
unnoted m h op are ready = by_id (id_of op) refl
  where
    by_id : (o : Option Identifier) → id_of op ≡ o → IfSome o (λ x. get m x ≡ None)
    by_id None e = tt
    by_id (Some x) e = are x ∙ ap (option_map as_position) (unheld_none h x (ready_is_new h op x ready e))

some_same : {X : Type 0} (a b : X) → Some a ≡ Some b → a ≡ b
some_same a b e = cc

-- a position is below the number of operations
position_below : (test : Op → Bool) (h : List Op) (k : ℕ) → newest_position test h ≡ Some k → k < length h
position_below test [] k e = cc
position_below test (op ∷ h) k e =
    elim (cases_Bool (test op)) [
      | inl o ↦ let d : length h ≡ k = some_same (length h) k (sym (position-own test op h o) ∙ e) in omega (arith, d)
      | inr o ↦ let below = position_below test h k (sym (position-other test op h o) ∙ e) in omega (arith, below)
    ]

-- none comes after that of the newest operation
pub last_own : (op : Op) (i : Identifier) (h : List Op) (m : FinMap id_cmp Position) → id_of op ≡ Some i → ArePositions m (op ∷ h)
    → IsFollowedBy (λ first p k. later p k) (get m) i → ⊥
last_own op i h m own are f =
    let newest : newest_position (is_own i) (op ∷ h) ≡ Some (length h) = position-own (is_own i) op h (own_is op i i own ∙ id_eq-refl i) in
    let at : Some (as_position (length h)) ≡ Some f.value = ap (option_map as_position) (sym newest) ∙ sym (are i) ∙ f.held in
    let here : length h ≡ f.value.at = let same : as_position (length h) ≡ f.value = cc in ap (λ p. p.at) same in
    behind (newest_position (is_own (id_after i 1)) (op ∷ h)) refl (sym (are (id_after i 1)) ∙ f.followed) here
  where
    behind : (o : Option ℕ) → newest_position (is_own (id_after i 1)) (op ∷ h) ≡ o → option_map as_position o ≡ Some (later f.value 1) → length h ≡ f.value.at → ⊥
    behind None is e here = cc
    behind (Some k) is e here =
        let same : as_position k ≡ later f.value 1 = cc in
        let next : k ≡ f.value.at + 1 = ap (λ p. p.at) same in
        let below : k < suc (length h) = position_below (is_own (id_after i 1)) (op ∷ h) k is in
        omega (arith, next, below, here)

-- at the position of an identifier stands its holder
held_at : (h : List Op) (x : Identifier) (k : ℕ) → newest_position (is_own x) h ≡ Some k → slice_get (reverse h) k ≡ holder h x
held_at [] x k e = cc
held_at (op ∷ h) x k e =
    let longer : reverse (op ∷ h) ≡ reverse h ++ op ∷ [] = reverse-append (op ∷ []) h in
    elim (cases_Bool (is_own x op)) [
      | inl o ↦
          let d : length h ≡ k = some_same (length h) k (sym (position-own (is_own x) op h o) ∙ e) in
          ap (λ (l : List Op). slice_get l k) longer
          ∙ ap (slice_get (reverse h ++ op ∷ [])) (sym (length-reverse h ∙ d))
          ∙ slice_get-seam (reverse h) op
          ∙ sym (holder-own op h x o)
      | inr o ↦
          let before : newest_position (is_own x) h ≡ Some k = sym (position-other (is_own x) op h o) ∙ e in
          ap (λ (l : List Op). slice_get l k) longer
          ∙ slice_get-append (reverse h) (op ∷ []) k (subst (λ (n : ℕ). k < n) (sym (length-reverse h)) (position_below (is_own x) h k before))
          ∙ held_at h x k before
          ∙ sym (holder-other op h x o)
    ]

-- a position as a number
pub position_at : (m : FinMap id_cmp Position) (h : List Op) (x : Identifier) → ArePositions m h → option_map (λ p. p.at) (get m x) ≡ newest_position (is_own x) h
position_at m h x are = ap (option_map (λ p. p.at)) (are x) ∙ back (newest_position (is_own x) h)
  where
    back : (o : Option ℕ) → option_map (λ p. p.at) (option_map as_position o) ≡ o
    back None = refl
    back (Some k) = refl

-- the operation at the position of an identifier
pub position_held : (m : FinMap id_cmp Position) (ops : List Op) (x : Identifier) (k : ℕ) → ArePositions m (reverse ops) → Some k ≡ option_map (λ p. p.at) (get m x)
    → slice_get ops k ≡ holder (reverse ops) x
position_held m ops x k are e =
    ap (λ (l : List Op). slice_get l k) (sym (reverse-reverse ops)) ∙ held_at (reverse ops) x k (sym (e ∙ position_at m (reverse ops) x are))

-- an identifier without a position is not held
pub position_free : (m : FinMap id_cmp Position) (h : List Op) (x : Identifier) → ArePositions m h → None ≡ option_map (λ p. p.at) (get m x) → None ≡ holder h x
position_free m h x are e = sym (is_some-false (holder h x) (sym (has_position h x) ∙ ap is_some (sym (e ∙ position_at m h x are))))

-- an identifier is held where it has a position
pub held_by_position : (m : FinMap id_cmp Position) (h : List Op) (x : Identifier) → ArePositions m h → is_some (get m x) ≡ holds h x
held_by_position m h x are = ap is_some (are x) ∙ is_some-as (newest_position (is_own x) h) ∙ has_position h x

-- identifiers without positions are not held
pub free_unheld : (m : FinMap id_cmp Position) (h : List Op) (first : Identifier) (n : ℕ) → ArePositions m h → AreFree (get m) first n → AreUnheld h first n
free_unheld m h first n are free k less = sym (held_by_position m h (id_after first k) are) ∙ ap is_some (free k less)

pub unheld_free : (m : FinMap id_cmp Position) (h : List Op) (first : Identifier) (n : ℕ) → ArePositions m h → AreUnheld h first n → AreFree (get m) first n
unheld_free m h first n are unheld k less = is_some-false (get m (id_after first k)) (held_by_position m h (id_after first k) are ∙ unheld k less)
