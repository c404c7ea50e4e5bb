-- Stretches have all elements with a key, and none could be longer.
use Rattle.std.proofs.Common.{List, [], ap, arith, false, inl, inr, length, refl, subst, sym, true, ◌<◌, ◌∙◌, ◌∷◌, ◌≡◌}
use Rattle.std.specs.Prelude.{Bool, None, Option, Some, cond, filter, flat_map, if◌then◌else◌, is_some, nat_eq}
use Rattle.std.specs.List.{All}
use Rattle.std.proofs.lemmas.Bool.{cases_Bool, eqb-true}
use Rattle.std.proofs.lemmas.List.Elements.{All-cons, All-head, All-nil, All-tail}
use Rattle.fugue_ids.specs.Identifiers.{Identifier}
use Rattle.change_marks.specs.Laws.{NeighboursHaveOwnKeys, AreMaximalStretches, StretchesAreLongest}
use Rattle.change_marks.specs.Marks.{mark_eq}
use Rattle.change_marks.specs.Stretches.{Stretch, joined_stretch, stretches}
use Rattle.change_marks.proofs.RunLemmas.{mark_eq-true}

module _ {K : Type 0} (same : K → K → Bool) (decides : (a b : K) → same a b ≡ true → a ≡ b) where
  abbrev of_key : (Identifier → Option K) → Stretch K → Type 0
  of_key key s = All (λ x. key x ≡ Some s.key) s.elements

  abbrev elements : Stretch K → List Identifier
  elements s = s.elements

  abbrev after : K → Identifier → Stretch K → List (Stretch K) → Bool → List (Stretch K)
  after k x s ss b = if b then record { key = k; elements = x ∷ s.elements } ∷ ss else record { key = k; elements = x ∷ [] } ∷ s ∷ ss

  joined_elements : (k : K) (x : Identifier) (ss : List (Stretch K)) → flat_map elements (joined_stretch same k x ss) ≡ x ∷ flat_map elements ss
  joined_elements k x [] = refl
  joined_elements k x (s ∷ ss) = elim (same k s.key) as (λ (b : Bool). flat_map elements (after k x s ss b) ≡ x ∷ flat_map elements (s ∷ ss)) [ true ↦ refl | false ↦ refl ]

  -- what holds of a stretch of one element, and of one that got another in front, holds of all
  joined_each : (P : Stretch K → Type 0) (k : K) (x : Identifier) (ss : List (Stretch K)) → P (record { key = k; elements = x ∷ [] })
      → ((s : Stretch K) → k ≡ s.key → P s → P (record { key = k; elements = x ∷ s.elements })) → All P ss → All P (joined_stretch same k x ss)
  joined_each P k x [] one more each = All-cons P (record { key = k; elements = x ∷ [] }) [] one (All-nil P)
  joined_each P k x (s ∷ ss) one more each =
      elim (cases_Bool (same k s.key)) [
        | inl e ↦ subst (λ b. All P (after k x s ss b)) (sym e)
            (All-cons P (record { key = k; elements = x ∷ s.elements }) ss (more s (decides k s.key e) (All-head P s ss each)) (All-tail P s ss each))
        | inr e ↦ subst (λ b. All P (after k x s ss b)) (sym e) (All-cons P (record { key = k; elements = x ∷ [] }) (s ∷ ss) one each)
      ]

  -- a stretch in front of others, by its key
  in_front : (s t : Stretch K) (ss : List (Stretch K)) → s.key ≡ t.key → NeighboursHaveOwnKeys same (t ∷ ss) → NeighboursHaveOwnKeys same (s ∷ ss)
  in_front s t [] e apart = tt
  in_front s t (r ∷ ss) e apart = (ap (λ z. same z r.key) e ∙ apart.0, apart.1)

  joined_apart : (k : K) (x : Identifier) (ss : List (Stretch K)) → NeighboursHaveOwnKeys same ss → NeighboursHaveOwnKeys same (joined_stretch same k x ss)
  joined_apart k x [] apart = tt
  joined_apart k x (s ∷ ss) apart =
      elim (cases_Bool (same k s.key)) [
        | inl e ↦ subst (λ b. NeighboursHaveOwnKeys same (after k x s ss b)) (sym e) (in_front (record { key = k; elements = x ∷ s.elements }) s ss (decides k s.key e) apart)
        | inr e ↦ subst (λ b. NeighboursHaveOwnKeys same (after k x s ss b)) (sym e) (e, apart)
      ]

  joined_longest : (key : Identifier → Option K) (k : K) (x : Identifier) (xs : List Identifier) (ss : List (Stretch K)) → key x ≡ Some k → AreMaximalStretches same key xs ss
      → AreMaximalStretches same key (x ∷ xs) (joined_stretch same k x ss)
  joined_longest key k x xs ss e l =
      let rest : List Identifier = filter (λ y. is_some (key y)) xs in
      record {
        all = joined_elements k x ss ∙ ap (λ ys. x ∷ ys) l.all ∙ sym (ap (λ o. cond (is_some o) (x ∷ rest) rest) e);
        keys =
            joined_each (of_key key) k x ss (All-cons (λ y. key y ≡ Some k) x [] e (All-nil (λ y. key y ≡ Some k)))
            (λ s d each. All-cons (λ y. key y ≡ Some k) x s.elements e (subst (λ z. All (λ y. key y ≡ Some z) s.elements) (sym d) each)) l.keys;
        some = joined_each (λ s. 0 < length s.elements) k x ss (omega arith) (λ s d n. omega arith) l.some;
        apart = joined_apart k x ss l.apart;
      }

  passed_longest : (key : Identifier → Option K) (x : Identifier) (xs : List Identifier) (ss : List (Stretch K)) → key x ≡ None → AreMaximalStretches same key xs ss
      → AreMaximalStretches same key (x ∷ xs) ss
  passed_longest key x xs ss e l =
      let rest : List Identifier = filter (λ y. is_some (key y)) xs in
      record { all = l.all ∙ sym (ap (λ o. cond (is_some o) (x ∷ rest) rest) e); keys = l.keys; some = l.some; apart = l.apart }

  pub longest : (key : Identifier → Option K) (xs : List Identifier) → AreMaximalStretches same key xs (stretches same key xs)
  longest key [] = record { all = refl; keys = All-nil (of_key key); some = All-nil (λ (s : Stretch K). 0 < length s.elements); apart = tt }
  longest key (x ∷ xs) =
      elim (key x) as (λ (o : Option K). key x ≡ o
      → AreMaximalStretches same key (x ∷ xs) (elim o [ None ↦ stretches same key xs | Some k ↦ joined_stretch same k x (stretches same key xs) ])) [
        | None ↦ λ e. passed_longest key x xs (stretches same key xs) e (longest key xs)
        | Some k ↦ λ e. joined_longest key k x xs (stretches same key xs) e (longest key xs)
      ] refl

pub stretches_are_longest : StretchesAreLongest
stretches_are_longest = record { marks = longest mark_eq mark_eq-true; replicas = longest nat_eq eqb-true }
