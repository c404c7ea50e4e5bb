-- Another value in a node.
use Rattle.std.proofs.Common.{◌≡◌, ◌≢◌, ◌⊎◌, inl, inr, ℕ, zero, suc, ◌<◌, ◌≤◌, Bool, cond, List, [], ◌∷◌, length, flat_map, slice_get, slice_set, Option, Some, refl, sym, ap, ◌∙◌}
use Rattle.std.proofs.Common.{subst, arith}
use Rattle.std.specs.Prelude.{eqb}
use Rattle.std.proofs.lemmas.Bool.Decides.{eqb_tells}
use lib.ListN.{length-set}
use Rattle.fugue_ids.specs.Identifiers.{Identifier, id_eq}
use Rattle.block_map.specs.Contents.{value_of}
use Rattle.block_map.specs.declared.map.BlockMap.{BlockMap}
use Rattle.node_rope.specs.declared.store.Store.{Store}
use Rattle.node_rope.specs.declared.cells.Shape.{Shape}
use Rattle.node_rope.specs.declared.cells.Link.{Link}
use Rattle.node_rope.specs.declared.cells.Own.{Own}
use Rattle.node_rope.specs.Made.{KeepsMade, made_count, shapes_of, values_of}
use Rattle.node_rope.specs.Shapes.{HasRightLinks, shape_at, nodes_in_order, IsWeighed, IsRanked}
use Rattle.node_rope.specs.Sums.{no_rank}
use Rattle.node_rope.specs.Items.{IsRope, item_at, rope_items_of}
use Rattle.node_rope.specs.Beside.{put_under}
use Rattle.node_rope.specs.Reweighed.{AreStill, IsStill}
use Rattle.node_rope.proofs.ShapeLemmas.{made-below}
use Rattle.node_rope.proofs.EffectLemmas.{item-is}
use Rattle.node_rope.proofs.KeyLemmas.{all-made, mapped-items, alone, length-values}
use Rattle.node_rope.proofs.ReweighLemmas.{still, placed, tree-along, order-still}
use Rattle.fugue_ids.proofs.OptionLemmas.{cases_number}

got-set : {X : Type 0} (xs : List X) (n : ℕ) (y : X) (i : ℕ) (x : X) → slice_get (slice_set xs n y) i ≡ Some x → ((i ≡ n) × (y ≡ x)) ⊎ ((i ≢ n) × (slice_get xs i ≡ Some x))
got-set [] n y i x e = absurd (cc)
got-set (z ∷ xs) zero y zero x e = inl (refl, cc)
got-set (z ∷ xs) zero y (suc i) x e = inr (λ f. omega (arith, f), e)
got-set (z ∷ xs) (suc n) y zero x e = inr (λ f. omega (arith, f), e)
got-set (z ∷ xs) (suc n) y (suc i) x e = elim (got-set xs n y i x e) as (λ _. ((suc i ≡ suc n) × (y ≡ x)) ⊎ ((suc i ≢ suc n) × (slice_get xs i ≡ Some x))) [
  | inl f ↦ inl (ap suc f.0, f.1)
  | inr f ↦ inr (λ g. f.0 (omega (arith, g)), f.1)
]

set-here : {X : Type 0} (xs : List X) (n : ℕ) (y : X) → n < length xs → slice_get (slice_set xs n y) n ≡ Some y
set-here [] n y h = absurd (omega (arith, h))
set-here (z ∷ xs) zero y h = refl
set-here (z ∷ xs) (suc n) y h = set-here xs n y (omega (arith, h))

set-there : {X : Type 0} (xs : List X) (n : ℕ) (y : X) (i : ℕ) → i ≢ n → slice_get (slice_set xs n y) i ≡ slice_get xs i
set-there [] n y i ne = refl
set-there (z ∷ xs) zero y zero ne = absurd (ne refl)
set-there (z ∷ xs) zero y (suc i) ne = refl
set-there (z ∷ xs) (suc n) y zero ne = refl
set-there (z ∷ xs) (suc n) y (suc i) ne = set-there xs n y i (λ e. ne (ap suc e))

module _ {T : Type 0} (s u : Store T) (root : Option Link) (l : Link) (value : T) (sound : HasRightLinks s root) (shapes : shapes_of u ≡ shapes_of s)
    (values : values_of u ≡ slice_set (values_of s) l.number value) (kept : KeepsMade s u) where
  pub valued-count : made_count u ≡ made_count s
  valued-count = sym (length-values u) ∙ ap length values ∙ length-set (values_of s) l.number value ∙ length-values s

  pub valued-still : AreStill (shapes_of s) (shapes_of u)
  valued-still i = subst (λ (xs : List Shape). IsStill (shape_at (shapes_of s) i) (shape_at xs i)) (sym shapes) (still (shape_at (shapes_of s) i))

  pub valued-sound : HasRightLinks u root
  valued-sound =
      tree-along s u root (placed (shapes_of s) (shapes_of u) valued-still) valued-count kept sound
      (subst (λ (xs : List Shape). IsWeighed xs) (sym shapes) sound.weighed)
      (subst (λ (xs : List Shape). IsRanked xs) (sym shapes) sound.ranked)

-- s with another value in the node l, and its weight
module _ {T : Type 0} (wt : T → Own) (s v : Store T) (root : Option Link) (m : BlockMap Link) (key : Identifier) (l : Link) (w : Own) (value : T) (r : IsRope wt s root m)
    (at : value_of m key ≡ Some l)
    (sound : HasRightLinks v root) (same : AreStill (shapes_of s) (shapes_of v)) (here : (shape_at (shapes_of v) l.number).own ≡ w)
    (others : (i : ℕ) → i ≢ l.number → (shape_at (shapes_of v) i).own ≡ (shape_at (shapes_of s) i).own)
    (values : values_of v ≡ slice_set (values_of s) l.number value) (kept : KeepsMade s v) (small : w.weight < 4194305) (fits : w.rank ≤ no_rank) (is : w ≡ wt value) where
  put-count : made_count v ≡ made_count s
  put-count = sym (length-values v) ∙ ap length values ∙ length-set (values_of s) l.number value ∙ length-values s

  pub put-roped : IsRope wt v root m
  put-roped = record {
    sound = sound;
    few = omega (arith, r.few, put-count);
    light = λ i. elim (cases_number i l.number) as (λ _. (shape_at (shapes_of v) i).own.weight < 4194305) [
      | inl e ↦ omega (arith, small, ap (λ o. o.weight) here, ap (λ (j : ℕ). (shape_at (shapes_of v) j).own.weight) e)
      | inr e ↦ omega (arith, r.light i, ap (λ o. o.weight) (others i e))
    ];
    fits = λ i. elim (cases_number i l.number) as (λ _. (shape_at (shapes_of v) i).own.rank ≤ no_rank) [
      | inl e ↦ omega (arith, fits, ap (λ o. o.rank) here, ap (λ (j : ℕ). (shape_at (shapes_of v) j).own.rank) e)
      | inr e ↦ omega (arith, r.fits i, ap (λ o. o.rank) (others i e))
    ];
    weighs = λ i x e. elim (got-set (values_of s) l.number value i x (ap (λ xs. slice_get xs i) (sym values) ∙ e)) as (λ _. (shape_at (shapes_of v) i).own ≡ wt x) [
      | inl f ↦ ap (λ (j : ℕ). (shape_at (shapes_of v) j).own) f.0 ∙ here ∙ is ∙ ap wt f.1
      | inr f ↦ others i f.0 ∙ r.weighs i x f.1
    ];
    mapped = λ k x e. kept x (r.mapped k x e);
    keyed = λ k x e. (same x.number).key ∙ r.keyed k x e;
    listed = λ i b. (let q = r.listed i (omega (arith, b, put-count)) in (q.0, q.1, ap (value_of m) (same i).key ∙ q.2));
  }

  put-item : (x : ℕ) → x < made_count s → (a : T) → slice_get (values_of s) x ≡ Some a
      → item_at v x ≡ ((shape_at (shapes_of s) x).key, cond (id_eq (shape_at (shapes_of s) x).key key) value a) ∷ []
  put-item x h a e =
      let there = made-below s l (r.mapped key l at) in
      let read : slice_get (values_of v) x ≡ Some (cond (eqb x l.number) value a) =
      elim (eqb_tells x l.number) as (λ _. slice_get (values_of v) x ≡ Some (cond (eqb x l.number) value a)) [
        | inl f ↦ ap (λ xs. slice_get xs x) values ∙ ap (slice_get (slice_set (values_of s) l.number value)) f.1
            ∙ set-here (values_of s) l.number value (omega (arith, there, length-values s)) ∙ ap (λ b. Some (cond b value a)) (sym f.0)
        | inr f ↦ ap (λ xs. slice_get xs x) values ∙ set-there (values_of s) l.number value x f.1 ∙ e ∙ ap (λ b. Some (cond b value a)) (sym f.0)
      ] in
      item-is v x (cond (eqb x l.number) value a) (omega (arith, h, put-count)) read ∙ ap (λ (k : Identifier). (k, cond (eqb x l.number) value a) ∷ []) (same x).key
      ∙ ap (λ (b : Bool). ((shape_at (shapes_of s) x).key, cond b value a) ∷ []) (sym (alone wt s root m r key l at x h))

  pub put-list : rope_items_of v root ≡ put_under key value (rope_items_of s root)
  put-list = ap (flat_map (item_at v)) (order-still s v root (placed (shapes_of s) (shapes_of v) same))
      ∙ mapped-items s v (λ x. (x.0, cond (id_eq x.0 key) value x.1)) put-item (nodes_in_order s root) (all-made s root r.sound)
