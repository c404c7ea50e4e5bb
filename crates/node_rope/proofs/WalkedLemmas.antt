-- A step of a walk along the items.
use Rattle.std.proofs.Common.{◌≡◌, ℕ, zero, suc, ◌+◌, ◌<◌, ◌≤◌, List, [], ◌∷◌, ◌++◌, length, length-append, drop, slice_get, get_or, Option, None, Some, refl, sym, ap, ◌∙◌, arith}
use Rattle.std.specs.Prelude.{option_map}
use Rattle.std.proofs.lemmas.Option.{get_or_from_slice_get, slice_get-get_or, slice_get_past, slice_get_within}
use Rattle.std.proofs.lemmas.List.{drop_all}
use Rattle.std.proofs.Math.Seq.{get_or-append_seam}
use Rattle.fugue_ids.specs.Identifiers.{Identifier}
use Rattle.node_rope.specs.declared.store.Store.{Store}
use Rattle.node_rope.specs.declared.cells.Link.{Link}
use Rattle.node_rope.specs.Made.{made_count, values_of}
use Rattle.node_rope.specs.Shapes.{AreMade, HasRightLinks, link_number, nodes_in_order}
use Rattle.node_rope.specs.Found.{IsFollowed}
use Rattle.node_rope.specs.Items.{rope_items_of}
use Rattle.node_rope.specs.Walked.{IsNext}
use Rattle.node_rope.proofs.ItemLemmas.{length-order}
use Rattle.node_rope.proofs.KeyLemmas.{all-made}
use Rattle.node_rope.proofs.OnceLemmas.{once-index, order-once}
use Rattle.node_rope.proofs.SeenLemmas.{few-nodes, items-item}

past-end : {X : Type 0} (xs : List X) (i : ℕ) → None ≡ slice_get xs i → length xs ≤ i
past-end [] i e = omega arith
past-end (x ∷ xs) zero e = absurd (cc)
past-end (x ∷ xs) (suc i) e = let h = past-end xs i e in omega (arith, h)

behind-front : (front : List ℕ) (x : ℕ) (back : List ℕ) → slice_get (front ++ x ∷ back) (suc (length front)) ≡ slice_get back 0
behind-front [] x back = refl
behind-front (y ∷ front) x back = behind-front front x back

first-left : {X : Type 0} (xs : List X) (i : ℕ) → slice_get (drop i xs) 0 ≡ slice_get xs i
first-left xs zero = refl
first-left [] (suc i) = refl
first-left (x ∷ xs) (suc i) = first-left xs i

drop-one : {X : Type 0} (xs : List X) (i : ℕ) → drop (suc i) xs ≡ drop 1 (drop i xs)
drop-one xs zero = refl
drop-one [] (suc i) = refl
drop-one (x ∷ xs) (suc i) = drop-one xs i

pub drop-next : {X : Type 0} (xs : List X) (i : ℕ) → drop (i + 1) xs ≡ drop 1 (drop i xs)
drop-next xs i = let one : i + 1 ≡ suc i = omega arith in ap (λ n. drop n xs) one ∙ drop-one xs i

module _ {T : Type 0} (s : Store T) (root : Option Link) where
  -- the first node
  pub next-first : HasRightLinks s root → made_count s < 4194305 → (l : Link) → AreMade s (Some l) → 0 < length (nodes_in_order s root)
      → get_or (nodes_in_order s root) 0 0 ≡ l.number → IsNext s root 0 (Some l)
  next-first sound few l made h at = record { sound = sound; few = few; made = made; is = ap Some (sym at) ∙ sym (slice_get-get_or (nodes_in_order s root) 0 0 h) }

  pub next-none : HasRightLinks s root → made_count s < 4194305 → length (nodes_in_order s root) ≤ 0 → IsNext s root 0 None
  next-none sound few h = record { sound = sound; few = few; made = λ l e. cc; is = sym (slice_get_past (nodes_in_order s root) 0 h) }

  module _ (passed : ℕ) (l : Link) (n : IsNext s root passed (Some l)) where
    inside : passed < length (nodes_in_order s root)
    inside = slice_get_within (nodes_in_order s root) passed l.number (sym n.is)

    at : get_or (nodes_in_order s root) passed 0 ≡ l.number
    at = get_or_from_slice_get (nodes_in_order s root) passed l.number 0 (sym n.is)

    pub few-passed : passed < 4194306
    few-passed = omega (arith, inside, length-order s root n.sound, few-nodes s root n.sound n.few)

    -- the node after the next one
    pub next-behind : (o : Option Link) → AreMade s o → IsFollowed (nodes_in_order s root) l.number (link_number o) → IsNext s root (passed + 1) o
    next-behind o made f =
        let long : length f.front < length (nodes_in_order s root) = omega (arith, ap length f.split, length-append f.front (l.number ∷ f.back)) in
        let there : get_or (nodes_in_order s root) (length f.front) 0 ≡ l.number = ap (λ xs. get_or xs (length f.front) 0) f.split ∙ get_or-append_seam f.front l.number f.back 0 in
        let place : passed ≡ length f.front = once-index (nodes_in_order s root) (order-once s root n.sound) passed (length f.front) inside long (at ∙ sym there) in
        let one : passed + 1 ≡ suc (length f.front) = omega (arith, place) in
        record {
          sound = n.sound;
          few = n.few;
          made = made;
          is = f.next ∙ sym (behind-front f.front l.number f.back) ∙ sym (ap (λ xs. slice_get xs (suc (length f.front))) f.split)
              ∙ sym (ap (slice_get (nodes_in_order s root)) one);
        }

    pub next-value : (v : T) → slice_get (values_of s) l.number ≡ Some v → option_map (λ x. x.1) (slice_get (drop passed (rope_items_of s root)) 0) ≡ Some v
    next-value v is =
        ap (option_map (λ (x : Identifier × T). x.1))
        (first-left (rope_items_of s root) passed ∙ items-item s (nodes_in_order s root) (all-made s root n.sound) passed v inside (ap (slice_get (values_of s)) at ∙ is))

  -- nothing is left
  pub none-left : (passed : ℕ) → IsNext s root passed None → drop passed (rope_items_of s root) ≡ []
  none-left passed n = drop_all passed (rope_items_of s root) (omega (arith, past-end (nodes_in_order s root) passed n.is, length-order s root n.sound))
