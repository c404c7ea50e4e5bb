-- One step of the descent to a unit of weight, or to a place.
use Rattle.std.proofs.Common.{◌≡◌, ℕ, ◌+◌, ◌-◌, ◌<◌, ◌≤◌, ◌⊎◌, inl, inr, List, [], ◌∷◌, ◌++◌, length, length-append, get_or, Option, Some, refl, sym, ap, ◌∙◌, subst, arith}
use Rattle.std.proofs.Math.Seq.{get_or-append_seam}
use Rattle.std.proofs.lemmas.List.{append_assoc, append-nil}
use Rattle.node_rope.specs.declared.store.Store.{Store}
use Rattle.node_rope.specs.declared.cells.Shape.{Shape}
use Rattle.node_rope.specs.declared.cells.Link.{Link}
use Rattle.node_rope.specs.Made.{shapes_of}
use Rattle.node_rope.specs.Shapes.{HasRightLinks, AreMade, shape_at, link_number, tree_of, weigh, weight_at, owns, nodes_in_order}
use Rattle.node_rope.specs.Sums.{sum_measure}
use Rattle.node_rope.specs.Walk.{count_of, all_nodes}
use Rattle.node_rope.specs.Found.{IsFound, IsReached}
use Rattle.node_rope.proofs.WalkLemmas.{whole-node, length-whole}
use Rattle.node_rope.proofs.ShapeLemmas.{weight-sum}
use Rattle.node_rope.proofs.SumLemmas.{adding-lawful, fold-append}
use Rattle.node_rope.proofs.ClimbLemmas.{weight-is}

-- how a list of nodes is counted: of a node, and of two lists
pub record IsSize (size : List ℕ → ℕ) (own : ℕ → ℕ) : Type 0 where
  pub none : size [] ≡ 0
  pub one : (x : ℕ) (xs : List ℕ) → size (x ∷ xs) ≡ own x + size xs
  pub both : (xs ys : List ℕ) → size (xs ++ ys) ≡ size xs + size ys

pub weighing : (ss : List Shape) → IsSize (weigh ss) (owns ss)
weighing ss = record { none = refl; one = λ x xs. refl; both = fold-append sum_measure adding-lawful (owns ss) }

pub counting : IsSize length (λ _. 1)
counting = record { none = refl; one = λ x xs. omega arith; both = λ xs ys. length-append xs ys }

-- the unit w of xs is the unit r of x
record StandsIn (size : List ℕ → ℕ) (own : ℕ → ℕ) (xs : List ℕ) (w x r : ℕ) : Type 0 where
  front : List ℕ
  back : List ℕ
  split : xs ≡ front ++ x ∷ back
  before : w ≡ size front + r
  inside : r < own x

-- the loop reads the node l, and what is left of it
module _ {T : Type 0} (size : List ℕ → ℕ) (own : ℕ → ℕ) (S : IsSize size own) (s : Store T) (root : Option Link) (sound : HasRightLinks s root) (w : ℕ) (o : Option Link) (r : ℕ)
    (reached : IsReached size s (nodes_in_order s root) w o r) (l : Link) (is_l : o ≡ Some l)
    (h : Shape) (read : h ≡ shape_at (shapes_of s) l.number) (left : ℕ) (is_left : left ≡ size (all_nodes (tree_of (shapes_of s)) (link_number h.left))) where
  abbrev x : ℕ
  x = l.number

  at : IsReached size s (nodes_in_order s root) w (Some l) r
  at = subst (λ (q : Option Link). IsReached size s (nodes_in_order s root) w q r) is_l reached

  abbrev L : List ℕ
  L = all_nodes (tree_of (shapes_of s)) (link_number h.left)

  abbrev R : List ℕ
  R = all_nodes (tree_of (shapes_of s)) (link_number h.right)

  node : all_nodes (tree_of (shapes_of s)) (Some x) ≡ L ++ x ∷ R
  node = whole-node (tree_of (shapes_of s)) sound.counted x
      ∙ ap (λ (g : Shape). all_nodes (tree_of (shapes_of s)) (link_number g.left) ++ x ∷ all_nodes (tree_of (shapes_of s)) (link_number g.right)) (sym read)

  all : size (all_nodes (tree_of (shapes_of s)) (Some x)) ≡ size L + (own x + size R)
  all = ap size node ∙ S.both L (x ∷ R) ∙ ap (λ n. size L + n) (S.one x R)

  parts : nodes_in_order s root ≡ at.front ++ (L ++ (x ∷ (R ++ at.back)))
  parts = at.split ∙ ap (λ xs. at.front ++ (xs ++ at.back)) node ∙ ap (λ xs. at.front ++ xs) (append_assoc L (x ∷ R) at.back)

  split-here : nodes_in_order s root ≡ (at.front ++ L) ++ x ∷ (R ++ at.back)
  split-here = parts ∙ sym (append_assoc at.front L (x ∷ (R ++ at.back)))

  pub goes-left : r < left → IsReached size s (nodes_in_order s root) w h.left r
  goes-left k = record {
    front = at.front;
    back = x ∷ (R ++ at.back);
    split = parts;
    before = at.before;
    here = inl (omega (arith, k, is_left));
    made = subst (λ (g : Shape). AreMade s g.left) (sym read) (sound.made_left x);
  }

  stands-behind : (front : List ℕ) × (back : List ℕ) × (nodes_in_order s root ≡ front ++ x ∷ back) × (size front + r ≡ w + left)
  stands-behind = (at.front ++ L, R ++ at.back, split-here, omega (arith, at.before, S.both at.front L, is_left))

  stands-here : left ≤ r → r - left < own x → StandsIn size own (nodes_in_order s root) w x (r - left)
  stands-here k j = record { front = at.front ++ L; back = R ++ at.back; split = split-here; before = omega (arith, at.before, S.both at.front L, is_left, k); inside = j }

  pub goes-right : left ≤ r → own x ≤ r - left → IsReached size s (nodes_in_order s root) w h.right (r - left - own x)
  goes-right k j = record {
    front = (at.front ++ L) ++ x ∷ [];
    back = at.back;
    split = split-here ∙ sym (append_assoc (at.front ++ L) (x ∷ []) (R ++ at.back));
    before = omega (arith, at.before, S.both at.front L, is_left, k, j, S.both (at.front ++ L) (x ∷ []), S.one x [], S.none);
    here = elim at.here as (λ _. (r - left - own x < size R) ⊎ (at.back ≡ [])) [ inl e ↦ inl (omega (arith, e, all, is_left, k, j)) | inr e ↦ inr e ];
    made = subst (λ (g : Shape). AreMade s g.right) (sym read) (sound.made_right x);
  }

-- ---- by weight
module _ {T : Type 0} (s : Store T) (root : Option Link) (sound : HasRightLinks s root) (w : ℕ) (o : Option Link) (r : ℕ)
    (reached : IsReached (weigh (shapes_of s)) s (nodes_in_order s root) w o r) (l : Link) (is_l : o ≡ Some l)
    (h : Shape) (read : h ≡ shape_at (shapes_of s) l.number) (left : ℕ) (is_left : left ≡ weight_at (shapes_of s) h.left) where
  abbrev ss : List Shape
  ss = shapes_of s

  sum : left ≡ weigh ss (all_nodes (tree_of ss) (link_number h.left))
  sum = is_left ∙ weight-sum ss h.left ∙ weight-is ss sound.counted sound.weighed (link_number h.left)

  own : h.own.weight ≡ owns ss l.number
  own = ap (λ (g : Shape). g.own.weight) read

  pub find-left : r < left → IsReached (weigh ss) s (nodes_in_order s root) w h.left r
  find-left = goes-left (weigh ss) (owns ss) (weighing ss) s root sound w o r reached l is_l h read left sum

  pub find-here : left ≤ r → r - left < h.own.weight → IsFound ss (nodes_in_order s root) w l (r - left)
  find-here k j =
      let it = stands-here (weigh ss) (owns ss) (weighing ss) s root sound w o r reached l is_l h read left sum k (omega (arith, own, j)) in
      record { front = it.front; back = it.back; split = it.split; before = it.before; inside = it.inside }

  pub find-right : left ≤ r → h.own.weight ≤ r - left → IsReached (weigh ss) s (nodes_in_order s root) w h.right (r - left - h.own.weight)
  find-right k j = rw own (goes-right (weigh ss) (owns ss) (weighing ss) s root sound w o r reached l is_l h read left sum k (omega (arith, own, j)))

-- ---- by place
module _ {T : Type 0} (s : Store T) (root : Option Link) (sound : HasRightLinks s root) (w : ℕ) (o : Option Link) (r : ℕ)
    (reached : IsReached length s (nodes_in_order s root) w o r) (l : Link) (is_l : o ≡ Some l)
    (h : Shape) (read : h ≡ shape_at (shapes_of s) l.number) (left : ℕ) (is_left : left ≡ count_of (tree_of (shapes_of s)) (link_number h.left)) where
  size : left ≡ length (all_nodes (tree_of (shapes_of s)) (link_number h.left))
  size = is_left ∙ sym (length-whole (tree_of (shapes_of s)) sound.counted (link_number h.left))

  pub place-left : r < left → IsReached length s (nodes_in_order s root) w h.left r
  place-left = goes-left length (λ _. 1) counting s root sound w o r reached l is_l h read left size

  -- the node stands after the place, as far as there are more to its left
  pub place-found : r ≤ left → (w + (left - r) < length (nodes_in_order s root)) × (get_or (nodes_in_order s root) (w + (left - r)) 0 ≡ l.number)
  place-found k =
      let it = stands-behind length (λ _. 1) counting s root sound w o r reached l is_l h read left size in
      let place : w + (left - r) ≡ length it.0 = omega (arith, it.3, k) in (
        omega (arith, place, ap length it.2, length-append it.0 (l.number ∷ it.1)),
        ap (λ (xs : List ℕ). get_or xs (w + (left - r)) 0) it.2 ∙ ap (λ (n : ℕ). get_or (it.0 ++ l.number ∷ it.1) n 0) place ∙ get_or-append_seam it.0 l.number it.1 0,
      )

  pub place-here : r ≡ left → (w < length (nodes_in_order s root)) × (get_or (nodes_in_order s root) w 0 ≡ l.number)
  place-here k =
      let same : w + (left - r) ≡ w = omega (arith, k) in
      subst (λ (n : ℕ). (n < length (nodes_in_order s root)) × (get_or (nodes_in_order s root) n 0 ≡ l.number)) same (place-found (omega (arith, k)))

  pub place-right : left < r → IsReached length s (nodes_in_order s root) w h.right (r - left - 1)
  place-right k = goes-right length (λ _. 1) counting s root sound w o r reached l is_l h read left size (omega (arith, k)) (omega (arith, k))

-- ---- the start
pub starts : {T : Type 0} (size : List ℕ → ℕ) (own : ℕ → ℕ) → IsSize size own → (s : Store T) (root : Option Link) (sound : HasRightLinks s root) (w : ℕ)
    → IsReached size s (nodes_in_order s root) w root w
starts size own S s root sound w =
    record { front = []; back = []; split = sym (append-nil (nodes_in_order s root)); before = omega (arith, S.none); here = inr refl; made = sound.made_root }
