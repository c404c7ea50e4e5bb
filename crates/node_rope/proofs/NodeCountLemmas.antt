-- A rope's list has no fewer items than there are nodes.
use Rattle.std.proofs.Common.{◌≡◌, ◌≢◌, inl, inr, ℕ, zero, suc, ◌<◌, ◌≤◌, cond, List, [], ◌∷◌, length, Option, sym, ap, ◌∙◌, subst, arith}
use Rattle.std.specs.Prelude.{eqb}
use Rattle.std.proofs.lemmas.Bool.Decides.{eqb_tells}
use Rattle.fugue_ids.specs.Identifiers.{Identifier}
use Rattle.block_map.specs.declared.map.BlockMap.{BlockMap}
use Rattle.node_rope.specs.declared.store.Store.{Store}
use Rattle.node_rope.specs.declared.cells.Link.{Link}
use Rattle.node_rope.specs.declared.cells.Own.{Own}
use Rattle.node_rope.specs.Made.{made_count}
use Rattle.node_rope.specs.Shapes.{nodes_in_order}
use Rattle.node_rope.specs.Items.{IsRope, rope_items_of}
use Rattle.node_rope.proofs.KeyLemmas.{Among, in-order}
use Rattle.node_rope.proofs.SeenLemmas.{order-length}

abbrev pub without : ℕ → List ℕ → List ℕ
without x [] = []
without x (y ∷ ys) = cond (eqb y x) ys (y ∷ without x ys)

length-without : (x : ℕ) (xs : List ℕ) → Among x xs → length xs ≡ suc (length (without x xs))
length-without x [] a = absurd a
length-without x (y ∷ ys) a = elim (eqb_tells y x) as (λ _. length (y ∷ ys) ≡ suc (length (without x (y ∷ ys)))) [
  | inl e ↦ ap (λ b. suc (length (cond b ys (y ∷ without x ys)))) (sym e.0)
  | inr e ↦ ap suc (length-without x ys (elim a as (λ _. Among x ys) [ inl f ↦ absurd (e.1 f) | inr b ↦ b ])) ∙ ap (λ b. suc (length (cond b ys (y ∷ without x ys)))) (sym e.0)
]

among-without : (x i : ℕ) (xs : List ℕ) → i ≢ x → Among i xs → Among i (without x xs)
among-without x i [] ne a = absurd a
among-without x i (y ∷ ys) ne a = elim (eqb_tells y x) as (λ _. Among i (without x (y ∷ ys))) [
  | inl e ↦ subst (λ b. Among i (cond b ys (y ∷ without x ys))) (sym e.0) (elim a as (λ _. Among i ys) [ inl f ↦ absurd (ne (sym f ∙ e.1)) | inr b ↦ b ])
  | inr e ↦ subst (λ b. Among i (cond b ys (y ∷ without x ys))) (sym e.0) (elim a as (λ _. Among i (y ∷ without x ys)) [ inl f ↦ inl f | inr b ↦ inr (among-without x i ys ne b) ])
]

enough : (n : ℕ) (xs : List ℕ) → ((i : ℕ) → i < n → Among i xs) → n ≤ length xs
enough zero xs h = omega arith
enough (suc n) xs h =
    let l = length-without n xs (h n (omega arith)) in
    let r = enough n (without n xs) (λ i b. among-without n i xs (λ e. omega (arith, b, e)) (h i (omega (arith, b)))) in
    omega (arith, l, r)

pub few-made : {T : Type 0} (wt : T → Own) (s : Store T) (root : Option Link) (m : BlockMap Link) → IsRope wt s root m → (xs : List (Identifier × T)) → rope_items_of s root ≡ xs
    → made_count s ≤ length xs
few-made wt s root m r xs e =
    let all = enough (made_count s) (nodes_in_order s root) (in-order s root r.sound) in
    let long = order-length wt s root m r in
    omega (arith, all, long, ap length e)
