-- A merged list of elements reads as a merge of two changes of a text.
use Rattle.std.proofs.Common.{Bool, List, [], ap, append_assoc, arith, length, subst, sym, ℕ, ◌+◌, ◌++◌, ◌∙◌, ◌∷◌, ◌≡◌}
use Rattle.std.specs.Prelude.{map}
use Rattle.std.proofs.lemmas.List.{length-append, map-append}
use Rattle.fugue_ids.specs.Identifiers.{Identifier}
use Rattle.text_diff.specs.Merges.{TextChange, IsLeftScalar, IsMergeFrom, PutBoth}
use Rattle.merged_words.proofs.ListLemmas.{left_of_it, merged}

module _ (scalar : Identifier → ℕ) (a b : TextChange) (puts : ℕ → List Identifier) (gone : Identifier → Bool) (S : List Identifier)
    (two : (i : ℕ) → PutBoth a b i (map scalar (puts i)))
    (left : (front : List Identifier) (c : Identifier) (cs : List Identifier) → S ≡ front ++ c ∷ cs
    → IsLeftScalar a b (length front) (scalar c) (map scalar (left_of_it gone c))) where
  pub reads_merged : (front cs : List Identifier) → S ≡ front ++ cs → (i : ℕ) → i ≡ length front → IsMergeFrom a b i (map scalar cs) (map scalar (merged puts gone i cs))
  reads_merged front [] s i l = two i
  reads_merged front (c ∷ cs) s i l =
      let rest : List Identifier = merged puts gone (i + 1) cs in (
        map scalar (puts i),
        map scalar (left_of_it gone c),
        map scalar rest,
        map-append scalar (puts i) (left_of_it gone c ++ rest) ∙ ap (λ q. map scalar (puts i) ++ q) (map-append scalar (left_of_it gone c) rest),
        two i,
        subst (λ k. IsLeftScalar a b k (scalar c) (map scalar (left_of_it gone c))) (sym l) (left front c cs s),
        reads_merged (front ++ c ∷ []) cs (s ∙ sym (append_assoc front (c ∷ []) cs)) (i + 1) (omega (arith, l, length-append front (c ∷ []))),
      )
