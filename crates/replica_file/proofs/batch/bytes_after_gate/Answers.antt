use Rattle.std.proofs.Common.{◌≡◌, ◌++◌, ◌-◌, ◌+◌, ℕ, List, [], ◌∷◌, take, drop, length, ap, ◌∙◌, arith, length-append}
use Rattle.std.proofs.Math.Seq.{take-append_seam}
use Rattle.std.specs.Int.{to_be_bytes, w32}
use Rattle.origin_model.specs.declared.grammar.Grammar.TheVariants.{Version2}
use Rattle.origin_model.specs.files.Image.{word_of}
use Rattle.replica_file.proofs.batch.bytes_after_gate.Goals as goal

-- the word in the place of four zeros
patched : (items now new f : List ℕ) (len n : ℕ) → items ≡ (0 ∷ 0 ∷ 0 ∷ 0 ∷ []) ++ f ++ 0 ∷ [] → now ≡ items → new ≡ to_be_bytes w32 (word_of Version2 (n - 4 - 1)) ++ drop 4 now
    → n ≡ length items → len ≡ length items
    → take len (new ++ drop (length new) items) ≡ to_be_bytes w32 (word_of Version2 (length f)) ++ f ++ 0 ∷ []
patched items now new f len n e v g l m =
    let long : length items ≡ length f + 5 = omega (arith, ap length e, length-append f (0 ∷ [])) in
    let number : n - 4 - 1 ≡ length f = omega (arith, l, long) in
    let is : new ≡ to_be_bytes w32 (word_of Version2 (length f)) ++ f ++ 0 ∷ [] =
    g ∙ ap (λ (b : List ℕ). to_be_bytes w32 (word_of Version2 (n - 4 - 1)) ++ drop 4 b) v ∙ (λ i. to_be_bytes w32 (word_of Version2 (number i)) ++ drop 4 (e i)) in
    let whole : len ≡ length new = omega (arith, m, long, ap length is, length-append f (0 ∷ [])) in
    ap (λ (k : ℕ). take k (new ++ drop (length new) items)) whole ∙ take-append_seam new (drop (length new) items) ∙ is

pub returns-clause-bytes : goal.returns-clause-bytes
returns-clause-bytes c = patched _ _ _ _ _ c.len.result c.in_ok-bytes.ensures.bytes c.deref_mut.ensures.value c.put_word.ensures (omega arith) (omega arith)
