-- The bytes to read decide the answer, where no operation is held back.
use Rattle.std.proofs.Common.{◌≡◌, ℕ, ◌-◌, ◌<◌, ◌≤◌, List, [], ◌∷◌, ◌++◌, length, take, refl, ap, sym, subst, ◌∙◌, arith, length-append}
use Rattle.std.specs.Prelude.{Option, Some, None, Result, Ok, Err}
use Rattle.std.proofs.lemmas.List.{take_all}
use Rattle.fugue_ids.specs.declared.op.Op.{Op}
use Rattle.origin_model.specs.declared.grammar.Grammar.{Grammar}
use Rattle.origin_model.specs.frames.Frames.{IsPartial, IsBad}
use Rattle.op_frame.specs.declared.fault.FrameFault.{FrameFault}
use Rattle.op_frame.specs.declared.fault.FrameFault.TheVariants.{BadFrame, CutShort, ReadFault, TooLong, NoMemory}
use Rattle.op_frame.specs.Readers.{ReadingAnswerIs, AnswersBy, IsReadByBytes, StartsWithin}
use Rattle.op_frame.proofs.ReadingLemmas.{begins_not_partial, framed_some, no_bytes_are_partial, common_prefix}
use Rattle.op_frame.proofs.SpecifiedLemmas.{take_past}

module _ (g : Grammar) where
  -- a frame within the first bytes begins them
  within_first : (op : Op) (room : ℕ) (bytes : List ℕ) (p : StartsWithin g op room bytes) → take room bytes ≡ p.framed.bytes ++ take (room - length p.framed.bytes) p.rest
  within_first op room bytes p = ap (take room) p.split ∙ take_past p.framed.bytes p.rest room (length p.framed.bytes) refl p.within

  not_bad : (op : Op) (room : ℕ) (bytes : List ℕ) → StartsWithin g op room bytes → IsBad g (take room bytes) → ⊥
  not_bad op room bytes p bad = bad.no_frame p.framed (take (room - length p.framed.bytes) p.rest) (record { is_frame = p.is_frame; split = within_first op room bytes p })

  not_partial : (op : Op) (room : ℕ) (bytes : List ℕ) → StartsWithin g op room bytes → IsPartial g (take room bytes) → ⊥
  not_partial op room bytes p =
      begins_not_partial g (take room bytes) p.framed (take (room - length p.framed.bytes) p.rest) (record { is_frame = p.is_frame; split = within_first op room bytes p })

  not_cut : (op : Op) (room : ℕ) (bytes : List ℕ) → StartsWithin g op room bytes → IsPartial g bytes → ⊥
  not_cut op room bytes p = begins_not_partial g bytes p.framed p.rest (record { is_frame = p.is_frame; split = p.split })

  not_empty : (op : Op) (room : ℕ) (bytes : List ℕ) → StartsWithin g op room bytes → bytes ≡ [] → ⊥
  not_empty op room bytes p none = omega (arith, framed_some g p.framed p.is_frame, ap length (sym none ∙ p.split), length-append p.framed.bytes p.rest)

  empty_not_bad : (room : ℕ) (bytes : List ℕ) → bytes ≡ [] → IsBad g (take room bytes) → ⊥
  empty_not_bad room bytes none bad = bad.no_front (subst (IsPartial g) (sym (ap (take room) none ∙ take_all room [] (omega arith))) (no_bytes_are_partial g))

  cut_not_bad : (room : ℕ) (bytes : List ℕ) → length bytes ≤ room → IsPartial g bytes → IsBad g (take room bytes) → ⊥
  cut_not_bad room bytes short partial bad = bad.no_front (subst (IsPartial g) (sym (take_all room bytes short)) partial)

  not_longer : (room : ℕ) (bytes : List ℕ) → bytes ≡ [] → room < length bytes → ⊥
  not_longer room bytes none long = omega (arith, ap length none, long)

  same_given : (a b : Op) (room : ℕ) (bytes : List ℕ) → StartsWithin g a room bytes → StartsWithin g b room bytes → a ≡ b
  same_given a b room bytes p q =
      let same = (common_prefix g p.framed q.framed p.rest q.rest p.is_frame q.is_frame (sym p.split ∙ q.split)).ops in
      let ops : a ∷ p.others ≡ b ∷ q.others = sym p.first ∙ same ∙ q.first in
      cc ops

  one_answer : (a b : Result (Option Op) FrameFault) (offset room : ℕ) (bytes : List ℕ) → IsReadByBytes a → IsReadByBytes b
      → ReadingAnswerIs g a offset room bytes → ReadingAnswerIs g b offset room bytes → a ≡ b
  one_answer (Ok (Some a)) (Ok (Some b)) offset room bytes _ _ p q = ap (λ (op : Op). Ok (Some op)) (same_given a b room bytes p q)
  one_answer (Ok (Some a)) (Ok None) offset room bytes _ _ p q = absurd (not_empty a room bytes p q)
  one_answer (Ok (Some a)) (Err (BadFrame k)) offset room bytes _ _ p q = absurd (not_bad a room bytes p q.1)
  one_answer (Ok (Some a)) (Err (CutShort k)) offset room bytes _ _ p q = absurd (not_cut a room bytes p q.3)
  one_answer (Ok (Some a)) (Err TooLong) offset room bytes _ _ p q = absurd (not_partial a room bytes p q.1)
  one_answer (Ok None) (Ok (Some b)) offset room bytes _ _ p q = absurd (not_empty b room bytes q p)
  one_answer (Ok None) (Ok None) offset room bytes _ _ p q = refl
  one_answer (Ok None) (Err (BadFrame k)) offset room bytes _ _ p q = absurd (empty_not_bad room bytes p q.1)
  one_answer (Ok None) (Err (CutShort k)) offset room bytes _ _ p q = absurd (q.1 p)
  one_answer (Ok None) (Err TooLong) offset room bytes _ _ p q = absurd (not_longer room bytes p q.0)
  one_answer (Err (BadFrame k)) (Ok (Some b)) offset room bytes _ _ p q = absurd (not_bad b room bytes q p.1)
  one_answer (Err (BadFrame k)) (Ok None) offset room bytes _ _ p q = absurd (empty_not_bad room bytes q p.1)
  one_answer (Err (BadFrame k)) (Err (BadFrame l)) offset room bytes _ _ p q = ap (λ (n : ℕ). Err (BadFrame n)) (p.0 ∙ sym q.0)
  one_answer (Err (BadFrame k)) (Err (CutShort l)) offset room bytes _ _ p q = absurd (cut_not_bad room bytes q.2 q.3 p.1)
  one_answer (Err (BadFrame k)) (Err TooLong) offset room bytes _ _ p q = absurd (p.1.no_front q.1)
  one_answer (Err (CutShort k)) (Ok (Some b)) offset room bytes _ _ p q = absurd (not_cut b room bytes q p.3)
  one_answer (Err (CutShort k)) (Ok None) offset room bytes _ _ p q = absurd (p.1 q)
  one_answer (Err (CutShort k)) (Err (BadFrame l)) offset room bytes _ _ p q = absurd (cut_not_bad room bytes p.2 p.3 q.1)
  one_answer (Err (CutShort k)) (Err (CutShort l)) offset room bytes _ _ p q = ap (λ (n : ℕ). Err (CutShort n)) (p.0 ∙ sym q.0)
  one_answer (Err (CutShort k)) (Err TooLong) offset room bytes _ _ p q = absurd (omega (arith, p.2, q.0))
  one_answer (Err TooLong) (Ok (Some b)) offset room bytes _ _ p q = absurd (not_partial b room bytes q p.1)
  one_answer (Err TooLong) (Ok None) offset room bytes _ _ p q = absurd (not_longer room bytes q p.0)
  one_answer (Err TooLong) (Err (BadFrame l)) offset room bytes _ _ p q = absurd (q.1.no_front p.1)
  one_answer (Err TooLong) (Err (CutShort l)) offset room bytes _ _ p q = absurd (omega (arith, q.2, p.0))
  one_answer (Err TooLong) (Err TooLong) offset room bytes _ _ p q = refl
  one_answer (Err ReadFault) b offset room bytes h _ p q = absurd h
  one_answer (Err NoMemory) b offset room bytes h _ p q = absurd h
  one_answer a (Err ReadFault) offset room bytes _ h p q = absurd h
  one_answer a (Err NoMemory) offset room bytes _ h p q = absurd h

  -- an answer comes exactly where the bytes to give say so
  pub answers_by : (result : Result (Option Op) FrameFault) (offset room : ℕ) (bytes : List ℕ) → ReadingAnswerIs g result offset room bytes → AnswersBy g result offset room bytes
  answers_by result offset room bytes is = record {
    exactly = λ by answer by'. ((λ same. subst (λ r. ReadingAnswerIs g r offset room bytes) same is), λ other. one_answer result answer offset room bytes by by' is other);
    memory = λ same. subst (λ r. ReadingAnswerIs g r offset room bytes) same is;
  }
