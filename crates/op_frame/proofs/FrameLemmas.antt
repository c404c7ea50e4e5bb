-- What stands after bytes that begin no frame doesn't mend them.
use Rattle.std.proofs.Common.{◌≡◌, ℕ, List, [], ◌∷◌, ◌++◌, sym, ◌∙◌, inl, inr, arith, append_assoc, length-append}
use Rattle.std.proofs.lemmas.List.{append-nil}
use Rattle.origin_model.specs.declared.grammar.Grammar.{Grammar}
use Rattle.origin_model.specs.frames.Frames.{Framed, IsBad, IsFrame}
use Rattle.op_frame.proofs.FormatLemmas.{two_fronts}

module _ (g : Grammar) where
  pub bad_goes_on : (b c : List ℕ) → IsBad g b → IsBad g (b ++ c)
  bad_goes_on b c bad = record {
    no_frame = λ framed rest q. elim (two_fronts b c framed.bytes rest q.split) [
      | inl r ↦ by_length framed r.between q.is_frame r.is
      | inr r ↦ bad.no_frame framed r.between (record { is_frame = q.is_frame; split = r.is })
    ];
    no_front = λ p.
        bad.no_front (record {
          framed = p.framed;
          is_frame = p.is_frame;
          more = c ++ p.more;
          lacks = omega (arith, p.lacks, length-append c p.more);
          front = p.front ∙ append_assoc b c p.more;
        });
  }
    where
      by_length : (framed : Framed) (between : List ℕ) → IsFrame g framed → framed.bytes ≡ b ++ between → ⊥
      by_length framed [] is e = bad.no_frame framed [] (record { is_frame = is; split = sym (e ∙ append-nil b) ∙ sym (append-nil framed.bytes) })
      by_length framed (x ∷ between) is e = bad.no_front (record { framed = framed; is_frame = is; more = x ∷ between; lacks = omega arith; front = e })
