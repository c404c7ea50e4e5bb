-- A text that goes on with the parts after it.
use Rattle.std.proofs.Common.{◌≡◌, ℕ, ◌+◌, ◌-◌, ◌≤◌, List, [], ◌∷◌, ◌++◌, length, take, drop, sym, ap, subst, ◌∙◌, append_assoc, append-nil, length-append, length-drop, take_at}
use Rattle.std.proofs.Common.{arith}
use Rattle.std.proofs.lemmas.List.{drop-append-le}
use Rattle.std.proofs.lemmas.Str.{chars-append}
use Rattle.std.specs.List.{fold}
use Rattle.std.specs.Prelude.{string_bytes}
use Rattle.std.specs.Str.{IsUtf8, chars}
use Rattle.cluster_text.specs.Endings.{IsEnding, ending_with}
use Rattle.cluster_text.specs.Parts.{IsGathered, whole}
use Rattle.cluster_text.specs.Trees.{IsAt}
use Rattle.cluster_text.specs.declared.ending.Ending.{Ending}
use Rattle.cluster_text.specs.declared.part.Part.{Part}
use Rattle.cluster_text.proofs.EndingLemmas.{ending-all}
use Rattle.cluster_text.proofs.PartLemmas.{whole-push}

pub gathered-none : (parts : List Part) (text : List ℕ) (from : ℕ) → from ≤ length parts → IsGathered parts text text from from
gathered-none parts text from within =
    let none : from - from ≡ 0 = omega arith in
    record { order = omega arith; within = within; text_is = rw none (sym (append-nil text)) }

module _ (parts : List Part) (old now : List ℕ) (from behind : ℕ) (way : IsGathered parts old now from behind) (part : Part) (at : IsAt parts behind part) where
  one_more : take (behind + 1 - from) (drop from parts) ≡ take (behind - from) (drop from parts) ++ part ∷ []
  one_more =
      let passed = drop from at.front in
      let left : drop from parts ≡ passed ++ part ∷ at.back = ap (drop from) at.parts_are ∙ drop-append-le from at.front (part ∷ at.back) (omega (arith, way.order, at.index_is)) in
      let count : length passed ≡ behind - from = omega (arith, length-drop from at.front, at.index_is) in
      let more : length (passed ++ part ∷ []) ≡ behind + 1 - from = omega (arith, length-append passed (part ∷ []), count, way.order) in
      ap (take (behind + 1 - from)) (left ∙ sym (append_assoc passed (part ∷ []) at.back))
      ∙ take_at (passed ++ part ∷ []) at.back (behind + 1 - from) more
      ∙ ap (λ (ps : List Part). ps ++ part ∷ []) (sym (ap (take (behind - from)) left ∙ take_at passed (part ∷ at.back) (behind - from) count))

  pub gathered-next : IsGathered parts old (now ++ string_bytes part.text) from (behind + 1)
  gathered-next =
      let text = ap (λ t. t ++ string_bytes part.text) way.text_is ∙ append_assoc old (whole (take (behind - from) (drop from parts))) (string_bytes part.text)
      ∙ ap (λ t. old ++ t) (sym (ap whole one_more ∙ whole-push (take (behind - from) (drop from parts)) part)) in
      record {
        order = omega (arith, way.order);
        within = omega (arith, ap length at.parts_are, length-append at.front (part ∷ at.back), at.index_is);
        text_is = text;
      }

pub ending-text : (text more : List ℕ) (ending : Ending) → IsUtf8 text → IsEnding (chars text) ending → IsEnding (chars (text ++ more)) (fold ending_with ending (chars more))
ending-text text more ending utf8 ends =
    subst (λ (cs : List ℕ). IsEnding cs (fold ending_with ending (chars more))) (sym (chars-append text more utf8)) (ending-all (chars text) ending (chars more) ends)
