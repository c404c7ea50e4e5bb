-- What is reported of two replicas.
use Rattle.std.proofs.Common.{Bool, List, [], ap, length, refl, sym, ◌∙◌, ◌≡◌, ℕ}
use Rattle.std.specs.Prelude.{None, Option, Some, option_map}
use Rattle.std.specs.Str.{IsUtf8, chars, encode_utf8_all}
use Rattle.std.proofs.lemmas.List.{length-reverse}
use Rattle.std.proofs.lemmas.Str.{encodes-chars, encodes_same}
use Rattle.fugue_ids.specs.Identifiers.{Identifier}
use Rattle.origin_model.specs.operations.History.{accepted}
use Rattle.origin_model.specs.order.Printed.{manuscript, text}
use Rattle.origin_model.specs.edits.State.{State}
use Rattle.origin_model.specs.edits.Refusal.{section_shown}
use Rattle.bulk_world.specs.Summary.{are_same, sum_of, summary_of}
use Rattle.bulk_world.specs.Turns.{first_text}
use Rattle.bulk_world.specs.declared.summary.Summary.{Summary}

-- the bytes of the first section, where there is one
abbrev bytes_of : State → Option Identifier → Option (List ℕ)
bytes_of s o = option_map (λ x. encode_utf8_all (text s.held.history x)) o

text_by : (s : State) (o : Option Identifier) → section_shown s 0 ≡ o → first_text s ≡ elim o [ None ↦ [] | Some x ↦ text s.held.history x ]
text_by s o e = ap (λ o. elim o [ None ↦ [] | Some x ↦ text s.held.history x ]) e

-- the text of the first section, by its bytes
pub some_text : (s : State) (bytes : List ℕ) → Some bytes ≡ bytes_of s (section_shown s 0) → IsUtf8 bytes → chars bytes ≡ first_text s
some_text s bytes e utf8 = by_section (section_shown s 0) refl
  where
    by_section : (o : Option Identifier) → section_shown s 0 ≡ o → chars bytes ≡ first_text s
    by_section None f = let k : Some bytes ≡ None = e ∙ ap (bytes_of s) f in cc k
    by_section (Some x) f =
        let k : Some bytes ≡ Some (encode_utf8_all (text s.held.history x)) = e ∙ ap (bytes_of s) f in
        let same : bytes ≡ encode_utf8_all (text s.held.history x) = cc k in
        encodes_same (chars bytes) (text s.held.history x) (encodes-chars bytes utf8 ∙ same) ∙ sym (text_by s (Some x) f)

-- where there is no section, none is shown
pub no_text : (s : State) → None ≡ bytes_of s (section_shown s 0) → chars [] ≡ first_text s
no_text s e = by_section (section_shown s 0) refl
  where
    none : chars [] ≡ []
    none = encodes_same (chars []) [] (encodes-chars [] ([], (refl, refl)))

    by_section : (o : Option Identifier) → section_shown s 0 ≡ o → chars [] ≡ first_text s
    by_section None f = none ∙ sym (text_by s None f)
    by_section (Some x) f = let k : None ≡ Some (encode_utf8_all (text s.held.history x)) = e ∙ ap (bytes_of s) f in cc k

-- the summary by its parts
pub summed_by : (one two : State) (operations : ℕ) (chs : List ℕ) (same : Bool) (reported : Summary)
    → reported ≡ record { operations = operations; scalars = length chs; sum = sum_of chs; is_equal = same } → operations ≡ length (accepted one.held.history)
    → chs ≡ first_text one
    → same ≡ are_same (manuscript one.held.history) (manuscript two.held.history) → reported ≡ summary_of one two
summed_by one two operations chs same reported e o c s =
    e ∙ (λ i. record { operations = (o ∙ length-reverse one.held.history) i; scalars = length (c i); sum = sum_of (c i); is_equal = s i })
