-- The clusters that are kept of sections, before and after an edit.
use Rattle.std.proofs.Common.{◌≡◌, ◌≢◌, ◌<◌, ◌≤◌, ◌+◌, ◌↔◌, inl, inr, ℕ, true, nat_lt, List, [], ◌∷◌, length, take, drop, Option, Some, None, append_assoc, refl, sym, ap, subst}
use Rattle.std.proofs.Common.{◌∙◌, arith}
use Rattle.std.specs.Prelude.{Result, Ok, Err, IfOk, IfSome, IsNone, OnOk, option_map, encode_utf8_all}
use Rattle.std.specs.List.{splice}
use Rattle.std.specs.Str.{chars, IsUtf8}
use Rattle.std.proofs.lemmas.Bool.{cases_Bool, cases_lt, ltb-false}
use Rattle.std.proofs.lemmas.Option.{same_Some}
use Rattle.std.proofs.lemmas.Str.{encodes-chars, encodes_same}
use Rattle.fugue_ids.specs.Identifiers.{Identifier}
use Rattle.fugue_ids.specs.declared.op.Op.{Op}
use Rattle.fugue_ids.proofs.IdentifierLemmas.{cases_id}
use Rattle.origin_model.specs.operations.Verdict.{Lawful}
use Rattle.origin_model.specs.order.Printed.{text}
use Rattle.origin_model.specs.edits.Edits.{Put, Cut, Add, DropSection, history_with}
use Rattle.origin_model.specs.edits.Effect.{Gains, IsMade, with_ops}
use Rattle.origin_model.specs.edits.Refusal.{in_range, in_section, made_by, refused_elements, refused_ops, section_shown, shown_count, RefusesExactly}
use Rattle.origin_model.specs.edits.State.{State}
use Rattle.origin_model.specs.declared.edit_fault.EditFault.{EditFault}
use Rattle.origin_model.specs.declared.edit_fault.EditFault.TheVariants.{OutOfRange}
use Rattle.origin_model.specs.declared.operations.Place.TheVariants.{Catalogue as catalogue, Section as within}
use Rattle.origin_model.proofs.edits.AllowedLemmas.{allowed}
use Rattle.origin_model.proofs.edits.EditedTextLemmas.{IsTextEdit, add_keeps_texts, cut_erases, drop_keeps_texts, put_writes, text_length}
use Rattle.section_catalogue.specs.Contents.{entry_at}
use Rattle.cluster_text.specs.Clusters.{clusters, scalars, span}
use Rattle.edit_script.specs.Lines.{HasNoSpan}
use Rattle.edit_script.specs.Scripts.{shown_clusters}
use Rattle.edit_script.specs.Sections.{AreShownTexts, with_replaced, IsClusterPassage, shown_text_in}
use Rattle.fugue_ids.proofs.OptionLemmas.{some_is_none}
use Rattle.origin_model.proofs.edits.MadeLemmas.{lawful_front}

-- where each text stays, what is kept of them does
same_texts : (texts : List (Identifier × List ℕ)) (old new : State) → ((t : Identifier) → text new.held.history t ≡ text old.held.history t) → AreShownTexts texts old
    → AreShownTexts texts new
same_texts texts old new same are t = of (entry_at texts t) (are t)
  where
    of : (o : Option (List ℕ)) → IfSome o (λ kept. kept ≡ shown_text_in old t) → IfSome o (λ kept. kept ≡ shown_text_in new t)
    of None e = tt
    of (Some kept) e = e ∙ ap encode_utf8_all (sym (same t))

-- where all texts but one stay, and that one is not kept
other_texts : (texts : List (Identifier × List ℕ)) (old new : State) (x : Identifier) → entry_at texts x ≡ None
    → ((t : Identifier) → t ≢ x → text new.held.history t ≡ text old.held.history t)
    → AreShownTexts texts old → AreShownTexts texts new
other_texts texts old new x none others are t =
    elim (cases_id t x) [
      | inl same ↦ gone (entry_at texts t) (ap (entry_at texts) same ∙ none)
      | inr other ↦ of other (entry_at texts t) (are t)
    ]
  where
    gone : (o : Option (List ℕ)) → o ≡ None → IfSome o (λ kept. kept ≡ shown_text_in new t)
    gone None e = tt
    gone (Some kept) e = cc

    of : t ≢ x → (o : Option (List ℕ)) → IfSome o (λ kept. kept ≡ shown_text_in old t) → IfSome o (λ kept. kept ≡ shown_text_in new t)
    of other None e = tt
    of other (Some kept) e = e ∙ ap encode_utf8_all (sym (others t other))

-- ---- edits of a section

kept_chars : (s : State) (x : Identifier) (kept : List ℕ) → IsUtf8 kept → kept ≡ shown_text_in s x → chars kept ≡ text s.held.history x
kept_chars s x kept utf8 is = encodes_same (chars kept) (text s.held.history x) (encodes-chars kept utf8 ∙ is)

-- clusters that were found in the text of a section
pub passage_found : (s : State) (k at n : ℕ) (x : Identifier) (kept : List ℕ) (found : ℕ × ℕ) → section_shown s k ≡ Some x → kept ≡ shown_text_in s x → Lawful s.held.history
    → IsUtf8 kept
    → found ≡ span (clusters kept) at n → (IsNone (Some found) ↔ (length (clusters kept) < at + n)) → found.0 + found.1 ≤ length (chars kept)
    → IsClusterPassage s k at n x kept found
passage_found s k at n x kept found shown kept_is lawful utf8 span_is none fits =
    let same = ap (λ (b : List ℕ). length (clusters b)) kept_is in
    let enough : at + n ≤ length (clusters kept) = elim (cases_lt (length (clusters kept)) (at + n)) [ inl few ↦ absurd (some_is_none found (none.1 few)) | inr rest ↦ rest ] in
    let scalars_are = ap length (kept_chars s x kept utf8 kept_is) in
    let long = text_length s.held.history x lawful in
    record {
      shown = shown;
      kept_is = kept_is;
      utf8 = utf8;
      fits = fits;
      spans = record {
        section = x;
        shown = shown;
        enough = omega (arith, enough, same);
        found_is = span_is ∙ ap (λ (b : List ℕ). span (clusters b) at n) kept_is;
        within = omega (arith, fits, scalars_are, long);
      };
      lawful = lawful;
    }

-- and clusters that are not there
pub passage_missing : (s : State) (k at n : ℕ) (x : Identifier) (kept : List ℕ) → section_shown s k ≡ Some x → kept ≡ shown_text_in s x → length (clusters kept) < at + n
    → HasNoSpan s k at n OutOfRange
passage_missing s k at n x kept shown is few = (x, shown, omega (arith, few, ap (λ (b : List ℕ). length (clusters b)) is))

-- what was read of a shown section
pub read_shown : (found : Option Identifier) (written : Identifier → List ℕ) (bytes kept : List ℕ) → Some bytes ≡ option_map written found → kept ≡ bytes
    → IfSome found (λ x. kept ≡ written x)
read_shown None written bytes kept e is = cc
read_shown (Some x) written bytes kept e is = is ∙ same_Some bytes (written x) e

pub read_hidden : (found : Option Identifier) (written : Identifier → List ℕ) (kept : List ℕ) → None ≡ option_map written found → IfSome found (λ x. kept ≡ written x)
read_hidden None written kept e = tt
read_hidden (Some x) written kept e = cc

-- ---- what is taken out and put back

pub kept_at : (found : Option (List ℕ)) (kept : List ℕ) (P : List ℕ → Type 0) → Some kept ≡ found → IfSome found P → P kept
kept_at found kept P is p = let e = subst (λ (o : Option (List ℕ)). IfSome o P) (sym is) p in e

pub taken_out : (old new : List (Identifier × List ℕ)) (s : State) (x : Identifier) → entry_at new x ≡ None → ((y : Identifier) → y ≢ x → entry_at new y ≡ entry_at old y)
    → AreShownTexts old s → AreShownTexts new s
taken_out old new s x none others are y =
    elim (cases_id y x) [
      | inl same ↦ subst (λ (o : Option (List ℕ)). IfSome o (λ kept. kept ≡ shown_text_in s y)) (sym (ap (entry_at new) same ∙ none)) tt
      | inr other ↦ subst (λ (o : Option (List ℕ)). IfSome o (λ kept. kept ≡ shown_text_in s y)) (sym (others y other)) (are y)
    ]

pub put_in : (old new : List (Identifier × List ℕ)) (s : State) (x : Identifier) (kept : List ℕ) → entry_at new x ≡ Some kept
    → ((y : Identifier) → y ≢ x → entry_at new y ≡ entry_at old y)
    → kept ≡ shown_text_in s x → AreShownTexts old s → AreShownTexts new s
put_in old new s x kept here others is are y =
    elim (cases_id y x) [
      | inl same ↦ subst (λ (o : Option (List ℕ)). IfSome o (λ t. t ≡ shown_text_in s y)) (sym (ap (entry_at new) same ∙ here)) (is ∙ ap (shown_text_in s) (sym same))
      | inr other ↦ subst (λ (o : Option (List ℕ)). IfSome o (λ t. t ≡ shown_text_in s y)) (sym (others y other)) (are y)
    ]

-- the section of a span is that of the passage
span_fits : (s : State) (k at n : ℕ) (x : Identifier) (kept : List ℕ) (span : ℕ × ℕ) → IsClusterPassage s k at n x kept span → span.0 + span.1 ≤ shown_count s (within x)
span_fits s k at n x kept span passage =
    let same = same_Some passage.spans.section x (sym passage.spans.shown ∙ passage.shown) in
    subst (λ (y : Identifier). span.0 + span.1 ≤ shown_count s (within y)) same passage.spans.within

module _ (texts after : List (Identifier × List ℕ)) (old new : State) (k at n : ℕ) (x : Identifier) (kept : List ℕ) (span : ℕ × ℕ)
    (passage : IsClusterPassage old k at n x kept span)
    (none : entry_at texts x ≡ None) (are : AreShownTexts texts old) where
  -- an edit of a text by scalars is kept
  edit_kept : (ops : List Op) (chs : List ℕ) → Gains old new ops → IsTextEdit old.held.history ops x span.0 span.1 chs
      → (AreShownTexts texts new → with_replaced kept span.0 span.1 chs ≡ shown_text_in new x → AreShownTexts after new) → AreShownTexts after new
  edit_kept ops chs gained edit put =
      let now : (t : Identifier) → text new.held.history t ≡ text (with_ops old ops).held.history t = λ t. ap (λ (s : State). text s.held.history t) gained.others in
      put (other_texts texts old new x none (λ t other. now t ∙ edit.elsewhere t other) are)
      (ap (λ (cs : List ℕ). encode_utf8_all (splice cs span.0 (span.0 + span.1) chs)) (kept_chars old x kept passage.utf8 passage.kept_is)
      ∙ ap encode_utf8_all (sym (now x ∙ edit.here ∙ append_assoc (take span.0 (text old.held.history x)) chs (drop (span.0 + span.1) (text old.held.history x)))))

  pub put_kept : (chs : List ℕ) (result : Result ℕ EditFault) → n ≡ 0 → IfOk result (IsMade old new (Put k span.0 chs))
      → (AreShownTexts texts new → with_replaced kept span.0 span.1 chs ≡ shown_text_in new x → AreShownTexts after new) → OnOk result (AreShownTexts after new)
  put_kept chs (Err fault) empty made put = tt
  put_kept chs (Ok count) empty made put =
      let cs = shown_clusters old passage.spans.section in
      let len : span.1 ≡ 0 = ap (λ (p : ℕ × ℕ). p.1) passage.spans.found_is ∙ ap (λ (i : ℕ). scalars (take i (drop at cs))) empty in
      let fits = span_fits old k at n x kept span passage in
      let edit = put_writes old.number old.held.history old.held.waiting k span.0 chs x passage.lawful passage.shown (omega (arith, fits)) in
      edit_kept (made_by old (Put k span.0 chs)) chs made.gained (subst (λ (m : ℕ). IsTextEdit old.held.history (made_by old (Put k span.0 chs)) x span.0 m chs) (sym len) edit) put

  pub cut_kept : (nothing : List ℕ) (result : Result ℕ EditFault) → nothing ≡ [] → IfOk result (IsMade old new (Cut k span.0 span.1))
      → (AreShownTexts texts new → with_replaced kept span.0 span.1 nothing ≡ shown_text_in new x → AreShownTexts after new) → OnOk result (AreShownTexts after new)
  cut_kept nothing (Err fault) empty made put = tt
  cut_kept nothing (Ok count) empty made put =
      let edit = cut_erases old.number old.held.history old.held.waiting k span.0 span.1 x passage.lawful passage.shown in
      edit_kept (made_by old (Cut k span.0 span.1)) nothing made.gained
      (subst (λ (cs : List ℕ). IsTextEdit old.held.history (made_by old (Cut k span.0 span.1)) x span.0 span.1 cs) (sym empty) edit) put

-- ---- edits of the catalogue

in_range_within : (position count : ℕ) (cause : Option EditFault) → in_range position count cause ≡ None → position ≤ count
in_range_within position count cause e =
    elim (cases_Bool (nat_lt count position)) [ inl past ↦ absurd (refused past e) | inr inside ↦ ltb-false count position inside ]
  where
    refused : nat_lt count position ≡ true → in_range position count cause ≡ None → ⊥
    refused past e = let found = rw past at e in cc

-- what was accepted before an edit was lawful
was_lawful : (old new : State) (ops : List Op) → Gains old new ops → Lawful new.held.history → Lawful old.held.history
was_lawful old new ops gained lawful = lawful_front ops old.held.history (subst (λ (s : State). Lawful s.held.history) gained.others lawful)

pub add_kept : (texts : List (Identifier × List ℕ)) (old new : State) (at : ℕ) (title : List ℕ) (result : Result ℕ EditFault) → Lawful new.held.history
    → RefusesExactly old (Add at title) result → IfOk result (IsMade old new (Add at title)) → AreShownTexts texts old → OnOk result (AreShownTexts texts new)
add_kept texts old new at title (Err fault) lawful exact made are = tt
add_kept texts old new at title (Ok n) lawful exact made are =
    let within = in_range_within at (shown_count old catalogue) (refused_elements old 1) (allowed old (Add at title) n exact) in
    same_texts texts old new
    (λ t. ap (λ (s : State). text s.held.history t) made.gained.others
    ∙ add_keeps_texts old.number old.held.history old.held.waiting at title t (was_lawful old new _ made.gained lawful) within) are

pub drop_kept : (texts : List (Identifier × List ℕ)) (old new : State) (k : ℕ) (result : Result ℕ EditFault) → Lawful new.held.history
    → RefusesExactly old (DropSection k) result → IfOk result (IsMade old new (DropSection k)) → AreShownTexts texts old → OnOk result (AreShownTexts texts new)
drop_kept texts old new k (Err fault) lawful exact made are = tt
drop_kept texts old new k (Ok n) lawful exact made are = of (section_shown old k) refl (allowed old (DropSection k) n exact)
  where
    of : (found : Option Identifier) → section_shown old k ≡ found → in_section found (λ x. refused_ops old 1) ≡ None → AreShownTexts texts new
    of None is refused = cc
    of (Some x) is refused =
        same_texts texts old new
        (λ t. ap (λ (s : State). text s.held.history t) made.gained.others
        ∙ drop_keeps_texts old.number old.held.history old.held.waiting k x t (was_lawful old new _ made.gained lawful) is) are
