-- Edits by clusters are edits by scalars.
use Rattle.std.proofs.Common.{◌≡◌, ◌↔◌, ◌<◌, ◌≤◌, ◌+◌, inl, inr, ℕ, nat_lt, List, length, Option, Some, None, refl, sym, ap, subst, ◌∙◌, arith}
use Rattle.std.specs.Prelude.{Result, Ok, Err, IfOk, IfErr, IfSome, IsNone, ok_or, option_map, encode_utf8_all}
use Rattle.std.specs.Str.{chars, IsUtf8}
use Rattle.std.proofs.lemmas.Bool.{cases_Bool, cases_lt, ltb-true}
use Rattle.std.proofs.lemmas.Str.{encodes-chars, encodes_same}
use Rattle.fugue_ids.specs.Identifiers.{Identifier}
use Rattle.origin_model.specs.operations.Verdict.{Lawful}
use Rattle.origin_model.specs.order.Printed.{text}
use Rattle.origin_model.specs.edits.Edits.{Command, Put, Cut}
use Rattle.origin_model.specs.declared.operations.Place.TheVariants.{Section as within}
use Rattle.origin_model.proofs.edits.AllowedLemmas.{allowed}
use Rattle.origin_model.proofs.edits.EditedTextLemmas.{text_length}
use Rattle.cluster_text.specs.Clusters.{clusters, span}
use Rattle.origin_model.specs.edits.State.{State}
use Rattle.origin_model.specs.edits.Refusal.{section_shown, shown_count, in_range, refused_elements, refused_ops, refusal_message, made_by, RefusesExactly}
use Rattle.origin_model.specs.edits.Effect.{IsMade, LeavesUnmade, StopsPartly}
use Rattle.origin_model.specs.declared.edit_fault.EditFault.{EditFault}
use Rattle.origin_model.specs.declared.edit_fault.EditFault.TheVariants.{NoSection, OutOfRange, IdsSpent, TooMany, NoMemory}
use Rattle.edit_script.specs.Scripts.{by_scalars, shown_clusters, in_scalars, line_refusal, scalars_from}
use Rattle.edit_script.specs.Lines.{IsSpan, Made, Unmade}
use Rattle.fugue_ids.proofs.OptionLemmas.{some_is_none}

-- an edit by scalars that was made is the edit by clusters
pub made_in : (old new : State) (command by other : Command) (result : Result ℕ EditFault) → other ≡ command → by ≡ by_scalars old command
    → line_refusal old command ≡ refusal_message old by
    → RefusesExactly old by result → IfOk result (IsMade old new by) → IfOk result (Made old new other)
made_in old new command by other (Err fault) same is refusal_is exact made = tt
made_in old new command by other (Ok n) same is refusal_is exact made =
    subst (λ (c : Command). Made old new c n) (sym same) (record {
      ops = made_by old by;
      edits = record { allowed = refusal_is ∙ allowed old by n exact; made = ap (made_by old) is; gained = made.gained };
      count = made.count;
    })

-- and one that was not made is not
pub unmade_in : (old new : State) (command by other : Command) (result : Result ℕ EditFault) → other ≡ command → by ≡ by_scalars old command
    → line_refusal old command ≡ refusal_message old by
    → RefusesExactly old by result → IfErr result (LeavesUnmade old new by) → IfErr result (Unmade old new other)
unmade_in old new command by other (Ok n) same is refusal_is exact left = tt
unmade_in old new command by other (Err NoSection) same is refusal_is exact left =
    subst (λ (c : Command). Unmade old new c NoSection) (sym same) (left, refusal_is ∙ (exact NoSection (λ e. cc)).0 refl)
unmade_in old new command by other (Err OutOfRange) same is refusal_is exact left =
    subst (λ (c : Command). Unmade old new c OutOfRange) (sym same) (left, refusal_is ∙ (exact OutOfRange (λ e. cc)).0 refl)
unmade_in old new command by other (Err (IdsSpent n)) same is refusal_is exact left =
    subst (λ (c : Command). Unmade old new c (IdsSpent n)) (sym same) (left, refusal_is ∙ (exact (IdsSpent n) (λ e. cc)).0 refl)
unmade_in old new command by other (Err (TooMany n)) same is refusal_is exact left =
    subst (λ (c : Command). Unmade old new c (TooMany n)) (sym same) (left, refusal_is ∙ (exact (TooMany n) (λ e. cc)).0 refl)
unmade_in old new command by other (Err NoMemory) same is refusal_is exact left =
    subst (λ (c : Command). Unmade old new c NoMemory) (sym same) (inr (subst (λ (b : Command). StopsPartly old new (made_by old b)) is left))

in_range_fits : (position count : ℕ) (cause : Option EditFault) → position ≤ count → in_range position count cause ≡ cause
in_range_fits position count cause fits =
    elim (cases_Bool (nat_lt count position)) [ inl past ↦ absurd (omega (arith, fits, ltb-true count position past)) | inr inside ↦ rw inside refl ]

-- a put in front of a cluster is a put in front of a scalar
pub put_is : (s : State) (k at : ℕ) (new : List ℕ) (found : ℕ × ℕ) → IsSpan s k at 0 found → Put k found.0 new ≡ by_scalars s (Put k at new)
put_is s k at new found spans =
    ap (λ (p : ℕ × ℕ). Put k p.0 new) spans.found_is
    ∙ sym (ap (λ (o : Option Identifier). elim o as (λ _. Command) [ None ↦ Put k at new | Some x ↦ in_scalars s x (Put k at new) ]) spans.shown)

pub put_refusal : (s : State) (k at : ℕ) (new : List ℕ) (found : ℕ × ℕ) → IsSpan s k at 0 found → line_refusal s (Put k at new) ≡ refusal_message s (Put k found.0 new)
put_refusal s k at new found spans =
    let shown = spans.shown in
    rw shown (in_range_fits at (length (shown_clusters s spans.section)) (refused_elements s (length new)) (omega (arith, spans.enough))
    ∙ sym (in_range_fits found.0 (shown_count s (within spans.section)) (refused_elements s (length new)) (omega (arith, spans.within))))

-- a cut of clusters is a cut of scalars
pub cut_is : (s : State) (k at n : ℕ) (found : ℕ × ℕ) → IsSpan s k at n found → Cut k found.0 found.1 ≡ by_scalars s (Cut k at n)
cut_is s k at n found spans =
    ap (λ (p : ℕ × ℕ). Cut k p.0 p.1) spans.found_is
    ∙ sym (ap (λ (o : Option Identifier). elim o as (λ _. Command) [ None ↦ Cut k at n | Some x ↦ in_scalars s x (Cut k at n) ]) spans.shown)

pub cut_refusal : (s : State) (k at n : ℕ) (found : ℕ × ℕ) → IsSpan s k at n found → line_refusal s (Cut k at n) ≡ refusal_message s (Cut k found.0 found.1)
cut_refusal s k at n found spans =
    let shown = spans.shown in
    rw shown (in_range_fits (at + n) (length (shown_clusters s spans.section)) (refused_ops s (scalars_from s spans.section at n)) spans.enough
    ∙ ap (λ (p : ℕ × ℕ). refused_ops s p.1) (sym spans.found_is)
    ∙ sym (in_range_fits (found.0 + found.1) (shown_count s (within spans.section)) (refused_ops s found.1) spans.within))

pub span_found : (s : State) (k at n : ℕ) (bytes : List ℕ) (x : Identifier) (r : Option (ℕ × ℕ)) (result : Result (ℕ × ℕ) EditFault) (fault : EditFault) → result ≡ ok_or r fault
    → section_shown s k ≡ Some x → bytes ≡ encode_utf8_all (text s.held.history x) → IsUtf8 bytes → Lawful s.held.history
    → IfSome r (λ found. found ≡ span (clusters bytes) at n) → (IsNone r ↔ (length (clusters bytes) < at + n)) → IfSome r (λ found. found.0 + found.1 ≤ length (chars bytes))
    → IfOk result (IsSpan s k at n)
span_found s k at n bytes x None result fault is shown bytes_are utf8 lawful spans none within_text = subst (λ (q : Result (ℕ × ℕ) EditFault). IfOk q (IsSpan s k at n)) (sym is) tt
span_found s k at n bytes x (Some found) result fault is shown bytes_are utf8 lawful spans none within_text =
    let same = ap (λ (b : List ℕ). length (clusters b)) bytes_are in
    let enough : at + n ≤ length (clusters bytes) = elim (cases_lt (length (clusters bytes)) (at + n)) [ inl few ↦ absurd (some_is_none found (none.1 few)) | inr fits ↦ fits ] in
    let scalars_are = ap length (encodes_same (chars bytes) (text s.held.history x) (encodes-chars bytes utf8 ∙ bytes_are)) in
    let long = text_length s.held.history x lawful in
    subst (λ (q : Result (ℕ × ℕ) EditFault). IfOk q (IsSpan s k at n)) (sym is) (record {
      section = x;
      shown = shown;
      enough = omega (arith, enough, same);
      found_is = spans ∙ ap (λ (b : List ℕ). span (clusters b) at n) bytes_are;
      within = omega (arith, within_text, scalars_are, long);
    })
