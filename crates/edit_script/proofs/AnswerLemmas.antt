-- A script comes to the answer that its bytes say.
use Rattle.std.proofs.Common.{◌≡◌, ◌≢◌, inl, ◌<◌, ◌≤◌, ◌+◌, ℕ, List, [], ◌++◌, length, Option, Some, None, refl, sym, ap, subst, ◌∙◌, arith, append-nil, length-append}
use Rattle.std.specs.Prelude.{IfSome, IfOk, IfErr, Result, Ok, Err}
use Rattle.std.specs.Io.KnownBytes.{prepend_known}
use Rattle.outer_ports.specs.Sources.{SourceView}
use Rattle.origin_model.specs.edits.State.{State}
use Rattle.edit_script.specs.declared.run.ScriptFault.{ScriptFault}
use Rattle.edit_script.specs.declared.run.ScriptFault.TheVariants as fault
use Rattle.edit_script.specs.declared.script.TheConstants.{LONGEST_SCRIPT}
use Rattle.edit_script.specs.Answers.{ScriptAnswerIs, ScriptAnswersBy, EndsIn, EndsWith, IsScriptByBytes}
use Rattle.edit_script.specs.Scripts.{ScriptRuns, ScriptStops, StopsAtLine, RunsWhole}
use Rattle.edit_script.specs.Sources.{IsScript, LacksScript}
use Rattle.edit_script.proofs.OnceLemmas.{scripts_run_once}

-- an answer of a line's fault, or of the script's end, that the bytes decide
data Kind (old : State) (bytes : List ℕ) (answer : Result ℕ ScriptFault) : Type 0 where
  Whole : (n : ℕ) → answer ≡ Ok n → EndsWith old bytes n → Kind old bytes answer
  Long : answer ≡ Err fault.TooLong → LONGEST_SCRIPT < length bytes → Kind old bytes answer
  Faulty : (f : ScriptFault) → answer ≡ Err f → f ≢ fault.NoMemory → EndsIn old bytes f → Kind old bytes answer

kind : (old : State) (bytes : List ℕ) (answer : Result ℕ ScriptFault) → IsScriptByBytes answer → ScriptAnswerIs old bytes answer → Kind old bytes answer
kind old bytes (Ok n) by is = Whole n refl is
kind old bytes (Err (fault.BadLine n)) by is = Faulty (fault.BadLine n) refl (λ e. cc e) is
kind old bytes (Err (fault.NoSection n)) by is = Faulty (fault.NoSection n) refl (λ e. cc e) is
kind old bytes (Err (fault.OutOfRange n)) by is = Faulty (fault.OutOfRange n) refl (λ e. cc e) is
kind old bytes (Err (fault.IdsSpent n)) by is = Faulty (fault.IdsSpent n) refl (λ e. cc e) is
kind old bytes (Err (fault.TooMany n)) by is = Faulty (fault.TooMany n) refl (λ e. cc e) is
kind old bytes (Err fault.TooLong) by is = Long refl is
kind old bytes (Err fault.ReadFault) by is = absurd by
kind old bytes (Err fault.NoMemory) by is = absurd by

-- two answers that the bytes decide are one
kinds_once : (old : State) (bytes : List ℕ) (a b : Result ℕ ScriptFault) → Kind old bytes a → Kind old bytes b → a ≡ b
kinds_once old bytes a b (Whole n is x) (Whole m so y) =
    let same = (scripts_run_once.whole old x.new y.new bytes n m x.runs y.runs).1 in is ∙ ap (λ (k : ℕ). Ok k) same ∙ sym so
kinds_once old bytes a b (Whole n is x) (Long so y) = absurd (let short = x.short in omega (arith, short, y))
kinds_once old bytes a b (Whole n is x) (Faulty g so not y) = absurd (scripts_run_once.apart old x.new y.new bytes n g not x.runs y.stops)
kinds_once old bytes a b (Long is x) (Whole m so y) = absurd (let short = y.short in omega (arith, short, x))
kinds_once old bytes a b (Long is x) (Long so y) = is ∙ sym so
kinds_once old bytes a b (Long is x) (Faulty g so not y) = absurd (let short = y.short in omega (arith, short, x))
kinds_once old bytes a b (Faulty f is not x) (Whole m so y) = absurd (scripts_run_once.apart old y.new x.new bytes m f not y.runs x.stops)
kinds_once old bytes a b (Faulty f is not x) (Long so y) = absurd (let short = x.short in omega (arith, short, y))
kinds_once old bytes a b (Faulty f is not x) (Faulty g so nor y) =
    let same = (scripts_run_once.stops old x.new y.new bytes f g not nor x.stops y.stops).1 in is ∙ ap (λ (h : ScriptFault). Err h) same ∙ sym so

exact : (old : State) (bytes : List ℕ) (result : Result ℕ ScriptFault) → ScriptAnswerIs old bytes result → ScriptAnswersBy result old bytes
exact old bytes result cause by answer other = (
  λ same. subst (ScriptAnswerIs old bytes) same cause,
  λ is. kinds_once old bytes result answer (kind old bytes result by cause) (kind old bytes answer other is),
)

-- what a source had left whose bytes are specified
all_reported : (bytes : List ℕ) (left : Option (List ℕ)) (script : List ℕ) → Some bytes ≡ prepend_known script left → IfSome left (λ l. l ≡ []) → script ≡ bytes
all_reported bytes None script split ended = absurd (let no : Some bytes ≡ None = split in cc no)
all_reported bytes (Some rest) script split ended = let is : Some bytes ≡ Some (script ++ rest) = split in sym (append-nil script) ∙ ap (λ (l : List ℕ). script ++ l) (sym ended)
    ∙ sym cc

longer : (bytes : List ℕ) (left : Option (List ℕ)) (front : List ℕ) → Some bytes ≡ prepend_known front left → length front ≡ LONGEST_SCRIPT + 1 → LONGEST_SCRIPT < length bytes
longer bytes None front split long = absurd (let no : Some bytes ≡ None = split in cc no)
longer bytes (Some rest) front split long =
    let is : Some bytes ≡ Some (front ++ rest) = split in
    let same : bytes ≡ front ++ rest = cc in
    omega (arith, ap length same, length-append front rest, long)

module _ (old new : State) (bytes : List ℕ) (before after : SourceView) (split : before.left ≡ Some bytes) where
  script_is : (script : List ℕ) → IsScript before after script → (script ≡ bytes)
  script_is script is = all_reported bytes after.left script (sym split ∙ is.split) is.ended

  short : (script : List ℕ) → IsScript before after script → length bytes ≤ LONGEST_SCRIPT
  short script is = subst (λ (l : List ℕ). length l ≤ LONGEST_SCRIPT) (script_is script is) is.short

  ends_in : (f : ScriptFault) → ((script : List ℕ) × IsScript before after script × StopsAtLine old new script f) → EndsIn old bytes f
  ends_in f s = record { short = short s.0 s.1; new = new; stops = subst (λ (l : List ℕ). StopsAtLine old new l f) (script_is s.0 s.1) s.2 }

  answer_is : (result : Result ℕ ScriptFault) → IfOk result (ScriptRuns old new before after) → IfErr result (ScriptStops old new before after) → ScriptAnswerIs old bytes result
  answer_is (Ok n) ok err =
      record { short = short ok.0 ok.1; new = new; runs = subst (λ (l : List ℕ). RunsWhole old new l n) (script_is ok.0 ok.1) ok.2 }
  answer_is (Err (fault.BadLine n)) ok err = ends_in (fault.BadLine n) err
  answer_is (Err (fault.NoSection n)) ok err = ends_in (fault.NoSection n) err
  answer_is (Err (fault.OutOfRange n)) ok err = ends_in (fault.OutOfRange n) err
  answer_is (Err (fault.IdsSpent n)) ok err = ends_in (fault.IdsSpent n) err
  answer_is (Err (fault.TooMany n)) ok err = ends_in (fault.TooMany n) err
  answer_is (Err fault.ReadFault) ok err = tt
  answer_is (Err fault.TooLong) ok err = longer bytes after.left err.1.front (sym split ∙ err.1.split) err.1.long
  answer_is (Err fault.NoMemory) ok err = tt

-- where the source's bytes are specified, these decide the answer
pub answers_exactly : (old new : State) (before after : SourceView) (result : Result ℕ ScriptFault) → IfOk result (ScriptRuns old new before after)
    → IfErr result (ScriptStops old new before after)
    → IfSome before.left (ScriptAnswersBy result old)
answers_exactly old new before after result ok err = by before.left refl
  where
    by : (left : Option (List ℕ)) → before.left ≡ left → IfSome left (ScriptAnswersBy result old)
    by None split = tt
    by (Some bytes) split = exact old bytes result (answer_is old new bytes before after split result ok err)

-- a script that was not read stops so
pub unread_stops : (s : State) (before after : SourceView) (f : ScriptFault) → LacksScript before after f → ScriptStops s s before after f
unread_stops s before after (fault.BadLine n) unread = absurd unread
unread_stops s before after (fault.NoSection n) unread = absurd unread
unread_stops s before after (fault.OutOfRange n) unread = absurd unread
unread_stops s before after (fault.IdsSpent n) unread = absurd unread
unread_stops s before after (fault.TooMany n) unread = absurd unread
unread_stops s before after fault.ReadFault unread = refl
unread_stops s before after fault.TooLong unread = (refl, unread)
unread_stops s before after fault.NoMemory unread = inl (refl, unread)

-- and its bytes, where they are specified, are the cause
pub unread_exactly : (s : State) (before after : SourceView) (f g : ScriptFault) (result : Result ℕ ScriptFault) → result ≡ Err g → g ≡ f → LacksScript before after f
    → IfSome before.left (ScriptAnswersBy result s)
unread_exactly s before after f g result is same unread =
    subst (λ (r : Result ℕ ScriptFault). IfSome before.left (ScriptAnswersBy r s)) (sym (is ∙ ap (λ (h : ScriptFault). Err h) same))
    (answers_exactly s s before after (Err f) tt (unread_stops s before after f unread))
