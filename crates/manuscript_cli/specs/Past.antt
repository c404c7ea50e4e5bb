-- `past`: what `arrange` prints of the operations that were accepted first.
use Rattle.std.specs.Prelude.{◌≡◌, ℕ, ◌≤◌, List, ◌++◌, nat_lt, if◌then◌else◌, length}
use Rattle.fugue_ids.specs.declared.op.Op.{Op}
use Rattle.origin_model.specs.taking.Taking.{held}
use Rattle.catalogue_notes.specs.Arranged.{arranged_text}
use Rattle.version_views.specs.Views.{first_ops}
use Rattle.command_kinds.specs.Findings.{Finding, Refuses, Does}
use Rattle.command_kinds.specs.Report.{ReportText}
use Rattle.command_kinds.specs.declared.refusal.Refusal.TheVariants.{NoMoment}

-- the first n operations as they are arranged, where so many were accepted
abbrev pub past_of : ℕ → List Op → Finding (List ℕ)
past_of n history = if nat_lt (length history) n then Refuses (NoMoment n) else Does (arranged_text (first_ops n history))

-- `past` reports the manuscript of the first n operations
abbrev pub past_reports : ℕ → ReportText
past_reports n replica found = found ≡ past_of n replica.held.history

-- It is what `arrange` prints when n operations are accepted.
abbrev pub PastIsArranged : Type 0
PastIsArranged = (history : List Op) → past_of (length history) history ≡ Does (arranged_text history)

-- And it stays that, whatever operations a file gains.
abbrev pub PastStays : Type 0
PastStays = (n hold most : ℕ) (ops more : List Op) → n ≤ length (held hold most ops).history
    → past_of n (held hold most (ops ++ more)).history ≡ past_of n (held hold most ops).history
