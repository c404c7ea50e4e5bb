-- What a command does that uses no file, by what came of its text.
use Rattle.std.proofs.Common.{ℕ, List, refl, inl, inr, subst}
use Rattle.std.specs.Prelude.{Err}
use Rattle.fugue_ids.specs.Causes.{Faulted}
use Rattle.fugue_ids.specs.Outs.{OutView}
use Rattle.command_kinds.proofs.ActLemmas.{goes_blameless, inside_result, performs_decided, performs_inside}
use Rattle.command_kinds.specs.Acts.{all_done, no_line}
use Rattle.command_kinds.specs.Changes.{Change, OutBlameless}
use Rattle.command_kinds.specs.Findings.{IsDecided}
use Rattle.command_kinds.specs.Refusal.{status_of}
use Rattle.command_kinds.specs.TextOut.{TextComes, WritesOut, writing}
use Rattle.command_kinds.specs.declared.refusal.Refusal.{Refusal}
use Rattle.command_kinds.specs.declared.refusal.Refusal.TheVariants as refusal
use Rattle.command_kinds.specs.declared.status.Status.{Status}
use Rattle.command_kinds.specs.declared.status.Status.TheVariants as status
use Rattle.manuscript_cli.specs.Alone.{WritesAlone}

refused : (bytes : List ℕ) (output : Change OutView) (why : Refusal) → TextComes bytes output (Err why)
    → IsDecided status.Done (Faulted output.old.faults output.new.faults) (status_of why)
refused bytes output refusal.Outside front = inr (inr (refl, front.faulted))
refused bytes output refusal.NoMemory same = inr (inl refl)
refused bytes output _ none = absurd none

pub written_alone : (text : List ℕ) (output notes : Change OutView) (end : Status) → WritesOut text output notes end → WritesAlone text output notes end
written_alone text output notes end writes = record {
  writes = writes;
  never_outside = λ has. performs_inside (writing text output) notes end writes (λ done did. inl refl) (λ done did some. absurd (some refl))
      (λ blamed. (subst (TextComes text output) blamed writes.did.comes).no_room has);
  decides = performs_decided (writing text output) notes end writes status.Done (Faulted output.old.faults output.new.faults) (λ done did. refl)
      (λ why goes. refused text output why goes.comes) (λ done did some. absurd (some refl));
}

-- an output whose faults are specified counted none, unless that is what was reported
pub written_reported : (text : List ℕ) (output notes : Change OutView) (end : Status) → WritesOut text output notes end → OutBlameless output end
written_reported text output notes end writes =
    goes_blameless text output writes.result end writes.did (inside_result no_line all_done writes.result notes end writes.reported.noted)
