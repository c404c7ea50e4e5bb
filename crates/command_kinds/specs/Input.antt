-- What the frames of a source lead to.
use Rattle.std.specs.Prelude.{◌≡◌, List, IfSome}
use Rattle.fugue_ids.specs.declared.op.Op.{Op}
use Rattle.fugue_ids.specs.declared.limits.TheConstants.{STREAM_LIMIT}
use Rattle.outer_ports.specs.Sources.{SourceView}
use Rattle.origin_model.specs.declared.grammar.Grammar.TheVariants.{Version2}
use Rattle.origin_model.specs.edits.State.{State}
use Rattle.op_frame.specs.IntakeOutcomes.{Comes, IntakeOutcome, Whole, CutShort as IsCutShort}
use Rattle.op_frame.specs.IntakeOutcomes.{BadFrame as HasBadFrame, TooLong as IsTooLong}
use Rattle.op_frame.specs.IntakeOutcomes.{TooMany as HasTooMany}
use Rattle.command_kinds.specs.Findings.{Does, Finding, Refuses}
use Rattle.command_kinds.specs.declared.refusal.Refusal.{Refusal}
use Rattle.command_kinds.specs.declared.refusal.Refusal.TheVariants.{BadFrame, CutShort, TooLong, TooMany}

-- the source, where it is specified, comes to this end
abbrev pub SourceComes : State → SourceView → List Op → IntakeOutcome → Type 0
SourceComes start old ops outcome =
    IfSome old.left (λ bytes. Comes Version2 start.hold start.most start.held STREAM_LIMIT bytes ops outcome)

-- the source comes to an end that is the cause of this refusal
abbrev pub StreamRefuses : State → SourceView → Refusal → Type 0
StreamRefuses start old (BadFrame offset) = (ops : List Op) × SourceComes start old ops (HasBadFrame offset)
StreamRefuses start old (CutShort offset) = (ops : List Op) × SourceComes start old ops (IsCutShort offset)
StreamRefuses start old TooLong = (ops : List Op) × SourceComes start old ops IsTooLong
StreamRefuses start old (TooMany count) = (count ≡ start.most) × (ops : List Op) × SourceComes start old ops HasTooMany
StreamRefuses start old _ = ⊥

-- what a stream leads to: it is refused, or these operations are taken in
abbrev pub StreamFound : State → SourceView → Finding (List Op) → Type 0
StreamFound start old (Refuses why) = StreamRefuses start old why
StreamFound start old (Does ops) = SourceComes start old ops Whole
