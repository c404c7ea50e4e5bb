-- What is decided of an operation by what waits, its verdict, and whether as many are there as may.
use Rattle.std.specs.Prelude.{Bool, true, false, if◌then◌else◌}
use Rattle.causal_inbox.specs.declared.index.Found.{Found}
use Rattle.causal_inbox.specs.declared.index.Found.TheVariants.{Same, Clash, Absent}
use Rattle.origin_model.specs.declared.operations.Verdict.{Verdict}
use Rattle.origin_model.specs.declared.operations.Verdict.TheVariants.{Again as AgainOnHistory, Conflict as ConflictOnHistory}
use Rattle.origin_model.specs.declared.operations.Verdict.TheVariants.{Stray as StrayOnHistory, Missing as MissingOnHistory}
use Rattle.origin_model.specs.declared.operations.Verdict.TheVariants.{Ready as ReadyOnHistory}
use Rattle.origin_model.specs.taking.Taking.{Answer, Again, Conflict, Stray, TooMany, Accepted, Full, Waits}
use Rattle.replica_core.specs.declared.replica.Decision.{Decision}
use Rattle.replica_core.specs.declared.replica.Decision.TheVariants.{Again as DecidedAgain, Conflict as DecidedConflict}
use Rattle.replica_core.specs.declared.replica.Decision.TheVariants.{Stray as DecidedStray, TooMany as DecidedTooMany}
use Rattle.replica_core.specs.declared.replica.Decision.TheVariants.{Ready as DecidedReady, Missing as DecidedMissing}

-- the first line that applies
abbrev pub decision_of : Found → Verdict → (at_most : Bool) → Decision
decision_of Same verdict at_most = DecidedAgain
decision_of Clash AgainOnHistory at_most = DecidedAgain
decision_of Clash verdict at_most = DecidedConflict
decision_of Absent AgainOnHistory at_most = DecidedAgain
decision_of Absent ConflictOnHistory at_most = DecidedConflict
decision_of Absent (StrayOnHistory i) at_most = DecidedStray i
decision_of Absent verdict true = DecidedTooMany
decision_of Absent ReadyOnHistory false = DecidedReady
decision_of Absent (MissingOnHistory i) false = DecidedMissing

-- the answer that a decision comes to, as many waiting as may or not
abbrev pub answer_by_decision : (at_hold : Bool) → Decision → Answer
answer_by_decision at_hold DecidedAgain = Again
answer_by_decision at_hold DecidedConflict = Conflict
answer_by_decision at_hold (DecidedStray i) = Stray i
answer_by_decision at_hold DecidedTooMany = TooMany
answer_by_decision at_hold DecidedReady = Accepted
answer_by_decision at_hold DecidedMissing = if at_hold then Full else Waits
