-- Which answer a script comes to, by the bytes of the script.
use Rattle.std.specs.Prelude.{◌≡◌, ◌↔◌, ℕ, ◌<◌, ◌≤◌, List, length, Result, Ok, Err}
use Rattle.origin_model.specs.edits.State.{State}
use Rattle.edit_script.specs.declared.run.ScriptFault.{ScriptFault}
use Rattle.edit_script.specs.declared.run.ScriptFault.TheVariants.{ReadFault, TooLong, NoMemory}
use Rattle.edit_script.specs.declared.script.TheConstants.{LONGEST_SCRIPT}
use Rattle.edit_script.specs.Scripts.{RunsWhole, StopsAtLine}

-- the bytes decide such an answer: it is no fault of the source, and no allocation failure
abbrev pub IsScriptByBytes : Result ℕ ScriptFault → Type 0
IsScriptByBytes (Err ReadFault) = ⊥
IsScriptByBytes (Err NoMemory) = ⊥
IsScriptByBytes result = Unit {0}

-- the script is run to its end, with n operations made
pub record EndsWith (old : State) (script : List ℕ) (n : ℕ) : Type 0 where
  pub short : length script ≤ LONGEST_SCRIPT
  pub new : State
  pub runs : RunsWhole old new script n

-- the script stops at its first faulty line
pub record EndsIn (old : State) (script : List ℕ) (fault : ScriptFault) : Type 0 where
  pub short : length script ≤ LONGEST_SCRIPT
  pub new : State
  pub stops : StopsAtLine old new script fault

-- where which answer comes, by what the replica is at first and the bytes that the source has left
abbrev pub ScriptAnswerIs : State → List ℕ → Result ℕ ScriptFault → Type 0
ScriptAnswerIs old bytes (Ok n) = EndsWith old bytes n
ScriptAnswerIs old bytes (Err ReadFault) = Unit {0}
ScriptAnswerIs old bytes (Err NoMemory) = Unit {0}
ScriptAnswerIs old bytes (Err TooLong) = LONGEST_SCRIPT < length bytes
ScriptAnswerIs old bytes (Err fault) = EndsIn old bytes fault

-- each answer comes exactly where the bytes say so, but for a fault of the source and an allocation failure
abbrev pub ScriptAnswersBy : Result ℕ ScriptFault → State → List ℕ → Type 0
ScriptAnswersBy result old bytes = IsScriptByBytes result → (answer : Result ℕ ScriptFault) → IsScriptByBytes answer
    → (result ≡ answer) ↔ ScriptAnswerIs old bytes answer
