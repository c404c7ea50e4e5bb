-- The exit status of the process for each end of a command.
use Rattle.std.specs.Prelude.{ℕ}
use Rattle.command_kinds.specs.declared.status.Status.{Status}
use Rattle.command_kinds.specs.declared.status.Status.TheVariants.{Done, Usage, BadInput, Partial, OutsideFault, NoMemory, BadFile, Limit}

-- the exit code of a status
abbrev pub exit_code : Status → ℕ
exit_code Done = 0
exit_code Usage = 1
exit_code BadInput = 2
exit_code Partial = 3
exit_code OutsideFault = 4
exit_code NoMemory = 5
exit_code BadFile = 6
exit_code Limit = 7
