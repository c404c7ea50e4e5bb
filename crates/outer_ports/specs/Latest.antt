-- How often something was done, and the last time.
use Rattle.std.specs.Prelude.{Some, None}
use Rattle.outer_ports.specs.Calls.{risen}
use Rattle.outer_ports.specs.declared.latest.Latest.{Latest}

-- it was not done yet
abbrev pub never : {T : Type 0} → Latest T
never = record { count = 0; last = None }

-- it was done once more
abbrev pub once_more : {T : Type 0} → T → Latest T → Latest T
once_more last before = record { count = risen before.count; last = Some last }
