-- Numbers on the command line.
use Rattle.std.specs.Prelude.{◌≡◌, ◌≤◌, ℕ, List}
use Rattle.std.specs.Fmt.{decimal}

-- decimal digits, with no sign and no leading zero other than `0` itself, for a number in range
pub record IsNumber (word : List ℕ) (low high n : ℕ) : Type 0 where
  pub digits : word ≡ decimal n
  pub from : low ≤ n
  pub to : n ≤ high
