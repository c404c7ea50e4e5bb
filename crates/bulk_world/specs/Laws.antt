-- What a bulk manuscript comes to.
use Rattle.std.specs.Prelude.{◌≡◌, ◌≤◌, ◌+◌, ℕ, true}
use Rattle.bulk_world.specs.Summary.{summary}
use Rattle.bulk_world.specs.Turns.{bulk_world}
use Rattle.bulk_world.specs.declared.making.TheConstants.{MOST_TURNS}

-- the first author accepted the section and one operation of each turn, and both authors have the same manuscript
pub record ComesTogether (seed count : ℕ) : Type 0 where
  pub operations : (summary (bulk_world seed count)).operations ≡ count + 1
  pub equal : (summary (bulk_world seed count)).is_equal ≡ true

-- so it is in every world that may be asked for: no limit is met
abbrev pub WorldMeetsNoLimit : Type 0
WorldMeetsNoLimit = (seed count : ℕ) → count ≤ MOST_TURNS → ComesTogether seed count
