-- What the first bytes of a text come to.
use Rattle.std.specs.Prelude.{ℕ, None, List}
use Rattle.origin_model.specs.relay.Session.{Goes, Taken, at_cursor, session_refused}
use Rattle.relay_core.specs.declared.greeting.Greeted.{Greeted}
use Rattle.relay_core.specs.declared.greeting.Greeted.TheVariants.{Bad, Cursor, Partly}

-- with this log
abbrev pub greets : List (List ℕ) → List ℕ → Greeted → Taken
greets log bytes Partly = record { log = log; next = Goes (record { cursor = None; rest = bytes }) }
greets log bytes (Cursor cursor) = at_cursor log cursor
greets log bytes Bad = session_refused log 1
