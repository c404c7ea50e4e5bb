-- The sessions that a relay keeps, and what becomes of one.
use Rattle.std.specs.Prelude.{◌≡◌, ℕ, Option, Some, None, List, [], ◌∷◌, map as each, option_map}
use Rattle.std.specs.BTreeMap.{BTreeMap}
use Rattle.std.specs.FinMap as finite
use Rattle.origin_model.specs.declared.relay.Reply.{Reply}
use Rattle.origin_model.specs.relay.Relay.{Sessions, reply_of}
use Rattle.origin_model.specs.relay.Session.{Closes, Goes, Next, SessionReading}
use Rattle.relay_core.specs.declared.sessions.Session.{Session}
use Rattle.relay_core.specs.declared.sessions.Session.TheVariants.{Greeting, Messages}

-- how far a session was read
abbrev pub reading_of : Session → SessionReading
reading_of (Greeting bytes) = record { cursor = None; rest = bytes }
reading_of (Messages cursor bytes) = record { cursor = Some cursor; rest = bytes }

-- after a whole message
abbrev pub after_message : ℕ → SessionReading
after_message cursor = record { cursor = Some cursor; rest = [] }

-- the session is closed with a reply, or goes on
abbrev pub becomes : Option (List ℕ) → SessionReading → Next
becomes None reading = Goes reading
becomes (Some bytes) reading = Closes bytes

-- the sessions that a map keeps
abbrev pub sessions_in : BTreeMap ℕ Session → Sessions
sessions_in m = finite.from_entries (each (λ e. (e.0, reading_of e.1)) m.entries)

-- an open session goes on, or is closed
abbrev pub session_kept : ℕ → Sessions → Option Session → Sessions
session_kept n sessions (Some session) = finite.insert sessions n (reading_of session)
session_kept n sessions None = finite.remove sessions n

-- the reply, where there is one
abbrev pub reply_list : Option Reply → List Reply
reply_list None = []
reply_list (Some reply) = reply ∷ []

-- the session that is kept, where it goes on
abbrev pub KeepsSession : Option Session → Next → Type 0
KeepsSession kept (Goes reading) = option_map reading_of kept ≡ Some reading
KeepsSession kept (Closes bytes) = kept ≡ None

-- whether the session is kept, and the replies
abbrev pub SessionBecomes : ℕ → Next → Option Session → List Reply → Type 0
SessionBecomes n next kept replies = KeepsSession kept next × (replies ≡ reply_list (reply_of n next))
