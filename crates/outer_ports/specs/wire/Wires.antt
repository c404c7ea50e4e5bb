-- A wire, as contracts see it, and what each call does to it.
use Rattle.std.specs.Prelude.{◌≡◌, ℕ, List, length, Option, Result, IsSome, OnOk, OnErr, is_some, option_map}
use Rattle.fugue_ids.specs.Outs.{OutView, WritesSome}
use Rattle.outer_ports.specs.Counts.{FailsOnlyFor}
use Rattle.outer_ports.specs.Latest.{once_more}
use Rattle.outer_ports.specs.Sources.{SourceView, ReadsSome}
use Rattle.outer_ports.specs.declared.latest.Latest.{Latest}
use Rattle.outer_ports.specs.declared.wire.Dial.{Dial}

-- what contracts see of a wire
pub record WireView : Type 0 where
  -- how often it was dialled, and the last time, where the object tells it
  pub dials : Option (Latest Dial)
  -- the bytes that are left to read, where the object tells them
  pub left : Option (List ℕ)
  -- what was written, where the object tells it
  pub said : Option (List ℕ)
  -- how often a call failed
  pub faults : ℕ
  -- how many bytes still fit, where calls are sure
  pub room : Option ℕ

-- it tells its dials, what is left and what was written
abbrev pub WireIsSpecified : WireView → Type 0
WireIsSpecified wire = IsSome wire.dials × IsSome wire.left × IsSome wire.said

-- a wire as what is read from
abbrev pub source_of : WireView → SourceView
source_of wire = record { left = wire.left; faults = wire.faults; sure = is_some wire.room }

-- a wire as what is written to
abbrev pub out_of : WireView → OutView
out_of wire = record { written = wire.said; faults = wire.faults; room = wire.room }

-- the port is dialled where the wire stands
abbrev pub dial_of : (port : ℕ) → WireView → Dial
dial_of port wire = record { port = port; said = option_map length wire.said; left = option_map length wire.left }

-- The port was dialled once: where the wire stood at first, so that all that was said or heard since passed on that connection.
abbrev pub DialsOnce : (old new : WireView) → (port : ℕ) → Type 0
DialsOnce old new port = new.dials ≡ option_map (once_more (dial_of port old)) old.dials

-- The port is dialled once, and nothing was read or written; nothing at an error. Where the wire tells what was written,
-- the count rises only with an error.
pub record Dials {E T : Type 0} (old new : WireView) (result : Result T E) (port : ℕ) : Type 0 where
  pub dialled : OnOk result (DialsOnce old new port)
  pub kept : OnErr result (new.dials ≡ old.dials)
  pub left : new.left ≡ old.left
  pub said : new.said ≡ old.said
  pub room : new.room ≡ old.room
  pub count : FailsOnlyFor old.room (λ room. ⊥) old.faults new.faults result
  pub specified_no_fault : IsSome old.said → OnOk result (new.faults ≡ old.faults)

-- a read, as of a source
pub record WireReads {E : Type 0} (old new : WireView) (result : Result ℕ E) (buf : List ℕ) : Type 0 where
  pub reads : ReadsSome (source_of old) (source_of new) result buf
  pub dials : new.dials ≡ old.dials
  pub said : new.said ≡ old.said
  pub room : new.room ≡ old.room

-- a write, as to a sink
pub record WireWrites {E : Type 0} (old new : WireView) (result : Result ℕ E) (piece : List ℕ) : Type 0 where
  pub writes : WritesSome (out_of old) (out_of new) result piece
  pub dials : new.dials ≡ old.dials
  pub left : new.left ≡ old.left
