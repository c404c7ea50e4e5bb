use Rattle.std.proofs.Common.{length, take, ◌≤◌}
use Rattle.origin_model.specs.relay.Session.{Goes, TakesAll}
use Rattle.relay_core.specs.Logs.{LogGrows, frames_in}
use Rattle.relay_core.specs.Sessions.{reading_of}
use Rattle.relay_core.proofs.taking.take_all.Given as goal

-- the bytes so far were taken, and the session goes on
abbrev pub invariant-loop-byte : goal.invariant-loop-byte
invariant-loop-byte g l = record {
  taken : TakesAll l.limit (take l.byte-index l.piece) (record { log = frames_in l.fn.log; next = Goes (reading_of l.fn.session) })
      (record { log = frames_in l.log; next = Goes (reading_of l.session) });
  grows : LogGrows (frames_in l.fn.log) (frames_in l.log);
  within : length (frames_in l.log) ≤ l.limit;
}
