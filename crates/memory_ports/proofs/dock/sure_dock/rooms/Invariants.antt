use Rattle.std.proofs.Common.{take}
use Rattle.memory_ports.specs.dock.Forms.{HasRooms}
use Rattle.memory_ports.proofs.dock.sure_dock.rooms.Given as goal

abbrev pub invariant-loop-step : goal.invariant-loop-step
invariant-loop-step l = HasRooms (take l.step-index l.steps) l.room l.transcripts
