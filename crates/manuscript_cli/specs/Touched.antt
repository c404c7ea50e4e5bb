-- All that a command may touch, as contracts see it.
use Rattle.fugue_ids.specs.Outs.{OutView}
use Rattle.outer_ports.specs.Sources.{SourceView}
use Rattle.outer_ports.specs.disk.Disks.{DiskView}
use Rattle.outer_ports.specs.dock.Docks.{DockView}
use Rattle.outer_ports.specs.wire.Wires.{WireView}
use Rattle.command_kinds.specs.Changes.{Streams}

-- all objects of the outside that a run may use
pub record Touched : Type 0 where
  pub streams : Streams
  -- the file that a command is about
  pub home : DiskView
  -- the other file that it reads
  pub guest : DiskView
  -- the connection to a relay
  pub wire : WireView
  -- where others ask a relay
  pub dock : DockView

-- all objects, one by one
abbrev pub all_objects : SourceView → (output notes : OutView) → (home guest : DiskView) → WireView → DockView → Touched
all_objects input output notes home guest wire dock = record {
  streams = record { input = input; output = output; notes = notes };
  home = home;
  guest = guest;
  wire = wire;
  dock = dock;
}
