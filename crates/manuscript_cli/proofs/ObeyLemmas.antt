-- A command that was named by its words did what it should, whatever its objects and its end are called.
use Rattle.std.proofs.Common.{◌≡◌, ℕ, List, subst, sym}
use Rattle.std.specs.Prelude.{Some}
use Rattle.fugue_ids.specs.Outs.{OutView}
use Rattle.outer_ports.specs.Sources.{SourceView}
use Rattle.outer_ports.specs.disk.Disks.{DiskView}
use Rattle.outer_ports.specs.dock.Docks.{DockView}
use Rattle.outer_ports.specs.wire.Wires.{WireView}
use Rattle.manuscript_cli.specs.Run.{Meets}
use Rattle.manuscript_cli.specs.Touched.{Touched, all_objects}
use Rattle.manuscript_cli.specs.declared.command.Command.{Command}
use Rattle.command_kinds.specs.declared.status.Status.{Status}

module _ {S O N H G W D : Type 0} (input_of : S → SourceView) (output_of : O → OutView) (notes_of : N → OutView) (home_of : H → DiskView) (guest_of : G → DiskView)
    (wire_of : W → WireView)
    (dock_of : D → DockView) where
  abbrev objects : S → O → N → H → G → W → D → Touched
  objects input output notes home guest wire dock =
      all_objects (input_of input) (output_of output) (notes_of notes) (home_of home) (guest_of guest) (wire_of wire) (dock_of dock)

  pub obeyed : (words : List (List ℕ)) (old : Touched) {command named : Command} {input input' : S} {output output' : O} {notes notes' : N} {home home' : H} {guest guest' : G}
      {wire wire' : W}
      {dock dock' : D} {end status : Status} → command ≡ named → input ≡ input' → output ≡ output' → notes ≡ notes' → home ≡ home' → guest ≡ guest' → wire ≡ wire' → dock ≡ dock'
      → end ≡ status
      → Meets words (Some named) old (objects input' output' notes' home' guest' wire' dock') status
      → Meets words (Some command) old (objects input output notes home guest wire dock) end
  obeyed words old {command} {named} {input} {input'} {output} {output'} {notes} {notes'} {home} {home'} {guest} {guest'} {wire} {wire'} {dock} {dock'} {end} {status} c i o n h g
      w d e meets =
      let same : objects input output notes home guest wire dock ≡ objects input' output' notes' home' guest' wire' dock' =
      λ k. objects (i k) (o k) (n k) (h k) (g k) (w k) (d k) in
      subst (λ z. Meets words (Some z) old (objects input output notes home guest wire dock) end) (sym c)
      (subst (λ z. Meets words (Some named) old z end) (sym same)
      (subst (λ z. Meets words (Some named) old (objects input' output' notes' home' guest' wire' dock') z) (sym e) meets))
