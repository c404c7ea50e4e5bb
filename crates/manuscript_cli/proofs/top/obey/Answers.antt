use Rattle.std.proofs.Common.{ap, refl, subst}
use Rattle.std.specs.Prelude.{map, string_bytes}
use Rattle.manuscript_cli.specs.Command.{Names}
use Rattle.manuscript_cli.specs.Touched.{all_objects}
use Rattle.manuscript_cli.proofs.ObeyLemmas.{obeyed}
use Rattle.manuscript_cli.proofs.RunLemmas.{hold_in_range}
use Rattle.manuscript_cli.proofs.top.obey.Goals as goal

pub show-requires-clause-from : goal.show-requires-clause-from
show-requires-clause-from g c = (hold_in_range _ _ (subst (Names _) c.in-Show.is c.requires)).0

pub show-requires-clause-to : goal.show-requires-clause-to
show-requires-clause-to g c = (hold_in_range _ _ (subst (Names _) c.in-Show.is c.requires)).1

pub new_file-requires-clause-some_replica : goal.new_file-requires-clause-some_replica
new_file-requires-clause-some_replica g c = let named = subst (Names _) c.in-New.is c.requires in named.replica_is.from

pub new_file-requires-clause-from : goal.new_file-requires-clause-from
new_file-requires-clause-from g c = let named = subst (Names _) c.in-New.is c.requires in named.hold_is.from

pub new_file-requires-clause-to : goal.new_file-requires-clause-to
new_file-requires-clause-to g c = let named = subst (Names _) c.in-New.is c.requires in named.hold_is.to

pub returns-in-Edit-clause-meets : goal.returns-in-Edit-clause-meets
returns-in-Edit-clause-meets g c =
    let old = all_objects (g.S.Source.seen c.args.input.now) (g.O.Out.seen c.args.output.now) (g.N.Out.seen c.args.notes.now) (g.H.Disk.seen c.args.home.now)
    (g.G.Disk.seen c.args.guest.now) (g.W.Wire.seen c.args.wire.now) (g.D.Dock.seen c.args.dock.now) in
    obeyed g.S.Source.seen g.O.Out.seen g.N.Out.seen g.H.Disk.seen g.G.Disk.seen g.W.Wire.seen g.D.Dock.seen
    (map string_bytes c.args.words.now) old c.in-Edit.is refl refl refl refl refl refl refl refl (record {
      others = refl;
      does = c.save_given.ensures.saves.1;
      leaves = c.save_given.ensures.leaves;
      unused = λ specified why refuses. ap (λ x. record old { streams = record old.streams { input = g.S.Source.seen x } }) (c.save_given.ensures.unused specified why refuses);
    })

pub returns-in-Take-clause-meets : goal.returns-in-Take-clause-meets
returns-in-Take-clause-meets g c =
    let old = all_objects (g.S.Source.seen c.args.input.now) (g.O.Out.seen c.args.output.now) (g.N.Out.seen c.args.notes.now) (g.H.Disk.seen c.args.home.now)
    (g.G.Disk.seen c.args.guest.now) (g.W.Wire.seen c.args.wire.now) (g.D.Dock.seen c.args.dock.now) in
    obeyed g.S.Source.seen g.O.Out.seen g.N.Out.seen g.H.Disk.seen g.G.Disk.seen g.W.Wire.seen g.D.Dock.seen
    (map string_bytes c.args.words.now) old c.in-Take.is refl refl refl refl refl refl refl refl (record {
      others = refl;
      does = c.save_given-in-Take.ensures.saves.1;
      leaves = c.save_given-in-Take.ensures.leaves;
      unused = λ specified why refuses. ap (λ x. record old { streams = record old.streams { input = g.S.Source.seen x } })
          (c.save_given-in-Take.ensures.unused specified why refuses);
    })

pub returns-in-Merge-clause-meets : goal.returns-in-Merge-clause-meets
returns-in-Merge-clause-meets g c =
    let old = all_objects (g.S.Source.seen c.args.input.now) (g.O.Out.seen c.args.output.now) (g.N.Out.seen c.args.notes.now) (g.H.Disk.seen c.args.home.now)
    (g.G.Disk.seen c.args.guest.now) (g.W.Wire.seen c.args.wire.now) (g.D.Dock.seen c.args.dock.now) in
    obeyed g.S.Source.seen g.O.Out.seen g.N.Out.seen g.H.Disk.seen g.G.Disk.seen g.W.Wire.seen g.D.Dock.seen
    (map string_bytes c.args.words.now) old c.in-Merge.is refl refl refl refl refl refl refl refl (record {
      others = refl;
      does = c.save_given-in-Merge.ensures.saves.1;
      leaves = c.save_given-in-Merge.ensures.leaves;
      unused = λ specified why refuses. ap (λ x. record old { guest = g.G.Disk.seen x }) (c.save_given-in-Merge.ensures.unused specified why refuses);
    })

pub returns-in-Sync-clause-meets : goal.returns-in-Sync-clause-meets
returns-in-Sync-clause-meets g c =
    let old = all_objects (g.S.Source.seen c.args.input.now) (g.O.Out.seen c.args.output.now) (g.N.Out.seen c.args.notes.now) (g.H.Disk.seen c.args.home.now)
    (g.G.Disk.seen c.args.guest.now) (g.W.Wire.seen c.args.wire.now) (g.D.Dock.seen c.args.dock.now) in
    obeyed g.S.Source.seen g.O.Out.seen g.N.Out.seen g.H.Disk.seen g.G.Disk.seen g.W.Wire.seen g.D.Dock.seen
    (map string_bytes c.args.words.now) old c.in-Sync.is refl refl refl refl refl refl refl refl (record {
      others = refl;
      does = c.save_given-in-Sync.ensures.saves.1;
      leaves = c.save_given-in-Sync.ensures.leaves;
      unused = λ specified why refuses. ap (λ x. record old { wire = g.W.Wire.seen x }) (c.save_given-in-Sync.ensures.unused specified why refuses);
    })

pub returns-in-Revise-clause-meets : goal.returns-in-Revise-clause-meets
returns-in-Revise-clause-meets g c =
    let old = all_objects (g.S.Source.seen c.args.input.now) (g.O.Out.seen c.args.output.now) (g.N.Out.seen c.args.notes.now) (g.H.Disk.seen c.args.home.now)
    (g.G.Disk.seen c.args.guest.now) (g.W.Wire.seen c.args.wire.now) (g.D.Dock.seen c.args.dock.now) in
    obeyed g.S.Source.seen g.O.Out.seen g.N.Out.seen g.H.Disk.seen g.G.Disk.seen g.W.Wire.seen g.D.Dock.seen
    (map string_bytes c.args.words.now) old c.in-Revise.is refl refl refl refl refl refl refl refl (
      c.revise_file.ensures.saves.0,
      record {
        others = refl;
        does = c.revise_file.ensures.saves.1;
        leaves = (c.revise_file.ensures.looks, c.revise_file.ensures.reads);
        unused = λ specified why refuses. let same =
            c.revise_file.ensures.unused specified why refuses in λ i. record old { streams = record old.streams { input = same.0 i }; guest = same.1 i };
      },
    )

pub returns-in-ReviseSince-clause-meets : goal.returns-in-ReviseSince-clause-meets
returns-in-ReviseSince-clause-meets g c =
    let old = all_objects (g.S.Source.seen c.args.input.now) (g.O.Out.seen c.args.output.now) (g.N.Out.seen c.args.notes.now) (g.H.Disk.seen c.args.home.now)
    (g.G.Disk.seen c.args.guest.now) (g.W.Wire.seen c.args.wire.now) (g.D.Dock.seen c.args.dock.now) in
    obeyed g.S.Source.seen g.O.Out.seen g.N.Out.seen g.H.Disk.seen g.G.Disk.seen g.W.Wire.seen g.D.Dock.seen
    (map string_bytes c.args.words.now) old c.in-ReviseSince.is refl refl refl refl refl refl refl refl (
      c.revise_file_since.ensures.saves.0,
      record {
        others = refl;
        does = c.revise_file_since.ensures.saves.1;
        leaves = (c.revise_file_since.ensures.looks, c.revise_file_since.ensures.reads, c.revise_file_since.ensures.moment);
        unused = λ specified why refuses. let same =
            c.revise_file_since.ensures.unused specified why refuses in λ i. record old { streams = record old.streams { input = same.0 i }; guest = same.1 i };
      },
    )
