use Rattle.command_kinds.specs.Changes.{change}
use Rattle.manuscript_cli.proofs.RevisingLemmas.{revision_once}
use Rattle.manuscript_cli.proofs.revise.RevisionGivesDraftSources.laws.Goals as goal

pub returns-clause-once : goal.returns-clause-once
returns-clause-once g c home before after finding =
    revision_once (change (g.G.Disk.seen before.base.now) (g.G.Disk.seen after.base.now)) (change (g.S.Source.seen before.draft.now) (g.S.Source.seen after.draft.now)) finding
