use Rattle.command_kinds.specs.Changes.{change}
use Rattle.manuscript_cli.proofs.RevisingSinceLemmas.{since_once}
use Rattle.manuscript_cli.proofs.revise_since.RevisionSinceGivesDraftSources.laws.Goals as goal

pub returns-clause-once : goal.returns-clause-once
returns-clause-once g c home before after finding =
    since_once c.args.self.now.count (change (g.G.Disk.seen before.base.now) (g.G.Disk.seen after.base.now))
    (change (g.S.Source.seen before.draft.now) (g.S.Source.seen after.draft.now)) finding
