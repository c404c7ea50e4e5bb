use Rattle.command_kinds.specs.Changes.{change}
use Rattle.command_kinds.proofs.MergeLemmas.{file_once}
use Rattle.command_kinds.proofs.merge.OtherFileGives.laws.Goals as goal

pub returns-clause-once : goal.returns-clause-once
returns-clause-once g c home before after finding = file_once (change (g.G.Disk.seen before) (g.G.Disk.seen after))
