use Rattle.command_kinds.specs.Changes.{change}
use Rattle.command_kinds.proofs.TakeLemmas.{stream_once}
use Rattle.command_kinds.proofs.take.StreamGives.laws.Goals as goal

pub returns-clause-once : goal.returns-clause-once
returns-clause-once g c home before after finding = stream_once (change (g.S.Source.seen before) (g.S.Source.seen after))
