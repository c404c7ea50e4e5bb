use Rattle.command_kinds.specs.Changes.{change}
use Rattle.command_kinds.proofs.SyncLemmas.{reply_once}
use Rattle.command_kinds.proofs.sync_file.ReplyGives.laws.Goals as goal

pub returns-clause-once : goal.returns-clause-once
returns-clause-once g c home before after finding = reply_once c.args.self.now.cursor home (change (g.W.Wire.seen before) (g.W.Wire.seen after))
