use Rattle.command_kinds.specs.Changes.{change}
use Rattle.command_kinds.proofs.EditLemmas.{script_once}
use Rattle.command_kinds.proofs.edit.ScriptGives.laws.Goals as goal

pub returns-clause-once : goal.returns-clause-once
returns-clause-once g c home before after finding = script_once (change (g.S.Source.seen before) (g.S.Source.seen after))
