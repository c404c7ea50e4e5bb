use Rattle.origin_model.specs.edits.Edits.{Cut}
use Rattle.bulk_world.proofs.TurnLemmas.{turn_is}
use Rattle.bulk_world.proofs.turn.cut.Goals as goal

pub returns-clause-ok : goal.returns-clause-ok
returns-clause-ok c =
    turn_is (Cut 0 c.args.at 1) _ _ c.cut.result c.unless_memory_wants.result c.unless_memory_wants.ensures
    (record { made = c.cut.ensures.made; refused = c.cut.ensures.refused; unmade = c.cut.ensures.unmade })
