use Rattle.bulk_world.proofs.TurnLemmas.{letter_text, put_is}
use Rattle.bulk_world.proofs.turn.put.Goals as goal

pub returns-clause-ok : goal.returns-clause-ok
returns-clause-ok c =
    put_is c.args.at _ _ _ _ c.put.result c.unless_memory_wants.result c.unless_memory_wants.ensures
    (letter_text c.args.letter _ c.encode_utf8-text.utf8 c.encode_utf8-text.ensures.value)
    (record { made = c.put.ensures.made; refused = c.put.ensures.refused; unmade = c.put.ensures.unmade })
