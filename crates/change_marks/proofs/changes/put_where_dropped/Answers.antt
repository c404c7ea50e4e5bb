use Rattle.change_marks.proofs.LaterLemmas.{arranged_held, arranged_later}
use Rattle.change_marks.proofs.changes.put_where_dropped.Goals as goal

pub put_dropped-requires-clause-section : goal.put_dropped-requires-clause-section
put_dropped-requires-clause-section g c =
    arranged_held c.args.then.now c.args.now.now c.args.section c.replica.ensures c.is_withdrawn.ensures.sound.lawful c.requires.later c.requires.arranged

pub put_dropped-requires-clause-listed : goal.put_dropped-requires-clause-listed
put_dropped-requires-clause-listed g c =
    arranged_later c.args.then.now c.args.now.now c.args.section c.replica.ensures c.is_withdrawn.ensures.sound.lawful c.requires.later c.requires.arranged
