use Rattle.std.specs.Str.{encode_utf8_all}
use Rattle.std.proofs.lemmas.Result.{err_from_is_err_and}
use Rattle.fugue_ids.proofs.GatherLemmas.{gathers_join, gathers_stop}
use Rattle.change_marks.specs.Marks.{letter_of}
use Rattle.change_marks.specs.Steps.{turn_of_run}
use Rattle.change_marks.proofs.marking.put_marked.Goals as goal

pub returns-in_err-put_turn : goal.returns-in_err-put_turn
returns-in_err-put_turn g c =
    let p = err_from_is_err_and c.from_residual.result c.from_residual.ensures.1 in
    rw p.1 (gathers_stop {T = Unit {0}} {S = Unit {0}} _ _ _ _ (turn_of_run c.args.begun c.args.mark)
    (encode_utf8_all (letter_of c.args.replica.now.held.history c.args.id)) c.in_err-put_turn.ensures)

pub returns : goal.returns
returns g c =
    gathers_join {T = Unit {0}} {S = Unit {0}} tt c.put_letter.result _ _ _ _ _ _ (turn_of_run c.args.begun c.args.mark)
    (encode_utf8_all (letter_of c.args.replica.now.held.history c.args.id)) c.in_ok-put_turn.ensures c.put_letter.ensures
