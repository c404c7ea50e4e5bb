use Rattle.std.proofs.Common.{sym, ◌∙◌}
use Rattle.std.proofs.lemmas.Option.{none-some}
use Rattle.std.proofs.Common.{length}
use Rattle.order_proof.proofs.ReadingLemmas.{found_after, parts_found, split_there}
use Rattle.order_proof.proofs.text_parts.split_at_byte.Goals as goal

pub returns-in_err-end-clause-every : goal.returns-in_err-end-clause-every
returns-in_err-end-clause-every c first rest free is =
    absurd (none-some (length first) (c.in_err-end.ensures ∙ found_after c.args.byte c.args.text.now first rest free is))

pub returns-clause-parts : goal.returns-clause-parts
returns-clause-parts c = split_there c.args.byte c.in_ok-end.end c.args.text.now (sym c.in_ok-end.ensures)

pub returns-clause-every : goal.returns-clause-every
returns-clause-every c first rest free is = parts_found c.args.byte c.in_ok-end.end c.args.text.now first rest free is (sym c.in_ok-end.ensures)
