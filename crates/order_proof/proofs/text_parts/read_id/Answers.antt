use Rattle.std.proofs.Common.{arith}
use Rattle.std.specs.Prelude.{decimal}
use Rattle.std.proofs.lemmas.Option.{none-some, same_Some}
use Rattle.order_proof.proofs.ReadingLemmas.{id_made}
use Rattle.order_proof.proofs.TextLemmas.{decimal_free}
use Rattle.order_proof.proofs.text_parts.read_id.Goals as goal

pub returns-in_err-replica-clause-every : goal.returns-in_err-replica-clause-every
returns-in_err-replica-clause-every c id p is =
    absurd (c.in_err-replica.ensures.every (decimal id.replica) (decimal id.counter) (decimal_free 46 id.replica (omega arith) p.1.0) is)

pub returns-in_err-read_number-clause-every : goal.returns-in_err-read_number-clause-every
returns-in_err-read_number-clause-every c id p is =
    let parts = c.in_ok-replica.ensures.every (decimal id.replica) (decimal id.counter) (decimal_free 46 id.replica (omega arith) p.1.0) is in
    absurd (none-some id.replica (c.in_err-read_number.ensures.every id.replica p.1.0 parts.0))

pub returns-in_err-read_number-2-clause-every : goal.returns-in_err-read_number-2-clause-every
returns-in_err-read_number-2-clause-every c id p is =
    let parts = c.in_ok-replica.ensures.every (decimal id.replica) (decimal id.counter) (decimal_free 46 id.replica (omega arith) p.1.0) is in
    absurd (none-some id.counter (c.in_err-read_number-2.ensures.every id.counter p.1.1 parts.1))

pub returns-clause-every : goal.returns-clause-every
returns-clause-every c id p is =
    let parts = c.in_ok-replica.ensures.every (decimal id.replica) (decimal id.counter) (decimal_free 46 id.replica (omega arith) p.1.0) is in
    id_made c.new.result c.in_ok-read_number.field-0 c.in_ok-read_number-2.field-0 id c.new.ensures.none c.new.ensures.some
    (same_Some _ _ (c.in_ok-read_number.ensures.every id.replica p.1.0 parts.0)) (same_Some _ _ (c.in_ok-read_number-2.ensures.every id.counter p.1.1 parts.1)) p.0
