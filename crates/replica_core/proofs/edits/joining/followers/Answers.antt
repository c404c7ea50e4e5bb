use Rattle.replica_core.proofs.DeletingLemmas.{row_goes_on}
use Rattle.replica_core.proofs.edits.joining.followers.Goals as goal

pub row-preserved : goal.row-preserved
row-preserved c =
    row_goes_on c.args.rest.now c.args.first c.row.id-index c.row.count c.row.last c.id-item.result c.row.invariant c.row-test.true c.id-item.is
    (c.is_next.ensures.next c.if-not-is_next.false) (c.is_next.ensures.fits c.if-not-is_next.false)
