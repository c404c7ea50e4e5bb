use Rattle.std.proofs.Common.{length}
use Rattle.order_proof.proofs.ReadingLemmas.{IsReadTo}
use Rattle.order_proof.proofs.text_parts.read_ids.Given as goal

abbrev pub invariant-ids : goal.invariant-ids
invariant-ids l = IsReadTo l.text l.ids.items l.words.rest.now

abbrev pub decreases-ids : goal.decreases-ids
decreases-ids l = length l.words.rest.now
