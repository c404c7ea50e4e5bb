use Rattle.relay_sync.proofs.WholeLemmas.{parts_joined}
use Rattle.relay_sync.proofs.law.parts_count_as_joined.Goals as goal

pub returns : goal.returns
returns c = record { same = parts_joined }
