use Rattle.relay_sync.proofs.TwoEndsLemmas.{replies_are_read, requests_are_answered}
use Rattle.relay_sync.proofs.law.both_ends_fit.Goals as goal

pub returns-clause-replies : goal.returns-clause-replies
returns-clause-replies c = replies_are_read

pub returns-clause-requests : goal.returns-clause-requests
returns-clause-requests c = requests_are_answered
