use Rattle.relay_sync.proofs.HeardLemmas.{reply_heard, reply_same, reply_up_to}
use Rattle.relay_sync.proofs.OutcomeLemmas.{reply_comes_once, reply_comes_some}
use Rattle.relay_sync.proofs.law.replies_come_once.Goals as goal

pub returns : goal.returns
returns c = record { one = reply_comes_once; some = reply_comes_some; heard = reply_heard; up_to = reply_up_to; same = reply_same }
