use Rattle.std.proofs.Common.{rules}
use Rattle.relay_sync.proofs.SendingLemmas.{replied_partly}
use Rattle.relay_sync.proofs.serving.answer.Goals as goal

pub returns-in_default-note-clause-partly : goal.returns-in_default-note-clause-partly
returns-in_default-note-clause-partly g c = λ reply is. replied_partly _ _ reply (search rules)
