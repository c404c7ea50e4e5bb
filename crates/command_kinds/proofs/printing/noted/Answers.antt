use Rattle.std.proofs.Common.{subst}
use Rattle.fugue_ids.specs.Outs.{WritesBytes}
use Rattle.command_kinds.proofs.TextLemmas.{not_noted}
use Rattle.command_kinds.proofs.printing.noted.Goals as goal

pub returns-in-Err-clause-meets : goal.returns-in-Err-clause-meets
returns-in-Err-clause-meets g c before line wrote short =
    not_noted _ _ _ _ _ _ _ (subst (λ w. WritesBytes before (g.N.Out.seen c.args.notes.now) w line) c.in-Err.is wrote) short c.tell.ensures.reported c.tell.ensures.status
