use Rattle.version_views.proofs.AcceptingLemmas.{next_is, quiet_settled}
use Rattle.version_views.proofs.accepting.accept.Goals as goal
use Rattle.version_views.proofs.accepting.accept.Goals.{in-Ok, in-Err}

pub deliver-requires : goal.deliver-requires
deliver-requires c = quiet_settled c.args.front.now.held c.requires.quiet

pub returns-clause-ok : goal.returns-clause-ok
returns-clause-ok c =
    elim c.match-deliver.branch [
      | in-Ok w ↦ rw w.result-is (next_is c.args.front.now c.deliver.new.self c.args.op c.requires w.in-Ok.ensures.ok)
      | in-Err w ↦ rw w.result-is tt
    ]
