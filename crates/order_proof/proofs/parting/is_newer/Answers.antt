use Rattle.std.proofs.Common.{subst, sym, ◌<◌, suc, length}
use Rattle.std.proofs.lemmas.Bool.{ltb-true}
use Rattle.order_proof.specs.Parting.{age}
use Rattle.order_proof.specs.Positions.{history_at}
use Rattle.op_runs.specs.Finding.{op_of}
use Rattle.order_proof.proofs.WayLemmas.{newer_age}
use Rattle.order_proof.proofs.parting.is_newer.Goals as goal

pub returns-in-Some-find-clause-newer : goal.returns-in-Some-find-clause-newer
returns-in-Some-find-clause-newer g c = λ later.
    let ops = g.P.Positions.operations c.args.held.now in
    subst (λ o. suc (length (history_at ops c.args.at)) < age (history_at ops c.args.below) o) (sym c.in-Some.is)
    (newer_age ops c.args.below c.args.at c.in-Some-find.place c.in-Some.rival (op_of c.in-Some-find.field-0-1) c.in-Some-find.ensures.some
    (ltb-true c.args.at c.in-Some-find.place later))
