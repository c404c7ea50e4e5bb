use Rattle.std.proofs.Common.{ap, sym, ◌∙◌}
use Rattle.replica_core.proofs.IndexLemmas.{noted_none, noted_own}
use Rattle.stretch_map.proofs.ResultLemmas.{ok_makes}
use Rattle.replica_core.proofs.index.Index.place.Goals as goal

pub returns-in-Some-clause-ok : goal.returns-in-Some-clause-ok
returns-in-Some-clause-ok c =
    ok_makes _ _ c.insert.result
    (λ put h are same.
    noted_own c.args.op.now h c.args.self.now.positions.values c.insert.new.self.values c.in-Some.id c.args.position (sym c.id.ensures ∙ c.in-Some.is)
    (ap (λ m. m.values) put) are same) c.insert.ensures.ok

pub returns-in-None-clause-ok : goal.returns-in-None-clause-ok
returns-in-None-clause-ok c h are same = noted_none c.args.op.now h c.args.self.now.positions.values (sym c.id.ensures ∙ c.in-None.is) are
