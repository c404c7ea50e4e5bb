use Rattle.std.proofs.Common.{ap, inr, sym, ◌∙◌, ◌≡◌}
use Rattle.std.specs.Prelude.{Some}
use Rattle.fugue_ids.specs.Ops.{id_of}
use Rattle.replica_core.proofs.IndexLemmas.{forgot_none, forgot_own, last_own}
use Rattle.stretch_map.proofs.ResultLemmas.{ok_gives}
use Rattle.replica_core.proofs.index.Index.remove.Goals as goal

pub returns-in-Some-clause-found : goal.returns-in-Some-clause-found
returns-in-Some-clause-found c h old ready =
    let op = c.args.op.now in
    let id = c.in-Some.id in
    let positions = c.args.self.now.positions.values in
    let own : id_of op ≡ Some id = sym c.id.ensures ∙ c.in-Some.is in
    let sure = c.remove-sure.ensures.sure (inr (last_own op id h positions own old)) in
    forgot_own op h positions c.remove-sure.new.self.values id own (ap (λ m. m.values) (ok_gives _ c.remove-sure.result sure c.remove-sure.ensures.ok)) old ready

pub returns-in_default-clause-found : goal.returns-in_default-clause-found
returns-in_default-clause-found c h old ready = forgot_none c.args.op.now h c.args.self.now.positions.values (sym c.id.ensures ∙ c.in_default.is) old
