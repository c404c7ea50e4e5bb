use Rattle.std.proofs.Common.{ap, length, subst, sym, List}
use Rattle.fugue_ids.specs.declared.op.Op.{Op}
use Rattle.op_runs.specs.Entries.{IsPartedIn}
use Rattle.op_runs.specs.Parts.{ops_of}
use Rattle.op_runs.proofs.EntryLemmas.{parts_are}
use Rattle.op_runs.proofs.list.OpRuns.entries.Goals as goal

pub returns : goal.returns
returns c =
    subst (λ (z : List Op). IsPartedIn z (length c.as_slice.result.now)) c.self.view_is
    (subst (λ n. IsPartedIn (ops_of c.self.inside.letters.items c.self.inside.others.items c.self.inside.parts.items) n) (ap length (sym c.as_slice.ensures.value))
    (parts_are c.self.inside.letters.items c.self.inside.others.items c.self.inside.parts.items c.self.inside.firsts.items c.self.inside.count c.self.invariant))
