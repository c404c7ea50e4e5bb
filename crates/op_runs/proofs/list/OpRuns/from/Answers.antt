use Rattle.std.proofs.Common.{length, subst, sym, List, ℕ}
use Rattle.std.specs.Prelude.{All}
use Rattle.fugue_ids.specs.declared.op.Op.{Op}
use Rattle.op_runs.specs.Parts.{IsSoundPart}
use Rattle.op_runs.specs.declared.part.Part.{Part}
use Rattle.op_runs.proofs.PartLemmas.{sound_of}
use Rattle.op_runs.proofs.list.OpRuns.from.Goals as goal

pub slice_at-requires-clause-sound : goal.slice_at-requires-clause-sound
slice_at-requires-clause-sound c =
    subst (λ (ps : List Part). All (IsSoundPart (length c.deref-3.result.now) (length c.deref-4.result.now)) ps) (sym c.deref.ensures.value)
    (subst (λ (l : List ℕ). All (IsSoundPart (length l) (length c.deref-4.result.now)) c.self.inside.parts.items) (sym c.deref-3.ensures.value)
    (subst (λ (o : List Op). All (IsSoundPart (length c.self.inside.letters.items) (length o)) c.self.inside.parts.items) (sym c.deref-4.ensures.value)
    (sound_of c.self.inside.letters.items c.self.inside.others.items c.self.inside.parts.items c.self.inside.firsts.items c.self.inside.count c.self.invariant)))
