use Rattle.std.proofs.Common.{◌<◌, ◌∙◌, ◌+◌, ◌≤◌, ◌^◌, ◌-◌, ap, arith, drop, length, subst, sym, take}
use Rattle.fugue_ids.specs.Runs.{run_from}
use Rattle.op_runs.specs.Deletions.{CountersFit, deletes_by}
use Rattle.fugue_ids.specs.declared.run.RunStart.{RunStart}
use Rattle.op_runs.specs.Parts.{IsSoundPart, part_len, part_ops}
use Rattle.op_runs.specs.declared.part.Part.{Part}
use Rattle.op_runs.specs.declared.part.Part.TheVariants.{Deleted, Other, Typed}
use Rattle.op_runs.proofs.SliceLemmas.{deletes_after, deletes_counters, other_after, run_counters, typed_after}
use Rattle.op_runs.proofs.slice.stretch_of.Goals as goal

pub returns-in-Typed-clause-ops : goal.returns-in-Typed-clause-ops
returns-in-Typed-clause-ops c =
    let r = c.in-Typed.run' in
    let s : IsSoundPart (length c.args.letters.now) (length c.args.others.now) (Typed r) =
    subst (IsSoundPart (length c.args.letters.now) (length c.args.others.now)) c.in-Typed.is c.requires.sound in
    let o : c.args.skip < part_len (Typed r) = subst (λ (p : Part). c.args.skip < part_len p) c.in-Typed.is c.requires.inside in
    ap (λ z. run_from z (take (r.at + r.count - (r.at + c.args.skip)) (drop (r.at + c.args.skip) c.args.letters.now))) c.nth.ensures
    ∙ typed_after c.args.letters.now r c.args.skip s.1 o
    ∙ ap (λ (p : Part). drop c.args.skip (part_ops c.args.letters.now c.args.others.now p)) (sym c.in-Typed.is)

pub returns-in-Deleted-clause-ops : goal.returns-in-Deleted-clause-ops
returns-in-Deleted-clause-ops c =
    let d = c.in-Deleted.deletes in
    let o : c.args.skip < part_len (Deleted d) = subst (λ (p : Part). c.args.skip < part_len p) c.in-Deleted.is c.requires.inside in
    ap (λ t. deletes_by d.down t (d.count - c.args.skip)) c.nth-in-Deleted.ensures
    ∙ deletes_after d.down d.target d.count c.args.skip o
    ∙ ap (λ (p : Part). drop c.args.skip (part_ops c.args.letters.now c.args.others.now p)) (sym c.in-Deleted.is)

pub returns-in-Other-clause-ops : goal.returns-in-Other-clause-ops
returns-in-Other-clause-ops c =
    let s : IsSoundPart (length c.args.letters.now) (length c.args.others.now) (Other c.in-Other.place) =
    subst (IsSoundPart (length c.args.letters.now) (length c.args.others.now)) c.in-Other.is c.requires.sound in
    let o : c.args.skip < part_len (Other c.in-Other.place) = subst (λ (p : Part). c.args.skip < part_len p) c.in-Other.is c.requires.inside in
    other_after c.args.others.now c.in-Other.place c.args.skip c.index-others-place.result s.1 o c.index-others-place.is
    ∙ ap (λ (p : Part). drop c.args.skip (part_ops c.args.letters.now c.args.others.now p)) (sym c.in-Other.is)

pub returns-in-Typed-clause-counters : goal.returns-in-Typed-clause-counters
returns-in-Typed-clause-counters c =
    let r = c.in-Typed.run' in
    let s : IsSoundPart (length c.args.letters.now) (length c.args.others.now) (Typed r) =
    subst (IsSoundPart (length c.args.letters.now) (length c.args.others.now)) c.in-Typed.is c.requires.sound in
    let o : c.args.skip < part_len (Typed r) = subst (λ (p : Part). c.args.skip < part_len p) c.in-Typed.is c.requires.inside in
    subst (λ (z : RunStart). z.id.counter + length (take (r.at + r.count - (r.at + c.args.skip)) (drop (r.at + c.args.skip) c.args.letters.now)) ≤ 2 ^ 32) (sym c.nth.ensures)
    (run_counters r.start r.at r.count c.args.skip c.args.letters.now s.0.1 o)

pub returns-in-Deleted-clause-counters : goal.returns-in-Deleted-clause-counters
returns-in-Deleted-clause-counters c =
    let d = c.in-Deleted.deletes in
    let s : IsSoundPart (length c.args.letters.now) (length c.args.others.now) (Deleted d) =
    subst (IsSoundPart (length c.args.letters.now) (length c.args.others.now)) c.in-Deleted.is c.requires.sound in
    let o : c.args.skip < part_len (Deleted d) = subst (λ (p : Part). c.args.skip < part_len p) c.in-Deleted.is c.requires.inside in
    (omega (arith, o), subst (λ t. CountersFit d.down t (d.count - c.args.skip)) (sym c.nth-in-Deleted.ensures) (deletes_counters d.down d.target d.count c.args.skip s.0.1 o))

pub returns-in-Other-clause-counters : goal.returns-in-Other-clause-counters
returns-in-Other-clause-counters c = tt
