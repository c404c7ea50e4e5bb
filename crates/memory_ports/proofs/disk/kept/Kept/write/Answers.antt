use Rattle.std.proofs.Common.{◌≤◌, ◌<◌, ◌+◌, ◌-◌, [], ◌∷◌, length, max, ap, subst, refl, ◌∙◌, arith, length-append}
use Rattle.outer_ports.specs.disk.States.{DiskState, IsHonest, wrote}
use Rattle.outer_ports.specs.disk.Moments.{History, history_after_step}
use Rattle.memory_ports.specs.disk.Kept.{written_by_all}
use Rattle.memory_ports.specs.declared.disk.kept.Step.TheVariants.{Wrote}
use Rattle.outer_ports.proofs.SharedLemmas.{same_outside, honest_wrote}
use Rattle.memory_ports.proofs.disk.ReplaysLemmas.{written_more, next_past, wrote_is}
use Rattle.memory_ports.proofs.disk.kept.Kept.write.Goals as goal

pub invariant_of-self : goal.invariant_of-self
invariant_of-self c =
    let k = c.self.inside in
    let i = c.self.invariant in
    let some : 0 < c.self.inside.calls = omega (arith, ap (λ v. v.calls) c.self.view_is, c.requires.calls) in
    let inside : c.args.at ≤ length c.self.inside.bytes.items =
    omega (arith, ap (λ v. length v.past.last.seen) c.self.view_is, ap (λ (s : DiskState). length s.seen) c.self.invariant.0, c.requires.inside) in
    let fits : length c.args.bytes.now ≤ c.self.inside.room = omega (arith, ap (λ v. v.room) c.self.view_is, c.requires.room) in
    let is = wrote_is k.fresh k.calls i.3 some k.bytes.items c.overwrite.new.old.items k.base.items c.args.bytes.now k.ranges.items c.add-2.new.old.items k.longest
    c.max-self-inside.result c.args.at
    c.overwrite.ensures.items c.add-2.ensures.items (omega (arith, c.max-self-inside.ensures)) in
    let past = next_past k.fresh k.calls i.3 some k.bytes.items c.overwrite.new.old.items k.first.items k.written.items c.append.new.old.items c.args.bytes.now k.steps.items
    c.add.new.old.items
    (Wrote c.args.at (length c.args.bytes.now)) c.add.ensures.items c.append.ensures.items i.2 refl in
    let long : length c.overwrite.new.old.items ≤ max (length k.bytes.items) (c.args.at + length c.args.bytes.now) =
    omega (arith, ap length c.overwrite.ensures.items, (same_outside c.args.at c.args.bytes.now k.bytes.items inside).no_longer) in (
      ap (λ (h : History). h.last) past ∙ ap (wrote c.args.at c.args.bytes.now) i.0 ∙ is,
      subst IsHonest is (honest_wrote _ c.args.at c.args.bytes.now i.1 inside),
      ap written_by_all c.add.ensures.items ∙ written_more k.steps.items (Wrote c.args.at (length c.args.bytes.now))
          ∙ omega (arith, i.2, ap length c.append.ensures.items, length-append k.written.items c.args.bytes.now),
      λ fresh. omega (arith, i.3 fresh, some),
      omega (arith, long, inside, fits, i.4, c.overwrite.ensures.capacity),
      omega (arith, fits, i.5, ap length c.append.ensures.items, length-append k.written.items c.args.bytes.now, c.append.ensures.capacity),
      λ left. omega (arith, long, inside, fits, i.6 some),
      omega (arith, some, i.7, ap length c.add.ensures.items, length-append k.steps.items (Wrote c.args.at (length c.args.bytes.now) ∷ []), c.add.ensures.capacity),
      omega (arith, some, i.8, ap length c.add-2.ensures.items, length-append k.ranges.items ((c.args.at, length c.args.bytes.now) ∷ []), c.add-2.ensures.capacity),
      omega (arith, i.9, ap (λ (s : DiskState). length s.base) is, c.max-self-inside.ensures),
    )

pub returns : goal.returns
returns c =
    let k = c.self.inside in
    let i = c.self.invariant in
    let some : 0 < c.self.inside.calls = omega (arith, ap (λ v. v.calls) c.self.view_is, c.requires.calls) in
    let past = next_past k.fresh k.calls i.3 some k.bytes.items c.overwrite.new.old.items k.first.items k.written.items c.append.new.old.items c.args.bytes.now k.steps.items
    c.add.new.old.items
    (Wrote c.args.at (length c.args.bytes.now)) c.add.ensures.items c.append.ensures.items i.2 refl in
    λ j. record {
      past = (past ∙ ap (λ v. history_after_step (wrote c.args.at c.args.bytes.now) v.past) c.self.view_is) j;
      room = ap (λ v. v.room - length c.args.bytes.now) c.self.view_is j;
      calls = ap (λ v. v.calls - 1) c.self.view_is j;
    }
