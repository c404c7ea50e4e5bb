use Rattle.std.proofs.Common.{◌<◌, ◌-◌, [], ◌∷◌, length, ap, sym, subst, refl, ◌∙◌, arith, length-append}
use Rattle.std.proofs.lemmas.List.{append-nil}
use Rattle.outer_ports.specs.disk.States.{DiskState, IsHonest, tried_state}
use Rattle.outer_ports.specs.disk.Moments.{History, history_after_step}
use Rattle.memory_ports.specs.disk.Kept.{written_by_all}
use Rattle.memory_ports.specs.declared.disk.kept.Step.TheVariants.{Tried}
use Rattle.outer_ports.proofs.SharedLemmas.{honest_tried}
use Rattle.memory_ports.proofs.disk.ReplaysLemmas.{written_more, next_past, tried_is}
use Rattle.memory_ports.proofs.disk.kept.Kept.tear.Goals as goal

pub invariant_of-self : goal.invariant_of-self
invariant_of-self c =
    let k = c.self.inside in
    let i = c.self.invariant in
    let some : 0 < c.self.inside.calls = omega (arith, ap (λ v. v.calls) c.self.view_is, c.requires.calls) in
    let is = tried_is k.fresh k.calls i.3 some k.bytes.items k.base.items k.ranges.items c.add-2.new.old.items k.longest c.max-self-inside.result c.args.at c.args.count
    c.add-2.ensures.items (omega (arith, c.max-self-inside.ensures)) in
    let past = next_past k.fresh k.calls i.3 some k.bytes.items k.bytes.items k.first.items k.written.items k.written.items [] k.steps.items c.add.new.old.items
    (Tried c.args.at c.args.count) c.add.ensures.items (sym (append-nil k.written.items)) i.2 refl in (
      ap (λ (h : History). h.last) past ∙ ap (tried_state c.args.at c.args.count) i.0 ∙ is,
      subst IsHonest is (honest_tried _ c.args.at c.args.count i.1),
      ap written_by_all c.add.ensures.items ∙ written_more k.steps.items (Tried c.args.at c.args.count) ∙ omega (arith, i.2),
      λ fresh. omega (arith, i.3 fresh, some),
      i.4,
      i.5,
      λ left. i.6 some,
      omega (arith, some, i.7, ap length c.add.ensures.items, length-append k.steps.items (Tried c.args.at c.args.count ∷ []), c.add.ensures.capacity),
      omega (arith, some, i.8, ap length c.add-2.ensures.items, length-append k.ranges.items ((c.args.at, c.args.count) ∷ []), c.add-2.ensures.capacity),
      omega (arith, i.9, ap (λ (s : DiskState). length s.base) is, c.max-self-inside.ensures),
    )

pub returns : goal.returns
returns c =
    let i = c.self.invariant in
    let k = c.self.inside in
    let some : 0 < c.self.inside.calls = omega (arith, ap (λ v. v.calls) c.self.view_is, c.requires.calls) in
    let past = next_past k.fresh k.calls i.3 some k.bytes.items k.bytes.items k.first.items k.written.items k.written.items [] k.steps.items c.add.new.old.items
    (Tried c.args.at c.args.count) c.add.ensures.items (sym (append-nil k.written.items)) i.2 refl in
    λ j. record {
      past = (past ∙ ap (λ v. history_after_step (tried_state c.args.at c.args.count) v.past) c.self.view_is) j;
      room = ap (λ v. v.room) c.self.view_is j;
      calls = ap (λ v. v.calls - 1) c.self.view_is j;
    }
