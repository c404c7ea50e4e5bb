use Rattle.std.proofs.Common.{◌≡◌, ◌<◌, ◌-◌, [], ◌∷◌, ◌++◌, ℕ, List, length, ap, sym, subst, refl, ◌∙◌, arith, length-append}
use Rattle.std.proofs.lemmas.List.{append-nil}
use Rattle.outer_ports.specs.disk.States.{DiskState, IsHonest, durable}
use Rattle.outer_ports.specs.disk.Moments.{History, history_after_step}
use Rattle.memory_ports.specs.disk.Kept.{written_by_all}
use Rattle.memory_ports.specs.declared.disk.kept.Step.TheVariants.{Synced}
use Rattle.outer_ports.proofs.SharedLemmas.{honest_at_rest}
use Rattle.memory_ports.proofs.disk.ReplaysLemmas.{written_more, next_past, settled_is}
use Rattle.memory_ports.proofs.disk.kept.Kept.make_durable.Goals as goal

pub invariant_of-self : goal.invariant_of-self
invariant_of-self c =
    let k = c.self.inside in
    let i = c.self.invariant in
    let some : 0 < c.self.inside.calls = omega (arith, ap (λ v. v.calls) c.self.view_is, c.requires.calls) in
    let base : c.append.new.old.items ≡ k.bytes.items = c.append.ensures.items ∙ ap (λ (l : List ℕ). l ++ c.deref.result.now) c.clear.ensures.items ∙ c.deref.ensures.value in
    let is = settled_is k.fresh k.calls i.3 some k.bytes.items k.base.items c.append.new.old.items k.ranges.items c.clear-2.new.self.items k.longest c.len.result
    base c.clear-2.ensures.items (omega arith) in
    let past = next_past k.fresh k.calls i.3 some k.bytes.items k.bytes.items k.first.items k.written.items k.written.items [] k.steps.items c.add.new.old.items
    Synced c.add.ensures.items (sym (append-nil k.written.items)) i.2 refl in (
      ap (λ (h : History). h.last) past ∙ ap durable i.0 ∙ is,
      subst IsHonest is (honest_at_rest k.bytes.items),
      ap written_by_all c.add.ensures.items ∙ written_more k.steps.items Synced ∙ omega (arith, i.2),
      λ fresh. omega (arith, i.3 fresh, some),
      i.4,
      i.5,
      λ left. omega (arith, i.6 some, c.clear.ensures.capacity, c.append.ensures.capacity),
      omega (arith, some, i.7, ap length c.add.ensures.items, length-append k.steps.items (Synced ∷ []), c.add.ensures.capacity),
      omega (arith, some, i.8, ap length c.clear-2.ensures.items, c.clear-2.ensures.capacity),
      omega (arith, ap (λ (s : DiskState). length s.base) is),
    )

pub returns-clause-stepped : goal.returns-clause-stepped
returns-clause-stepped c =
    let k = c.self.inside in
    let i = c.self.invariant in
    let some : 0 < c.self.inside.calls = omega (arith, ap (λ v. v.calls) c.self.view_is, c.requires.calls) in
    let past = next_past k.fresh k.calls i.3 some k.bytes.items k.bytes.items k.first.items k.written.items k.written.items [] k.steps.items c.add.new.old.items
    Synced c.add.ensures.items (sym (append-nil k.written.items)) i.2 refl in
    λ j. record {
      past = (past ∙ ap (λ v. history_after_step durable v.past) c.self.view_is) j;
      room = ap (λ v. v.room) c.self.view_is j;
      calls = ap (λ v. v.calls - 1) c.self.view_is j;
    }
