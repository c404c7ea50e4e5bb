use Rattle.std.proofs.Common.{◌≡◌, ◌≤◌, ap, sym, length, subst, ◌∙◌}
use Rattle.outer_ports.specs.disk.States.{DiskState, IsCrashImage, IsHonest}
use Rattle.memory_ports.specs.disk.Picks.{image_picked}
use Rattle.memory_ports.specs.declared.disk.mem_disk.Pick.{Pick}
use Rattle.memory_ports.proofs.disk.PicksLemmas.{picked_image}
use Rattle.memory_ports.proofs.disk.kept.Kept.crash.Goals as goal

image_of : (pick : Pick) (inside shown : DiskState) → inside ≡ shown → IsHonest inside → length inside.base ≤ inside.longest → IsCrashImage shown (image_picked pick shown)
image_of pick inside shown is honest long = subst (λ s. IsCrashImage s (image_picked pick s)) is (picked_image pick inside honest long)

-- what stands in memory is honest, and so is what is seen of it
honest_of : (inside shown : DiskState) → inside ≡ shown → IsHonest inside → IsHonest shown
honest_of inside shown is honest = subst (λ s. IsHonest s) is honest

pub returns-in-Old-clause-image : goal.returns-in-Old-clause-image
returns-in-Old-clause-image c = image_of _ _ _ (sym c.self.invariant.0 ∙ ap (λ v. v.past.last) c.self.view_is) c.self.invariant.1 c.self.invariant.9

pub returns-in-New-clause-image : goal.returns-in-New-clause-image
returns-in-New-clause-image c = image_of _ _ _ (sym c.self.invariant.0 ∙ ap (λ v. v.past.last) c.self.view_is) c.self.invariant.1 c.self.invariant.9

pub returns-in_err-bytes-in-Fill-clause-image : goal.returns-in_err-bytes-in-Fill-clause-image
returns-in_err-bytes-in-Fill-clause-image c = image_of _ _ _ (sym c.self.invariant.0 ∙ ap (λ v. v.past.last) c.self.view_is) c.self.invariant.1 c.self.invariant.9

pub returns-in_ok-bytes-in-Fill-clause-image : goal.returns-in_ok-bytes-in-Fill-clause-image
returns-in_ok-bytes-in-Fill-clause-image c = image_of _ _ _ (sym c.self.invariant.0 ∙ ap (λ v. v.past.last) c.self.view_is) c.self.invariant.1 c.self.invariant.9

pub returns-in-Old-clause-honest : goal.returns-in-Old-clause-honest
returns-in-Old-clause-honest c = honest_of _ _ (sym c.self.invariant.0 ∙ ap (λ v. v.past.last) c.self.view_is) c.self.invariant.1

pub returns-in-New-clause-honest : goal.returns-in-New-clause-honest
returns-in-New-clause-honest c = honest_of _ _ (sym c.self.invariant.0 ∙ ap (λ v. v.past.last) c.self.view_is) c.self.invariant.1

pub returns-in_err-bytes-in-Fill-clause-honest : goal.returns-in_err-bytes-in-Fill-clause-honest
returns-in_err-bytes-in-Fill-clause-honest c = honest_of _ _ (sym c.self.invariant.0 ∙ ap (λ v. v.past.last) c.self.view_is) c.self.invariant.1

pub returns-in_ok-bytes-in-Fill-clause-honest : goal.returns-in_ok-bytes-in-Fill-clause-honest
returns-in_ok-bytes-in-Fill-clause-honest c = honest_of _ _ (sym c.self.invariant.0 ∙ ap (λ v. v.past.last) c.self.view_is) c.self.invariant.1
