use Rattle.std.proofs.Common.{◌≡◌, inl, inr, ap, sym, refl, arith}
use Rattle.std.specs.Prelude.{Some}
use Rattle.outer_ports.specs.Calls.{CallsView, risen}
use Rattle.outer_ports.proofs.SharedLemmas.{same_tried}
use Rattle.memory_ports.proofs.disk.mem_disk.MemDiskDisk.write_at.Goals as goal

pub returns-in-Err-clause-writes : goal.returns-in-Err-clause-writes
returns-in-Err-clause-writes c =
    let faults : c.begin.new.self.faults ≡ risen c.self.inside.calls.faults = ap (λ (v : CallsView). v.faults) c.in-Err.ensures.failed in
    rw (sym c.self.view_is) (record {
      wrote = tt;
      torn = elim c.tear_if_able.ensures.may [
        | inl same ↦ inl (ap Some same)
        | inr tore ↦ inr (c.self.inside.kept.past.last.seen, ap Some tore, same_tried _ _ _)
      ];
      room = tt;
      same_room = refl;
      unread = record { sizes = refl; reach = refl };
      cause = record { later = c.begin.ensures.later; failed = omega (arith, faults) };
      sure = tt;
      specified_no_fault = λ tells. tt;
    })
