use Rattle.std.proofs.Common.{◌≡◌, ap, inr, refl}
use Rattle.std.specs.Prelude.{Err}
use Rattle.outer_ports.proofs.CountLemmas.{count_so}
use Rattle.command_kinds.specs.declared.refusal.Refusal.TheVariants.{Outside}
use Rattle.manuscript_cli.proofs.check.check_held.Goals as goal

pub returns-in-Err : goal.returns-in-Err
returns-in-Err g c =
    inr (record {
      why = c.in-Err.why;
      cause = c.in-Err.ensures.none;
      count = count_so _ (c.in-Err.why ≡ Outside) c.in-Err.ensures.count (λ is. ap Err is) (λ e. cc e);
      wrote = refl;
      noted = c.tell.ensures.reported;
      end_is = c.tell.ensures.status;
    })
