use Rattle.std.proofs.Common.{[], subst}
use Rattle.std.specs.Prelude.{None, Ok, Some}
use Rattle.fugue_ids.specs.Gathers.{GathersText}
use Rattle.fugue_ids.proofs.GatherLemmas.{gathers_none}
use Rattle.version_views.specs.Views.{version_line}
use Rattle.version_views.proofs.printing.put_version.Goals as goal

pub returns-in-None : goal.returns-in-None
returns-in-None g c =
    subst (λ o. GathersText {T = Unit {0}} (g.O.Out.seen c.args.output.now) (g.O.Out.seen c.args.output.now) c.args.gather.now c.args.gather.now (Ok tt)
    (elim o [ None ↦ [] | Some name ↦ version_line (record { name = name; count = c.args.count }) ])) c.in-None.ensures (gathers_none tt _ _)
