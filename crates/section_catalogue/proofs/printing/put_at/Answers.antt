use Rattle.std.proofs.Common.{subst}
use Rattle.std.specs.Prelude.{Ok}
use Rattle.fugue_ids.specs.Gathers.{GathersText}
use Rattle.fugue_ids.proofs.GatherLemmas.{gathers_none}
use Rattle.section_catalogue.specs.Section.{printed_entry}
use Rattle.section_catalogue.proofs.printing.put_at.Goals as goal

pub returns-in-None : goal.returns-in-None
returns-in-None g c =
    subst (λ o. GathersText {T = Unit {0}} (g.O.Out.seen c.args.output.now) (g.O.Out.seen c.args.output.now) c.args.gather.now c.args.gather.now (Ok tt) (printed_entry o))
    c.in-None.ensures.value (gathers_none tt _ _)
