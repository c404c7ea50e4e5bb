use Rattle.std.proofs.Common.{subst}
use Rattle.std.specs.Prelude.{Ok}
use Rattle.fugue_ids.specs.Gathers.{GathersText}
use Rattle.fugue_ids.proofs.GatherLemmas.{flush_writes}
use Rattle.change_marks.specs.Authors.{authors_text}
use Rattle.change_marks.proofs.authors.write_sections.Goals as goal

pub returns : goal.returns
returns g c =
    let text = authors_text c.args.now.now in
    flush_writes {T = Unit {0}} {S = Unit {0}} tt c.flush.result _ _ _ _ text
    (subst (λ w. GathersText {T = Unit {0}} (g.O.Out.seen c.args.output.now) (g.O.Out.seen c.put_sections.new.output) w c.put_sections.new.gather (Ok tt) text)
    c.new-gather.ensures c.in_ok-put_sections.ensures)
    c.flush.ensures.text
