use Rattle.std.proofs.Common.{List, ap, not, reverse, ◌∙◌}
use Rattle.std.specs.BTreeMap.{get}
use Rattle.fugue_ids.specs.Identifiers.{id_cmp}
use Rattle.fugue_ids.specs.declared.op.Op.{Op}
use Rattle.origin_model.specs.order.Printed.{is_withdrawn}
use Rattle.catalogue_notes.specs.Lift.{retitles}
use Rattle.catalogue_notes.specs.Winning.{winning_candidate}
use Rattle.catalogue_notes.proofs.WinningLemmas.{won_by}
use Rattle.catalogue_notes.proofs.layout.Layout.of.Goals as goal

pub returns-clause-layout : goal.returns-clause-layout
returns-clause-layout c =
    let h : List Op = c.args.replica.now.held.history in
    record {
      arranged = c.in_ok-arrangement.ensures.arranged;
      winners = won_by h (retitles h) c.in_ok-candidates.candidates.items (get id_cmp c.in_ok-winners.winners) c.in_ok-candidates.ensures.retitles
          (λ s. c.in_ok-winners.ensures s ∙ ap (λ z. winning_candidate (λ x. not (is_withdrawn h x)) s (reverse z)) c.deref.ensures.value);
    }
