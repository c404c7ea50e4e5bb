use Rattle.std.proofs.Common.{not, reverse, take, ◌≡◌}
use Rattle.std.specs.BTreeMap.{get}
use Rattle.fugue_ids.specs.Identifiers.{Identifier, id_cmp}
use Rattle.origin_model.specs.order.Printed.{is_withdrawn}
use Rattle.catalogue_notes.specs.Winning.{winning_candidate}
use Rattle.catalogue_notes.proofs.winning.winners_among.Given as goal

abbrev pub invariant-notes : goal.invariant-notes
invariant-notes l = (s : Identifier)
    → get id_cmp l.winners s ≡ winning_candidate (λ x. not (is_withdrawn l.replica.held.history x)) s (reverse (take l.candidate-index l.candidates))
