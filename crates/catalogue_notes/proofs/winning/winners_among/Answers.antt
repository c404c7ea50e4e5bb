use Rattle.std.proofs.Common.{Bool, List, ap, arith, not, reverse, sym, take, ◌∙◌}
use Rattle.std.specs.BTreeMap.{get}
use Rattle.fugue_ids.specs.Identifiers.{Identifier, id_cmp}
use Rattle.origin_model.specs.order.Printed.{is_withdrawn}
use Rattle.catalogue_notes.specs.Winning.{winning_candidate}
use Rattle.catalogue_notes.specs.declared.reading.Candidate.{Candidate}
use Rattle.replica_core.proofs.WalkLemmas.{passed_more}
use Rattle.catalogue_notes.proofs.WinningLemmas.{candidate_passed, candidate_taken}
use Rattle.catalogue_notes.proofs.winning.winners_among.Goals as goal
use Rattle.catalogue_notes.proofs.winning.winners_among.Goals.{then-not-is_withdrawn+in_ok-take_candidate, else-not-is_withdrawn}

pub notes-preserved : goal.notes-preserved
notes-preserved c =
    let is_live : Identifier → Bool = λ x. not (is_withdrawn c.args.replica.now.held.history x) in
    let candidates : List Candidate = c.args.candidates.now in
    let passed : List Candidate = reverse (take c.notes.candidate-index candidates) in
    let more = passed_more candidates c.notes.candidate-index c.candidate-item.result (omega (arith, c.notes-test.true)) c.candidate-item.is in
    elim c.if-not-is_withdrawn.branch [
      | then-not-is_withdrawn+in_ok-take_candidate w ↦ λ s.
          ap (λ z. get id_cmp z s) w.winners-is
          ∙ candidate_taken is_live c.candidate-item.result passed (get id_cmp c.notes.winners) (get id_cmp w.take_candidate.new.winners) c.notes.invariant
          (ap not (sym c.is_withdrawn.ensures.withdrawn ∙ w.if-not-is_withdrawn.true)) w.in_ok-take_candidate.ensures.ok s
          ∙ ap (winning_candidate is_live s) (sym more)
      | else-not-is_withdrawn w ↦ λ s.
          ap (λ z. get id_cmp z s) w.winners-is
          ∙ c.notes.invariant s
          ∙ candidate_passed is_live c.candidate-item.result passed s (ap not (sym c.is_withdrawn.ensures.withdrawn ∙ w.if-not-is_withdrawn.false))
          ∙ ap (winning_candidate is_live s) (sym more)
    ]
