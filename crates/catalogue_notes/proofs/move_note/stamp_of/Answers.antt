use Rattle.std.proofs.Common.{List, ℕ, ap, max, reverse, ◌∙◌}
use Rattle.std.specs.Prelude.{map}
use Rattle.fugue_ids.specs.declared.op.Op.{Op}
use Rattle.catalogue_notes.specs.Lift.{greatest, moves, retitles}
use Rattle.catalogue_notes.specs.declared.reading.Candidate.{Candidate}
use Rattle.catalogue_notes.proofs.RetitledLemmas.{candidate_stamps}
use Rattle.catalogue_notes.proofs.move_note.stamp_of.Goals as goal

pub returns : goal.returns
returns c =
    let h : List Op = c.args.replica.now.held.history in
    let top : List Candidate → ℕ = λ (z : List Candidate). greatest (map (λ (b : Candidate). b.stamp) z) in
    c.max.ensures
    ∙ (λ i. max
    ((c.greatest_stamp-moved.ensures ∙ ap (λ z. top (reverse z)) c.deref.ensures.value ∙ ap top c.requires.lifted.lifting.candidates_are
    ∙ ap greatest (candidate_stamps (moves h))) i)
    ((c.greatest_stamp.ensures ∙ ap (λ z. top (reverse z)) c.deref-2.ensures.value ∙ ap top c.in_ok-retitles.ensures.retitles ∙ ap greatest (candidate_stamps (retitles h))) i))
