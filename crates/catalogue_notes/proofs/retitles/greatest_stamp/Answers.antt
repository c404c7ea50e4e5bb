use Rattle.std.proofs.Common.{ap, arith, sym, ◌∙◌, max}
use Rattle.std.specs.Prelude.{map}
use Rattle.catalogue_notes.specs.Lift.{greatest}
use Rattle.catalogue_notes.specs.declared.reading.Candidate.{Candidate}
use Rattle.replica_core.proofs.WalkLemmas.{passed_more}
use Rattle.catalogue_notes.proofs.retitles.greatest_stamp.Goals as goal

pub candidates-preserved : goal.candidates-preserved
candidates-preserved c =
    let more = passed_more c.args.candidates.now c.candidates.candidate-index c.candidate-item.result (omega (arith, c.candidates-test.true)) c.candidate-item.is in
    c.max-stamp.ensures ∙ ap (max c.candidate-item.result.stamp) c.candidates.invariant ∙ sym (ap (λ z. greatest (map (λ (b : Candidate). b.stamp) z)) more)
