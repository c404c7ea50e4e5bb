-- What `revise` with a number does to a file is a revision and then a merge.
use Rattle.std.proofs.Common.{List, inl, refl, ℕ}
use Rattle.fugue_ids.specs.declared.limits.TheConstants.{MOST_OPERATIONS}
use Rattle.origin_model.specs.edits.State.{State as Replica}
use Rattle.replica_file.specs.Load.{Loads}
use Rattle.command_kinds.proofs.ActLemmas.{did_all}
use Rattle.command_kinds.specs.Saving.{saving}
use Rattle.kept_promises.specs.Revisions.{RevisingSinceIsReviseThenMerge}
use Rattle.kept_promises.proofs.KeepingLemmas.{holds_reported, loaded_few, loaded_lawful, loaded_settled}
use Rattle.kept_promises.proofs.RevisedLemmas.{since_is}

pub revising_since_is_revise_then_merge : RevisingSinceIsReviseThenMerge
revising_since_is_revise_then_merge words n old new meets specified =
    let finished = did_all (saving _ _) _ _ meets.1.does.performs (inl refl) in
    let done = finished.1.0 in
    let was : Replica = done.replica in
    let bytes : List ℕ = specified.0.last.seen in
    let loads : Loads MOST_OPERATIONS bytes was done.end = holds_reported old.home specified.0 was done.end specified.1 done.holds in (
      was,
      record was { held = finished.0.held },
      done.end,
      done.later.0,
      done.holds,
      done.later.1,
      meets.0,
      since_is n old.guest old.streams.input meets.0 was finished.0 (loaded_lawful was bytes done.end loads) (loaded_settled was bytes done.end loads)
          (loaded_few was bytes done.end loads) done.gives,
    )
