-- What follows for every command that performs an act, whatever the act is.
use Rattle.std.proofs.Common.{◌≡◌, ◌≢◌, ℕ, List, inl, inr, refl, ap, sym, subst, ◌∙◌}
use Rattle.std.specs.Prelude.{None, Ok, Option, Err, Result, Some}
use Rattle.fugue_ids.specs.Causes.{Faulted}
use Rattle.fugue_ids.specs.Outs.{OutView}
use Rattle.command_kinds.specs.Acts.{Act, IsDecidedBy, NeverOutside, NotesLine, NotesResult, Performs, SomeFails, ReportsResult, line_found, status_found}
use Rattle.command_kinds.specs.Changes.{Change, HasRoom, OutBlameless, notes_room}
use Rattle.command_kinds.specs.Crashes.{IsFinished}
use Rattle.command_kinds.specs.Findings.{Basis, Does, EitherFails, Finding, IsDecided, Refuses, WhereSpecified}
use Rattle.command_kinds.specs.Refusal.{refusal_line, status_of, Reported}
use Rattle.command_kinds.specs.TextOut.{GoesOut}
use Rattle.command_kinds.specs.declared.refusal.Refusal.{Refusal}
use Rattle.command_kinds.specs.declared.refusal.Refusal.TheVariants as refusal
use Rattle.command_kinds.specs.declared.status.Status.{Status}
use Rattle.command_kinds.specs.declared.status.Status.TheVariants as status
use Rattle.command_kinds.proofs.TextLemmas.{reported_blameless}

-- a refusal is no end at which all was done
pub refusal_unfinished : (why : Refusal) → IsFinished (status_of why) → ⊥
refusal_unfinished refusal.Words done = elim done [ inl is ↦ cc is | inr is ↦ cc is ]
refusal_unfinished why done = elim done [ inl is ↦ cc is | inr is ↦ cc is ]

-- one refusal alone ends with an outside fault
pub outside_alone : (why : Refusal) → status_of why ≡ status.OutsideFault → why ≡ refusal.Outside
outside_alone refusal.Outside is = refl
outside_alone why is = cc is

-- a command that did all ends in no outside fault
pub finished_inside : (end : Status) → IsFinished end → end ≢ status.OutsideFault
finished_inside end (inl done) fault = let e = sym done ∙ fault in cc e
finished_inside end (inr some) fault = let e = sym some ∙ fault in cc e

-- why an act stopped was noted
pub reported_result : {T : Type 0} (line : T → Option (List ℕ)) (ends : T → Status) (why : Refusal) (notes : Change OutView)
    → Reported notes.old notes.new (refusal_line why) → ReportsResult line ends (Err why) notes (status_of why)
reported_result line ends why notes reported = record { noted = (reported, refl); counts_no_fault = reported.counts_no_fault; blameless = reported_blameless why notes reported }

-- an act stopped, and why was noted
pub reported_performs : {T : Type 0} (act : Act T) (notes : Change OutView) (why : Refusal) → act.Comes (Err why)
    → Reported notes.old notes.new (refusal_line why) → Performs act notes (status_of why)
reported_performs act notes why did reported = record { result = Err why; did = did; reported = reported_result act.line act.status why notes reported }

-- a command that ends in no outside fault met none
pub inside_result : {T : Type 0} (line : T → Option (List ℕ)) (ends : T → Status) (result : Result T Refusal) (notes : Change OutView) (end : Status)
    → NotesResult line ends result notes end → end ≢ status.OutsideFault → result ≢ Err refusal.Outside
inside_result line ends (Ok done) notes end noted inside is = cc is
inside_result line ends (Err why) notes end noted inside is =
    let same : why ≡ refusal.Outside = cc is in inside (noted.1 ∙ (λ i. status_of (same i)))

-- a command that ends in no outside fault met none in its act
pub performs_met_none : {T : Type 0} (act : Act T) (notes : Change OutView) (end : Status) (performs : Performs act notes end)
    → end ≢ status.OutsideFault → performs.result ≢ Err refusal.Outside
performs_met_none act notes end performs inside = inside_result act.line act.status performs.result notes end performs.reported.noted inside

-- so an output whose faults are specified counted none
pub goes_blameless : (bytes : List ℕ) (output : Change OutView) (result : Result (Unit {0}) Refusal) (end : Status) → GoesOut bytes output result
    → (end ≢ status.OutsideFault → result ≢ Err refusal.Outside) → OutBlameless output end
goes_blameless bytes output result end goes met tells inside = goes.reported tells (met inside)

-- a first call that failed is one that failed
pub first_fails : {T : Type 0} (first later : Type 0) (found : Finding T) → first → EitherFails first later found
first_fails first later (Refuses why) fails = fails
first_fails first later (Does done) fails = inl fails

-- what came of an act is what its objects lead to, but for lack of memory and for calls that failed
abbrev pub Answers : {T : Type 0} → Basis T → Finding T → Result T Refusal → Type 0
Answers basis found (Ok done) = found ≡ Does done
Answers basis found (Err refusal.Outside) = basis.Failed found × (basis.Sure found → ⊥)
Answers basis found (Err refusal.NoMemory) = Unit {0}
Answers basis found (Err why) = found ≡ Refuses why

module _ {T : Type 0} (act : Act T) (notes : Change OutView) (end : Status) (performs : Performs act notes end) where
  -- a command that ended as one that did all did all, and noted it
  pub did_all : IsFinished end → (done : T) × act.Comes (Ok done) × NotesLine (act.line done) (act.status done) notes end
  did_all finished = by_result performs.result performs.did performs.reported.noted
    where
      by_result : (result : Result T Refusal) → act.Comes result → NotesResult act.line act.status result notes end
          → (done : T) × act.Comes (Ok done) × NotesLine (act.line done) (act.status done) notes end
      by_result (Ok done) did noted = (done, did, noted)
      by_result (Err why) did noted = absurd (refusal_unfinished why (subst IsFinished noted.1 finished))

  -- where the act meets no fault of the outside, and what is noted fits, the command ends in none
  pub performs_inside : ((done : T) → act.Comes (Ok done) → IsFinished (act.status done))
      → ((done : T) → act.Comes (Ok done) → act.line done ≢ None → HasRoom notes_room notes.old) → performs.result ≢ Err refusal.Outside → end ≢ status.OutsideFault
  performs_inside finished fits sure outside = by_result performs.result refl performs.did performs.reported.noted
    where
      by_line : (line : Option (List ℕ)) (ends : Status) → IsFinished ends → (line ≢ None → HasRoom notes_room notes.old) → NotesLine line ends notes end → ⊥
      by_line None ends done room noted = finished_inside ends done (sym noted.1 ∙ outside)
      by_line (Some line) ends done room (inl took) = finished_inside ends done (sym took.end_is ∙ outside)
      by_line (Some line) ends done room (inr failed) = failed.0.no_room (room (λ is. cc is))

      by_result : (result : Result T Refusal) → performs.result ≡ result → act.Comes result → NotesResult act.line act.status result notes end → ⊥
      by_result (Ok done) is did noted = by_line (act.line done) (act.status done) (finished done did) (fits done did) noted
      by_result (Err why) is did noted = let blamed = outside_alone why (sym noted.1 ∙ outside) in sure (is ∙ (λ i. Err (blamed i)))

  -- the status follows where that of what was done and of each refusal does
  pub performs_decided : (wanted : Status) (fails : Type 0) → ((done : T) → act.Comes (Ok done) → act.status done ≡ wanted)
      → ((why : Refusal) → act.Comes (Err why) → IsDecided wanted fails (status_of why))
      → ((done : T) → act.Comes (Ok done) → act.line done ≢ None → Faulted notes.old.faults notes.new.faults → fails) → IsDecided wanted fails end
  performs_decided wanted fails all refused unnoted = by_result performs.result performs.did performs.reported.noted
    where
      by_line : (line : Option (List ℕ)) (done : T) → act.Comes (Ok done) → (line ≢ None → Faulted notes.old.faults notes.new.faults → fails)
          → NotesLine line (act.status done) notes end → IsDecided wanted fails end
      by_line None done did some noted = inl (noted.1 ∙ all done did)
      by_line (Some line) done did some (inl took) = inl (took.end_is ∙ all done did)
      by_line (Some line) done did some (inr failed) = inr (inr (failed.1, some (λ is. cc is) failed.0.faulted))

      by_result : (result : Result T Refusal) → act.Comes result → NotesResult act.line act.status result notes end → IsDecided wanted fails end
      by_result (Ok done) did noted = by_line (act.line done) done did (unnoted done did) noted
      by_result (Err why) did noted = subst (IsDecided wanted fails) (sym noted.1) (refused why did)

  -- where what comes of an act is what its objects lead to, they decide the status, and where they are sure it is no outside fault
  module _ (basis : Basis T) (answers : (result : Result T Refusal) → act.Comes result → WhereSpecified basis (λ found. Answers basis found result)) where
    same_line : (done : T) (found : Finding T) → found ≡ Does done → act.line done ≢ None → line_found act found ≢ None
    same_line done found same some none = some (ap (line_found act) (sym same) ∙ none)

    pub decided_by : IsDecidedBy act basis notes end
    decided_by specified found is =
        performs_decided (status_found act found) (SomeFails act basis notes found) (λ done did. sym (ap (status_found act) (answers (Ok done) did specified found is))) stops
        (λ done did some faulted. inr (same_line done found (answers (Ok done) did specified found is) some, faulted))
      where
        stops : (why : Refusal) → act.Comes (Err why) → IsDecided (status_found act found) (SomeFails act basis notes found) (status_of why)
        stops refusal.Outside did = inr (inr (refl, inl (answers (Err refusal.Outside) did specified found is).0))
        stops refusal.NoMemory did = inr (inl refl)
        stops why did = inl (sym (ap (status_found act) (answers (Err why) did specified found is)))

    pub inside_by : ((done : T) → act.Comes (Ok done) → IsFinished (act.status done)) → NeverOutside act basis notes end
    inside_by finished specified found is sure room =
        performs_inside finished (λ done did some. room (same_line done found (answers (Ok done) did specified found is) some))
        (λ blamed. (subst (Answers basis found) blamed (answers performs.result performs.did specified found is)).1 sure)
