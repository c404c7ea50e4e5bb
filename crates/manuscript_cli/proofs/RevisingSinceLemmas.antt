-- What a draft gives to the replica as it was, in the whole.
use Rattle.std.proofs.Common.{◌≡◌, ◌≢◌, ◌⊎◌, inl, inr, ℕ, List, [], ◌∷◌, ◌++◌, ◌∙◌, Option, Some, None, Bool, true, false, ap, append_assoc, length, nat_lt, refl, subst, sym}
use Rattle.std.specs.Prelude.{IsErrOf, Ok, Err, Result, if◌then◌else◌}
use Rattle.std.proofs.lemmas.List.{append-nil}
use Rattle.fugue_ids.specs.declared.op.Op.{Op}
use Rattle.origin_model.specs.edits.Refusal.{held_count}
use Rattle.origin_model.specs.edits.State.{State as Replica}
use Rattle.replica_core.specs.declared.keeping.FeedFault.{FeedFault}
use Rattle.replica_core.specs.declared.keeping.FeedFault.TheVariants as feed_fault
use Rattle.origin_model.specs.taking.Taking.{MeetsNoLimit, Held, TooMany as AnswersTooMany, answer, held_from, intake}
use Rattle.origin_model.proofs.SharedLemmas.{held-append, no_place_left, places-append, places-none, places-one}
use Rattle.origin_model.specs.taking.Taking.{IsSettled}
use Rattle.origin_model.specs.declared.taking.Tally.{Tally}
use Rattle.replica_core.specs.Answering.{LeavesAfterFault}
use Rattle.version_views.specs.Fronts.{replica_at}
use Rattle.command_kinds.specs.Changes.{Change}
use Rattle.command_kinds.specs.Findings.{Finding, Refuses, Does}
use Rattle.command_kinds.specs.Giving.{GivesTo, MayEnd}
use Rattle.command_kinds.specs.declared.counts.Note.{Note}
use Rattle.command_kinds.specs.declared.counts.Note.TheVariants as note
use Rattle.command_kinds.specs.declared.status.Status.{Status}
use Rattle.command_kinds.proofs.FoundLemmas.{holds_once}
use Rattle.command_kinds.proofs.GivingLemmas.{unfinished}
use Rattle.command_kinds.specs.Files.{FileHolds}
use Rattle.replica_file.specs.declared.load_file.End.{End}
use Rattle.command_kinds.specs.Intake.{FeedsNot}
use Rattle.command_kinds.specs.Saving.{GivesOnce, Outcome}
use Rattle.command_kinds.specs.Take.{IsOneTooMany}
use Rattle.command_kinds.specs.declared.refusal.Refusal.{Refusal}
use Rattle.command_kinds.specs.declared.refusal.Refusal.TheVariants as refusal
use Rattle.outer_ports.specs.Sources.{SourceView}
use Rattle.outer_ports.specs.disk.Disks.{DiskView}
use Rattle.manuscript_cli.specs.Revising.{RevisionGives, revision}
use Rattle.manuscript_cli.specs.RevisingSince.{BringsRevision, ComesInWhole, HasNoPlaceFor, FindsNoRoom, GivesSince, MomentDecidesAlone, SinceGives, moment_refusal, noted_revision}
use Rattle.manuscript_cli.specs.RevisingSince.{revision_since, refusal_of_whole}
use Rattle.manuscript_cli.specs.declared.revise.Revised.{Revised}
use Rattle.replica_file.specs.Loading.{CanTake}
use Rattle.manuscript_cli.proofs.RevisingLemmas.{revision_once}
use Rattle.manuscript_cli.proofs.WholeLemmas.{comes_after}

abbrev fault_of_whole : Refusal → FeedFault → Refusal
fault_of_whole why (feed_fault.TooMany limit) = why
fault_of_whole why feed_fault.NoMemory = refusal.NoMemory

-- an operation that was not fed: one that is too many, or memory ran out
abbrev fed_fault : FeedFault → Result Bool FeedFault
fed_fault fault = Err fault

pub fed_not : (fault : FeedFault) (old new : Replica) (op : Op) (before after : Tally)
    → (fed_fault fault ≡ fed_fault (feed_fault.TooMany old.most) → answer old.hold old.most old.held op ≡ AnswersTooMany)
    → LeavesAfterFault old new op before after fault → FeedsNot fault old op
fed_not (feed_fault.TooMany limit) old new op before after many left = (left.0, many (ap (λ (n : ℕ). fed_fault (feed_fault.TooMany n)) left.0))
fed_not feed_fault.NoMemory old new op before after many left = tt

-- ---- operations that are taken in one after another
-- the first ones found their place, and these are left
pub record AreTaken (start now : Replica) (ops rest : List Op) : Type 0 where
  pub done : List Op
  pub parts : ops ≡ done ++ rest
  pub now_is : now ≡ record start { held = held_from start.hold start.most start.held done }
  pub place : MeetsNoLimit start.hold start.most start.held done
  pub settled : IsSettled now.held

pub taken_none : (start : Replica) (ops : List Op) → IsSettled start.held → AreTaken start start ops ops
taken_none start ops settled = record { done = []; parts = refl; now_is = refl; place = places-none start.hold start.most start.held; settled = settled }

module _ (start now : Replica) (ops rest : List Op) (op : Op) (behind : List Op) (was : AreTaken start now ops rest) (is : rest ≡ op ∷ behind) where
  abbrev at : Held
  at = held_from start.hold start.most start.held was.done

  answered : answer now.hold now.most now.held op ≡ answer start.hold start.most at op
  answered = ap (λ (s : Replica). answer s.hold s.most s.held op) was.now_is

  pub taken_more : (new : Replica) → new ≡ record now { held = intake now.hold now.most now.held op } → answer now.hold now.most now.held op ≢ AnswersTooMany → IsSettled new.held
      → AreTaken start new ops behind
  taken_more new e other settled =
      record {
        done = was.done ++ op ∷ [];
        parts = was.parts ∙ ap (λ l. was.done ++ l) is ∙ sym (append_assoc was.done (op ∷ []) behind);
        now_is =
            e ∙ ap (λ (s : Replica). record s { held = intake s.hold s.most s.held op }) was.now_is
            ∙ ap (λ h. record start { held = h }) (held-append start.hold start.most start.held was.done (op ∷ []));
        place = places-append start.hold start.most start.held was.done (op ∷ []) was.place (places-one start.hold start.most at op (λ many. other (answered ∙ many)));
        settled = settled;
      }

  pub one_too_many : answer now.hold now.most now.held op ≡ AnswersTooMany → IsOneTooMany start ops
  one_too_many many places =
      no_place_left start.hold start.most start.held was.done behind op (subst (MeetsNoLimit start.hold start.most start.held) (was.parts ∙ ap (λ l. was.done ++ l) is) places)
      (sym answered ∙ many)

  pub full_finds : (fault : FeedFault) → FeedsNot fault now op → HasNoPlaceFor fault start ops
  full_finds (feed_fault.TooMany limit) many = one_too_many many.1
  full_finds feed_fault.NoMemory many = tt

pub taken_all : (start now : Replica) (ops rest : List Op) → AreTaken start now ops rest → rest ≡ [] → MeetsNoLimit start.hold start.most start.held ops
taken_all start now ops rest was none = subst (MeetsNoLimit start.hold start.most start.held) (sym (was.parts ∙ ap (λ l. was.done ++ l) none ∙ append-nil was.done)) was.place

-- why what was made has no place
pub full_room : (fault : FeedFault) (replica : Replica) (ops : List Op) (why : Refusal) → why ≡ refusal.TooMany (held_count replica) → HasNoPlaceFor fault replica ops
    → FindsNoRoom (fault_of_whole why fault) replica ops
full_room (feed_fault.TooMany limit) replica ops why is none = subst (λ (w : Refusal). FindsNoRoom w replica ops) (sym is) (refl, none)
full_room feed_fault.NoMemory replica ops why is none = tt

-- ---- why no draft is taken
moment_is : (a b : Bool) (n : ℕ) (why : Refusal) → (if a then Some (refusal.NoMoment n) else (if b then Some (refusal.OwnSince n) else None)) ≡ Some why
    → (why ≡ refusal.NoMoment n) ⊎ (why ≡ refusal.OwnSince n)
moment_is true b n why e = inl (cc e)
moment_is false true n why e = inr (cc e)
moment_is false false n why e = cc e

module _ (n : ℕ) (guest : Change DiskView) (input : Change SourceView) (replica : Replica) where
  gives_moment : (finding : Finding Outcome) (why : Refusal) → moment_refusal n replica ≡ Some why → SinceGives n guest.old input.old finding replica (Refuses why)
  gives_moment finding why e = subst (λ (m : Option Refusal). GivesSince m n guest.old input.old finding replica (Refuses why)) (sym e) refl

  pub moment_gives : (finding : Finding Outcome) (after : Replica) (kept : Option (List Op)) (why : Refusal) → (why ≡ refusal.NoMemory) ⊎ (moment_refusal n replica ≡ Some why)
      → GivesTo (revision_since n guest input finding) replica after kept (Err why)
  moment_gives finding after kept why (inl none) = subst (λ w. GivesTo (revision_since n guest input finding) replica after kept (Err w)) (sym none) tt
  moment_gives finding after kept why (inr e) =
      elim (moment_is (nat_lt (length replica.held.history) n) _ n why e) [
        | inl is ↦
            subst (λ w. GivesTo (revision_since n guest input finding) replica after kept (Err w)) (sym is) (gives_moment finding (refusal.NoMoment n) (e ∙ ap Some is))
        | inr is ↦
            subst (λ w. GivesTo (revision_since n guest input finding) replica after kept (Err w)) (sym is) (gives_moment finding (refusal.OwnSince n) (e ∙ ap Some is))
      ]

  -- ---- what comes of a revision of the replica as it was
  module _ (finding : Finding Outcome) (may : moment_refusal n replica ≡ None) (ready : CanTake replica) where
    gives_since : (given found : Finding Outcome) → RevisionGives guest.old input.old finding (replica_at n replica) given → ComesInWhole replica given found
        → SinceGives n guest.old input.old finding replica found
    gives_since given found gives comes = subst (λ (m : Option Refusal). GivesSince m n guest.old input.old finding replica found) (sym may) (given, gives, comes)

    gives_refused : (past after : Replica) (kept : Option (List Op)) (why : Refusal) → GivesTo (revision guest input finding) (replica_at n replica) past kept (Err why)
        → GivesTo (revision_since n guest input finding) replica after kept (Err (refusal_of_whole replica why))
    gives_refused past after kept refusal.Outside gave = gave
    gives_refused past after kept refusal.NoMemory gave = tt
    gives_refused past after kept refusal.Words gave = gave
    gives_refused past after kept why gave = gives_since (Refuses why) (Refuses (refusal_of_whole replica why)) gave refl

    pub brought_gives : (past after : Replica) (kept : Option (List Op)) (given result : Result Revised Refusal)
        → GivesTo (revision guest input finding) (replica_at n replica) past kept (noted_revision given)
        → BringsRevision replica after past given result → GivesTo (revision_since n guest input finding) replica after kept (noted_revision result)
    brought_gives past after kept (Ok revised) (Ok brought) gave brings =
        let place = subst (MeetsNoLimit replica.hold replica.most replica.held) gave.saved brings.2 in
        let behind = comes_after n replica ready.settled ready.sound may gave.gives.2 gave.outcome gave.suffices gave.gives.4.2 place in
        let outcome : Outcome = record gave.outcome { held = held_from replica.hold replica.most replica.held gave.outcome.saved } in
        subst (λ (r : Revised). GivesTo (revision_since n guest input finding) replica after kept (noted_revision (Ok r))) (sym brings.0)
        (subst (λ (s : Replica). GivesTo (revision_since n guest input finding) replica s kept (noted_revision (Ok revised))) (sym brings.1)
        (record {
          outcome = outcome;
          gives = gives_since (Does gave.outcome) (Does outcome) gave.gives (place, refl, behind);
          suffices = record { same_state = refl; place = place };
          saved = gave.saved;
          noted = record { line = gave.noted.line; status = gave.noted.status };
        }))
    brought_gives past after kept (Ok revised) (Err (refusal.TooMany held)) gave brings =
        gives_since (Does gave.outcome) (Refuses (refusal.TooMany held)) gave.gives (ap refusal.TooMany brings.0, subst (IsOneTooMany replica) gave.saved brings.1)
    brought_gives past after kept (Ok revised) (Err refusal.NoMemory) gave brings = tt
    brought_gives past after kept (Ok revised) (Err _) gave brings = absurd brings
    brought_gives past after kept (Err why) (Ok brought) gave brings = absurd brings
    brought_gives past after kept (Err why) (Err specified) gave brings =
        subst (λ (w : Refusal). GivesTo (revision_since n guest input finding) replica after kept (Err w)) (sym brings) (gives_refused past after kept why gave)

-- where the whole may end so, the revision of the replica as it was may
pub may_bring : (old new past : Replica) (given result : Result Revised Refusal) (end : Status) → BringsRevision old new past given result → MayEnd (noted_revision result) end
    → MayEnd (noted_revision given) end
may_bring old new past (Ok revised) result end brings may = record { finished = λ done. refl; blames = λ blamed. absurd (no_error blamed) }
  where
    no_error : IsErrOf {T = Note} (Ok (note.Revised revised.made revised.sections)) refusal.Outside → ⊥
    no_error is = cc is
may_bring old new past (Err why) (Ok brought) end brings may = absurd brings
may_bring old new past (Err why) (Err specified) end brings may =
    record {
      finished = λ done. absurd (unfinished (Err specified) specified end refl may done);
      blames = λ blamed.
          let outside : why ≡ refusal.Outside = cc blamed in
          may.blames (ap Err (brings ∙ ap (refusal_of_whole old) outside));
    }

-- ---- where the moment refuses
-- a replica that takes a draft of this moment is not in such a file
pub moment_may : (n : ℕ) (home : DiskView) (replica : Replica) (end : End) (guest : Change DiskView) (input : Change SourceView) → FileHolds home replica end
    → moment_refusal n replica ≡ None → MomentDecidesAlone n home guest input
moment_may n home replica end guest input holds may refuses =
    let same : refuses.replica ≡ replica = ap (λ (l : Replica × End). l.0) (holds_once home refuses.specified (refuses.replica, refuses.end) (replica, end) refuses.holds holds) in
    absurd (cc (sym refuses.refused ∙ ap (moment_refusal n) same ∙ may))

-- ---- what is specified gives one thing
comes_once : (replica : Replica) (given one two : Finding Outcome) → ComesInWhole replica given one → ComesInWhole replica given two → one ≡ two
comes_once replica (Refuses why) one two a b = a ∙ sym b
comes_once replica (Does outcome) (Does whole) (Does other) a b = ap Does (a.1 ∙ sym b.1)
comes_once replica (Does outcome) (Does whole) (Refuses why) a b = absurd (b.1 a.0)
comes_once replica (Does outcome) (Refuses why) (Does whole) a b = absurd (a.1 b.0)
comes_once replica (Does outcome) (Refuses why) (Refuses other) a b = ap Refuses (a.0 ∙ sym b.0)

pub since_once : (n : ℕ) (guest : Change DiskView) (input : Change SourceView) (finding : Finding Outcome) → GivesOnce (revision_since n guest input finding)
since_once n guest input finding specified replica one two a b = by (moment_refusal n replica) a b
  where
    by : (m : Option Refusal) → GivesSince m n guest.old input.old finding replica one → GivesSince m n guest.old input.old finding replica two → one ≡ two
    by (Some why) x y = x ∙ sym y
    by None x y =
        let same : x.0 ≡ y.0 = revision_once guest input finding specified (replica_at n replica) x.0 y.0 x.1 y.1 in
        comes_once replica y.0 one two (subst (λ (g : Finding Outcome). ComesInWhole replica g one) same x.2) y.2
