-- What a draft gives to a replica, by how far it was read.
use Rattle.std.proofs.Common.{◌≡◌, ◌≢◌, ◌⊎◌, ◌↔◌, inl, inr, ℕ, suc, zero, List, [], ◌∷◌, ◌++◌, ◌+◌, ◌-◌, ◌<◌, ◌≤◌, length, take, Option, Some, None, refl, sym, ap, subst, ◌∙◌}
use Rattle.std.proofs.Common.{arith, drop, drop_at, length-append, min, nat_eq, nat_lt, true, false, ◌&&◌}
use Rattle.std.specs.Prelude.{Bool, IfErr, IfOk, IfSome, MatchResult, Result, Ok, Err, if◌then◌else◌, option_map}
use Rattle.std.specs.Option.{option_or}
use Rattle.std.specs.List.{common_prefix_len}
use Rattle.std.specs.Str.{bytes_eq}
use Rattle.std.proofs.lemmas.Bool.{cases_eq, cases_lt, false_from_ne_true, le-ltb, lt-ltb, ne_eqb}
use Rattle.std.proofs.lemmas.Slice.Eq.{bytes_eq-Decides}
use Rattle.std.proofs.lemmas.List.{length-take, nil_from_length}
use Rattle.fugue_ids.specs.declared.op.Op.{Op}
use Rattle.origin_model.specs.declared.operations.Place.TheVariants.{Catalogue as catalogue}
use Rattle.origin_model.specs.edits.Refusal.{held_count}
use Rattle.origin_model.specs.edits.State.{State as Replica, IsSound}
use Rattle.origin_model.specs.operations.History.{accepted}
use Rattle.origin_model.specs.taking.Taking.{IsSettled}
use Rattle.origin_model.specs.declared.edit_fault.EditFault.TheVariants as edit
use Rattle.outer_ports.specs.Sources.{KeepsCount, SourceView}
use Rattle.outer_ports.specs.disk.Disks.{DiskView, RoomView}
use Rattle.outer_ports.specs.disk.Moments.{History}
use Rattle.catalogue_notes.specs.Arranged.{arranged_text}
use Rattle.catalogue_notes.proofs.ArrangedLemmas.{arranged_length}
use Rattle.catalogue_notes.specs.declared.moving.MoveFault.TheVariants as moving
use Rattle.origin_model.specs.operations.Verdict.{Lawful}
use Rattle.origin_model.specs.order.Printed.{shown}
use Rattle.draft_plan.specs.Changes.{all_made}
use Rattle.draft_plan.proofs.ChangeLemmas.{changed_none}
use Rattle.draft_plan.specs.Differences.{first_difference, unless_whole}
use Rattle.draft_plan.specs.Drafts.{Part, form, parts}
use Rattle.draft_plan.specs.Limits.{Costs, IsOutOfMemory, LacksRoom, revision_cost}
use Rattle.draft_plan.specs.Plain.{ArrangedReads, arranged_parts}
use Rattle.draft_plan.specs.Plans.{LacksPlan}
use Rattle.draft_plan.specs.Revision.{IsRevision, MakesNothing, StopsAtLimit}
use Rattle.draft_plan.specs.declared.draft.DraftFault.{DraftFault}
use Rattle.draft_plan.specs.declared.draft.DraftFault.TheVariants as draft_fault
use Rattle.draft_plan.specs.declared.fault.ReviseFault.{ReviseFault}
use Rattle.draft_plan.specs.declared.fault.ReviseFault.TheVariants as fault
use Rattle.replica_file.specs.Looks.{LooksOnly}
use Rattle.manuscript_cli.specs.Check.{HasNoInputText, IsTextLonger, IsTextRead}
use Rattle.command_kinds.specs.Counts.{revised_text}
use Rattle.command_kinds.specs.Crashes.{IsFinished}
use Rattle.command_kinds.specs.Edit.{IsLeftScript, made_outcome}
use Rattle.command_kinds.specs.Findings.{Finding, Refuses, Does}
use Rattle.command_kinds.specs.Giving.{GivesTo}
use Rattle.manuscript_cli.specs.Revising.{BaseStops, DraftGives, HasBytes, IsHandedBack, IsRevisedTo, LooksAtBase, MeetsLimit, RevisionGives, Revises, TextStops, base_refusal}
use Rattle.manuscript_cli.specs.Revising.{draft_refusal, empties, is_too_large, parts_fault_refusal, parts_refusal, revise_refusal, revised_outcome, revision, text_refusal}
use Rattle.manuscript_cli.specs.SectionCounts.{section_counts}
use Rattle.command_kinds.specs.Saving.{OpsSource, GivesOnce, Outcome, ReadsInput}
use Rattle.command_kinds.specs.Changes.{Change}
use Rattle.manuscript_cli.specs.declared.check.TheConstants.{LONGEST_TEXT}
use Rattle.command_kinds.specs.declared.counts.Note.TheVariants as note
use Rattle.command_kinds.specs.declared.refusal.Refusal.{Refusal}
use Rattle.command_kinds.specs.declared.refusal.Refusal.TheVariants as refusal
use Rattle.command_kinds.specs.declared.status.Status.{Status}
use Rattle.command_kinds.specs.declared.status.Status.TheVariants as status
use Rattle.command_kinds.proofs.EditLemmas.{read_more, read_whole}
use Rattle.manuscript_cli.proofs.RevisionTakenLemmas.{changed_suffice}

-- a source's refusal is what it gave
pub refused : (ops_source : OpsSource) (before after : Replica) (kept : Option (List Op)) (why : Refusal) → ops_source.Gives before (Refuses why) → why ≢ refusal.Words
    → why ≢ refusal.Outside
    → GivesTo ops_source before after kept (Err why)
refused ops_source before after kept refusal.Words gives no_words inside = absurd (no_words refl)
refused ops_source before after kept refusal.Outside gives no_words inside = absurd (inside refl)
refused ops_source before after kept refusal.NoMemory gives no_words inside = tt
refused ops_source before after kept why gives no_words inside = gives

-- what stands in a file and on an input, where they are specified
left_bytes : (left : Option (List ℕ)) → (draft : List ℕ) × IfSome left (λ b. b ≡ draft)
left_bytes None = ([], tt)
left_bytes (Some b) = (b, refl)

pub file_bytes : (past : Option History) → (base : List ℕ) × IfSome past (λ h. h.last.seen ≡ base)
file_bytes None = ([], tt)
file_bytes (Some h) = (h.last.seen, refl)

module _ (guest : DiskView) (input : SourceView) (replica : Replica) (base : List ℕ) (has : HasBytes guest base) where
  -- the base is refused
  pub gives_base : (finding : Finding Outcome) (why : Refusal) → base_refusal replica.held.history base ≡ Some why → RevisionGives guest input finding replica (Refuses why)
  gives_base finding why e = let d = left_bytes input.left in (base, has, d.0, d.1, inl (ap (λ o. option_or o (text_refusal replica d.0)) e))

  -- or the text
  pub gives_text : (finding : Finding Outcome) (draft : List ℕ) (why : Refusal) → IsLeftScript input draft → base_refusal replica.held.history base ≡ None
      → text_refusal replica draft ≡ Some why → RevisionGives guest input finding replica (Refuses why)
  gives_text finding draft why left good e = (base, has, draft, left, inl (ap (λ o. option_or o (text_refusal replica draft)) good ∙ e))

  allows : (draft : List ℕ) → base_refusal replica.held.history base ≡ None → text_refusal replica draft ≡ None → draft_refusal replica base draft ≡ None
  allows draft good e = ap (λ o. option_or o (text_refusal replica draft)) good ∙ e

  -- or a limit is met
  pub gives_limit : (draft : List ℕ) (why : Refusal) → IsLeftScript input draft → base_refusal replica.held.history base ≡ None → text_refusal replica draft ≡ None
      → MeetsLimit replica draft why → RevisionGives guest input (Refuses why) replica (Refuses why)
  gives_limit draft why left good e meets = (base, has, draft, left, inr (allows draft good e, refl, meets))

  -- or the draft comes
  pub gives_draft : (draft : List ℕ) (outcome : Outcome) → IsLeftScript input draft → base_refusal replica.held.history base ≡ None → text_refusal replica draft ≡ None
      → IsHandedBack replica draft outcome ⊎ Revises replica draft outcome → RevisionGives guest input (Does outcome) replica (Does outcome)
  gives_draft draft outcome left good e revises = (base, has, draft, left, (allows draft good e, refl, revises))

-- a text within the limit
text_short : (replica : Replica) (draft : List ℕ) → length draft ≤ LONGEST_TEXT
    → text_refusal replica draft ≡ (if bytes_eq draft (arranged_text replica.held.history) then None else parts_refusal replica (parts draft))
text_short replica draft short =
    ap (λ t. if t then Some refusal.TooLong else (if bytes_eq draft (arranged_text replica.held.history) then None else parts_refusal replica (parts draft)))
    (le-ltb LONGEST_TEXT (length draft) short)

-- one that is another than what was printed, or the same
text_other : (replica : Replica) (draft : List ℕ) → length draft ≤ LONGEST_TEXT → draft ≢ arranged_text replica.held.history
    → text_refusal replica draft ≡ parts_refusal replica (parts draft)
text_other replica draft short other =
    text_short replica draft short
    ∙ ap (λ t. if t then None else parts_refusal replica (parts draft))
    (false_from_ne_true (bytes_eq draft (arranged_text replica.held.history)) (λ t. other ((bytes_eq-Decides draft (arranged_text replica.held.history)).0 t)))

pub text_same : (replica : Replica) (draft : List ℕ) → length draft ≤ LONGEST_TEXT → draft ≡ arranged_text replica.held.history → text_refusal replica draft ≡ None
text_same replica draft short same =
    text_short replica draft short ∙ ap (λ t. if t then None else parts_refusal replica (parts draft)) ((bytes_eq-Decides draft (arranged_text replica.held.history)).1 same)

module _ (replica : Replica) (draft : List ℕ) (ps : List Part) (short : length draft ≤ LONGEST_TEXT) (other : draft ≢ arranged_text replica.held.history)
    (e : parts draft ≡ Ok ps) where
  pub text_empty : empties replica.held.history ps ≡ true → text_refusal replica draft ≡ Some refusal.EmptyDraft
  text_empty none =
      text_other replica draft short other
      ∙ (ap (parts_refusal replica) e ∙ ap (λ t. if t then Some refusal.EmptyDraft else (if is_too_large ps then Some (refusal.TooMany (held_count replica)) else None)) none)

  by_size : (large : Bool) → empties replica.held.history ps ≡ false → is_too_large ps ≡ large
      → text_refusal replica draft ≡ (if large then Some (refusal.TooMany (held_count replica)) else None)
  by_size large some size =
      text_other replica draft short other
      ∙ (ap (parts_refusal replica) e ∙ ap (λ t. if t then Some refusal.EmptyDraft else (if is_too_large ps then Some (refusal.TooMany (held_count replica)) else None)) some
      ∙ ap (λ t. if t then Some (refusal.TooMany (held_count replica)) else None) size)

  pub text_reads : empties replica.held.history ps ≡ false → is_too_large ps ≡ false → text_refusal replica draft ≡ None
  text_reads = by_size false

  pub text_large : empties replica.held.history ps ≡ false → is_too_large ps ≡ true → text_refusal replica draft ≡ Some (refusal.TooMany (held_count replica))
  text_large = by_size true

pub text_bad : (replica : Replica) (draft : List ℕ) (line : ℕ) → length draft ≤ LONGEST_TEXT → draft ≢ arranged_text replica.held.history → parts draft ≡ Err line
    → text_refusal replica draft ≡ Some (refusal.BadDraft line)
text_bad replica draft line short other e = text_other replica draft short other ∙ ap (parts_refusal replica) e

pub text_long : (replica : Replica) (draft : List ℕ) → LONGEST_TEXT < length draft → text_refusal replica draft ≡ Some refusal.TooLong
text_long replica draft long =
    ap (λ t. if t then Some refusal.TooLong else (if bytes_eq draft (arranged_text replica.held.history) then None else parts_refusal replica (parts draft)))
    (lt-ltb LONGEST_TEXT (length draft) long)

-- what was read of the input was left
pub text_left : (input : Change SourceView) (text : List ℕ) → IsTextRead input text → IsLeftScript input.old text
text_left input text read = read_whole text input.old.left input.new.left read.split read.ended

pub longer_left : (input : Change SourceView) → IsTextLonger input → (draft : List ℕ) × IsLeftScript input.old draft × (LONGEST_TEXT < length draft)
longer_left input long =
    let more = read_more long.front input.old.left input.new.left long.split in
    (long.front ++ more.0, more.1, omega (arith, long.long, length-append long.front more.0))

-- what is read of the base decides as all of it
common_prefix : (a b : List ℕ) (n : ℕ) → length a ≤ n → common_prefix_len nat_eq a (take n b) ≡ common_prefix_len nat_eq a b
common_prefix [] b n l = refl
common_prefix (x ∷ a) b zero l = absurd (omega (arith, l))
common_prefix (x ∷ a) [] (suc n) l = refl
common_prefix (x ∷ a) (y ∷ b) (suc n) l = ap (λ k. if nat_eq x y then 1 + k else 0) (common_prefix a b n (omega (arith, l)))

-- whether both end at a place
ends_with : (n a b c : ℕ) → c ≡ min (a + 1) b → (nat_eq n a && nat_eq n c) ≡ (nat_eq n a && nat_eq n b)
ends_with n a b c is =
    elim (cases_eq n a) [
      | inl e ↦ elim (cases_lt a b) [
        | inl l ↦ ap (λ t. nat_eq n a && t) (ne_eqb n c (λ d. absurd (omega (arith, d, e, is, l))) ∙ sym (ne_eqb n b (λ d. absurd (omega (arith, d, e, l)))))
        | inr l ↦ let same : c ≡ b = omega (arith, is, l) in ap (λ k. nat_eq n a && nat_eq n k) same
      ]
      | inr d ↦ ap (λ t. t && nat_eq n c) (ne_eqb n a d) ∙ sym (ap (λ t. t && nat_eq n b) (ne_eqb n a d))
    ]

pub base_read : (a b : List ℕ) → first_difference a (take (length a + 1) b) ≡ first_difference a b
base_read a b =
    let n : ℕ = common_prefix_len nat_eq a b in
    ap (λ k. unless_whole k a (take (length a + 1) b)) (common_prefix a b (length a + 1) (omega arith))
    ∙ ap (λ t. if t then None else Some n) (ends_with n (length a) (length b) (length (take (length a + 1) b)) (length-take (length a + 1) b))

-- a revised replica is an outcome
pub outcome_of : (replica last : Replica) (draft : List ℕ) (ps : List Part) (n : ℕ) → draft ≢ arranged_text replica.held.history → parts draft ≡ Ok ps
    → (r : IsRevisedTo replica last ps n) → Revises replica draft (revised_outcome last (all_made replica r.revised.makes.changes))
outcome_of replica last draft ps n other e r =
    let made : List Op = all_made replica r.revised.makes.changes in
    record {
      other = other;
      ps = ps;
      reads = e;
      last = last;
      made = made;
      made_are = r.revised.makes.changed.gained.accepted_are;
      revised = subst (IsRevision replica last ps) r.revised.makes.count r.revised;
      prints = r.prints;
      unchanged = λ same. nil_from_length made (sym r.revised.makes.count ∙ (r.same same).0);
      costs = subst (λ m. Costs replica last (revision_cost replica.held.history ps) (Ok m)) r.revised.makes.count r.costs;
      outcome_is = refl;
    }

-- a draft that came gives what was made
pub draft_gives : (guest : Change DiskView) (input : Change SourceView) (replica last : Replica) (base draft : List ℕ) (ps : List Part) (n : ℕ) (kept : Option (List Op))
    → HasBytes guest.old base
    → IsLeftScript input.old draft → base_refusal replica.held.history base ≡ None → length draft ≤ LONGEST_TEXT → draft ≢ arranged_text replica.held.history → parts draft ≡ Ok ps
    → empties replica.held.history ps ≡ false → is_too_large ps ≡ false → IsSettled replica.held → IsRevisedTo replica last ps n
    → (finding : Finding Outcome) × GivesTo (revision guest input finding) replica last kept
    (Ok (note.Revised n (section_counts last.held.history (drop (length (accepted replica.held.history)) (accepted last.held.history)))))
draft_gives guest input replica last base draft ps n kept has left good short other e some fits settled r =
    let makes = r.revised.makes in
    let made : List Op = all_made replica makes.changes in
    let outcome : Outcome = revised_outcome last made in
    let enough = changed_suffice replica last makes.changes settled r.sound makes.changed in
    let last_made : length (accepted last.held.history) - n ≡ length (accepted replica.held.history) =
    omega (arith, ap length makes.changed.gained.accepted_are, length-append (accepted replica.held.history) made, makes.count) in
    let behind : drop (length (accepted replica.held.history)) (accepted last.held.history) ≡ made =
    ap (drop (length (accepted replica.held.history))) makes.changed.gained.accepted_are
    ∙ drop_at (accepted replica.held.history) made (length (accepted replica.held.history)) refl in (
      Does outcome,
      record {
        outcome = outcome;
        gives = gives_draft guest.old input.old replica base has draft outcome left good (text_reads replica draft ps short other e some fits)
            (inr (outcome_of replica last draft ps n other e r));
        suffices = record { same_state = enough.same_state; place = enough.place };
        saved = ap (drop (length (accepted last.held.history) - n)) makes.changed.gained.accepted_are
            ∙ drop_at (accepted replica.held.history) made (length (accepted last.held.history) - n) (sym last_made);
        noted = record { line = (λ i. revised_text (sym makes.count i) (section_counts last.held.history (sym behind i))); status = refl };
      },
    )

-- and what was printed gives nothing
pub same_gives : (guest : Change DiskView) (input : Change SourceView) (replica : Replica) (base draft : List ℕ) (kept : Option (List Op)) → HasBytes guest.old base
    → IsLeftScript input.old draft
    → base_refusal replica.held.history base ≡ None → length draft ≤ LONGEST_TEXT → draft ≡ arranged_text replica.held.history → IsSettled replica.held → IsSound replica
    → (finding : Finding Outcome) × GivesTo (revision guest input finding) replica replica kept (Ok (note.Revised 0 (record { added = 0; dropped = 0; moved = 0; retitled = 0 })))
same_gives guest input replica base draft kept has left good short same settled sound =
    let none = changed_none replica in
    let outcome : Outcome = made_outcome replica [] in (
      Does outcome,
      record {
        outcome = outcome;
        gives = gives_draft guest.old input.old replica base has draft outcome left good (text_same replica draft short same) (inl (record { same = same; outcome_is = refl }));
        suffices = changed_suffice replica replica [] settled sound none;
        saved = ap (drop (length (accepted replica.held.history) - 0)) none.gained.accepted_are
            ∙ drop_at (accepted replica.held.history) [] (length (accepted replica.held.history) - 0) (omega arith);
        noted = record { line = refl; status = refl };
      },
    )

-- what is specified gives one thing
one_gives : (base draft : List ℕ) (finding : Finding Outcome) (replica : Replica) (a b : Finding Outcome) → DraftGives base draft finding replica a
    → DraftGives base draft finding replica b → a ≡ b
one_gives base draft finding replica (Refuses why) (Refuses other) (inl x) (inl y) = let e : Some why ≡ Some other = sym x ∙ y in cc e
one_gives base draft finding replica (Refuses why) (Refuses other) (inl x) (inr y) = let e : Some why ≡ None = sym x ∙ y.0 in cc e
one_gives base draft finding replica (Refuses why) (Refuses other) (inr x) (inl y) = let e : Some other ≡ None = sym y ∙ x.0 in cc e
one_gives base draft finding replica (Refuses why) (Refuses other) (inr x) (inr y) = sym x.1 ∙ y.1
one_gives base draft finding replica (Refuses why) (Does other) (inl x) y = let e : Some why ≡ None = sym x ∙ y.0 in cc e
one_gives base draft finding replica (Refuses why) (Does other) (inr x) y = sym x.1 ∙ y.1
one_gives base draft finding replica (Does outcome) (Refuses why) x (inl y) = let e : Some why ≡ None = sym y ∙ x.0 in cc e
one_gives base draft finding replica (Does outcome) (Refuses why) x (inr y) = sym x.1 ∙ y.1
one_gives base draft finding replica (Does outcome) (Does other) x y = sym x.1 ∙ y.1

file_is : (past : Option History) (h : History) (base : List ℕ) → past ≡ Some h → IfSome past (λ h. h.last.seen ≡ base) → h.last.seen ≡ base
file_is past h base is has = subst (λ (o : Option History). IfSome o (λ h. h.last.seen ≡ base)) is has

left_is : (left : Option (List ℕ)) (bytes draft : List ℕ) → left ≡ Some bytes → IfSome left (λ b. b ≡ draft) → bytes ≡ draft
left_is left bytes draft is has = subst (λ (o : Option (List ℕ)). IfSome o (λ b. b ≡ draft)) is has

pub revision_once : (guest : Change DiskView) (input : Change SourceView) (finding : Finding Outcome) → GivesOnce (revision guest input finding)
revision_once guest input finding specified replica one two a b =
    let base : a.0 ≡ b.0 = sym (file_is guest.old.past specified.0.0 a.0 specified.0.1 a.1) ∙ file_is guest.old.past specified.0.0 b.0 specified.0.1 b.1 in
    let draft : a.2 ≡ b.2 = sym (left_is input.old.left specified.1.0 a.2 specified.1.1 a.3) ∙ left_is input.old.left specified.1.0 b.2 specified.1.1 b.3 in
    one_gives b.0 b.2 finding replica one two
    (subst (λ (z : List ℕ). DraftGives z b.2 finding replica one) base (subst (λ (z : List ℕ). DraftGives a.0 z finding replica one) draft a.4)) b.4

-- a base is refused for itself, and a limit is no other cause
never_words : (h : List Op) (base : List ℕ) → base_refusal h base ≡ Some refusal.Words → ⊥
never_words h base e = by (first_difference (arranged_text h) base) e
  where
    by : (at : Option ℕ) → option_map refusal.BaseDiffers at ≡ Some refusal.Words → ⊥
    by (Some at) e = cc e
    by None e = cc e

no_fault : (fault : ReviseFault) → (revise_refusal fault ≢ refusal.Words) × (revise_refusal fault ≢ refusal.Outside)
no_fault (fault.Edit edit.NoSection) = (λ e. cc e, λ e. cc e)
no_fault (fault.Edit edit.OutOfRange) = (λ e. cc e, λ e. cc e)
no_fault (fault.Edit (edit.IdsSpent n)) = (λ e. cc e, λ e. cc e)
no_fault (fault.Edit (edit.TooMany n)) = (λ e. cc e, λ e. cc e)
no_fault (fault.Edit edit.NoMemory) = (λ e. cc e, λ e. cc e)
no_fault (fault.Move moving.NoSection) = (λ e. cc e, λ e. cc e)
no_fault (fault.Move moving.NoPlace) = (λ e. cc e, λ e. cc e)
no_fault (fault.Move moving.StampsSpent) = (λ e. cc e, λ e. cc e)
no_fault (fault.Move (moving.IdsSpent n)) = (λ e. cc e, λ e. cc e)
no_fault (fault.Move (moving.TooMany n)) = (λ e. cc e, λ e. cc e)
no_fault (fault.Move moving.NoMemory) = (λ e. cc e, λ e. cc e)

module _ (guest : Change DiskView) (input : Change SourceView) (before after : Replica) (kept : Option (List Op)) where
  -- a base that was not found good gives its refusal
  pub base_gives : (F : Type 0) (why : Refusal) → BaseStops why guest.old before.held.history → (why ≡ refusal.Outside → F) → LooksOnly guest.old guest.new F
      → GivesTo (revision guest input (Refuses why)) before after kept (Err why)
  base_gives F refusal.Outside stops fails looks =
      (inl (looks.faulted (fails refl)), λ sure. subst (λ (o : Option RoomView). IfSome o (λ room. F → ⊥)) sure.0.1 looks.sure (fails refl))
  base_gives F refusal.NoMemory stops fails looks = tt
  base_gives F refusal.Words stops fails looks = never_words before.held.history stops.0 stops.2
  base_gives F why stops fails looks = gives_base guest.old input.old before stops.0 stops.1 (Refuses why) why stops.2

  module _ (base : List ℕ) (has : HasBytes guest.old base) (good : base_refusal before.held.history base ≡ None) where
    -- a text that was not read too
    pub input_gives : (F : Type 0) (why : Refusal) → HasNoInputText input why → (why ≡ refusal.Outside → F) → KeepsCount input.old input.new F
        → GivesTo (revision guest input (Refuses why)) before after kept (Err why)
    input_gives F refusal.Outside none fails count = (inr (count.faulted (fails refl)), λ sure. count.succeeds sure.1 (fails refl))
    input_gives F refusal.NoMemory none fails count = tt
    input_gives F refusal.TooLong none fails count =
        let left = longer_left input none in
        gives_text guest.old input.old before base has (Refuses refusal.TooLong) left.0 refusal.TooLong left.1 good (text_long before left.0 left.2)
    input_gives F _ none fails count = absurd none

    -- one that is too large
    large_gives : (draft : List ℕ) (ps : List Part) (why : Refusal) → draft ≢ arranged_text before.held.history → IsTextRead input draft → parts draft ≡ Ok ps
        → empties before.held.history ps ≡ false
        → is_too_large ps ≡ true → why ≡ refusal.TooMany (held_count before) → GivesTo (revision guest input (Refuses why)) before after kept (Err why)
    large_gives draft ps why other read e some large is =
        let full : Refusal = refusal.TooMany (held_count before) in
        subst (λ (w : Refusal). GivesTo (revision guest input (Refuses w)) before after kept (Err w)) (sym is)
        (gives_text guest.old input.old before base has (Refuses full) draft full (text_left input draft read) good (text_large before draft ps read.short other e some large))

    -- one that meets a limit
    limit_gives : (draft : List ℕ) (ps : List Part) (why : Refusal) → draft ≢ arranged_text before.held.history → IsTextRead input draft → parts draft ≡ Ok ps
        → empties before.held.history ps ≡ false
        → is_too_large ps ≡ false → MeetsLimit before draft why → GivesTo (revision guest input (Refuses why)) before after kept (Err why)
    limit_gives draft ps refusal.Words other read e some fits limit = absurd ((no_fault limit.fault).0 (sym limit.why_is))
    limit_gives draft ps refusal.Outside other read e some fits limit = absurd ((no_fault limit.fault).1 (sym limit.why_is))
    limit_gives draft ps refusal.NoMemory other read e some fits limit = tt
    limit_gives draft ps why other read e some fits limit =
        gives_limit guest.old input.old before base has draft why (text_left input draft read) good (text_reads before draft ps read.short other e some fits) limit

    -- and one that is no draft, or that did not come
    pub text_gives : (draft : List ℕ) (why : Refusal) → draft ≢ arranged_text before.held.history → IsTextRead input draft → TextStops why before draft
        → GivesTo (revision guest input (Refuses why)) before after kept (Err why)
    text_gives draft refusal.NoMemory other read stops = tt
    text_gives draft (refusal.BadDraft line) other read stops =
        gives_text guest.old input.old before base has (Refuses (refusal.BadDraft line)) draft (refusal.BadDraft line) (text_left input draft read) good
        (text_bad before draft line read.short other stops)
    text_gives draft refusal.EmptyDraft other read stops =
        gives_text guest.old input.old before base has (Refuses refusal.EmptyDraft) draft refusal.EmptyDraft (text_left input draft read) good
        (text_empty before draft stops.0 read.short other stops.1 stops.2)
    text_gives draft why other read stops = elim stops.3 [
      | inl large ↦ large_gives draft stops.0 why other read stops.1 stops.2 large.0 large.1
      | inr limit ↦ limit_gives draft stops.0 why other read stops.1 stops.2 limit.0 limit.1
    ]

-- how the objects are left
pub base_looked : (guest : Change DiskView) (end : Status) (F : Type 0) → LooksOnly guest.old guest.new F → (F → end ≡ status.OutsideFault) → LooksAtBase guest end
base_looked guest end F looks blamed =
    record {
      past = looks.past;
      room = looks.room;
      counts_no_fault = looks.counts_no_fault;
      blameless = λ tells inside. looks.specified_no_fault tells (λ failed. inside (blamed failed));
    }

pub input_left : (input : SourceView) (end : Status) → (IsFinished end → ⊥) → ReadsInput input input end
input_left input end may = record { read = λ done. absurd (may done); counts_no_fault = λ sure. refl; blameless = λ tells inside. refl }

-- why no draft was read, or why it did not come, is why the text stops
parts_stop : {T : Type 0} (fault : DraftFault) (result : Result T DraftFault) (replica : Replica) (draft : List ℕ) → result ≡ Err fault
    → ((line : ℕ) → (result ≡ Err (draft_fault.BadDraft line)) ↔ (parts draft ≡ Err line)) → TextStops (parts_fault_refusal fault) replica draft
parts_stop (draft_fault.BadDraft line) result replica draft is bad = (bad line).0 is
parts_stop draft_fault.NoMemory result replica draft is bad = tt

pub draft_stops : {T : Type 0} (result : Result T DraftFault) (why : Refusal) (replica : Replica) (draft : List ℕ)
    → MatchResult result (λ (x : T). Err why ≡ Ok x) (λ fault. why ≡ parts_fault_refusal fault)
    → ((line : ℕ) → (result ≡ Err (draft_fault.BadDraft line)) ↔ (parts draft ≡ Err line)) → TextStops why replica draft
draft_stops (Ok x) why replica draft is bad = cc is
draft_stops (Err fault) why replica draft is bad = subst (λ (w : Refusal). TextStops w replica draft) (sym is) (parts_stop fault (Err fault) replica draft refl bad)

pub limit_stops : (fault : ReviseFault) (replica last : Replica) (draft : List ℕ) (ps : List Part) → parts draft ≡ Ok ps → empties replica.held.history ps ≡ false
    → is_too_large ps ≡ false → StopsAtLimit replica last fault
    → LacksRoom replica (revision_cost replica.held.history ps) fault → LacksPlan replica ps fault → (arranged_parts replica.held.history ≡ ps → IsOutOfMemory fault)
    → TextStops (revise_refusal fault) replica draft
limit_stops (fault.Edit edit.NoSection) replica last draft ps e some fits stops lacks planned spared = tt
limit_stops (fault.Edit edit.OutOfRange) replica last draft ps e some fits stops lacks planned spared = tt
limit_stops (fault.Edit edit.NoMemory) replica last draft ps e some fits stops lacks planned spared = tt
limit_stops (fault.Move moving.NoSection) replica last draft ps e some fits stops lacks planned spared = tt
limit_stops (fault.Move moving.NoPlace) replica last draft ps e some fits stops lacks planned spared = tt
limit_stops (fault.Move moving.NoMemory) replica last draft ps e some fits stops lacks planned spared = tt
limit_stops why replica last draft ps e some fits stops lacks planned spared = elim planned [
  | inl wants ↦ absurd wants
  | inr p ↦ (
    ps,
    e,
    some,
    inr (
      fits,
      record {
        fault = why;
        why_is = refl;
        no_want = λ is. cc is;
        last = last;
        stops = stops;
        ps = ps;
        reads = e;
        plan = p.0;
        no_room = p.1;
        lacks = lacks;
        changes = λ same. spared same;
      },
    ),
  )
]

-- a draft that is too large
pub too_large_stops : (replica : Replica) (draft : List ℕ) (ps : List Part) (why : Refusal) → parts draft ≡ Ok ps → empties replica.held.history ps ≡ false → is_too_large ps ≡ true
    → why ≡ refusal.TooMany (held_count replica) → TextStops why replica draft
too_large_stops replica draft ps why e some large is = subst (λ (w : Refusal). TextStops w replica draft) (sym is) (ps, e, some, inl (large, refl))

-- a revision that stopped
pub revise_stops : (result : Result ℕ ReviseFault) (why : Refusal) (replica last : Replica) (draft : List ℕ) (ps : List Part)
    → MatchResult result (λ (n : ℕ). Err why ≡ Ok n) (λ fault. why ≡ revise_refusal fault)
    → parts draft ≡ Ok ps → empties replica.held.history ps ≡ false → is_too_large ps ≡ false → IfErr result (λ f. StopsAtLimit replica last f)
    → Costs replica last (revision_cost replica.held.history ps) result
    → IfErr result (λ f. LacksPlan replica ps f) → (arranged_parts replica.held.history ≡ ps → IfErr result (λ f. IsOutOfMemory f)) → TextStops why replica draft
revise_stops (Ok n) why replica last draft ps is e some fits stops costs planned spared = cc is
revise_stops (Err f) why replica last draft ps is e some fits stops costs planned spared =
    subst (λ (w : Refusal). TextStops w replica draft) (sym is) (limit_stops f replica last draft ps e some fits stops costs planned spared)

-- or that came to an end
revised_of : (n : ℕ) (replica last : Replica) (ps : List Part) → ArrangedReads → IsRevision replica last ps n → MakesNothing replica last ps n
    → Costs replica last (revision_cost replica.held.history ps) (Ok n)
    → IsSound last → IsSettled last.held → IsRevisedTo replica last ps n
revised_of n replica last ps law r same costs st settled =
    record { revised = r; prints = (law last.held.history).form_is ∙ ap form r.reads; same = same; costs = costs; sound = st; settled = settled }

pub revised_to : (result : Result ℕ ReviseFault) (n : ℕ) (replica last : Replica) (ps : List Part) → result ≡ Ok n → ArrangedReads
    → IfOk result (λ m. IsRevision replica last ps m) → IfOk result (λ m. MakesNothing replica last ps m)
    → Costs replica last (revision_cost replica.held.history ps) result → IsSound last → IsSettled last.held → IsRevisedTo replica last ps n
revised_to result n replica last ps is law r same costs st settled =
    revised_of n replica last ps law (subst (λ t. IfOk t (λ m. IsRevision replica last ps m)) is r) (subst (λ t. IfOk t (λ m. MakesNothing replica last ps m)) is same)
    (subst (Costs replica last (revision_cost replica.held.history ps)) is costs) st settled

-- a place of a byte that was read is one in the base
pub base_is : (past : Option History) (a bytes : List ℕ) (most : ℕ) → most ≡ length a + 1 → IfSome past (λ h. bytes ≡ take most h.last.seen)
    → (base : List ℕ) × IfSome past (λ h. h.last.seen ≡ base) × (first_difference a bytes ≡ first_difference a base)
base_is None a bytes most is specified = (bytes, tt, refl)
base_is (Some h) a bytes most is specified = (h.last.seen, refl, ap (first_difference a) (specified ∙ ap (λ n. take n h.last.seen) is) ∙ base_read a h.last.seen)

-- why a base is refused, or that it is not, by what was read
module _ (past : Option History) (h : List Op) (a bytes : List ℕ) (most : ℕ) (a_is : a ≡ arranged_text h) (is : most ≡ length a + 1)
    (specified : IfSome past (λ h. bytes ≡ take most h.last.seen)) where
  there : (o : Option ℕ) → first_difference a bytes ≡ o
      → (base : List ℕ) × IfSome past (λ h. h.last.seen ≡ base) × (base_refusal h base ≡ option_map refusal.BaseDiffers o)
  there o e =
      let b = base_is past a bytes most is specified in
      (b.0, b.1, ap (option_map refusal.BaseDiffers) (ap (λ t. first_difference t b.0) (sym a_is) ∙ sym b.2 ∙ e))

  pub differs_there : (at : ℕ) → first_difference a bytes ≡ Some at
      → (base : List ℕ) × IfSome past (λ h. h.last.seen ≡ base) × (base_refusal h base ≡ Some (refusal.BaseDiffers at))
  differs_there at e = there (Some at) e

  pub good_there : first_difference a bytes ≡ None → (base : List ℕ) × IfSome past (λ h. h.last.seen ≡ base) × (base_refusal h base ≡ None)
  good_there e = there None e

-- whether a draft has nothing, where sections are shown
pub empties_some : (h : List Op) (ps : List Part) (count : ℕ) → Lawful h → length ps ≡ 0 → count ≡ length (shown catalogue h) → nat_lt 0 count ≡ empties h ps
empties_some h ps count w e f = let long = arranged_length h w in rw (f, e, long) refl

pub empties_none : (h : List Op) (ps : List Part) → length ps ≢ 0 → false ≡ empties h ps
empties_none h ps ne = rw (ne_eqb (length ps) 0 ne) refl
