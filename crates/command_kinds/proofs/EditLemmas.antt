-- What a script gives to a replica, by what its run comes to.
use Rattle.std.proofs.Common.{◌≡◌, ◌≢◌, inl, inr, ℕ, List, [], ◌++◌, length, Option, Some, None, refl, sym, ap, subst, ◌∙◌, arith, append-nil, length-append, drop, drop_at}
use Rattle.std.specs.Prelude.{IfSome, IsErrOf, Ok, Err}
use Rattle.std.specs.Io.KnownBytes.{prepend_known}
use Rattle.std.proofs.lemmas.List.{append_cancel_left}
use Rattle.fugue_ids.specs.declared.op.Op.{Op}
use Rattle.outer_ports.specs.Sources.{KeepsCount, SourceView}
use Rattle.origin_model.specs.operations.History.{accepted}
use Rattle.origin_model.specs.taking.Taking.{IsSettled}
use Rattle.origin_model.specs.edits.State.{State as Replica, IsSound}
use Rattle.edit_script.proofs.OnceLemmas.{scripts_run_once}
use Rattle.edit_script.proofs.TakenInLemmas.{all_find_place, scripts_are_taken_in}
use Rattle.edit_script.specs.Scripts.{ScriptRuns, RunsWhole, ScriptStops}
use Rattle.edit_script.specs.declared.run.ScriptFault.TheVariants as script_fault
use Rattle.edit_script.specs.declared.run.ScriptFault.{ScriptFault}
use Rattle.command_kinds.specs.Edit.{RunsScript, ScriptGives, ScriptRefuses, made_outcome, script}
use Rattle.command_kinds.specs.Findings.{Refuses, Does}
use Rattle.command_kinds.specs.Giving.{GivesTo, ReportsOutcome}
use Rattle.command_kinds.specs.Refusal.{script_refusal}
use Rattle.command_kinds.specs.Counts.{made_line}
use Rattle.command_kinds.specs.Saving.{GivesOnce, Outcome, Suffices}
use Rattle.command_kinds.specs.Changes.{Change}
use Rattle.command_kinds.specs.declared.counts.Note.TheVariants as note
use Rattle.command_kinds.specs.declared.refusal.Refusal.{Refusal}

-- a script comes to one outcome
one_outcome : (replica : Replica) (script : List ℕ) (a b : Outcome) → RunsScript replica script a → RunsScript replica script b → a ≡ b
one_outcome replica script a b x y =
    let last = (scripts_run_once.whole replica x.last y.last script (length x.made) (length y.made) x.runs y.runs).0 in
    let made = append_cancel_left (accepted replica.held.history) x.made y.made (sym x.made_are ∙ ap (λ (s : Replica). accepted s.held.history) last ∙ y.made_are) in
    x.outcome_is ∙ (λ i. made_outcome (last i) (made i)) ∙ sym y.outcome_is

-- or to one refusal
one_refusal : (replica : Replica) (script : List ℕ) (f g : Refusal) → ScriptRefuses replica script f → ScriptRefuses replica script g → f ≡ g
one_refusal replica script f g (inl x) (inl y) = x.0 ∙ sym y.0
one_refusal replica script f g (inl x) (inr y) = absurd (omega (arith, x.1, y.short))
one_refusal replica script f g (inr x) (inl y) = absurd (omega (arith, y.1, x.short))
one_refusal replica script f g (inr x) (inr y) =
    x.why_is ∙ ap script_refusal (scripts_run_once.stops replica x.last y.last script x.fault y.fault x.no_want y.no_want x.stops y.stops).1 ∙ sym y.why_is

-- and not to both
not_both : (replica : Replica) (script : List ℕ) (why : Refusal) (outcome : Outcome) → ScriptRefuses replica script why → RunsScript replica script outcome → ⊥
not_both replica script why outcome (inl long) runs = omega (arith, long.1, runs.short)
not_both replica script why outcome (inr faulty) runs =
    scripts_run_once.apart replica runs.last faulty.last script (length runs.made) faulty.fault faulty.no_want runs.runs faulty.stops

-- what is so of the script that is left is so of specified bytes
specified : (P : List ℕ → Type 0) (left : Option (List ℕ)) (bytes : List ℕ) → left ≡ Some bytes → (script : List ℕ) × IfSome left (λ b. b ≡ script) × P script → P bytes
specified P left bytes is p = subst P (sym (subst (λ (l : Option (List ℕ)). IfSome l (λ b. b ≡ p.0)) is p.1)) p.2

pub script_once : (input : Change SourceView) → GivesOnce (script input)
script_once input is replica (Refuses f) (Refuses g) a b =
    ap Refuses (one_refusal replica is.0 f g (specified (λ s. ScriptRefuses replica s f) input.old.left is.0 is.1 a)
    (specified (λ s. ScriptRefuses replica s g) input.old.left is.0 is.1 b))
script_once input is replica (Refuses f) (Does g) a b =
    absurd (not_both replica is.0 f g (specified (λ s. ScriptRefuses replica s f) input.old.left is.0 is.1 a) (specified (λ s. RunsScript replica s g) input.old.left is.0 is.1 b))
script_once input is replica (Does f) (Refuses g) a b =
    absurd (not_both replica is.0 g f (specified (λ s. ScriptRefuses replica s g) input.old.left is.0 is.1 b) (specified (λ s. RunsScript replica s f) input.old.left is.0 is.1 a))
script_once input is replica (Does f) (Does g) a b =
    ap Does (one_outcome replica is.0 f g (specified (λ s. RunsScript replica s f) input.old.left is.0 is.1 a) (specified (λ s. RunsScript replica s g) input.old.left is.0 is.1 b))

-- a script that was read whole was left
pub read_whole : (script : List ℕ) (before after : Option (List ℕ)) → before ≡ prepend_known script after → IfSome after (λ (left : List ℕ). left ≡ [])
    → IfSome before (λ b. b ≡ script)
read_whole script before None is ended = subst (λ (l : Option (List ℕ)). IfSome l (λ b. b ≡ script)) (sym is) tt
read_whole script before (Some left) is ended =
    subst (λ (l : Option (List ℕ)). IfSome l (λ b. b ≡ script)) (sym is) (ap (λ (l : List ℕ). script ++ l) ended ∙ append-nil script)

module _ (replica last : Replica) (before after : SourceView) (n : ℕ) (run : ScriptRuns replica last before after n) where
  -- a script that ran gives its outcome
  pub gives_outcome : ScriptGives before replica (Does (made_outcome last run.2.ops))
  gives_outcome = (
    run.0,
    read_whole run.0 before.left after.left run.1.split run.1.ended,
    record {
      short = run.1.short;
      made = run.2.ops;
      last = last;
      runs = subst (RunsWhole replica last run.0) run.2.count run.2;
      made_are = run.2.accepted_are;
      outcome_is = refl;
    },
  )

  -- and saved, it suffices
  pub outcome_suffices : IsSound replica → IsSettled replica.held → Suffices replica (made_outcome last run.2.ops)
  outcome_suffices sound settled =
      let taken = scripts_are_taken_in replica last run.0 n run.2.ops sound settled run.2 run.2.accepted_are in
      record { same_state = taken.state; place = all_find_place replica last run.2.ops settled taken }

  pub has_made : ReportsOutcome (made_outcome last run.2.ops) (note.Made n)
  has_made = record { line = ap made_line (sym run.2.count); status = refl }

-- a script of which a front was read was left, with more after it
pub read_more : (front : List ℕ) (before after : Option (List ℕ)) → before ≡ prepend_known front after → (more : List ℕ) × IfSome before (λ b. b ≡ front ++ more)
read_more front before None is = ([], subst (λ (l : Option (List ℕ)). IfSome l (λ b. b ≡ front ++ [])) (sym is) tt)
read_more front before (Some left) is = (left, subst (λ (l : Option (List ℕ)). IfSome l (λ b. b ≡ front ++ left)) (sym is) refl)

-- a script that stopped gives its refusal
pub gives_refusal : (replica last : Replica) (before after : SourceView) (fault : ScriptFault) → fault ≢ script_fault.NoMemory → fault ≢ script_fault.ReadFault
    → ScriptStops replica last before after fault → ScriptGives before replica (Refuses (script_refusal fault))
gives_refusal replica last before after script_fault.ReadFault no_want no_fault stops = absurd (no_fault refl)
gives_refusal replica last before after script_fault.NoMemory no_want no_fault stops = absurd (no_want refl)
gives_refusal replica last before after script_fault.TooLong no_want no_fault stops =
    let left = read_more stops.1.front before.left after.left stops.1.split in
    (stops.1.front ++ left.0, left.1, inl (refl, omega (arith, stops.1.long, length-append stops.1.front left.0)))
gives_refusal replica last before after fault no_want no_fault stops = (
  stops.0,
  read_whole stops.0 before.left after.left stops.1.split stops.1.ended,
  inr (record { short = stops.1.short; fault = fault; why_is = refl; no_want = no_want; last = last; stops = stops.2 }),
)

-- a script that ran gives what it made
pub script_gives : (input : Change SourceView) (replica last : Replica) (n : ℕ) (run : ScriptRuns replica last input.old input.new n) → IsSound replica → IsSettled replica.held
    → (kept : Option (List Op))
    → GivesTo (script input) replica last kept (Ok (note.Made n))
script_gives input replica last n run sound settled kept =
    let made = has_made replica last input.old input.new n run in
    record {
      outcome = made_outcome last run.2.ops;
      gives = gives_outcome replica last input.old input.new n run;
      suffices = outcome_suffices replica last input.old input.new n run sound settled;
      saved = ap (drop (length (accepted replica.held.history))) run.2.accepted_are
          ∙ drop_at (accepted replica.held.history) run.2.ops (length (accepted replica.held.history)) refl;
      noted = made;
    }

-- one that stopped gives its refusal
pub script_gives_none : (input : Change SourceView) (replica last : Replica) (kept : Option (List Op)) (fault : ScriptFault) → ScriptStops replica last input.old input.new fault
    → KeepsCount input.old input.new (IsErrOf {T = ℕ} (Err fault) script_fault.ReadFault) → GivesTo (script input) replica last kept (Err (script_refusal fault))
script_gives_none input replica last kept script_fault.ReadFault stops count = (count.faulted refl, λ sure. count.succeeds sure refl)
script_gives_none input replica last kept script_fault.NoMemory stops count = tt
script_gives_none input replica last kept fault stops count = gives_refusal replica last input.old input.new fault (λ is. cc is) (λ is. cc is) stops
