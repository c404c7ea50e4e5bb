-- How the lines of a script are run one after another.
use Rattle.std.proofs.Common.{◌≡◌, ◌<◌, ◌≤◌, ◌+◌, inl, inr, suc, ℕ, Bool, true, false, cond, List, [], ◌∷◌, ◌++◌, length, take, drop, Option, Some, None, refl, sym, ap, subst, ◌∙◌}
use Rattle.std.proofs.Common.{arith, append_assoc, append-nil, length-append, length-drop, Bor}
use Rattle.std.specs.Prelude.{position, ◌==◌, Result, Ok, Err, IfErr, IfOk}
use Rattle.std.specs.Option.{option_copied}
use Rattle.std.specs.List.{onto_first, position_or_len}
use Rattle.std.proofs.lemmas.Bool.{cases_Bool, ltb-true, ltb-false}
use Rattle.std.proofs.lemmas.List.{length-take-le}
use Rattle.std.proofs.lemmas.List.Splits.{slice_split-cons_no, slice_split_first}
use Rattle.fugue_ids.specs.declared.op.Op.{Op}
use Rattle.origin_model.specs.operations.History.{accepted}
use Rattle.origin_model.specs.edits.State.{State}
use Rattle.edit_script.specs.declared.line.LineFault.{LineFault}
use Rattle.edit_script.specs.declared.line.LineFault.TheVariants as why
use Rattle.edit_script.specs.declared.run.ScriptFault.{ScriptFault}
use Rattle.edit_script.specs.declared.run.ScriptFault.TheVariants as fault
use Rattle.origin_model.specs.declared.edit_fault.EditFault.TheVariants as edit
use Rattle.edit_script.specs.Grammar.{BeginsWith, lines}
use Rattle.edit_script.specs.Scripts.{Does, LinesLead, ScriptRuns, RunsUpTo, RunsWhole, ScriptStops, StopsAtLine}
use Rattle.edit_script.specs.Sources.{IsScript}
use Rattle.outer_ports.specs.Sources.{SourceView}
use Rattle.edit_script.specs.Lines.{LineFails, WasRun, fault_at}

-- what the lines make stands after what was accepted
does_grow : (old new : State) (line : List ℕ) (ops : List Op) → Does old new line ops → accepted new.held.history ≡ accepted old.held.history ++ ops
does_grow old new line ops (inl note) =
    ap (λ (s : State). accepted s.held.history) note.1 ∙ sym (append-nil (accepted old.held.history)) ∙ ap (λ (l : List Op). accepted old.held.history ++ l) (sym note.2)
does_grow old new line ops (inr made) = made.2.gained.accepted_are

pub leads_grow : (old new : State) (ls : List (List ℕ)) (ops : List Op) → LinesLead old new ls ops → accepted new.held.history ≡ accepted old.held.history ++ ops
leads_grow old new [] ops leads =
    ap (λ (s : State). accepted s.held.history) leads.0 ∙ sym (append-nil (accepted old.held.history)) ∙ ap (λ (l : List Op). accepted old.held.history ++ l) (sym leads.1)
leads_grow old new (line ∷ ls) ops leads =
    leads_grow leads.0 new ls leads.2 leads.4 ∙ ap (λ (l : List Op). l ++ leads.2) (does_grow old leads.0 line leads.1 leads.3)
    ∙ append_assoc (accepted old.held.history) leads.1 leads.2 ∙ ap (λ (l : List Op). accepted old.held.history ++ l) (sym leads.5)

-- one line more
leads_next : (old mid new : State) (ls : List (List ℕ)) (line : List ℕ) (done first : List Op) → LinesLead old mid ls done → Does mid new line first
    → LinesLead old new (ls ++ line ∷ []) (done ++ first)
leads_next old mid new [] line done first leads does =
    (new, first, [], subst (λ (s : State). Does s new line first) leads.0 does, (refl, refl), ap (λ (l : List Op). l ++ first) leads.1 ∙ sym (append-nil first))
leads_next old mid new (l ∷ ls) line done first leads does = (
  leads.0,
  leads.1,
  leads.2 ++ first,
  leads.3,
  leads_next leads.0 mid new ls line leads.2 first leads.4 does,
  ap (λ (d : List Op). d ++ first) leads.5 ∙ append_assoc leads.1 leads.2 first,
)

-- the lines that are left, and the bytes
abbrev pub lines_left : Option (List ℕ) → List (List ℕ)
lines_left None = []
lines_left (Some bytes) = lines bytes

abbrev pub bytes_left : Option (List ℕ) → ℕ
bytes_left None = 0
bytes_left (Some bytes) = length bytes + 1

-- the lines in front were run
pub record Walk (old now : State) (script : List ℕ) (rest : Option (List ℕ)) (number : ℕ) : Type 0 where
  pub front : List (List ℕ)
  pub split : lines script ≡ front ++ lines_left rest
  pub number_is : number ≡ length front
  pub few : number + bytes_left rest ≤ length script + 1
  pub ops : List Op
  pub leads : LinesLead old now front ops

left_after : (bytes line : List ℕ) (behind : Option (List ℕ)) → BeginsWith bytes line behind → (lines bytes ≡ line ∷ lines_left behind) × (bytes_left behind ≤ length bytes)
left_after bytes line None begins = (begins, omega arith)
left_after bytes line (Some rest) begins = (begins.0, omega (arith, begins.1))

-- less is left
pub less_left : (bytes line : List ℕ) (behind : Option (List ℕ)) → BeginsWith bytes line behind → bytes_left behind < bytes_left (Some bytes)
less_left bytes line behind begins = omega (arith, (left_after bytes line behind begins).1)

pub walk_next : (old now new : State) (script bytes line : List ℕ) (behind : Option (List ℕ)) (number : ℕ) → Walk old now script (Some bytes) number → BeginsWith bytes line behind
    → WasRun now new line
    → Walk old new script behind (number + 1)
walk_next old now new script bytes line behind number walk begins run =
    let left = left_after bytes line behind begins in
    record {
      front = walk.front ++ line ∷ [];
      split = walk.split ∙ ap (λ (l : List (List ℕ)). walk.front ++ l) left.0 ∙ sym (append_assoc walk.front (line ∷ []) (lines_left behind));
      number_is = omega (arith, walk.number_is, length-append walk.front (line ∷ []));
      few = omega (arith, walk.few, left.1);
      ops = walk.ops ++ run.ops;
      leads = leads_next old now new walk.front line walk.ops run.ops walk.leads run.does;
    }

pub walk_stops : (old now : State) (script bytes line : List ℕ) (behind : Option (List ℕ)) (number : ℕ) → Walk old now script (Some bytes) number → BeginsWith bytes line behind
    → RunsUpTo old now script line (number + 1)
walk_stops old now script bytes line behind number walk begins = record {
  front = walk.front;
  back = lines_left behind;
  split = walk.split ∙ ap (λ (l : List (List ℕ)). walk.front ++ l) ((left_after bytes line behind begins).0);
  number_is = omega (arith, walk.number_is);
  ops = walk.ops;
  leads = walk.leads;
}

pub walk_over : (old now : State) (script : List ℕ) (number n : ℕ) → Walk old now script None number → n + length (accepted old.held.history) ≡ length (accepted now.held.history)
    → RunsWhole old now script n
walk_over old now script number n walk counted =
    let grown = leads_grow old now walk.front walk.ops walk.leads in
    record {
      ops = walk.ops;
      leads = subst (λ (l : List (List ℕ)). LinesLead old now l walk.ops) (sym (walk.split ∙ append-nil walk.front)) walk.leads;
      accepted_are = grown;
      count = omega (arith, counted, ap length grown, length-append (accepted old.held.history) walk.ops);
    }

-- no fewer are accepted than before
pub walk_grows : (old now : State) (script : List ℕ) (rest : Option (List ℕ)) (number : ℕ) → Walk old now script rest number
    → length (accepted old.held.history) ≤ length (accepted now.held.history)
walk_grows old now script rest number walk =
    let grown = leads_grow old now walk.front walk.ops walk.leads in omega (arith, ap length grown, length-append (accepted old.held.history) walk.ops)

-- the same, by what the code keeps of the rest
pub walk_at : (old now : State) (script : List ℕ) (rest : Option (Bor (List ℕ))) (bytes : Bor (List ℕ)) (number : ℕ) → Walk old now script (option_copied rest) number
    → rest ≡ Some bytes
    → Walk old now script (Some bytes.now) number
walk_at old now script rest bytes number walk is = subst (λ (o : Option (Bor (List ℕ))). Walk old now script (option_copied o) number) is walk

pub walk_at_end : (old now : State) (script : List ℕ) (rest : Option (Bor (List ℕ))) (number : ℕ) → Walk old now script (option_copied rest) number → rest ≡ None
    → Walk old now script None number
walk_at_end old now script rest number walk is = subst (λ (o : Option (Bor (List ℕ))). Walk old now script (option_copied o) number) is walk

pub less_at : (rest : Option (Bor (List ℕ))) (bytes : Bor (List ℕ)) (line : List ℕ) (behind : Option (List ℕ)) → rest ≡ Some bytes → BeginsWith bytes.now line behind
    → bytes_left behind < bytes_left (option_copied rest)
less_at rest bytes line behind is begins =
    subst (λ (o : Option (Bor (List ℕ))). bytes_left behind < bytes_left (option_copied o)) (sym is) (less_left bytes.now line behind begins)

-- the fault of a line is that of the script
pub stops : (old mid new : State) (script line : List ℕ) (n : ℕ) (cause : LineFault) → RunsUpTo old mid script line n → LineFails mid new line cause
    → StopsAtLine old new script (fault_at n cause)
stops old mid new script line n why.Bad run fails = (line, subst (λ (s : State). RunsUpTo old s script line n) (sym fails.0) run, fails.1)
stops old mid new script line n (why.Edit edit.NoSection) run fails =
    subst (λ (s : State). StopsAtLine old s script (fault_at n (why.Edit edit.NoSection))) (sym fails.0) (line, run, fails.1)
stops old mid new script line n (why.Edit edit.OutOfRange) run fails =
    subst (λ (s : State). StopsAtLine old s script (fault_at n (why.Edit edit.OutOfRange))) (sym fails.0) (line, run, fails.1)
stops old mid new script line n (why.Edit (edit.IdsSpent c)) run fails =
    subst (λ (s : State). StopsAtLine old s script (fault_at n (why.Edit (edit.IdsSpent c)))) (sym fails.0) (line, n, run, fails.1)
stops old mid new script line n (why.Edit (edit.TooMany c)) run fails =
    subst (λ (s : State). StopsAtLine old s script (fault_at n (why.Edit (edit.TooMany c)))) (sym fails.0) (line, n, run, fails.1)
stops old mid new script line n (why.Edit edit.NoMemory) run fails = (line, n, mid, run, fails)

-- the first LF
no_break : (bytes : List ℕ) → length bytes ≤ position_or_len (λ (b : ℕ). b == 10) bytes → lines bytes ≡ bytes ∷ []
no_break [] far = refl
no_break (byte ∷ bytes) far =
    elim (cases_Bool (byte == 10)) [
      | inl is ↦ absurd (let h = rw is at far in near h)
      | inr differs ↦ slice_split-cons_no (λ (b : ℕ). b == 10) byte bytes differs ∙ ap (onto_first byte) (no_break bytes (let h = rw differs at far in omega (arith, h)))
    ]
  where
    near : suc (length bytes) ≤ 0 → ⊥
    near h = omega (arith, h)

found_at : (b : Bool) (n m : ℕ) → cond b (Some n) None ≡ Some m → (b ≡ true) × (n ≡ m)
found_at true n m e = (refl, cc)
found_at false n m e = cc

not_found : (b : Bool) (n : ℕ) → cond b (Some n) None ≡ None → b ≡ false
not_found true n e = cc
not_found false n e = refl

pub first_line : (script : List ℕ) (end : ℕ) → position (λ (b : ℕ). b == 10) script ≡ Some end
    → BeginsWith script (take end script) (Some (drop (end + 1) script)) × (end < length script)
first_line script end is =
    let found = found_at _ _ _ is in
    let within = ltb-true _ _ found.0 in
    let inside : end < length script = omega (arith, within, found.1) in
    let parts = slice_split_first (λ (b : ℕ). b == 10) script 0 within in (
      (
        parts ∙ ap (λ (n : ℕ). take n script ∷ lines (drop (n + 1) script)) found.1,
        omega (arith, inside, length-take-le end script (omega (arith, inside)), length-drop (end + 1) script),
      ),
      inside,
    )

pub last_line : (script : List ℕ) → position (λ (b : ℕ). b == 10) script ≡ None → BeginsWith script script None
last_line script is = no_break script (ltb-false _ _ (not_found _ _ is))

-- a script that was read whole stops at a line
pub stops_read : (old new : State) (before after : SourceView) (script : List ℕ) (result : Result ℕ ScriptFault) → IsScript before after script
    → IfErr result (StopsAtLine old new script)
    → IfErr result (ScriptStops old new before after)
stops_read old new before after script (Ok n) is stopped = tt
stops_read old new before after script (Err (fault.BadLine n)) is stopped = (script, is, stopped)
stops_read old new before after script (Err (fault.NoSection n)) is stopped = (script, is, stopped)
stops_read old new before after script (Err (fault.OutOfRange n)) is stopped = (script, is, stopped)
stops_read old new before after script (Err (fault.IdsSpent n)) is stopped = (script, is, stopped)
stops_read old new before after script (Err (fault.TooMany n)) is stopped = (script, is, stopped)
stops_read old new before after script (Err fault.ReadFault) is stopped = absurd stopped
stops_read old new before after script (Err fault.TooLong) is stopped = absurd stopped
stops_read old new before after script (Err fault.NoMemory) is stopped = inr (script, is, stopped)

-- and one that is run to its end
pub runs_read : (old new : State) (before after : SourceView) (script : List ℕ) (result : Result ℕ ScriptFault) → IsScript before after script
    → IfOk result (RunsWhole old new script)
    → IfOk result (ScriptRuns old new before after)
runs_read old new before after script (Ok n) is whole = (script, is, whole)
runs_read old new before after script (Err f) is whole = tt
