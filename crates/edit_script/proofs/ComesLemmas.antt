-- Each script comes to its end, or to its first faulty line.
use Rattle.std.proofs.Common.{◌≡◌, ◌≢◌, ◌⊎◌, inl, inr, ◌+◌, ℕ, Bool, true, false, List, [], ◌∷◌, ◌++◌, length, Option, Some, None, refl, sym, ap, ◌∙◌, append_assoc, append-nil}
use Rattle.std.specs.Prelude.{nat_lt, if◌then◌else◌}
use Rattle.std.proofs.lemmas.List.{reverse-append}
use Rattle.std.specs.Prelude.{reverse}
use Rattle.fugue_ids.specs.Identifiers.{Identifier}
use Rattle.fugue_ids.specs.declared.op.Op.{Op}
use Rattle.origin_model.specs.operations.History.{accepted}
use Rattle.origin_model.specs.edits.Edits.{Command, Put, Cut, Add, DropSection, history_with}
use Rattle.origin_model.specs.edits.State.{State}
use Rattle.origin_model.specs.edits.Refusal.{held_count, in_range, in_section, made_by, refused_elements, refused_ops, section_shown}
use Rattle.origin_model.specs.edits.Effect.{Gains, with_ops}
use Rattle.origin_model.specs.declared.edit_fault.EditFault.{EditFault}
use Rattle.origin_model.specs.declared.edit_fault.EditFault.TheVariants as edit
use Rattle.edit_script.specs.declared.run.ScriptFault.{ScriptFault}
use Rattle.edit_script.specs.declared.run.ScriptFault.TheVariants as fault
use Rattle.edit_script.specs.declared.line.LineFault.{LineFault}
use Rattle.edit_script.specs.declared.line.LineFault.TheVariants as why
use Rattle.edit_script.specs.Grammar.{Asks, IsFaultyLine, IsNote, lines}
use Rattle.edit_script.specs.Lines.{fault_at}
use Rattle.edit_script.specs.Scripts.{Does, IsRefusedEdit, LinesLead, RunsUpTo, RunsWhole, StopsAtLine, by_scalars, line_refusal}
use Rattle.edit_script.proofs.DecideLemmas.{line_is_one}
use Rattle.edit_script.proofs.RunLemmas.{leads_grow}
use Rattle.origin_model.proofs.edits.MadeLemmas.{join_at_end}

-- no refusal is an allocation failure
abbrev NotMemory : Option EditFault → Type 0
NotMemory None = Unit {0}
NotMemory (Some f) = f ≢ edit.NoMemory

choose : (b : Bool) (f : EditFault) (rest : Option EditFault) → f ≢ edit.NoMemory → NotMemory rest → NotMemory (if b then Some f else rest)
choose true f rest one other = one
choose false f rest one other = other

within_section : (o : Option Identifier) (cause : Identifier → Option EditFault) → ((x : Identifier) → NotMemory (cause x)) → NotMemory (in_section o cause)
within_section None cause each = λ e. cc e
within_section (Some x) cause each = each x

ops_refusal : (s : State) (n : ℕ) → NotMemory (refused_ops s n)
ops_refusal s n = choose (nat_lt s.most (held_count s + n)) (edit.TooMany (held_count s)) None (λ e. cc e) tt

elements_refusal : (s : State) (n : ℕ) → NotMemory (refused_elements s n)
elements_refusal s n = choose _ (edit.IdsSpent _) (refused_ops s n) (λ e. cc e) (ops_refusal s n)

range_refusal : (position count : ℕ) (cause : Option EditFault) → NotMemory cause → NotMemory (in_range position count cause)
range_refusal position count cause other = choose (nat_lt count position) edit.OutOfRange cause (λ e. cc e) other

refusal_is : (s : State) (command : Command) → NotMemory (line_refusal s command)
refusal_is s (Put k at new) = within_section (section_shown s k) _ (λ x. range_refusal _ _ _ (elements_refusal s (length new)))
refusal_is s (Cut k at n) = within_section (section_shown s k) _ (λ x. range_refusal _ _ _ (ops_refusal s _))
refusal_is s (Add at title) = range_refusal _ _ _ (elements_refusal s 1)
refusal_is s (DropSection k) = within_section (section_shown s k) _ (λ x. ops_refusal s 1)

joined : (s : State) (ops : List Op) → Gains s (with_ops s ops) ops
joined s ops = record { accepted_are = join_at_end s.held.history ops; others = refl }

-- a line that is not run, and why
abbrev IsFaulty : State → List ℕ → LineFault → Type 0
IsFaulty s line why.Bad = IsFaultyLine line
IsFaulty s line (why.Edit cause) = IsRefusedEdit s line cause × (cause ≢ edit.NoMemory)

-- a line is run
record Done (s : State) (line : List ℕ) : Type 0 where
  new : State
  ops : List Op
  does : Does s new line ops

-- a line is run, or is faulty
line_outcome : (s : State) (line : List ℕ) → Done s line ⊎ ((cause : LineFault) × IsFaulty s line cause)
line_outcome s line = by (line_is_one line)
  where
    by_refusal : (command : Command) → Asks line command → (refusal : Option EditFault) → line_refusal s command ≡ refusal → NotMemory refusal
        → Done s line ⊎ ((cause : LineFault) × IsFaulty s line cause)
    by_refusal command asks None is not =
        let ops : List Op = made_by s (by_scalars s command) in
        inl (record { new = with_ops s ops; ops = ops; does = inr (command, asks, record { allowed = is; made = refl; gained = joined s ops }) })
    by_refusal command asks (Some f) is not = inr (why.Edit f, ((command, asks, is), not))

    by : IsNote line ⊎ ((command : Command) × Asks line command) ⊎ IsFaultyLine line → Done s line ⊎ ((cause : LineFault) × IsFaulty s line cause)
    by (inl note) = inl (record { new = s; ops = []; does = inl (note, refl, refl) })
    by (inr (inl asks)) = by_refusal asks.0 asks.1 (line_refusal s asks.0) refl (refusal_is s asks.0)
    by (inr (inr bad)) = inr (why.Bad, bad)

-- all lines are run
record DoneAll (s : State) (ls : List (List ℕ)) : Type 0 where
  new : State
  ops : List Op
  leads : LinesLead s new ls ops

-- the lines in front of a faulty one are run
record Halted (s : State) (ls : List (List ℕ)) : Type 0 where
  new : State
  front : List (List ℕ)
  line : List ℕ
  back : List (List ℕ)
  split : ls ≡ front ++ line ∷ back
  ops : List Op
  leads : LinesLead s new front ops
  cause : LineFault
  faulty : IsFaulty new line cause

lines_outcome : (s : State) (ls : List (List ℕ)) → DoneAll s ls ⊎ Halted s ls
lines_outcome s [] = inl (record { new = s; ops = []; leads = (refl, refl) })
lines_outcome s (line ∷ ls) = by (line_outcome s line) (λ t. lines_outcome t ls)
  where
    behind : (d : Done s line) → DoneAll d.new ls ⊎ Halted d.new ls → DoneAll s (line ∷ ls) ⊎ Halted s (line ∷ ls)
    behind d (inl all) = inl (record { new = all.new; ops = d.ops ++ all.ops; leads = (d.new, d.ops, all.ops, d.does, all.leads, refl) })
    behind d (inr h) = inr (record {
      new = h.new;
      front = line ∷ h.front;
      line = h.line;
      back = h.back;
      split = ap (λ (l : List (List ℕ)). line ∷ l) h.split;
      ops = d.ops ++ h.ops;
      leads = (d.new, d.ops, h.ops, d.does, h.leads, refl);
      cause = h.cause;
      faulty = h.faulty;
    })

    by : Done s line ⊎ ((cause : LineFault) × IsFaulty s line cause) → ((t : State) → DoneAll t ls ⊎ Halted t ls) → DoneAll s (line ∷ ls) ⊎ Halted s (line ∷ ls)
    by (inl d) others = behind d (others d.new)
    by (inr f) others = inr (record { new = s; front = []; line = line; back = ls; split = refl; ops = []; leads = (refl, refl); cause = f.0; faulty = f.1 })

-- the fault of a script, by that of its first faulty line
halts : (old new : State) (script line : List ℕ) (n : ℕ) (cause : LineFault) → RunsUpTo old new script line n → IsFaulty new line cause
    → (fault_at n cause ≢ fault.NoMemory) × StopsAtLine old new script (fault_at n cause)
halts old new script line n why.Bad run bad = (λ e. cc e, (line, run, bad))
halts old new script line n (why.Edit edit.NoSection) run refused = (λ e. cc e, (line, run, refused.0))
halts old new script line n (why.Edit edit.OutOfRange) run refused = (λ e. cc e, (line, run, refused.0))
halts old new script line n (why.Edit (edit.IdsSpent c)) run refused = (λ e. cc e, (line, n, run, refused.0))
halts old new script line n (why.Edit (edit.TooMany c)) run refused = (λ e. cc e, (line, n, run, refused.0))
halts old new script line n (why.Edit edit.NoMemory) run refused = absurd (refused.1 refl)

pub script_outcome : (old : State) (script : List ℕ)
    → ((new : State) × (n : ℕ) × RunsWhole old new script n) ⊎ ((new : State) × (f : ScriptFault) × (f ≢ fault.NoMemory) × StopsAtLine old new script f)
script_outcome old script = by (lines_outcome old (lines script))
  where
    by : DoneAll old (lines script) ⊎ Halted old (lines script)
        → ((new : State) × (n : ℕ) × RunsWhole old new script n) ⊎ ((new : State) × (f : ScriptFault) × (f ≢ fault.NoMemory) × StopsAtLine old new script f)
    by (inl all) = inl (all.new, length all.ops, record { ops = all.ops; leads = all.leads; accepted_are = leads_grow old all.new (lines script) all.ops all.leads; count = refl })
    by (inr h) =
        let run : RunsUpTo old h.new script h.line (length h.front + 1) =
        record { front = h.front; back = h.back; split = h.split; number_is = refl; ops = h.ops; leads = h.leads } in
        let end = halts old h.new script h.line (length h.front + 1) h.cause run h.faulty in
        inr (h.new, fault_at (length h.front + 1) h.cause, end.0, end.1)
