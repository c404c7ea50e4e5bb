-- What a script does to a replica: the effect of its lines one after another, or of those in front of its first faulty line.
use Rattle.std.specs.Prelude.{◌≡◌, ◌⊎◌, ℕ, ◌+◌, Option, Some, None, List, [], ◌∷◌, ◌++◌, length, take, encode_utf8_all}
use Rattle.fugue_ids.specs.Identifiers.{Identifier}
use Rattle.fugue_ids.specs.declared.op.Op.{Op}
use Rattle.origin_model.specs.operations.History.{accepted}
use Rattle.origin_model.specs.order.Printed.{text}
use Rattle.origin_model.specs.edits.Edits.{Command, Put, Cut, Add, DropSection}
use Rattle.outer_ports.specs.Sources.{SourceView}
use Rattle.cluster_text.specs.Clusters.{clusters, scalars, span}
use Rattle.origin_model.specs.edits.State.{State}
use Rattle.origin_model.specs.edits.Refusal.{section_shown, in_section, in_range, refused_elements, refused_ops, refusal_message, made_by}
use Rattle.origin_model.specs.edits.Effect.{Gains, StopsPartly}
use Rattle.origin_model.specs.declared.edit_fault.EditFault.{EditFault}
use Rattle.origin_model.specs.declared.edit_fault.EditFault.TheVariants as edit
use Rattle.edit_script.specs.declared.run.ScriptFault.{ScriptFault}
use Rattle.edit_script.specs.declared.run.ScriptFault.TheVariants.{BadLine, NoSection, OutOfRange, IdsSpent, TooMany, ReadFault, TooLong}
use Rattle.edit_script.specs.declared.run.ScriptFault.TheVariants.{NoMemory}
use Rattle.edit_script.specs.Grammar.{Asks, IsFaultyLine, IsNote, lines}
use Rattle.edit_script.specs.Sources.{IsLonger, IsScript}

-- the clusters of what is shown of a section
abbrev pub shown_clusters : State → Identifier → List (List ℕ)
shown_clusters s section = clusters (encode_utf8_all (text s.held.history section))

-- how many scalars n clusters of a section have from the cluster `at` on
abbrev pub scalars_from : State → Identifier → (at n : ℕ) → ℕ
scalars_from s section at n = (span (shown_clusters s section) at n).1

-- an edit of a section by scalars: a place in clusters is the number of scalars in front of it, and clusters have the
-- scalars that they have
abbrev pub in_scalars : State → Identifier → Command → Command
in_scalars s section (Put k at new) = Put k (scalars (take at (shown_clusters s section))) new
in_scalars s section (Cut k at n) = Cut k (scalars (take at (shown_clusters s section))) (scalars_from s section at n)
in_scalars s section (Add at title) = Add at title
in_scalars s section (DropSection k) = DropSection k

-- the section in which an edit stands, where it stands in one that is shown
abbrev pub edited_section : State → Command → Option Identifier
edited_section s (Put k at new) = section_shown s k
edited_section s (Cut k at n) = section_shown s k
edited_section s (Add at title) = None
edited_section s (DropSection k) = None

-- an edit by clusters, by scalars
abbrev pub by_scalars : State → Command → Command
by_scalars s command = elim (edited_section s command) [ None ↦ command | Some section ↦ in_scalars s section command ]

-- why an edit by clusters is refused, by the first cause that there is
abbrev pub line_refusal : State → Command → Option EditFault
line_refusal s (Put k at new) =
    in_section (section_shown s k) (λ x. in_range at (length (shown_clusters s x)) (refused_elements s (length new)))
line_refusal s (Cut k at n) =
    in_section (section_shown s k) (λ x. in_range (at + n) (length (shown_clusters s x)) (refused_ops s (scalars_from s x at n)))
line_refusal s (Add at title) = refusal_message s (Add at title)
line_refusal s (DropSection k) = refusal_message s (DropSection k)

-- an edit by clusters is made, of these operations
pub record Edits (old new : State) (command : Command) (ops : List Op) : Type 0 where
  pub allowed : line_refusal old command ≡ None
  pub made : ops ≡ made_by old (by_scalars old command)
  pub gained : Gains old new ops

-- a line is run: a note line does nothing, and any other line makes its edit
abbrev pub Does : (old new : State) (line : List ℕ) (ops : List Op) → Type 0
Does old new line ops = (IsNote line × (new ≡ old) × (ops ≡ [])) ⊎ ((command : Command) × Asks line command × Edits old new command ops)

-- lines are run, one after another, and make these operations
abbrev pub LinesLead : (old new : State) (lines : List (List ℕ)) (ops : List Op) → Type 0
LinesLead old new [] ops = (new ≡ old) × (ops ≡ [])
LinesLead old new (line ∷ lines) ops =
    (mid : State) × (first : List Op) × (others : List Op) × Does old mid line first × LinesLead mid new lines others
    × (ops ≡ first ++ others)

-- the script was run to its end, with n operations made
pub record RunsWhole (old new : State) (script : List ℕ) (n : ℕ) : Type 0 where
  pub ops : List Op
  pub leads : LinesLead old new (lines script) ops
  pub accepted_are : accepted new.held.history ≡ accepted old.held.history ++ ops
  pub count : n ≡ length ops

-- the lines in front of this one, whose number is told from 1, were run
pub record RunsUpTo (old new : State) (script line : List ℕ) (number : ℕ) : Type 0 where
  pub front : List (List ℕ)
  pub back : List (List ℕ)
  pub split : lines script ≡ front ++ line ∷ back
  pub number_is : number ≡ length front + 1
  pub ops : List Op
  pub leads : LinesLead old new front ops

-- the line asks for an edit that is refused
abbrev pub IsRefusedEdit : State → List ℕ → EditFault → Type 0
IsRefusedEdit s line fault = (command : Command) × Asks line command × (line_refusal s command ≡ Some fault)

-- memory ran out for a line: nothing of it was made, or the first ones of its operations
abbrev pub IsPartlyMade : (old new : State) → List ℕ → Type 0
IsPartlyMade old new line =
    (new ≡ old) ⊎ ((command : Command) × Asks line command × StopsPartly old new (made_by old (by_scalars old command)))

-- the first faulty line, and its fault
abbrev pub StopsAtLine : (old new : State) (script : List ℕ) → ScriptFault → Type 0
StopsAtLine old new script (BadLine n) = (line : List ℕ) × RunsUpTo old new script line n × IsFaultyLine line
StopsAtLine old new script (NoSection n) = (line : List ℕ) × RunsUpTo old new script line n × IsRefusedEdit new line edit.NoSection
StopsAtLine old new script (OutOfRange n) = (line : List ℕ) × RunsUpTo old new script line n × IsRefusedEdit new line edit.OutOfRange
StopsAtLine old new script (IdsSpent count) =
    (line : List ℕ) × (n : ℕ) × RunsUpTo old new script line n × IsRefusedEdit new line (edit.IdsSpent count)
StopsAtLine old new script (TooMany count) =
    (line : List ℕ) × (n : ℕ) × RunsUpTo old new script line n × IsRefusedEdit new line (edit.TooMany count)
StopsAtLine old new script NoMemory = (line : List ℕ) × (n : ℕ) × (mid : State) × RunsUpTo old mid script line n × IsPartlyMade mid new line
StopsAtLine old new script ReadFault = ⊥
StopsAtLine old new script TooLong = ⊥

-- how a script that is read from a source stops: it is read whole before its first line is run
abbrev pub ScriptStops : (old new : State) (before after : SourceView) → ScriptFault → Type 0
ScriptStops old new before after ReadFault = new ≡ old
ScriptStops old new before after TooLong = (new ≡ old) × IsLonger before after
ScriptStops old new before after NoMemory =
    ((new ≡ old) × (after ≡ before)) ⊎ ((script : List ℕ) × IsScript before after script × StopsAtLine old new script NoMemory)
ScriptStops old new before after fault = (script : List ℕ) × IsScript before after script × StopsAtLine old new script fault

-- the script that the source had left was run to its end
abbrev pub ScriptRuns : (old new : State) (before after : SourceView) (n : ℕ) → Type 0
ScriptRuns old new before after n = (script : List ℕ) × IsScript before after script × RunsWhole old new script n
