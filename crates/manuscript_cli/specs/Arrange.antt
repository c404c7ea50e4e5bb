-- `move`, `retitle` and `arrange`. Sections and places count from 1 in words.
use Rattle.std.specs.Prelude.{◌≡◌, ℕ, ◌+◌, ◌-◌, Option, Some, None, List, [], ◌∷◌, option_map}
use Rattle.fugue_ids.specs.Identifiers.{Identifier}
use Rattle.fugue_ids.specs.declared.op.Op.{Op}
use Rattle.origin_model.specs.edits.Noting.{note_by}
use Rattle.catalogue_notes.specs.Arranged.{arranged_text}
use Rattle.catalogue_notes.specs.Lift.{stamp}
use Rattle.catalogue_notes.specs.Making.{retitle_body}
use Rattle.catalogue_notes.specs.Moving.{move_by, move_refusal, retitle_refusal, section_placed}
use Rattle.catalogue_notes.specs.declared.limits.TheConstants.{RETITLE_CODE}
use Rattle.catalogue_notes.specs.declared.moving.MoveFault.{MoveFault}
use Rattle.catalogue_notes.specs.declared.moving.MoveFault.TheVariants as fault
use Rattle.command_kinds.specs.Findings.{Finding, Refuses, Does}
use Rattle.command_kinds.specs.Notes.{NoteOn}
use Rattle.command_kinds.specs.Report.{ReportText}
use Rattle.command_kinds.specs.declared.refusal.Refusal.{Refusal}
use Rattle.command_kinds.specs.declared.refusal.Refusal.TheVariants as refusal

-- a fault as a refusal, by the numbers of the words
abbrev pub move_refused : (k j : ℕ) → MoveFault → Refusal
move_refused k j fault.NoSection = refusal.NoSection k
move_refused k j fault.NoPlace = refusal.NoPlace j
move_refused k j fault.StampsSpent = refusal.StampsSpent
move_refused k j (fault.IdsSpent counter) = refusal.IdsSpent counter
move_refused k j (fault.TooMany held) = refusal.TooMany held
move_refused k j fault.NoMemory = refusal.NoMemory

-- the note on the section that stands at k, unless it is refused
abbrev pub placed_note : ℕ → Option Refusal → Option Identifier → (Identifier → Op) → Finding Op
placed_note k (Some why) section note = Refuses why
placed_note k None None note = Refuses (refusal.NoSection k)
placed_note k None (Some section) note = Does (note section)

-- `move`: the section that stands at k goes to j
abbrev pub move_on : (k j : ℕ) → NoteOn
move_on k j replica =
    placed_note k (option_map (move_refused k j) (move_refusal replica (k - 1) (j - 1))) (section_placed replica (k - 1))
    (λ section. move_by replica section (k - 1) (j - 1))

-- `retitle`: the section that stands at k gets the title, which is given in UTF-8
abbrev pub retitle_on : ℕ → List ℕ → NoteOn
retitle_on k title replica =
    placed_note k (option_map (move_refused k 0) (retitle_refusal replica (k - 1))) (section_placed replica (k - 1))
    (λ section. note_by replica (section ∷ []) RETITLE_CODE (retitle_body (stamp replica.held.history + 1) title))

-- `arrange` reports the sections as they are arranged
abbrev pub arrange_reports : ReportText
arrange_reports replica found = found ≡ Does (arranged_text replica.held.history)
