-- Commands that use no file: each writes a text that its words alone decide.
use Rattle.std.specs.Prelude.{◌≢◌, ℕ, List, [], ◌∷◌, ◌++◌, codes, length}
use Rattle.fugue_ids.specs.Causes.{Faulted}
use Rattle.fugue_ids.specs.Outs.{OutView}
use Rattle.command_kinds.specs.TextOut.{WritesOut}
use Rattle.command_kinds.specs.Findings.{IsDecided}
use Rattle.command_kinds.specs.Changes.{Change, HasRoom}
use Rattle.command_kinds.specs.declared.status.Status.{Status}
use Rattle.command_kinds.specs.declared.status.Status.TheVariants as status

-- the text is written, or a front of it and why it was no more
pub record WritesAlone (text : List ℕ) (output notes : Change OutView) (end : Status) : Type 0 where
  pub writes : WritesOut text output notes end
  -- where the output is sure and has room, no outside fault comes
  pub never_outside : HasRoom (length text) output.old → end ≢ status.OutsideFault
  -- all is done, but for lack of memory and faults of the output
  pub decides : IsDecided status.Done (Faulted output.old.faults output.new.faults) end

-- the name and the version of the program, what it was proved with, and its licence
abbrev pub about_text : List ℕ
about_text =
    codes "manuscript 0.7.0, of Petreltombac" ++ 10 ∷ codes "proved with rattle-kit-13f"
    ++ 10 ∷ codes "MIT License, in the file LICENSE of the sources and of the release" ++ 10 ∷ []
