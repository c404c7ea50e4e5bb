-- What a section adds to the printed manuscript.
use Rattle.std.specs.Prelude.{Option, Some, None, List, [], ◌∷◌, ◌++◌, ℕ, codes}
use Rattle.std.specs.Str.{encode_utf8_all}
use Rattle.fugue_ids.specs.Identifiers.{Identifier}
use Rattle.run_store.specs.Cells.{cell_text}
use Rattle.section_catalogue.specs.declared.tables.Section.{Section as Titled}
use Rattle.section_catalogue.specs.Contents.{entry_at}

-- a hash sign, a space, the title, LF, the text, LF
abbrev pub section_printed : Titled → List ℕ
section_printed e = codes "# " ++ encode_utf8_all e.title ++ 10 ∷ encode_utf8_all (cell_text e.text.cells) ++ 10 ∷ []

-- nothing for what is no section
abbrev pub printed_entry : Option Titled → List ℕ
printed_entry None = []
printed_entry (Some e) = section_printed e

-- what a section of the catalogue adds
abbrev pub printed_at : List (Identifier × Titled) → Identifier → List ℕ
printed_at sections x = printed_entry (entry_at sections x)
