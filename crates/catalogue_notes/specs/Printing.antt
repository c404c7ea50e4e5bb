-- What is printed of the sections, by what is looked up of them, and what a call that prints them does.
use Rattle.std.specs.Prelude.{◌≡◌, ℕ, Option, Some, None, Result, Ok, Err, if◌then◌else◌, List, [], ◌∷◌, ◌++◌, codes, drop, option_map}
use Rattle.std.specs.BTreeMap.{get}
use Rattle.std.specs.Str.{encode_utf8_all, is_utf8}
use Rattle.fugue_ids.specs.Identifiers.{Identifier, id_cmp}
use Rattle.fugue_ids.specs.Outs.{OutView, WritesBytes}
use Rattle.fugue_ids.specs.declared.op.Op.{Op}
use Rattle.fugue_ids.specs.declared.op.Op.TheVariants.{Section, Text, Delete, Note}
use Rattle.fugue_ids.specs.declared.out.Failed.{Failed}
use Rattle.origin_model.specs.operations.History.{holder}
use Rattle.run_store.specs.Cells.{cell_text}
use Rattle.section_list.specs.SectionList.{Listing}
use Rattle.section_catalogue.specs.Contents.{Contents, text_at}
use Rattle.catalogue_notes.specs.Arranged.{winner}
use Rattle.catalogue_notes.specs.Lift.{retitles}
use Rattle.catalogue_notes.specs.Placing.{IsArranged}
use Rattle.catalogue_notes.specs.Readings.{candidate_of}
use Rattle.catalogue_notes.specs.declared.layout.Layout.{Layout}
use Rattle.catalogue_notes.specs.declared.printing.ArrangeFault.{ArrangeFault}
use Rattle.catalogue_notes.specs.declared.printing.ArrangeFault.TheVariants.{SinkFault, NoMemory}

-- the bytes where they are UTF-8
abbrev pub utf8_or_none : List ℕ → List ℕ
utf8_or_none bytes = if is_utf8 bytes then bytes else []

-- the title that an operation gives: in a retitle it stands after the stamp
abbrev pub title_in : Op → List ℕ
title_in (Section id left right title) = encode_utf8_all title
title_in (Text id section left right ch) = []
title_in (Delete target) = []
title_in (Note id named code body) = utf8_or_none (drop 4 body)

-- the title that an operation says, where it is a Section or a retitle
abbrev pub title_of_op : Option Op → List ℕ
title_of_op None = []
title_of_op (Some op) = title_in op

-- what gives a section its title: its winning retitle, or its Section
abbrev pub title_source : List Op → Layout → Identifier → Option Op
title_source h l s = elim (get id_cmp l.winners s) [ None ↦ holder h s | Some b ↦ holder h b.id ]

-- the arrangement of a history, and the winning retitles
pub record IsLayout (h : List Op) (l : Layout) : Type 0 where
  pub arranged : IsArranged h l.arrangement
  pub winners : (s : Identifier) → get id_cmp l.winners s ≡ option_map candidate_of (winner h s (retitles h))

-- a hash sign, a space, the title, LF, the text, LF
abbrev pub page : List ℕ → Option Listing → List ℕ
page title None = []
page title (Some l) = codes "# " ++ title ++ 10 ∷ encode_utf8_all (cell_text l.cells) ++ 10 ∷ []

-- what is printed of a section
abbrev pub printed_by : Contents → List Op → Layout → Identifier → List ℕ
printed_by m h l s = page (title_of_op (title_source h l s)) (text_at m s)

-- the text goes out, or the output fails with a front of it gone out, or memory runs out and nothing went out
abbrev pub WritesText : OutView → OutView → Result (Unit {0}) ArrangeFault → List ℕ → Type 0
WritesText old new (Ok done) text = WritesBytes {E = Failed} {T = Unit {0}} old new (Ok done) text
WritesText old new (Err SinkFault) text = WritesBytes {E = Failed} {T = Unit {0}} old new (Err (record {})) text
WritesText old new (Err NoMemory) text = new ≡ old
