-- The command `list`: what a file's replica holds, and its sections as they are arranged.
use Rattle.std.specs.Prelude.{◌≡◌, ℕ, suc, ◌+◌, nat_eq, if◌then◌else◌, Some, None, List, [], ◌∷◌, ◌++◌, codes, decimal, length, slice_get}
use Rattle.std.specs.Prelude.{string_bytes}
use Rattle.std.specs.Str.{encode_utf8_all}
use Rattle.fugue_ids.specs.Identifiers.{Identifier}
use Rattle.fugue_ids.specs.Listed.{index_of}
use Rattle.fugue_ids.specs.declared.op.Op.{Op}
use Rattle.origin_model.specs.declared.operations.Place.TheVariants.{Catalogue as catalogue}
use Rattle.origin_model.specs.edits.State.{State as Replica}
use Rattle.origin_model.specs.order.Printed.{shown, text}
use Rattle.cluster_text.specs.Clusters.{clusters}
use Rattle.catalogue_notes.specs.Arranged.{arranged, heading}
use Rattle.catalogue_notes.specs.declared.entry.Entry.{Entry}
use Rattle.command_kinds.specs.Findings.{Does}
use Rattle.command_kinds.specs.Report.{ReportText}
use Rattle.manuscript_cli.specs.declared.list.Counted.{Counted}

-- the replica's number, how many operations may wait, how many were accepted, and how many wait
abbrev pub replica_line : Replica → List ℕ
replica_line replica =
    codes "replica " ++ decimal replica.number ++ codes ", hold " ++ decimal replica.hold ++ codes ", accepted "
    ++ decimal (length replica.held.history) ++ codes ", waiting " ++ decimal (length replica.held.waiting) ++ 10 ∷ []

-- a section's number in the catalogue, from 1
abbrev pub number_of : List Op → Identifier → ℕ
number_of h s = index_of (shown catalogue h) s + 1

-- how many clusters are shown of a section
abbrev pub cluster_count : List Op → Identifier → ℕ
cluster_count h s = length (clusters (encode_utf8_all (text h s)))

-- the number in brackets, where it is another than the place
abbrev pub in_brackets : (place number : ℕ) → List ℕ
in_brackets place number = if nat_eq place number then [] else codes " (" ++ decimal number ++ codes ")"

-- a section's place in the arrangement, its number in the catalogue where that is another, how many clusters it has, its heading, LF
abbrev pub list_line : List Op → (place : ℕ) → Identifier → List ℕ
list_line h place s = decimal place ++ in_brackets place (number_of h s) ++ 32 ∷ decimal (cluster_count h s)
    ++ 32 ∷ encode_utf8_all (heading h s) ++ 10 ∷ []

-- the lines of sections, of which the first stands at the place
abbrev pub section_lines : List Op → (place : ℕ) → List Identifier → List ℕ
section_lines h place [] = []
section_lines h place (s ∷ ss) = list_line h place s ++ section_lines h (suc place) ss

-- what `list` prints: a line of the replica, and a line of each section
abbrev pub list_text : Replica → List ℕ
list_text replica = replica_line replica ++ section_lines replica.held.history 1 (arranged replica.held.history)

-- `list` reports what a replica holds
abbrev pub list_reports : ReportText
list_reports replica found = found ≡ Does (list_text replica)

-- the line of an entry, whose place counts from 0
abbrev pub entry_line : (at : ℕ) → Entry → (clusters : ℕ) → List ℕ
entry_line at e clusters =
    decimal (at + 1) ++ in_brackets (at + 1) (e.number + 1) ++ 32 ∷ decimal clusters ++ 32 ∷ string_bytes e.heading ++ 10 ∷ []

-- the line of an entry whose clusters were counted
abbrev pub counted_line : List Entry → Counted → List ℕ
counted_line entries c = elim (slice_get entries c.at) [ None ↦ [] | Some e ↦ entry_line c.at e c.clusters ]

-- the clusters of sections, counted, of which the first stands at that place, from 0
abbrev pub counted_from : List Op → (at : ℕ) → List Identifier → List Counted
counted_from h at [] = []
counted_from h at (s ∷ ss) = record { at = at; clusters = cluster_count h s } ∷ counted_from h (suc at) ss
