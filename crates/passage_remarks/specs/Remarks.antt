-- Remarks: the comments on a manuscript, in the order in which a reader of the arranged sections comes to them, with
-- the passages that they are about.
use Rattle.std.specs.Prelude.{ℕ, suc, nat_eq, nat_lt, Option, Bool, ◌&&◌, ◌||◌, if◌then◌else◌, List, [], ◌∷◌, ◌++◌, codes, decimal}
use Rattle.std.specs.Prelude.{flat_map, option_map, option_to_list}
use Rattle.fugue_ids.specs.Identifiers.{Identifier, id_lt}
use Rattle.fugue_ids.specs.declared.op.Op.{Op}
use Rattle.catalogue_notes.specs.Arranged.{arranged}
use Rattle.margin_notes.specs.Commenting.{clusters_of}
use Rattle.margin_notes.specs.Listing.{number_from}
use Rattle.margin_notes.specs.Placing.{PlacedComment, placed_comments}
use Rattle.passage_remarks.specs.Clusters.{passage_cluster_count, cluster_text, first_cluster, in_line}

-- a comment of an arranged section: the place of the section, from 1, the section, the passage in scalars, and what the comment says
pub record Remark : Type 0 where
  pub place : ℕ
  pub section : Identifier
  pub from : ℕ
  pub to : ℕ
  pub id : Identifier
  pub text : List ℕ

-- the place of a section in the arrangement
abbrev pub section_place : List Op → Identifier → Option ℕ
section_place h s = number_from 1 (arranged h) s

-- a placed comment as a remark, with the place of its section
abbrev pub remark_at : PlacedComment → ℕ → Remark
remark_at p place = record { place = place; section = p.section; from = p.from; to = p.to; id = p.id; text = p.text }

-- the remark that a comment is, where its section is arranged
abbrev pub remark_of : List Op → PlacedComment → Option Remark
remark_of h p = option_map (remark_at p) (section_place h p.section)

-- a stands before b: by the places of their sections, by where their passages begin, and then by their identifiers
abbrev pub is_before : Remark → Remark → Bool
is_before a b = nat_lt a.place b.place || (nat_eq a.place b.place && (nat_lt a.from b.from || (nat_eq a.from b.from && id_lt a.id b.id)))

-- a remark put among others that stand in order
abbrev pub put_in_order : Remark → List Remark → List Remark
put_in_order r [] = r ∷ []
put_in_order r (s ∷ ss) = if is_before r s then r ∷ s ∷ ss else s ∷ put_in_order r ss

-- the same remarks, in order
abbrev pub in_order : List Remark → List Remark
in_order [] = []
in_order (r ∷ rs) = put_in_order r (in_order rs)

-- the remarks on a manuscript: of each comment that is valid and not withdrawn, and whose section is arranged
abbrev pub remarks : List Op → List Remark
remarks h = in_order (flat_map (λ p. option_to_list (remark_of h p)) (placed_comments h))

-- two spaces, the passage in one line, LF; an empty passage has no line
abbrev pub quotation_line : (count : ℕ) → List ℕ → List ℕ
quotation_line count passage = if nat_eq count 0 then [] else codes "  " ++ in_line passage ++ 10 ∷ []

-- the number of the remark, a colon, the place of the section, the first cluster, how many there are, and `by`
abbrev pub place_text : (number place first count : ℕ) → List ℕ
place_text number place first count =
    decimal number ++ codes ": " ++ decimal place ++ 32 ∷ decimal first ++ 32 ∷ decimal count ++ codes " by "

-- the replica that made the comment, its text, LF
abbrev pub line_of_text : (replica : ℕ) → List ℕ → List ℕ
line_of_text replica text = decimal replica ++ 32 ∷ text ++ 10 ∷ []

-- the first line of a remark
abbrev pub head_line : (number : ℕ) → Remark → (first count : ℕ) → List ℕ
head_line number r first count = place_text number r.place first count ++ line_of_text r.id.replica r.text

-- what is reported of a remark with this number, by the clusters of its section: its passage goes from the boundary before
-- it to the boundary after it
abbrev pub remark_text : List (List ℕ) → (number : ℕ) → Remark → List ℕ
remark_text cs number r =
    let first = first_cluster cs r.from in
    let count = passage_cluster_count cs r.from r.to in
    head_line number r first count ++ quotation_line count (cluster_text cs first count)

-- what is reported of remarks, of which the first has the number
abbrev pub remarks_from : List Op → (number : ℕ) → List Remark → List ℕ
remarks_from h n [] = []
remarks_from h n (r ∷ rs) = remark_text (clusters_of h r.section) n r ++ remarks_from h (suc n) rs

-- the remarks, as they are printed
abbrev pub remarks_text : List Op → List ℕ
remarks_text h = remarks_from h 1 (remarks h)
