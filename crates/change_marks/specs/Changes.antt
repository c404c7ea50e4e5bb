-- What changed in a manuscript since a moment, in CriticMarkup. f is the history of the moment, and h has it as its older part.
use Rattle.std.specs.Prelude.{◌≡◌, ℕ, nat_eq, Bool, true, false, not, ◌||◌, if◌then◌else◌, List, [], ◌∷◌, ◌++◌, codes, decimal, filter}
use Rattle.std.specs.Prelude.{flat_map}
use Rattle.std.specs.List.{list_any}
use Rattle.std.specs.Str.{encode_utf8_all}
use Rattle.fugue_ids.specs.Identifiers.{Identifier, id_eq}
use Rattle.fugue_ids.specs.declared.op.Op.{Op}
use Rattle.catalogue_notes.specs.Arranged.{arranged, heading, position}
use Rattle.catalogue_notes.specs.Lift.{is_section}
use Rattle.change_marks.specs.Marks.{mark_eq, text_with_marks, runs}
use Rattle.change_marks.specs.Stretches.{Stretch}
use Rattle.change_marks.specs.declared.mark.Mark.{Mark}
use Rattle.change_marks.specs.declared.mark.Mark.TheVariants.{Kept}
use lib.Pointwise.{pointwise}

-- h is f, and operations that came later
pub record IsLater (f h : List Op) : Type 0 where
  pub newer : List Op
  pub whole : h ≡ newer ++ f

-- a heading in UTF-8
abbrev pub heading_bytes : List Op → Identifier → List ℕ
heading_bytes h s = encode_utf8_all (heading h s)

-- the heading of a section is another than it was
abbrev pub is_retitled : (f h : List Op) → Identifier → Bool
is_retitled f h s = not (pointwise nat_eq (heading_bytes f s) (heading_bytes h s))

-- the section stands at another position
abbrev pub is_moved : (f h : List Op) → Identifier → Bool
is_moved f h s = not (id_eq (position f s) (position h s))

-- the head of a section that f has not
abbrev pub head_of_new : List Op → Identifier → List ℕ
head_of_new h s = codes "{++" ++ heading_bytes h s ++ codes "++}{>>" ++ decimal s.replica ++ codes "<<}"

-- the old heading and the new one, where they differ
abbrev pub titles : (f h : List Op) → Identifier → List ℕ
titles f h s = if is_retitled f h s then codes "{--" ++ heading_bytes f s ++ codes "--}{++" ++ heading_bytes h s ++ codes "++}" else
    heading_bytes h s

-- the mark of a section that was moved since
abbrev pub moved_mark : (f h : List Op) → Identifier → List ℕ
moved_mark f h s = if is_moved f h s then codes " {>>moved<<}" else []

-- the head of a section's changes: its titles, or what says that it is new
abbrev pub head : (f h : List Op) → Identifier → List ℕ
head f h s = if is_section f s then titles f h s ++ moved_mark f h s else head_of_new h s

-- the head has a mark
abbrev pub head_is_marked : (f h : List Op) → Identifier → Bool
head_is_marked f h s = not (is_section f s) || (is_retitled f h s || is_moved f h s)

-- a run has marks around it
abbrev pub is_marked : Stretch Mark → Bool
is_marked run = not (mark_eq run.key Kept)

-- something is to be reported of a section
abbrev pub is_changed : (f h : List Op) → Identifier → Bool
is_changed f h s = head_is_marked f h s || list_any is_marked (runs false f h s)

-- a hash sign, a space, the head, LF, the runs, LF
abbrev pub change_text : List Op → List ℕ → List (Stretch Mark) → List ℕ
change_text h title rs = codes "# " ++ title ++ 10 ∷ text_with_marks h rs ++ 10 ∷ []

-- what is reported of a section that h arranges
abbrev pub section_changes : (f h : List Op) → Identifier → List ℕ
section_changes f h s = if is_changed f h s then change_text h (head f h s) (runs false f h s) else []

-- what is reported of one that f arranges, and h does not
abbrev pub dropped_changes : (f h : List Op) → Identifier → List ℕ
dropped_changes f h s = change_text h (codes "{--" ++ heading_bytes f s ++ codes "--}") (runs true f h s)

-- h arranges the section
abbrev pub arranges : List Op → Identifier → Bool
arranges h s = list_any (id_eq s) (arranged h)

-- the sections that f arranges, and h does not
abbrev pub dropped_sections : (f h : List Op) → List Identifier
dropped_sections f h = filter (λ s. not (arranges h s)) (arranged f)

-- what changed since f: of each section of h that is another, and then of each that was dropped
unfoldable pub changes_text : (f h : List Op) → List ℕ
changes_text f h = flat_map (section_changes f h) (arranged h) ++ flat_map (dropped_changes f h) (dropped_sections f h)
