-- What changed in small manuscripts, and who wrote them, computed from the definitions. Histories are newest first.
use Rattle.std.proofs.Common.{List, [], refl, ℕ, ◌++◌, ◌∷◌, ◌≡◌}
use Rattle.std.specs.Prelude.{None, Some, codes}
use Rattle.std.specs.Str.{chars, is_utf8}
use lib.Utf8.{encode}
unfoldable use Rattle.std.specs.Fmt.{digits}
use Rattle.fugue_ids.specs.Identifiers.{Identifier}
use Rattle.fugue_ids.specs.declared.op.Op.{Op}
use Rattle.fugue_ids.specs.declared.op.Op.TheVariants.{Delete, Note, Section, Text}
use Rattle.origin_model.specs.order.Order.{chain, order}
use Rattle.catalogue_notes.specs.Lift.{claims, lift}
use Rattle.change_marks.specs.Authors.{authors_text}
use Rattle.change_marks.specs.Changes.{changes_text}

abbrev id : ℕ → ℕ → Identifier
id replica counter = record { replica = replica; counter = counter }

-- the section T of replica 1 with the text ab
abbrev before : List Op
before = Text (id 1 2) (id 1 0) (Some (id 1 1)) None 98 ∷ Text (id 1 1) (id 1 0) None None 97 ∷ Section (id 1 0) None None (codes "T") ∷ []

-- replica 2 deleted the b, and typed cd after it
abbrev changed : List Op
changed = Text (id 2 1) (id 1 0) (Some (id 2 0)) None 100 ∷ Text (id 2 0) (id 1 0) (Some (id 1 2)) None 99 ∷ Delete (id 1 2) ∷ before

-- replica 1 dropped the section
abbrev dropped : List Op
dropped = Delete (id 1 0) ∷ changed

-- replica 1 gave it another title
abbrev retitled : List Op
retitled = Note (id 1 3) (id 1 0 ∷ []) 2 (0 ∷ 0 ∷ 0 ∷ 1 ∷ codes "U") ∷ before

-- a deleted letter and two new ones
letters_are_marked : changes_text before changed ≡ codes "# T" ++ 10 ∷ codes "a{--b--}{++cd++}{>>2<<}" ++ 10 ∷ []
unfolding changes_text order chain lift claims encode digits
letters_are_marked = refl

-- nothing since now, and all since the beginning
nothing_changed : changes_text changed changed ≡ []
unfolding changes_text order chain lift claims encode digits
nothing_changed = refl

all_is_new : changes_text [] before ≡ codes "# {++T++}{>>1<<}" ++ 10 ∷ codes "{++ab++}{>>1<<}" ++ 10 ∷ []
unfolding changes_text order chain lift claims encode digits
all_is_new = refl

-- a section that was dropped shows what a co-author wrote into it
dropped_is_printed : changes_text before dropped ≡ codes "# {--T--}" ++ 10 ∷ codes "{--ab--}{++cd++}{>>2<<}" ++ 10 ∷ []
unfolding changes_text order chain lift claims encode digits
dropped_is_printed = refl

-- a new title
title_is_marked : changes_text before retitled ≡ codes "# {--T--}{++U++}" ++ 10 ∷ codes "ab" ++ 10 ∷ []
unfolding changes_text order chain lift claims is_utf8 chars encode digits
title_is_marked = refl

-- who wrote it
authors_are_printed : authors_text changed ≡ codes "1 1.0" ++ 10 ∷ codes "  1 1" ++ 10 ∷ codes "  2 2" ++ 10 ∷ []
unfolding order chain lift claims encode digits
authors_are_printed = refl
