-- Versions and views of small files, computed from the definitions. Histories are newest first.
use Rattle.version_views.proofs.Words.{Delete, Identifier, List, None, Note, Op, Section, Some, Text, [], chain, chars, codes, false, is_utf8, manuscript, order, refl, true, ℕ}
use Rattle.version_views.proofs.Words.{◌++◌, ◌∷◌, ◌≡◌}
use lib.Utf8.{encode}
use Rattle.std.specs.List.{repeat}
unfoldable use Rattle.std.specs.Fmt.{digits}
use Rattle.origin_model.specs.edits.Edits.{Add, Command, Cut, DropSection, Put, history_with, made, noted}
use Rattle.version_views.specs.Versions.{is_name, version_with, versions}
use Rattle.version_views.specs.Views.{versions_text, view}

-- the history after edits of replica 1, one after another, where nothing waits
abbrev edited : List Op → List Command → List Op
edited h [] = h
edited h (c ∷ cs) = edited (history_with h (made 1 h [] c)) cs

-- and after a version is named
abbrev named : List Op → List ℕ → List Op
named h name = noted h [] 1 [] 4 name ∷ h

-- `add 1 T`, `put 1 0 AB`, `cut 1 1 1`, `put 1 1 C`: five operations, AC is shown
abbrev five : List Op
five = edited [] (Add 0 (codes "T") ∷ Put 0 0 (codes "AB") ∷ Cut 0 1 1 ∷ Put 0 1 (codes "C") ∷ [])

-- `version F one`, then `put 1 2 D`
abbrev one : List Op
one = edited (named five (codes "one")) (Put 0 2 (codes "D") ∷ [])

-- then `drop 1`
abbrev dropped : List Op
dropped = edited one (DropSection 0 ∷ [])

-- the version has the operations before its note
counted : (versions one 1 ≡ record { name = codes "one"; count = 5 } ∷ []) × (version_with one 1 (codes "one") ≡ Some 5) × (version_with one 1 (codes "two") ≡ None)
unfolding order chain is_utf8 chars encode
counted = (refl, refl, refl)

-- ACD is printed, and the version still says AC, also where its section was dropped
viewed :
    (manuscript one ≡ codes "# T" ++ 10 ∷ codes "ACD" ++ 10 ∷ []) × (view one 5 ≡ codes "# T" ++ 10 ∷ codes "AC" ++ 10 ∷ [])
    × (manuscript dropped ≡ []) × (view dropped 5 ≡ codes "# T" ++ 10 ∷ codes "AC" ++ 10 ∷ [])
unfolding order chain manuscript encode
viewed = (refl, refl, refl, refl)

-- its line
listed : versions_text one 1 ≡ codes "5 one" ++ 10 ∷ []
unfolding order chain is_utf8 chars encode digits
listed = refl

abbrev id : ℕ → ℕ → Identifier
id replica counter = record { replica = replica; counter = counter }

-- a note that names a version
abbrev version : Identifier → List ℕ → Op
version i name = Note i [] 4 name

-- two versions of one name: the last one counts, and when it is withdrawn, the first one
abbrev twice : List Op
twice = version (id 1 2) (codes "a") ∷ Section (id 1 1) None None (codes "T") ∷ version (id 1 0) (codes "a") ∷ []

last_counts :
    (versions twice 1 ≡ record { name = codes "a"; count = 0 } ∷ record { name = codes "a"; count = 2 } ∷ []) × (version_with twice 1 (codes "a") ≡ Some 2)
    × (version_with (Delete (id 1 2) ∷ twice) 1 (codes "a") ≡ Some 0) × (version_with (Delete (id 1 0) ∷ twice) 1 (codes "a") ≡ Some 2)
    × (versions (Delete (id 1 0) ∷ Delete (id 1 2) ∷ twice) 1 ≡ [])
unfolding is_utf8 chars encode
last_counts = (refl, refl, refl, refl, refl)

-- a version before the first edit has nothing
before_all : (version_with (version (id 1 0) (codes "empty") ∷ []) 1 (codes "empty") ≡ Some 0) × (view twice 0 ≡ [])
unfolding order chain manuscript is_utf8 chars encode
before_all = (refl, refl)

-- a version of another replica's file is none of this one's, nor is a note with names, of another code, or of a body that is no name
others :
    (versions (version (id 2 0) (codes "a") ∷ twice) 1 ≡ versions twice 1) × (versions (version (id 2 0) (codes "a") ∷ twice) 2 ≡ record { name = codes "a"; count = 3 } ∷ [])
    × (versions (Note (id 1 3) (id 1 1 ∷ []) 4 (codes "b") ∷ twice) 1 ≡ versions twice 1) × (versions (Note (id 1 3) [] 5 (codes "b") ∷ twice) 1 ≡ versions twice 1)
    × (versions (version (id 1 3) [] ∷ twice) 1 ≡ versions twice 1)
unfolding is_utf8 chars encode
others = (refl, refl, refl, refl, refl)

-- names have 1 to 120 bytes, spaces too, and no line end; a byte that is no UTF-8 is in none
are_names :
    (is_name (codes " first draft ") ≡ true) × (is_name (repeat 120 (97 ∷ [])) ≡ true) × (is_name (repeat 121 (97 ∷ [])) ≡ false) × (is_name [] ≡ false)
    × (is_name (codes "a" ++ 10 ∷ codes "b") ≡ false) × (is_name (codes "a" ++ 13 ∷ []) ≡ false) × (is_name (0xC3 ∷ []) ≡ false) × (is_name (0xC3 ∷ 0xA9 ∷ []) ≡ true)
unfolding is_utf8 chars encode
are_names = (refl, refl, refl, refl, refl, refl, refl, refl)

-- B of replica 2, made before the version was named and taken in after it, is not in the version
abbrev joined : List Op
joined =
    Text (id 2 0) (id 1 0) None None 66 ∷ version (id 1 2) (codes "a") ∷ Text (id 1 1) (id 1 0) None None 65 ∷ Section (id 1 0) None None (codes "T") ∷ []

later_ones_are_not_in :
    (version_with joined 1 (codes "a") ≡ Some 2) × (view joined 2 ≡ codes "# T" ++ 10 ∷ codes "A" ++ 10 ∷ []) × (manuscript joined ≡ codes "# T" ++ 10 ∷ codes "AB" ++ 10 ∷ [])
unfolding order chain manuscript is_utf8 chars encode
later_ones_are_not_in = (refl, refl, refl)
