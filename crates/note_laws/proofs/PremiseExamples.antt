-- Why the premises of the laws are there: each law is stated without one of them, and a small history breaks it.
use Rattle.std.proofs.Common.{List, [], ap, false, length, refl, sym, ℕ, ◌∷◌, ◌≡◌}
use Rattle.std.specs.Prelude.{IfSome, None, Some, codes, nat_eq}
use Rattle.std.specs.List.{Contains}
use Rattle.std.specs.Str.{chars, is_utf8}
use lib.Utf8.{encode}
use Rattle.std.proofs.lemmas.Bool.{true≢false}
use Rattle.fugue_ids.specs.Identifiers.{Identifier}
use Rattle.fugue_ids.specs.declared.op.Op.{Op}
use Rattle.fugue_ids.specs.declared.op.Op.TheVariants.{Delete, Note, Section, Text}
use Rattle.origin_model.specs.operations.Verdict.{Lawful, verdict}
use Rattle.origin_model.specs.order.Laws.{IsPartOf}
use Rattle.origin_model.specs.order.Order.{chain, order}
use Rattle.origin_model.specs.order.Printed.{is_withdrawn}
use Rattle.catalogue_notes.specs.Arranged.{arranged, heading, position, winner}
use Rattle.catalogue_notes.specs.Claims.{Move}
use Rattle.catalogue_notes.specs.Lift.{claims, lift, moves, retitles}
use Rattle.margin_notes.specs.Comments.{Comment, comment_in, is_in_section}
use Rattle.note_laws.specs.MoveLaws.{LeavesWinner}
use Rattle.origin_model.proofs.SharedLemmas.{part_at_end}

abbrev id : ℕ → ℕ → Identifier
id replica counter = record { replica = replica; counter = counter }

abbrev a : Identifier
a = id 1 0

abbrev b : Identifier
b = id 1 1

abbrev c : Identifier
c = id 1 2

-- the sections A, B and C; histories are newest first
abbrev three : List Op
three = Section c (Some b) None (codes "C") ∷ Section b (Some a) None (codes "B") ∷ Section a None None (codes "A") ∷ []

-- an author moves C to the front, another one puts A after B, and a third one C after A
abbrev c_first : Op
c_first = Note (id 1 3) (c ∷ a ∷ []) 1 (0 ∷ 0 ∷ 0 ∷ 1 ∷ 2 ∷ [])

abbrev a_after_b : Op
a_after_b = Note (id 2 0) (a ∷ b ∷ c ∷ []) 1 (0 ∷ 0 ∷ 0 ∷ 1 ∷ 3 ∷ [])

abbrev c_second : Op
c_second = Note (id 3 0) (c ∷ a ∷ b ∷ []) 1 (0 ∷ 0 ∷ 0 ∷ 1 ∷ 3 ∷ [])

abbrev part : List Op
part = c_first ∷ three

-- B and C, which the second author did not move, stand as they stood
others_stay : (arranged part ≡ c ∷ a ∷ b ∷ []) × (arranged (a_after_b ∷ part) ≡ c ∷ b ∷ a ∷ [])
unfolding lift claims order chain
others_stay = (refl, refl)

are_lawful : Lawful part × Lawful (a_after_b ∷ part) × Lawful (c_second ∷ part) × Lawful (Delete (id 1 3) ∷ part)
unfolding verdict
are_lawful =
    let whole : Lawful part = (refl, (refl, (refl, (refl, tt)))) in
    (whole, (refl, whole), (refl, whole), (refl, whole))

-- another move of the section that comes may win
another_move :
    ((part whole : List Op) (s : Identifier) → Lawful part → Lawful whole → IsPartOf part whole
    → IfSome (winner part s (moves part)) (λ m. is_withdrawn whole m.id ≡ false) → position whole s ≡ position part s) → ⊥
unfolding lift claims
another_move law =
    true≢false (ap (λ (x : Identifier). nat_eq x.replica 3) (law part (c_second ∷ part) c are_lawful.0 are_lawful.2 (part_at_end (c_second ∷ []) part) refl))

-- and where the one that won is withdrawn, another position wins
withdrawn_move :
    ((part whole : List Op) (s : Identifier) → Lawful part → Lawful whole → IsPartOf part whole
    → ((m : Move) → Contains (moves whole) m → m.section ≡ s → Contains (moves part) m) → position whole s ≡ position part s) → ⊥
unfolding lift claims
withdrawn_move law =
    true≢false (ap (λ (x : Identifier). nat_eq x.counter 2)
    (law part (Delete (id 1 3) ∷ part) c are_lawful.0 are_lawful.3 (part_at_end (Delete (id 1 3) ∷ []) part) (λ m k e. k)))

-- a section that the part lacks has no heading there
no_section :
    ((part whole : List Op) (s : Identifier) → Lawful part → Lawful whole → IsPartOf part whole
    → LeavesWinner part whole s (retitles part) (retitles whole) → heading whole s ≡ heading part s) → ⊥
unfolding claims verdict
no_section law =
    let one : List Op = Section a None None (codes "A") ∷ [] in
    true≢false (ap (λ (t : List ℕ). nat_eq (length t) 1) (law [] one a tt (refl, tt) (part_at_end one []) (record { no_claim = λ r k e. k; not_withdrawn = tt })))

-- a comment that the part lacks may be on letters that it lacks
no_letter :
    ((s : Identifier) (c : Comment) (op : Op) (part whole : List Op) → Lawful part → Lawful whole → IsPartOf part whole
    → comment_in op ≡ Some c → is_in_section part s c ≡ is_in_section whole s c) → ⊥
unfolding verdict is_utf8 chars encode
no_letter law =
    let letter : Identifier = id 1 1 in
    let empty : List Op = Section a None None (codes "A") ∷ [] in
    let written : List Op = Text letter a None None 65 ∷ empty in
    let comment : Comment = record { id = id 1 2; first = letter; last = letter; text = codes "x" } in
    true≢false (sym (law a comment (Note (id 1 2) (letter ∷ letter ∷ []) 3 (codes "x")) empty written (refl, tt) (refl, (refl, tt))
    (part_at_end (Text letter a None None 65 ∷ []) empty) refl))
