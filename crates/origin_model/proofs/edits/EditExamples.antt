-- Small edits, computed from the definitions, at replica 1 that begins with nothing.
use Rattle.origin_model.proofs.Words.{Delete, Identifier, List, None, Op, Section, Some, Text, [], chain, codes, order, refl, text, within, ℕ, ◌∷◌, ◌≡◌}
use Rattle.origin_model.specs.edits.Edits.{Command, Put, Cut, Add, DropSection, history_with, id_at, made, next_counter, splice}

-- the history after edits, one after another, where nothing waits
abbrev edited : List Op → List Command → List Op
edited h [] = h
edited h (c ∷ cs) = edited (history_with h (made 1 h [] c)) cs

-- the section that the first edit makes
abbrev section : Identifier
section = id_at 1 0

-- `add 1 T`, `put 1 0 AB`, `cut 1 1 1`, `put 1 1 C`
abbrev four_edits : List Command
four_edits = Add 0 (codes "T") ∷ Put 0 0 (codes "AB") ∷ Cut 0 1 1 ∷ []

-- the history after these
abbrev after_cut : List Op
after_cut = edited [] four_edits

-- AC is shown, of five operations; C is (1,3), after A and before the deleted B
five_operations :
    (text (edited after_cut (Put 0 1 (codes "C") ∷ [])) section ≡ codes "AC")
    × (edited after_cut (Put 0 1 (codes "C") ∷ [])
    ≡ Text (id_at 1 3) section (Some (id_at 1 1)) (Some (id_at 1 2)) 67
    ∷ Delete (id_at 1 2)
    ∷ Text (id_at 1 2) section (Some (id_at 1 1)) None 66
    ∷ Text (id_at 1 1) section None None 65
    ∷ Section section None None (codes "T") ∷ [])
unfolding order chain
five_operations = (refl, refl)

-- the same in a section of another replica: A and B are typed, B is deleted
abbrev foreign : Identifier
foreign = id_at 9 0

abbrev without_B : List Op
without_B = edited (Section foreign None None (codes "T") ∷ []) (Put 0 0 (codes "AB") ∷ Cut 0 1 1 ∷ [])

-- C is (1,2), after A and before the deleted B, and it stands between them
C_after_A :
    (made 1 without_B [] (Put 0 1 (codes "C")) ≡ Text (id_at 1 2) foreign (Some (id_at 1 0)) (Some (id_at 1 1)) 67 ∷ [])
    × (order (within foreign) (edited without_B (Put 0 1 (codes "C") ∷ [])) ≡ id_at 1 0 ∷ id_at 1 2 ∷ id_at 1 1 ∷ [])
    × (text (edited without_B (Put 0 1 (codes "C") ∷ [])) foreign ≡ codes "AC")
unfolding order chain
C_after_A = (refl, refl, refl)

-- `e`, U+0301 and `f`: the first cluster has two scalars
abbrev accented : List Op
accented = edited [] (Add 0 (codes "T") ∷ Put 0 0 (101 ∷ 769 ∷ 102 ∷ []) ∷ [])

-- X goes in after the first cluster
abbrev with_X : List Op
with_X = edited accented (Put 0 2 (codes "X") ∷ [])

-- it stands after the accent, and both scalars of the cluster go
clusters : (text with_X section ≡ 101 ∷ 769 ∷ 88 ∷ 102 ∷ []) × (text (edited with_X (Cut 0 0 2 ∷ [])) section ≡ codes "Xf")
unfolding order chain
clusters = (refl, refl)

-- where there is no such section nothing is made
no_section : made 1 [] [] (DropSection 0) ≡ []
unfolding order
no_section = refl

-- a waiting operation's names count too
named_by_waiting_ones : next_counter 1 [] (Delete (id_at 1 6) ∷ Delete (id_at 2 9) ∷ []) ≡ 7
named_by_waiting_ones = refl

-- two members give way to one
splices : splice {X = ℕ} (1 ∷ 2 ∷ 3 ∷ 4 ∷ []) 1 2 (9 ∷ []) ≡ 1 ∷ 9 ∷ 4 ∷ []
splices = refl
