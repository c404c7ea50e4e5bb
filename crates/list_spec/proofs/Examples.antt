-- Small worlds, computed from the definitions: replicas 1 and 2, each with room for 10 operations that wait and 100 in all.
use Rattle.std.proofs.Common.{◌++◌, List, [], refl, ◌∷◌, ◌≡◌, ℕ, length, map}
use Rattle.std.specs.Prelude.{None, Option, Some, codes}
use Rattle.fugue_ids.specs.Identifiers.{Identifier}
use Rattle.fugue_ids.specs.declared.op.Op.{Op}
use Rattle.fugue_ids.specs.declared.op.Op.TheVariants.{Delete, Section, Text}
use Rattle.origin_model.specs.declared.operations.Verdict.TheVariants.{Conflict, Ready}
use Rattle.origin_model.specs.operations.Verdict.{Lawful, verdict}
use Rattle.origin_model.specs.order.Order.{chain, order}
use Rattle.origin_model.specs.order.Printed.{text}
use Rattle.origin_model.specs.taking.Taking.{nothing_held, settle}
use Rattle.origin_model.specs.edits.Edits.{Add, Cut, Put, id_at}
use Rattle.origin_model.specs.edits.State.{State}
use Rattle.list_spec.specs.Worlds.{Deliver, Edit, Event, World, world}

abbrev pub replica : ℕ → State
replica n = record { number = n; hold = 10; most = 100; held = nothing_held }

abbrev pub both : List State
both = replica 1 ∷ replica 2 ∷ []

abbrev pub section : Identifier
section = id_at 1 0

abbrev pub the_section : Op
the_section = Section section None None (codes "T")

-- the texts that each replica shows of the section
abbrev pub texts : World → List (List ℕ)
texts w = map (λ (s : State). text s.held.history section) w.replicas

-- how many operations each has accepted
abbrev pub counts : World → List ℕ
counts w = map (λ (s : State). length s.held.history) w.replicas

-- both type at the start of an empty section, and hear of each other later: replica 1 first hears the second scalar,
-- which waits for the first
abbrev typing : List Event
typing =
    Edit 1 (Add 0 (codes "T"))
    ∷ Deliver 2 the_section
    ∷ Edit 1 (Put 0 0 (codes "ab"))
    ∷ Edit 2 (Put 0 0 (codes "xy"))
    ∷ Deliver 1 (Text (id_at 2 1) section (Some (id_at 2 0)) None 121)
    ∷ []

apart : texts (world both typing) ≡ codes "ab" ∷ codes "xy" ∷ []
unfolding order chain verdict settle
apart = refl

-- what each still lacks is delivered, some of it twice
abbrev hearing : List Event
hearing =
    Deliver 1 (Text (id_at 2 0) section None None 120)
    ∷ Deliver 2 (Text (id_at 1 2) section (Some (id_at 1 1)) None 98)
    ∷ Deliver 2 (Text (id_at 1 1) section None None 97)
    ∷ Deliver 2 (Text (id_at 1 1) section None None 97)
    ∷ []

-- the two passages were begun at one place, and stand one after the other
together : texts (world both (typing ++ hearing)) ≡ codes "abxy" ∷ codes "abxy" ∷ []
unfolding order chain verdict settle
together = refl

-- both delete the same scalar: the pool has the Delete once, and it comes to the other as something that is there already
abbrev deleting : List Event
deleting = Edit 1 (Cut 0 1 1) ∷ Edit 2 (Cut 0 1 1) ∷ Deliver 1 (Delete (id_at 1 2)) ∷ []

deleted_once : (counts (world both (typing ++ hearing ++ deleting)) ≡ 6 ∷ 6 ∷ []) × (length (world both (typing ++ hearing ++ deleting)).pool ≡ 6)
unfolding order chain verdict settle
deleted_once = (refl, refl)

-- a refused edit changes nothing, and neither does an event at a number that no replica has
refused : world both (Edit 1 (Put 0 0 (codes "a")) ∷ Edit 3 (Add 0 (codes "T")) ∷ []) ≡ world both []
unfolding order
refused = refl

-- what was never made is not delivered
never_made : world both (Deliver 1 the_section ∷ []) ≡ world both []
never_made = refl

-- why the premises of the laws are there

-- two replicas with one number, of which one has little room: both give one identifier to different texts, and the pool is not lawful
abbrev one_number : List State
one_number = record { number = 1; hold = 10; most = 2; held = nothing_held } ∷ replica 1 ∷ []

number_shared : Lawful (world one_number (Edit 1 (Add 0 (codes "T")) ∷ Edit 1 (Put 0 0 (codes "ab")) ∷ Edit 1 (Put 0 0 (codes "c")) ∷ [])).pool → ⊥
unfolding order chain verdict
number_shared lawful = let clash : Conflict ≡ Ready = lawful.1.0 in cc clash

-- `b` was typed after `a`, and `y` was put between them or in front of both, so it has not the origins of `a`
abbrev with_y : (left right : Option Identifier) → List Op
with_y left right =
    Text (id_at 2 0) section left right 121 ∷ Text (id_at 1 2) section (Some (id_at 1 1)) None 98 ∷ Text (id_at 1 1) section None None 97 ∷ the_section ∷ []

-- with another left origin it stands within the passage, and with another right origin not by its identifier
other_origins : (text (with_y (Some (id_at 1 1)) (Some (id_at 1 2))) section ≡ codes "ayb") × (text (with_y None (Some (id_at 1 1))) section ≡ codes "yab")
unfolding order chain
other_origins = (refl, refl)
