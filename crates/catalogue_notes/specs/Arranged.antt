-- Where sections stand, and what their titles are: of the valid claims that no Delete names the one with the greatest stamp wins.
use Rattle.std.specs.Prelude.{ℕ, nat_eq, nat_lt, Option, Some, None, Bool, if◌then◌else◌, not, ◌&&◌, ◌||◌, List, [], ◌∷◌, ◌++◌, filter}
use Rattle.std.specs.Prelude.{flat_map, codes}
use Rattle.std.specs.Str.{encode_utf8_all}
use Rattle.fugue_ids.specs.Identifiers.{Identifier, id_eq, id_lt}
use Rattle.fugue_ids.specs.declared.op.Op.{Op}
use Rattle.origin_model.specs.declared.operations.Place.TheVariants.{Catalogue as catalogue}
use Rattle.origin_model.specs.operations.History.{holder}
use Rattle.origin_model.specs.order.Order.{order}
use Rattle.origin_model.specs.order.Printed.{is_withdrawn, shown, text, title_of}
use Rattle.catalogue_notes.specs.Claims.{Claim}
use Rattle.catalogue_notes.specs.Lift.{lift, moves, retitles}

-- a wins over b: by its stamp, and then by its identifier
abbrev pub beats : {V : Type 0} → Claim V → Claim V → Bool
beats a b = nat_lt b.stamp a.stamp || (nat_eq b.stamp a.stamp && id_lt b.id a.id)

-- the winner of a claim and the winner so far, if there is one
abbrev pub better : {V : Type 0} → Claim V → Option (Claim V) → Claim V
better c None = c
better c (Some b) = if beats c b then c else b

-- the one that wins over the others
abbrev pub best : {V : Type 0} → List (Claim V) → Option (Claim V)
best [] = None
best (c ∷ cs) = Some (better c (best cs))

-- the claim is one on the section, and not withdrawn
abbrev pub counts : {V : Type 0} → List Op → Identifier → Claim V → Bool
counts h s c = id_eq c.section s && not (is_withdrawn h c.id)

-- of the claims on a section that are not withdrawn the one that wins over the others
abbrev pub winner : {V : Type 0} → List Op → Identifier → List (Claim V) → Option (Claim V)
winner h s cs = best (filter (counts h s) cs)

-- where a section stands: at its winning move, or at its own element where it has none
abbrev pub position : List Op → Identifier → Identifier
position h s = elim (winner h s (moves h)) [ None ↦ s | Some m ↦ m.id ]

-- the shown sections whose position is x
abbrev pub sections_at : List Op → Identifier → List Identifier
sections_at h x = filter (λ s. id_eq (position h s) x) (shown catalogue h)

-- the shown sections in the order of their positions
abbrev pub arranged : List Op → List Identifier
arranged h = flat_map (sections_at h) (order catalogue (lift h))

-- a section's title: that of its winning retitle, or its own where it has none
abbrev pub heading : List Op → Identifier → List ℕ
heading h s = elim (winner h s (retitles h)) [ None ↦ title_of (holder h s) | Some r ↦ r.value ]

-- a hash sign, a space, the heading, LF, the text, LF
abbrev pub arranged_section : List Op → Identifier → List ℕ
arranged_section h s = codes "# " ++ encode_utf8_all (heading h s) ++ 10 ∷ encode_utf8_all (text h s) ++ 10 ∷ []

-- the shown sections as they are arranged, under their headings
unfoldable pub arranged_text : List Op → List ℕ
arranged_text h = flat_map (arranged_section h) (arranged h)
