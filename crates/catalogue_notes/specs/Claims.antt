-- What notes say of sections: where one is to stand, and what its title is. Moves and retitles are notes of two codes.
use Rattle.std.specs.Prelude.{ℕ, zero, suc, nat_eq, Option, Some, None, Bool, if◌then◌else◌, List, [], ◌∷◌, option_map}
use Rattle.std.specs.Int.{from_be_bytes, w32}
use Rattle.std.specs.Str.{chars}
use Rattle.fugue_ids.specs.Identifiers.{Identifier}
use Rattle.fugue_ids.specs.Titles.{is_line}
use Rattle.fugue_ids.specs.declared.limits.TheConstants.{LONGEST_TITLE}
use Rattle.fugue_ids.specs.declared.op.Op.{Op}
use Rattle.fugue_ids.specs.declared.op.Op.TheVariants.{Note}
use Rattle.catalogue_notes.specs.declared.limits.TheConstants.{MOVE_CODE, RETITLE_CODE}

-- what a note claims of a section
pub record Claim (V : Type 0) : Type 0 where
  pub id : Identifier
  pub section : Identifier
  pub stamp : ℕ
  pub value : V

-- where a section is to stand
pub record Origins : Type 0 where
  pub left : Option Identifier
  pub right : Option Identifier

-- a move claims a position, and a retitle a title
abbrev pub Move : Type 0
Move = Claim Origins

-- a claim of a title, in UTF-8
abbrev pub Retitle : Type 0
Retitle = Claim (List ℕ)

-- the origins by the form, from the names after the section: the forms 1 and 3 have a left one, 2 and 3 a right one
abbrev pub origins_of : (form : ℕ) → List Identifier → Option Origins
origins_of zero [] = Some (record { left = None; right = None })
origins_of (suc zero) (l ∷ []) = Some (record { left = Some l; right = None })
origins_of (suc (suc zero)) (r ∷ []) = Some (record { left = None; right = Some r })
origins_of (suc (suc (suc zero))) (l ∷ r ∷ []) = Some (record { left = Some l; right = Some r })
origins_of _ _ = None

-- a stamp has four bytes, the most significant first
abbrev pub stamp_of : (a b c d : ℕ) → ℕ
stamp_of a b c d = from_be_bytes w32 (a ∷ b ∷ c ∷ d ∷ [])

-- a claim by its four parts
abbrev pub claim : {V : Type 0} → (id section : Identifier) → (stamp : ℕ) → V → Claim V
claim id section stamp value = record { id = id; section = section; stamp = stamp; value = value }

-- a move's names and body: the section and the origins; a stamp and a form
abbrev pub move_of : Identifier → (named : List Identifier) → (body : List ℕ) → Option Move
move_of id (s ∷ named) (a ∷ b ∷ c ∷ d ∷ form ∷ []) = option_map (λ o. claim id s (stamp_of a b c d) o) (origins_of form named)
move_of _ _ _ = None

-- what an operation says, where it has the shape of a move
abbrev pub move_in : Op → Option Move
move_in (Note id named code body) = if nat_eq code MOVE_CODE then move_of id named body else None
move_in _ = None

-- the bytes are a title in UTF-8
abbrev pub is_title : List ℕ → Bool
is_title bytes = is_line LONGEST_TITLE bytes

-- a retitle's names and body: the section; a stamp and a title
abbrev pub retitle_of : Identifier → (named : List Identifier) → (body : List ℕ) → Option Retitle
retitle_of id (s ∷ []) (a ∷ b ∷ c ∷ d ∷ title) = if is_title title then Some (claim id s (stamp_of a b c d) (chars title)) else None
retitle_of _ _ _ = None

-- what an operation says, where it has the shape of a retitle
abbrev pub retitle_in : Op → Option Retitle
retitle_in (Note id named code body) = if nat_eq code RETITLE_CODE then retitle_of id named body else None
retitle_in _ = None
