-- What an `Arranger` knows between one move or retitle and the next.
use Rattle.std.specs.Prelude.{◌≡◌, ℕ, ◌+◌, ◌<◌, ◌≤◌, ◌^◌, IfSome, List, ◌∷◌, length}
use Rattle.std.specs.List.{Contains}
use Rattle.fugue_ids.specs.declared.op.Op.{Op}
use Rattle.fugue_ids.specs.declared.op.Op.TheVariants.{Note}
use Rattle.fugue_ids.specs.Identifiers.{Identifier}
use Rattle.origin_model.specs.edits.State.{State}
use Rattle.origin_model.specs.order.Printed.{is_withdrawn}
use Rattle.catalogue_notes.specs.Arranged.{arranged}
use Rattle.catalogue_notes.specs.Claims.{Move}
use Rattle.catalogue_notes.specs.Lift.{lift, moves, stamp}
use Rattle.catalogue_notes.specs.Moving.{IsMoveMade, IsRetitleMade}
use Rattle.catalogue_notes.specs.Placing.{IsArranged}
use Rattle.catalogue_notes.specs.declared.arranger.Arranger.{Arranger}
use Rattle.catalogue_notes.specs.declared.arrangement.Arrangement.{Arrangement}
use Rattle.catalogue_notes.specs.declared.stamped.Stamped.{Stamped}

-- the arrangement of a history, and its stamp
pub record IsStamped (h : List Op) (found : Stamped) : Type 0 where
  pub arranged : IsArranged h found.arrangement
  pub stamp_is : found.stamp ≡ stamp h

-- what an arranger knows, if anything, is so of the history
abbrev pub Arranges : List Op → Arranger → Type 0
Arranges h a = IfSome a.found (IsStamped h)

-- sections are arranged by the same moves as before, under the same stamp, and the same moves are withdrawn: so it is when
-- texts alone were edited
pub record MovesStay (old new : List Op) : Type 0 where
  pub grew : length old ≤ length new
  pub lifted : lift new ≡ lift old
  pub moved : moves new ≡ moves old
  pub stamps : stamp new ≡ stamp old
  pub arranged_as : arranged new ≡ arranged old
  pub withdrawn : (m : Move) → Contains (moves old) m → is_withdrawn new m.id ≡ is_withdrawn old m.id

-- a note stands after what is arranged
pub record IsAfterNote (h : List Op) (a : Arrangement) : Type 0 where
  pub older : List Op
  pub id : Identifier
  pub named : List Identifier
  pub code : ℕ
  pub body : List ℕ
  pub is : h ≡ Note id named code body ∷ older
  pub arranged : IsArranged older a

-- a move was made of what was found
pub record IsAfterMove (new : State) (found : Stamped) (k j : ℕ) : Type 0 where
  pub old : State
  pub stamped : IsStamped old.held.history found
  pub left_over : stamp old.held.history + 1 < 2 ^ 32
  pub place : j < length (arranged old.held.history)
  pub count : ℕ
  pub made : IsMoveMade old new k j count

-- a retitle was
pub record IsAfterRetitle (new : State) (found : Stamped) (k : ℕ) (title : List ℕ) : Type 0 where
  pub old : State
  pub stamped : IsStamped old.held.history found
  pub left_over : stamp old.held.history + 1 < 2 ^ 32
  pub count : ℕ
  pub made : IsRetitleMade old new k title count
