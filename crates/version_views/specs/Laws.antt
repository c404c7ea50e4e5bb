-- Laws of versions and views.
use Rattle.std.specs.Prelude.{◌≡◌, ◌↔◌, ◌<◌, ◌≤◌, ℕ, Option, Some, Bool, true, false, not, ◌&&◌, All, Contains, List, ◌++◌, filter, length}
use Rattle.std.specs.Prelude.{option_map}
use Rattle.fugue_ids.specs.Identifiers.{Identifier}
use Rattle.fugue_ids.specs.declared.op.Op.{Op}
use Rattle.origin_model.specs.declared.operations.Place.{Place}
use Rattle.origin_model.specs.operations.History.{holds}
use Rattle.origin_model.specs.operations.Verdict.{Lawful}
use Rattle.origin_model.specs.order.Order.{order}
use Rattle.origin_model.specs.order.Printed.{is_hidden, shown}
use Rattle.version_views.specs.Versions.{Version, is_version, is_withdrawn_version, name_given, op_after, version_with, versions}
use Rattle.version_views.specs.Versions.{withdraws}
use Rattle.version_views.specs.Views.{first_ops, view}

-- the order of the operations that were accepted first is that of all, without what they lack
abbrev pub OrderByFilter : Type 0
OrderByFilter = (p : Place) (new h : List Op) → Lawful (new ++ h) → order p h ≡ filter (holds h) (order p (new ++ h))

-- x is held and no Delete of the history names it
abbrev pub is_shown : List Op → Identifier → Bool
is_shown h x = holds h x && not (is_hidden h x)

-- what they show is what the order of all has of it
abbrev pub ShownByFilter : Type 0
ShownByFilter = (p : Place) (new h : List Op) → Lawful (new ++ h) → shown p h ≡ filter (is_shown h) (order p (new ++ h))

-- the same told of the first n operations
abbrev pub FirstByFilter : Type 0
FirstByFilter = (p : Place) (n : ℕ) (h : List Op) → Lawful h → order p (first_ops n h) ≡ filter (holds (first_ops n h)) (order p h)

-- the first n operations stay the same, and so does what is written of them
abbrev pub LaterOpsLeaveView : Type 0
LaterOpsLeaveView = (n : ℕ) (new h : List Op) → n ≤ length h → view (new ++ h) n ≡ view h n

-- the operation leaves the version with the name: it is none with this name itself, and does not withdraw it
abbrev pub leaves_version : (new h : List Op) → ℕ → List ℕ → Op → Bool
leaves_version new h r name op = not (is_version r (new ++ h) name op) && not (withdraws h r name op)

-- later operations that each leave the version with a name leave it, whatever else they are
abbrev pub LaterOpsLeaveVersion : Type 0
LaterOpsLeaveVersion = (r : ℕ) (name : List ℕ) (new h : List Op) → All (λ op. leaves_version new h r name op ≡ true) new
    → version_with (new ++ h) r name ≡ version_with h r name

-- what is written for a name: the view of its version, where there is one
abbrev pub view_named : List Op → ℕ → List ℕ → Option (List ℕ)
view_named h r name = option_map (view h) (version_with h r name)

-- later operations that each leave the version with a name leave what is written for the name
abbrev pub LaterOpsLeaveWritten : Type 0
LaterOpsLeaveWritten = (r : ℕ) (name : List ℕ) (new h : List Op) → All (λ op. leaves_version new h r name op ≡ true) new
    → view_named (new ++ h) r name ≡ view_named h r name

-- the operation that has so many before it gives the name in a file of the replica r, and no Delete names it
pub record GivesName (h : List Op) (r : ℕ) (v : Version) : Type 0 where
  pub op : Op
  pub op_is : op_after h v.count ≡ Some op
  pub gives : name_given r op ≡ Some v.name
  pub not_withdrawn : is_withdrawn_version h op ≡ false

-- a file has just the versions that are given
abbrev pub VersionsAreGiven : Type 0
VersionsAreGiven = (h : List Op) (r : ℕ) (v : Version) → Contains (versions h r) v ↔ GivesName h r v

-- a version has operations of the history, and not its own note
abbrev pub VersionIsWithin : Type 0
VersionIsWithin = (h : List Op) (r : ℕ) (name : List ℕ) (n : ℕ) → version_with h r name ≡ Some n → n < length h
