-- Named versions of a file: notes of code 4 without names, made by the file's own replica. A history is newest first.
use Rattle.std.specs.Prelude.{ℕ, nat_eq, Option, Some, None, Bool, false, if◌then◌else◌, ◌&&◌, List, [], ◌∷◌, ◌++◌, length, option_and_then}
use Rattle.std.specs.Prelude.{option_map, option_to_list, slice_get}
use Rattle.fugue_ids.specs.Ops.{id_of}
use Rattle.fugue_ids.specs.Titles.{is_line}
use Rattle.fugue_ids.specs.declared.op.Op.{Op}
use Rattle.fugue_ids.specs.declared.op.Op.TheVariants.{Note}
use Rattle.origin_model.specs.operations.History.{accepted}
use Rattle.origin_model.specs.order.Printed.{deletes, is_withdrawn as note_withdrawn}
use Rattle.version_views.specs.declared.limits.TheConstants.{LONGEST_NAME, VERSION_CODE}
use lib.Pointwise.{pointwise}

-- a name, and how many operations were accepted before it was given
pub record Version : Type 0 where
  pub name : List ℕ
  pub count : ℕ

-- the bytes are a name: UTF-8 of 1 to 120 bytes without LF and CR
abbrev pub is_name : List ℕ → Bool
is_name bytes = is_line LONGEST_NAME bytes

-- the name that an operation gives in a file of the replica r
abbrev pub name_given : ℕ → Op → Option (List ℕ)
name_given r (Note id [] code body) = if nat_eq code VERSION_CODE && nat_eq id.replica r && is_name body then Some body else None
name_given r _ = None

-- a Delete of the history withdraws the note
abbrev pub is_withdrawn_version : List Op → Op → Bool
is_withdrawn_version history op = elim (id_of op) [ None ↦ false | Some i ↦ note_withdrawn history i ]

-- the name of the version that an operation is
abbrev pub name_in : ℕ → List Op → Op → Option (List ℕ)
name_in r history op = if is_withdrawn_version history op then None else name_given r op

-- that of the operation that has n before it
abbrev pub name_in_at : ℕ → List Op → ℕ → Option (List ℕ)
name_in_at r history n = option_and_then (name_in r history) (slice_get (accepted history) n)

-- those of the oldest operations, where the whole history tells what is withdrawn
abbrev pub versions_up_to : ℕ → List Op → List Op → List Version
versions_up_to r history [] = []
versions_up_to r history (op ∷ older) =
    versions_up_to r history older ++ option_to_list
    (option_map (λ name. record { name = name; count = length older }) (name_in r history op))

-- the versions of a file of the replica r, in the order in which they were named
abbrev pub versions : List Op → ℕ → List Version
versions history r = versions_up_to r history history

-- the last of some versions with this name
abbrev pub last_named : List ℕ → List Version → Option Version
last_named name [] = None
last_named name (v ∷ vs) = elim (last_named name vs) [
  | Some w ↦ Some w
  | None ↦ if pointwise nat_eq v.name name then Some v else None
]

-- the version with the name is the last one: how many operations it has
abbrev pub version_with : List Op → ℕ → List ℕ → Option ℕ
version_with history r name = option_map (λ v. v.count) (last_named name (versions history r))

-- the operation is a version with this name
abbrev pub is_version : ℕ → List Op → List ℕ → Op → Bool
is_version r history name op = elim (name_in r history op) [ None ↦ false | Some body ↦ pointwise nat_eq body name ]

-- so is that with n before it
abbrev pub is_version_at : ℕ → List Op → List ℕ → ℕ → Bool
is_version_at r history name n = elim (name_in_at r history n) [ None ↦ false | Some body ↦ pointwise nat_eq body name ]

-- the operation that has n before it
abbrev pub op_after : List Op → ℕ → Option Op
op_after [] n = None
op_after (op ∷ older) n = if nat_eq (length older) n then Some op else op_after older n

-- an operation withdraws the note that follows the first n operations
abbrev pub withdraws_note : List Op → ℕ → Op → Bool
withdraws_note history n op = elim (op_after history n) [
  | None ↦ false
  | Some note ↦ elim (id_of note) [ None ↦ false | Some i ↦ deletes i op ]
]

-- an operation withdraws the version with the name
abbrev pub withdraws : List Op → ℕ → List ℕ → Op → Bool
withdraws history r name op = elim (version_with history r name) [ None ↦ false | Some n ↦ withdraws_note history n op ]
