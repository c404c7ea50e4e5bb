-- The manuscript of the operations that were accepted first, and what is written of the versions of a file.
use Rattle.std.specs.Prelude.{◌≡◌, ℕ, ◌-◌, Some, None, Result, Ok, Err, List, ◌++◌, [], ◌∷◌, decimal, drop, flat_map, length}
use Rattle.fugue_ids.specs.Outs.{OutView, WritesBytes}
use Rattle.fugue_ids.specs.declared.op.Op.{Op}
use Rattle.fugue_ids.specs.declared.out.Failed.{Failed}
use Rattle.origin_model.specs.order.Printed.{manuscript}
use Rattle.version_views.specs.Versions.{Version, name_in, name_in_at, versions}
use Rattle.version_views.specs.declared.viewing.ViewFault.{ViewFault}
use Rattle.version_views.specs.declared.viewing.ViewFault.TheVariants.{SinkFault, NoMemory}

-- the n operations that were accepted first
abbrev pub first_ops : ℕ → List Op → List Op
first_ops n history = drop (length history - n) history

-- what is written of a version: the manuscript of its operations
abbrev pub view : List Op → ℕ → List ℕ
view history n = manuscript (first_ops n history)

-- the text goes out, or the output fails with a front of it gone out, or memory runs out and nothing went out
abbrev pub WritesView : OutView → OutView → Result (Unit {0}) ViewFault → List ℕ → Type 0
WritesView old new (Ok done) text = WritesBytes {E = Failed} {T = Unit {0}} old new (Ok done) text
WritesView old new (Err SinkFault) text = WritesBytes {E = Failed} {T = Unit {0}} old new (Err (record {})) text
WritesView old new (Err NoMemory) text = new ≡ old

-- the line of a version: how many operations it has, a space, its name, LF
abbrev pub version_line : Version → List ℕ
version_line v = decimal v.count ++ 32 ∷ v.name ++ 10 ∷ []

-- the line of the operation that has so many before it, where that is a version
abbrev pub line_in : ℕ → List Op → ℕ → Op → List ℕ
line_in r history count op = elim (name_in r history op) [ None ↦ [] | Some name ↦ version_line (record { name = name; count = count }) ]

-- that of the operation with so many before it
abbrev pub line_at : ℕ → List Op → ℕ → List ℕ
line_at r history count = elim (name_in_at r history count) [ None ↦ [] | Some name ↦ version_line (record { name = name; count = count }) ]

-- the lines of a file's versions
abbrev pub versions_text : List Op → ℕ → List ℕ
versions_text history r = flat_map version_line (versions history r)
