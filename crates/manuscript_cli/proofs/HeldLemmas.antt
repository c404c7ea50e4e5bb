-- Operations are found at the same positions by a replica and in certificates.
use Rattle.std.proofs.Common.{List, [], ap, length, refl, reverse, sym, ◌∙◌, ◌∷◌, ◌≡◌}
use Rattle.std.specs.Prelude.{Some, if◌then◌else◌}
use Rattle.std.proofs.lemmas.List.{reverse-reverse}
use Rattle.fugue_ids.specs.Identifiers.{Identifier}
use Rattle.fugue_ids.specs.declared.op.Op.{Op}
use Rattle.origin_model.specs.operations.History.{accepted, is_own}
use Rattle.replica_core.specs.Index as index
use Rattle.order_proof.specs.Positions.{position_of}

same_position : (h : List Op) (x : Identifier) → index.newest_position (is_own x) h ≡ position_of x h
same_position [] x = refl
same_position (op ∷ older) x = ap (λ o. if is_own x op then Some (length older) else o) (same_position older x)

pub position_among : (h : List Op) (x : Identifier) → index.newest_position (is_own x) h ≡ position_of x (reverse (accepted h))
position_among h x = same_position h x ∙ ap (position_of x) (sym (reverse-reverse h))
