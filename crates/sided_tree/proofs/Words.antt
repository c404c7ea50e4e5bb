-- The names that the walks cite, and the end that they share. Assumes `Logic`.
pub use Rattle.std.proofs.Common.{List, [], ◌∷◌, refl}
pub use mir.Syntax.{named}
pub use mir.Val.{Val, vptr, vstruct, vnil}
pub use contract.Running.{tables}
pub use types.Kit.{‵, raw, ◌⊛◌, ◌$◌, ◌∵◌, !, qed, move, keep, split, suffices, done}
pub use types.Part.{agg}
pub use types.Run.{enter, returns, no_more}
pub use types.ByLocal.{alloc_all, pass_all, free_all, look_at, sets}
pub use denote.Exit.{yes}
pub use denote.RattleType.{owns}
pub use denote.Ref.{shr_vals, shr_Tells}
pub use denote.Shadow.{pure_i}
pub use denote.Signature.{plain, types_at}
pub use denote.Triple.Entry.{alive}
pub use denote.Triple.Walked.{says, Stays, stay_none_ref, Goes-none_ref, walk_of, ends_at}
pub use Rattle.std.proofs.raw_atomic.Walks.{proved}
pub use Rattle.sided_tree.specs.declared.ages.Ages.{Ages}
pub use Rattle.sided_tree.specs.contracts.ages.Ages.{the_row}
