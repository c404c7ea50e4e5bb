-- The words in which proofs here speak.
pub use Rattle.std.proofs.Common.{Bool, List, [], ap, arith, drop, false, inl, inr, length, nat_eq, not, refl, subst, suc, sym, take, true, ℕ, ◌&&◌, ◌++◌, ◌+◌, ◌-◌, ◌<◌}
pub use Rattle.std.proofs.Common.{◌||◌, ◌∙◌, ◌∷◌, ◌≡◌, ◌≤◌}
pub use Rattle.std.specs.Prelude.{None, Option, Some, codes, filter, flat_map, if◌then◌else◌, option_map, option_to_list}
pub use Rattle.std.specs.List.{All}
pub use Rattle.std.proofs.lemmas.Bool.{cases_Bool, eq-eqb, ne_eqb, true≢false}
pub use Rattle.std.proofs.lemmas.List.{append-nil, length-append, take-append-drop}
pub use Rattle.std.proofs.lemmas.List.Elements.{All-head, All-tail, All-weaker}
unfoldable pub use Rattle.std.specs.Str.{chars, is_utf8}
pub use lib.Pointwise.{pointwise}
pub use Rattle.fugue_ids.specs.Identifiers.{Identifier}
pub use Rattle.fugue_ids.specs.Ops.{id_of}
pub use Rattle.fugue_ids.specs.declared.op.Op.{Op}
pub use Rattle.fugue_ids.specs.declared.op.Op.TheVariants.{Delete, Note, Section, Text}
pub use Rattle.origin_model.specs.operations.History.{holds}
pub use Rattle.origin_model.specs.operations.Verdict.{Lawful}
unfoldable pub use Rattle.origin_model.specs.operations.Verdict.{verdict}
unfoldable pub use Rattle.origin_model.specs.order.Order.{chain, order}
pub use Rattle.origin_model.specs.order.Printed.{deletes, is_hidden}
unfoldable pub use Rattle.origin_model.specs.order.Printed.{manuscript}
