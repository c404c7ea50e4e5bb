-- The words in which proofs here speak.
pub use Rattle.std.proofs.Common.{Bool, List, [], ap, arith, cond, drop, false, inl, inr, length, not, refl, subst, suc, sym, take, true, zero, ℕ, ◌&&◌, ◌++◌, ◌+◌, ◌-◌, ◌<◌, ◌||◌}
pub use Rattle.std.proofs.Common.{◌∙◌, ◌∷◌, ◌≡◌, ◌≢◌, ◌≤◌}
pub use Rattle.std.specs.Prelude.{None, Option, Some, codes, count_by, filter, flat_map, if◌then◌else◌, map, option_map, option_to_list, reverse, slice_get}
pub use Rattle.std.specs.List.{All, AllPairs, Contains, repeat}
pub use Rattle.std.proofs.lemmas.Bool.{cases_Bool, false≢true, or_right, true≢false}
pub use Rattle.std.proofs.lemmas.List.Elements.{All-cons, All-contains, All-head, All-nil, All-tail, All-weaker}
unfoldable pub use Rattle.std.specs.Str.{chars, is_utf8}
pub use Rattle.fugue_ids.specs.Identifiers.{Identifier, id_eq}
pub use Rattle.fugue_ids.specs.Ops.{id_of}
pub use Rattle.fugue_ids.specs.declared.op.Op.{Op}
pub use Rattle.fugue_ids.specs.declared.op.Op.TheVariants.{Delete, Note, Section, Text}
pub use Rattle.fugue_ids.proofs.ListLemmas.{all_from_contains, all_pairs_head, all_pairs_tail}
pub use Rattle.origin_model.specs.operations.History.{element_of, has_op, holder, holds, stands_at}
pub use Rattle.origin_model.specs.operations.Verdict.{Lawful, first_missing, names}
unfoldable pub use Rattle.origin_model.specs.operations.Verdict.{verdict}
unfoldable pub use Rattle.origin_model.specs.order.Order.{before, chain, order}
pub use Rattle.origin_model.specs.order.Laws.{IsIn, IsPartOf, KeepsOrder}
pub use Rattle.origin_model.specs.order.Printed.{is_hidden, shown}
pub use Rattle.origin_model.specs.declared.operations.Place.{Place}
pub use Rattle.origin_model.specs.declared.operations.Place.TheVariants.{Catalogue as catalogue, Section as within}
