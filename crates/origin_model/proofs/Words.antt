-- The words in which proofs here speak: those of std, of operations, and of their order.
pub use Rattle.std.proofs.Common.{Bool, List, [], ap, append_assoc, arith, cond, drop, false, get_or, inl, inr, length, min, nat_eq, not, refl, reverse, subst, suc, sym, take}
pub use Rattle.std.proofs.Common.{true, zero, ℕ, ◌&&◌, ◌++◌, ◌+◌, ◌-◌, ◌<◌, ◌^◌, ◌||◌, ◌↔◌, ◌∙◌, ◌∷◌, ◌≡◌, ◌≢◌, ◌≤◌, ◌⊎◌}
pub use Rattle.std.specs.Prelude.{Err, None, Ok, Option, Some, codes, count_by, filter, flat_map, if◌then◌else◌, is_some, map, option_to_list, slice_get, slice_index_or}
pub use Rattle.std.specs.List.{All, AllByRecursion, AllPairs, Contains, insert}
pub use Rattle.std.proofs.lemmas.Bool.{cases_Bool, eq-eqb, false_from_ne_true, false≢true, ne_eqb, or_cases, or_left, or_parts, or_right, true≢false}
pub use Rattle.std.proofs.lemmas.List.{append-nil, append_cancel_left, drop_more, length-append, length-take-le, reverse-append, same_from_push, take-append-drop, take_all}
pub use Rattle.std.proofs.lemmas.List.Elements.{All-append, All-cons, All-contains, All-head, All-nil, All-push, All-tail, All-weaker, Contains-append_cases, Contains-append_left}
pub use Rattle.std.proofs.lemmas.List.Elements.{Contains-append_right, filter-append}
pub use Rattle.fugue_ids.specs.Identifiers.{Identifier, id_eq, id_lt, origin_eq}
pub use Rattle.fugue_ids.specs.Ops.{id_of, op_eq}
pub use Rattle.fugue_ids.specs.declared.op.Op.{Op}
pub use Rattle.fugue_ids.specs.declared.op.Op.TheVariants.{Delete, Note, Section, Text}
pub use Rattle.fugue_ids.proofs.IdentifierLemmas.{cases_id, cases_origin, eq-id_eq, id_eq-refl, id_eq-true, ne-id_eq, not_some, origin_eq-true}
pub use Rattle.fugue_ids.proofs.ListLemmas.{all_before, all_after, all_from_contains, all_from_map, all_insert, all_pairs_before, all_pairs_after, all_pairs_head, all_pairs_nil}
pub use Rattle.fugue_ids.proofs.ListLemmas.{all_pairs_tail, contains_around, contains_cases, contains_filter_from, contains_here, contains_middle, contains_middle_cases}
pub use Rattle.fugue_ids.proofs.ListLemmas.{contains_none, contains_there}
pub use Rattle.fugue_ids.proofs.OpLemmas.{op_eq-refl, op_eq-true}
pub use Rattle.origin_model.specs.operations.History.{accepted, element_of, has_op, holder, holds, is_own, left_of, place_eq, right_of}
pub use Rattle.origin_model.specs.operations.Verdict.{Lawful, first_line, first_missing, first_stray, fits, given_as, id_held, names}
unfoldable pub use Rattle.origin_model.specs.operations.Verdict.{verdict}
pub use Rattle.origin_model.specs.order.Order.{IsOrderedBy, Passes, before_in, chain_before, fork_before, has_left, index_of_origin, left_at, lefts, next_left, next_right}
pub use Rattle.origin_model.specs.order.Order.{older_of, placed, precedes, right_at, right_beside, rights, sibling}
unfoldable pub use Rattle.origin_model.specs.order.Order.{before, chain, order}
pub use Rattle.origin_model.specs.order.Printed.{deletes, is_hidden, printed_section, scalar_of, shown, text, title_of}
unfoldable pub use Rattle.origin_model.specs.order.Printed.{manuscript}
pub use Rattle.origin_model.specs.order.Laws.{IsIn, IsPartOf, SameOps}
pub use Rattle.origin_model.specs.declared.operations.Place.{Place}
pub use Rattle.origin_model.specs.declared.operations.Place.TheVariants.{Catalogue, Catalogue as catalogue, Section as within}
pub use Rattle.origin_model.specs.declared.operations.Role.{Role}
pub use Rattle.origin_model.specs.declared.operations.Role.TheVariants.{Section as SectionRole, TextOf}
pub use Rattle.origin_model.specs.declared.operations.Verdict.{Verdict}
pub use Rattle.origin_model.specs.declared.operations.Verdict.TheVariants.{Again, Conflict, Missing, Ready, Stray}
