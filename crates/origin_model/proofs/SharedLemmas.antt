-- The lemmas that proofs of other crates may cite.
pub use Rattle.origin_model.proofs.operations.CauseLemmas.{becomes_ready, names_within, ready_absent}
pub use Rattle.origin_model.proofs.operations.ElementLemmas.{element_id, element_own, element_stands, element_there, fits_element, none_elsewhere, one_place, place_eq-true}
pub use Rattle.origin_model.proofs.operations.ElementLemmas.{place_stands, stands_element, stands_place}
pub use Rattle.origin_model.proofs.operations.LookupLemmas.{all_fit, cases_held, fit_each, Fits, found, has-append, has-holder, has-reverse, has_member, holder-has, holder-other}
pub use Rattle.origin_model.proofs.operations.LookupLemmas.{holder-own, holder_owns, holds-cons, holds-older, holds-other, holds-own, id_held-nil, IsHeld, missing-held, own_id}
pub use Rattle.origin_model.proofs.operations.LookupLemmas.{right_at_held, right_by, swap_or, when_ready}
pub use Rattle.origin_model.proofs.operations.OneLookUpLemmas.{is_own-id}
pub use Rattle.origin_model.proofs.operations.OwnIdLemmas.{lawful_own, other_ids}
pub use Rattle.origin_model.proofs.operations.FoundedLemmas.{no_text_before, not_hidden_before, ready_is_new, same_nodes_same_order, section_first, shown_can_go, target_is_shown}
pub use Rattle.origin_model.proofs.order.OrderLawLemmas.{hidden-has, later_ops_keep_order, order_by_set, order_total, parts_keep_order, same-part, Within-part}
pub use Rattle.origin_model.proofs.order.OrderLemmas.{further, IsIn-held, lefts-in, order-in, order-none, order-some, order_bounded, right_at_in, rights-in}
pub use Rattle.origin_model.proofs.order.OrderedListLemmas.{count-no, count-yes, none_pass, Ordered-agree, same_ordered}
pub use Rattle.origin_model.proofs.order.PositionLemmas.{index_end, member_lt, origin_before}
pub use Rattle.origin_model.proofs.order.PrintedLemmas.{section_joins}
pub use Rattle.origin_model.proofs.sides.DetachedLemmas.{absent_stays, found_without, nodes_stay}
pub use Rattle.origin_model.proofs.sides.KeyedOrderLemmas.{adjacent, gap_at, gap_found, gap_within, key_found, key_held, keyed_at_gap, keyed_ids, keyed_joins, keys_fit}
pub use Rattle.origin_model.proofs.sides.KeyedOrderLemmas.{new_key_slot, order_once, part_bounds, part_least, siblings_fall, slot_held}
pub use Rattle.origin_model.proofs.sides.NewKeyLemmas.{key-other, never_both, newest_key}
pub use Rattle.origin_model.proofs.sides.NodeHistoryLemmas.{holder-nodes, nodes-lawful, nodes_lawful, op_of}
pub use Rattle.origin_model.proofs.sides.NodeOrderLemmas.{count_alike, IsByNodes, nodes-none, nodes_listed, order_by_nodes}
pub use Rattle.origin_model.specs.sides.Slot.{IsPlace}
pub use Rattle.origin_model.proofs.taking.AcceptedFrontLemmas.{first_accepted}
pub use Rattle.origin_model.proofs.taking.KeptLemmas.{answers-append, held-append, kept-append, kept-no, kept-yes, kept_suffice, nothing_settled, saved_suffice, stays_settled}
pub use Rattle.origin_model.proofs.taking.KeptLemmas.{tally-append}
pub use Rattle.origin_model.proofs.taking.RefusedLemmas.{Refused, no_place_left, places-append, places-none, places-one, same_refused, taken_or_refused}
pub use Rattle.origin_model.proofs.taking.SettlingLemmas.{IsEarliest, earliest-no, earliest-yes, earliest_found, passed_over, settle-settled, settles, within-none, within-some}
pub use Rattle.origin_model.proofs.taking.SettlingLemmas.{without}
pub use Rattle.origin_model.proofs.taking.ClosureLawLemmas.{consistent_part, covered_closed, nothing_covers, part_at_end, part_in_front, parts_join}
pub use Rattle.origin_model.proofs.taking.ClosureLemmas.{same_closed}
pub use Rattle.origin_model.proofs.taking.TakingLemmas.{accept_covers, accepted_by, accepted_is_ready, Covers, Covers-same, fold_covers, has-moved}
pub use Rattle.origin_model.proofs.edits.NextCounterLemmas.{counters-append}
pub use Rattle.origin_model.proofs.files.AppendLemmas.{batch_appended, before_gate, from_parts, new_file_holds, Parts, same_to_gate, to_parts, with_batch}
pub use Rattle.origin_model.proofs.files.BatchLemmas.{batch_of, after_word, is_batch, length_is, one_grammar, same_batch, word_is}
pub use Rattle.origin_model.proofs.frames.SingleLemmas.{IsSingle, framed_is, framed_of, single_of, singles_read}
pub use Rattle.origin_model.proofs.frames.ItemLemmas.{bytes_of, item_framed, item_is_framed, ops_of, same_parts}
pub use Rattle.origin_model.proofs.frames.TypedLemmas.{length-run, typed_more, typed_scalars}
pub use Rattle.origin_model.proofs.frames.FramingLemmas.{framing_read, one_text, written, written_framing, written_once}
pub use Rattle.origin_model.proofs.frames.LengthLemmas.{frame_wide, framing_short, length-scalars, origin_short, run_long}
pub use Rattle.origin_model.proofs.frames.VersionLemmas.{read_too}
pub use Rattle.origin_model.proofs.files.ImageLemmas.{Bad, Closed, Ends, ReadOnce, image_once, no_open_slot, slots_not_empty}
pub use Rattle.origin_model.proofs.files.WalkLemmas.{ReadSome, image_some}
pub use Rattle.origin_model.proofs.relay.OneOutcomeLemmas.{FramesOnce, SomeKind, all_once, all_some, one_kind, run_once, run_some, step_once, step_some}
pub use Rattle.origin_model.proofs.relay.PartsLemmas.{InParts, in_parts}
pub use Rattle.origin_model.proofs.relay.RunLemmas.{Follows, Path, after_piece, ends_at, follows_runs, open_stays, opened_steps, piece_steps, runs-append, state_after, step_runs}
pub use Rattle.origin_model.proofs.relay.RunLemmas.{unknown_steps}
pub use Rattle.origin_model.proofs.relay.TextLemmas.{closed_takes, closing_takes, frame_takes, front_of, front_takes, hello, hello_takes, partly, rest_takes, takes-append}
pub use Rattle.origin_model.proofs.order.ChainPartLemmas.{common}
pub use Rattle.origin_model.proofs.order.ChainOrderLemmas.{chain_before-fork, chain_before-irrefl, chain_before-same}
pub use Rattle.origin_model.proofs.order.ChainLemmas.{beside_is, chain-ends, chain-held, chain-other, chain-own, chain_above, never_none, same_chain}
pub use Rattle.origin_model.proofs.order.ChainFrontLemmas.{has_left-at, left_at-is, left_by, lefts-above, lefts-prefix, rights-prefix}
pub use Rattle.origin_model.proofs.order.ListPartLemmas.{empty_from, heads, not_nil}
pub use Rattle.origin_model.proofs.order.PartLemmas.{before_at, before_at-older, fork-by, fork_by, IsIn-within, Lawful-append, left_origin_held, lefts-at, lefts-within}
pub use Rattle.origin_model.proofs.order.PartLemmas.{right_origin_held, rights-at, rights-within, Within, Within-append}
pub use Rattle.origin_model.proofs.order.StrictOrderLemmas.{before_in-irrefl}
pub use Rattle.origin_model.proofs.sides.KeyedBlockLemmas.{split_member}
