-- Lemmas on the order of a place, and those of them that the other rooms cite.
pub mod ChainFrontLemmas
pub mod ChainLemmas
pub mod ChainOrderLemmas
pub mod ChainPartLemmas
pub mod ForkLemmas
pub mod ListPartLemmas
pub mod ListingLemmas
pub mod OrderLawLemmas
pub mod OrderLemmas
pub mod OrderedListLemmas
pub mod PartLemmas
pub mod PositionLemmas
pub mod PrintedLemmas
pub mod StrictOrderLemmas
pub use Rattle.origin_model.proofs.order.ChainFrontLemmas.{has_left-at, left_at-is, left_by, lefts-above, lefts-prefix, only_one, rights-prefix}
pub use Rattle.origin_model.proofs.order.ChainLemmas.{above-same, beside-same, beside_is, chain-ends, chain-held, chain-other, chain-own, chain_above, never_none, same_chain}
pub use Rattle.origin_model.proofs.order.ChainOrderLemmas.{chain_before-fork, chain_before-same}
pub use Rattle.origin_model.proofs.order.ChainPartLemmas.{common, longer, parts, parts_late, turns, turns_off}
pub use Rattle.origin_model.proofs.order.ListPartLemmas.{empty_from, filter_no, filter_yes, first_before, first_of, front_before, heads, in_rest, last_of, no_member, not_longer}
pub use Rattle.origin_model.proofs.order.ListPartLemmas.{not_nil, once_mid, ordered_out}
pub use Rattle.origin_model.proofs.order.OrderLawLemmas.{Within-part, hidden-has, later_ops_keep_order, order_by_set, order_total, parts_keep_order, same-part}
pub use Rattle.origin_model.proofs.order.OrderLemmas.{IsIn-held, IsIn-older, IsIn-own, IsIn-split, before_in-older, fork_moved, left_in, lefts-in, order-has, order-in}
pub use Rattle.origin_model.proofs.order.OrderLemmas.{order-member, order-none, order-ordered, order-some, right-older, right_in, rights-in, stay_ordered}
pub use Rattle.origin_model.proofs.order.OrderedListLemmas.{Ordered-agree, count-no, count-yes, no_loop, placed-behind, placed-first}
pub use Rattle.origin_model.proofs.order.PartLemmas.{Within, Within-append, before_at, fork-within, has_left_by, left_origin_held, lefts-at, order-same, origin_held}
pub use Rattle.origin_model.proofs.order.PartLemmas.{right_origin_held, rights-at}
pub use Rattle.origin_model.proofs.order.PositionLemmas.{Stands}
pub use Rattle.origin_model.proofs.order.StrictOrderLemmas.{before_agree, before_in-irrefl, before_in-total, before_in-trans, fork-irrefl, fork-total, fork-trans, sibling-irrefl}
pub use Rattle.origin_model.proofs.order.StrictOrderLemmas.{sibling-trans}
