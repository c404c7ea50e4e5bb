-- The gap of a new element, found by keys: by searches for the next or the last element whose key is at most a given
-- one. There is no table of children: those of a slot are the elements of one key in a part of the list.
use Rattle.std.specs.Prelude.{ℕ, suc, ◌-◌, ◌^◌, Option, Some, None, unwrap_or, Bool, List}
use Rattle.fugue_ids.specs.Identifiers.{Identifier}
use Rattle.fugue_ids.specs.Keys.{Keyed, between, first_id, first_low, front_of, last_id, last_low, low_ids, rest_of}
use Rattle.fugue_ids.specs.Listed.{index_of}
use Rattle.fugue_ids.specs.Passing.{last_passing}
use Rattle.fugue_ids.specs.declared.key.Gap.{Gap}
use Rattle.fugue_ids.specs.declared.key.Gap.TheVariants.{Alone, Before, After}
use Rattle.fugue_ids.specs.declared.key.Key.{Key}
use Rattle.fugue_ids.specs.declared.op.Op.{Op}
use Rattle.origin_model.specs.declared.sides.Slot.{Slot}
use Rattle.origin_model.specs.declared.sides.Slot.TheVariants.{LeftOf, RightOf}
use Rattle.origin_model.specs.sides.Keys.{search_key_of}

-- the greatest key of a depth that fits its numbers: a key is at most that where its depth is at most d
abbrev pub widest : ℕ → Key
widest d = record { depth = d; forest = 2 ^ 32 - 1 }

-- the last of the block of s, which has depth d: the one before the next that is no deeper, and the last of all where all are deeper
abbrev pub block_end : List Keyed → ℕ → Identifier → Identifier
block_end es d s = unwrap_or (last_id (front_of (first_low (widest d) (rest_of (Some s) es)) es)) s

-- the first of the block of q, which has key k: after the last one before q whose key is at most k, or after the
-- beginning, the next that is no deeper than q
abbrev pub block_start : List Keyed → Key → Identifier → Identifier
block_start es k q = unwrap_or (first_low (widest k.depth) (rest_of (last_low k (front_of (Some q) es)) es)) q

-- the key of the element of a slot, and of the start
abbrev pub slot_key : List Op → Slot → Key
slot_key h (RightOf None) = record { depth = 0; forest = 0 }
slot_key h (RightOf (Some l)) = search_key_of h l
slot_key h (LeftOf q) = search_key_of h q

-- the key of the children of a slot, whose element has key k
abbrev pub child_key : Slot → Key → Key
child_key (RightOf l) k = record { depth = suc k.depth; forest = 0 }
child_key (LeftOf q) k = record { depth = k.depth; forest = suc k.forest }

-- what stands directly before the part of the list in which the children of a slot stand, whose element has key k: the
-- beginning, an element of a lesser key, or the slot's own
abbrev pub part_from : List Keyed → Slot → Key → Option Identifier
part_from es (RightOf l) k = l
part_from es (LeftOf q) k = last_low k (front_of (Some q) es)

-- what stands directly after that part
abbrev pub part_to : List Keyed → Slot → Key → Option Identifier
part_to es (RightOf None) k = None
part_to es (RightOf (Some l)) k = first_low (widest k.depth) (rest_of (Some l) es)
part_to es (LeftOf q) k = Some q

-- the part of the list in which the children of a slot stand
abbrev pub slot_part : List Keyed → Slot → Key → List Keyed
slot_part es s k = between (part_from es s k) (part_to es s k) es

-- the children of a slot: no key in its part is less than theirs
abbrev pub siblings : List Keyed → Slot → Key → List Identifier
siblings es s k = low_ids (child_key s k) (slot_part es s k)

-- before all, and alone where there is none
abbrev pub before_all : Option Identifier → Gap
before_all None = Alone
before_all (Some x) = Before x

-- the gap without an earlier sibling: before all at the start, after the parent of right children, and before the block
-- of the parent of left ones
abbrev pub no_earlier_gap : List Keyed → Slot → Key → Gap
no_earlier_gap es (RightOf None) k = before_all (first_id es)
no_earlier_gap es (RightOf (Some l)) k = After l
no_earlier_gap es (LeftOf q) k = Before (block_start es k q)

-- the gap, by the last earlier sibling: after its block
abbrev pub gap_after : List Keyed → Slot → Key → Option Identifier → Gap
gap_after es s k None = no_earlier_gap es s k
gap_after es s k (Some e) = After (block_end es (child_key s k).depth e)

-- the gap of a new child of the slot, whose element has key k, where g says which siblings go before it
abbrev pub gap_by_keys : List Keyed → Slot → Key → (Identifier → Bool) → Gap
gap_by_keys es s k g = gap_after es s k (last_passing g (siblings es s k))

-- the gap between two origins that stand next to each other
abbrev pub gap_between : (left right : Option Identifier) → Gap
gap_between (Some l) right = After l
gap_between None right = before_all right

-- how many elements stand before a gap
abbrev pub gap_index : Gap → List Identifier → ℕ
gap_index Alone es = 0
gap_index (Before y) es = index_of es y
gap_index (After y) es = suc (index_of es y)
