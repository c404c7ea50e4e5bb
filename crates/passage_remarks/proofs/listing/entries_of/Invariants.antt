use Rattle.std.proofs.Common.{List, map, take, ◌≡◌}
use Rattle.std.specs.Prelude.{flat_map, option_map, option_to_list}
use Rattle.std.specs.BTreeMap.{get}
use Rattle.fugue_ids.specs.Identifiers.{id_cmp}
use Rattle.fugue_ids.specs.declared.op.Op.{Op}
use Rattle.margin_notes.specs.Placing.{PlacedComment, comment_placed}
use Rattle.passage_remarks.specs.Listing.{entry_remark}
use Rattle.passage_remarks.specs.Remarks.{remark_at}
use Rattle.passage_remarks.proofs.listing.entries_of.Given as goal

-- the comments that were passed have their entries
abbrev pub invariant-comments : goal.invariant-comments
invariant-comments l =
    (ops : List Op) → map (entry_remark ops) l.entries.items
    ≡ flat_map (λ (p : PlacedComment). option_to_list (option_map (remark_at p) (get id_cmp l.places p.section))) (map (comment_placed ops) (take l.comment-index l.comments))
