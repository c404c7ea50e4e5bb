use Rattle.std.proofs.Common.{List, ap, map, reverse, subst, sym, ◌≢◌, ◌∙◌}
use Rattle.std.specs.Prelude.{flat_map, option_map, option_to_list}
use Rattle.std.specs.List.{AllPairs}
use Rattle.std.specs.BTreeMap.{get}
use Rattle.fugue_ids.specs.Identifiers.{id_cmp}
use Rattle.fugue_ids.specs.declared.op.Op.{Op}
use Rattle.catalogue_notes.proofs.ArrangedLemmas.{arranged_once}
use Rattle.margin_notes.specs.Listing.{number_from}
use Rattle.margin_notes.specs.Placing.{PlacedComment, comment_placed}
use Rattle.passage_remarks.specs.Remarks.{remark_at}
use Rattle.passage_remarks.proofs.RemarkLemmas.{found, found_apart, found_by}
use Rattle.passage_remarks.proofs.SortedLemmas.{sorted_remarks}
use Rattle.passage_remarks.proofs.listing.remark_entries.Goals as goal

pub places_of-requires : goal.places_of-requires
places_of-requires c =
    let h : List Op = c.args.replica.now.held.history in
    record { apart = subst (AllPairs (λ s t. s ≢ t)) (sym c.requires.listed) (arranged_once h c.in_ok-comments.ensures.sound.lawful) }

pub returns-clause-entries : goal.returns-clause-entries
returns-clause-entries c =
    let h : List Op = c.args.replica.now.held.history in
    let ops : List Op = reverse h in
    let places = get id_cmp c.in_ok-places.places in
    let are = c.in_ok-entries.ensures ops
    ∙ ap (flat_map (λ (p : PlacedComment). option_to_list (option_map (remark_at p) (places p.section))))
    (ap (map (comment_placed ops)) c.as_slice.ensures.value ∙ c.in_ok-comments.ensures.places)
    ∙ found_by h places (λ s. c.in_ok-places.ensures s ∙ ap (λ l. number_from 1 l s) c.requires.listed) in
    sorted_remarks ops (found h) (found_apart h c.in_ok-comments.ensures.sound.lawful) c.in_ok-entries.entries.items c.sort_unstable.new.self.items are
    c.sort_unstable.ensures.permutation c.sort_unstable.ensures.sorted
