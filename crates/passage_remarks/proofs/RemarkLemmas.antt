-- The remarks of a history: no two are of one comment, and each stands at the place of its section.
use Rattle.std.proofs.Common.{List, [], ◌++◌, ◌∷◌, refl, subst, sym, ◌≢◌, ◌∙◌, ◌≡◌, ℕ}
use Rattle.std.specs.Prelude.{None, Option, Some, flat_map, option_map, option_to_list}
use Rattle.std.specs.List.{AllPairs, Contains}
use Rattle.fugue_ids.specs.Identifiers.{Identifier}
use Rattle.fugue_ids.specs.declared.op.Op.{Op}
use Rattle.origin_model.specs.operations.Verdict.{Lawful}
use Rattle.catalogue_notes.specs.Arranged.{arranged}
use Rattle.margin_notes.specs.Placing.{PlacedComment, placed_comments}
use Rattle.margin_notes.proofs.KeptLemmas.{said, said_from, said_pairs}
use Rattle.margin_notes.proofs.SortedLemmas.{placed_apart}
use Rattle.passage_remarks.specs.Listing.{IsRemarkPlaced}
use Rattle.passage_remarks.specs.Remarks.{Remark, remark_at, remark_of, remarks, section_place}
use Rattle.passage_remarks.proofs.OrderLemmas.{Others, in_order_from}
use Rattle.passage_remarks.proofs.PlaceLemmas.{number_place}

-- the remarks as they were accepted
abbrev pub found : List Op → List Remark
found h = said (remark_of h) (placed_comments h)

-- what a comment's remark says
record IsOf (h : List Op) (p : PlacedComment) (r : Remark) : Type 0 where
  own : r.id ≡ p.id
  placed : section_place h r.section ≡ Some r.place

is_of : (h : List Op) (p : PlacedComment) (r : Remark) → remark_of h p ≡ Some r → IsOf h p r
is_of h p r e = by (section_place h p.section) refl e
  where
    by : (o : Option ℕ) → section_place h p.section ≡ o → option_map (remark_at p) o ≡ Some r → IsOf h p r
    by None k e = cc
    by (Some n) k e =
        let d : remark_at p n ≡ r = cc in
        subst (IsOf h p) d (record { own = refl; placed = k })

pub found_apart : (h : List Op) → Lawful h → AllPairs Others (found h)
found_apart h w =
    said_pairs (remark_of h) (λ (a b : PlacedComment). a.id ≢ b.id) Others (λ a b u v other e f d. other (sym (is_of h a u e).own ∙ d ∙ (is_of h b v f).own)) (placed_comments h)
    (placed_apart h w)

pub remark_placed : (h : List Op) (r : Remark) → Contains (remarks h) r → IsRemarkPlaced h r
remark_placed h r m =
    let k = said_from (remark_of h) (placed_comments h) r (in_order_from (found h) r m) in
    let n = number_place 1 (arranged h) r.section r.place (is_of h k.0 r k.2).placed in
    record { first = n.0; there = n.1 }

-- they are found by a look-up of places
pub found_by : (h : List Op) (places : Identifier → Option ℕ) → ((s : Identifier) → places s ≡ section_place h s)
    → flat_map (λ (p : PlacedComment). option_to_list (option_map (remark_at p) (places p.section))) (placed_comments h) ≡ found h
found_by h places agree = each (placed_comments h)
  where
    each : (ps : List PlacedComment) → flat_map (λ (p : PlacedComment). option_to_list (option_map (remark_at p) (places p.section))) ps ≡ said (remark_of h) ps
    each [] = refl
    each (p ∷ ps) = λ i. option_to_list (option_map (remark_at p) (agree p.section i)) ++ each ps i
