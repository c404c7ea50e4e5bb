-- Remarks as they are written, one after another.
use Rattle.std.proofs.Common.{Bool, List, [], false, true, ap, arith, drop, get_or, length, length-drop, map, refl, suc, sym, zero, ℕ, ◌+◌, ◌++◌, ◌-◌, ◌<◌, ◌≤◌, ◌∙◌, ◌∷◌, ◌≡◌}
use Rattle.std.specs.Prelude.{Some, count_by, flat_map, if◌then◌else◌, nat_le, nat_lt, slice_get}
use Rattle.std.specs.Str.{chars, encode_utf8_all}
use Rattle.std.proofs.lemmas.List.{drop-map, drop_all, drop_more, length-map, length-take-le}
use Rattle.std.proofs.lemmas.List.Sums.{count_by-le-length}
use Rattle.fugue_ids.specs.Identifiers.{Identifier}
use Rattle.fugue_ids.specs.declared.op.Op.{Op}
use Rattle.origin_model.specs.order.Printed.{text}
use Rattle.catalogue_notes.specs.Arranged.{arranged}
use Rattle.margin_notes.specs.Commenting.{clusters_of}
use Rattle.passage_remarks.specs.Clusters.{boundaries_from, passage_cluster_count, cluster_ends, first_cluster, in_line, byte_in_line, cluster_starts}
use Rattle.passage_remarks.specs.Listing.{IsRemarkPlaced, section_texts}
use Rattle.passage_remarks.specs.Remarks.{Remark, remark_text, remarks_from}

module _ {X : Type 0} (h : List Op) (f : X → Remark) (xs : List X) where
  -- what is reported of remarks from one on is what is reported of it, and of those after it
  pub remarks_next : (i : ℕ) (x : X) → i < length xs → x ≡ get_or xs i x
      → remarks_from h (suc i) (drop i (map f xs)) ≡ remark_text (clusters_of h (f x).section) (i + 1) (f x) ++ remarks_from h (suc (i + 1)) (drop (i + 1) (map f xs))
  remarks_next i x below is =
      let one : suc i ≡ i + 1 = omega arith in
      ap (remarks_from h (suc i)) (drop-map f i xs ∙ ap (map f) (drop_more xs i x below ∙ ap (λ z. z ∷ drop (i + 1) xs) (sym is)) ∙ ap (λ l. f x ∷ l) (sym (drop-map f (i + 1) xs)))
      ∙ ap (λ k. remark_text (clusters_of h (f x).section) k (f x) ++ remarks_from h (suc k) (drop (i + 1) (map f xs))) one

  -- and nothing is after the last one
  pub remarks_none : (i : ℕ) → length xs ≤ i → remarks_from h (suc i) (drop i (map f xs)) ≡ []
  remarks_none i past = ap (remarks_from h (suc i)) (drop_all i (map f xs) (omega (arith, length-map xs f)))

-- the text of the section at a place
text_there : (g : Identifier → List ℕ) (ss : List Identifier) (k : ℕ) (s : Identifier) (d : List ℕ) → slice_get ss k ≡ Some s
    → (k < length (map g ss)) × (get_or (map g ss) k d ≡ g s)
text_there g [] k s d e = cc
text_there g (x ∷ ss) zero s d e = let is : x ≡ s = cc in (omega arith, ap g is)
text_there g (x ∷ ss) (suc k) s d e = let r = text_there g ss k s d e in (omega (arith, r.0), r.1)

pub page_there : (h : List Op) (r : Remark) (pages : List (List ℕ)) (d : List ℕ) → pages ≡ section_texts h → IsRemarkPlaced h r
    → (r.place - 1 < length pages) × (get_or pages (r.place - 1) d ≡ encode_utf8_all (text h r.section))
page_there h r pages d are placed =
    let t = text_there (λ s. encode_utf8_all (text h s)) (arranged h) (r.place - 1) r.section d placed.there in (
      omega (arith, t.0, ap length are),
      ap (λ l. get_or l (r.place - 1) d) are ∙ t.1,
    )

-- the bytes of a line, one after another
pub in_line_each : (bytes : List ℕ) → flat_map (λ b. byte_in_line b ∷ []) bytes ≡ in_line bytes
in_line_each [] = refl
in_line_each (b ∷ bs) = ap (λ l. byte_in_line b ∷ l) (in_line_each bs)

-- there is one boundary more than there are clusters
boundaries_count : (n : ℕ) (cs : List (List ℕ)) → length (boundaries_from n cs) ≡ suc (length cs)
boundaries_count n [] = refl
boundaries_count n (c ∷ cs) = ap suc (boundaries_count (n + length (chars c)) cs)

-- the clusters of a passage are some of the text
pub clusters_within : (cs : List (List ℕ)) (from to : ℕ) → first_cluster cs from + passage_cluster_count cs from to ≤ length cs
clusters_within cs from to =
    let boundaries : List ℕ = boundaries_from 0 cs in
    let p = count_by-le-length (λ end. nat_le end from) (cluster_ends cs) in
    let q = count_by-le-length (λ start. nat_lt start to) (cluster_starts cs) in
    let ends_len : length (cluster_ends cs) ≡ length cs = omega (arith, length-drop 1 boundaries, boundaries_count 0 cs) in
    let starts_len : length (cluster_starts cs) ≡ length cs = length-take-le (length cs) boundaries (omega (arith, boundaries_count 0 cs)) in
    elim (nat_lt from to) as (λ (b : Bool). first_cluster cs from +
    (if b then count_by (λ start. nat_lt start to) (cluster_starts cs) - first_cluster cs from else 0) ≤ length cs) [
      | true ↦ omega (arith, p, q, ends_len, starts_len)
      | false ↦ omega (arith, p, ends_len)
    ]
