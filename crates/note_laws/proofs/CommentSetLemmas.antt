-- The set of the operations fixes the comments, their spans and what is written of them.
use Rattle.std.proofs.Common.{Bool, List, [], ap, length, not, refl, suc, sym, true, ◌&&◌, ◌++◌, ◌∙◌, ◌∷◌, ◌≡◌, ℕ}
use Rattle.std.specs.Prelude.{count_by, decimal, flat_map, ◌||◌}
use Rattle.std.specs.List.{All, Contains}
use Rattle.std.specs.Str.{encode_utf8_all}
use Rattle.std.proofs.lemmas.Bool.{true≢false}
use Rattle.std.proofs.lemmas.List.Elements.{All-filter, All-weaker}
use Rattle.std.proofs.lemmas.List.Sums.{length-filter}
use Rattle.fugue_ids.specs.Identifiers.{Identifier, id_eq}
use Rattle.fugue_ids.specs.declared.op.Op.{Op}
use Rattle.origin_model.specs.declared.operations.Place.{Place}
use Rattle.origin_model.specs.declared.operations.Place.TheVariants.{Catalogue as catalogue, Section as within}
use Rattle.origin_model.specs.operations.Verdict.{Lawful}
use Rattle.origin_model.specs.order.Laws.{IsIn, SameOps}
use Rattle.origin_model.specs.order.Order.{before, order}
use Rattle.origin_model.specs.order.Printed.{is_hidden, scalar_of, shown, text}
use Rattle.origin_model.proofs.SharedLemmas.{count_alike, has_member, order-in, order_by_set, parts_keep_order, same-part}
use Rattle.cluster_text.specs.Clusters.{clusters}
use Rattle.catalogue_notes.proofs.PartLemmas.{parts_same}
use Rattle.catalogue_notes.proofs.SetLemmas.{arranged_by_set}
use Rattle.margin_notes.specs.Commenting.{clusters_of}
use Rattle.margin_notes.specs.Comments.{Comment, by_id, comments_in, is_in_section, is_text_of}
use Rattle.margin_notes.specs.Listing.{number_from}
use Rattle.margin_notes.specs.Margins.{Span, comment_line, comment_lines, margin_span}
use Rattle.margin_notes.specs.Placing.{PlacedComment, placed_comment}
use Rattle.margin_notes.proofs.FilterLemmas.{filter-agree}
use Rattle.margin_notes.proofs.MemberLemmas.{from_comments, listed_apart, to_comments}
use Rattle.margin_notes.proofs.PassageLemmas.{both_parts, text_in}
use Rattle.margin_notes.proofs.SortLemmas.{Earlier, by_id_from, by_id_in, by_id_ordered, same_ordered}
use Rattle.passage_remarks.specs.Laws.{IsRemark}
use Rattle.passage_remarks.specs.Remarks.{Remark, remark_at, remark_text, remarks, remarks_from}
use Rattle.passage_remarks.proofs.LawLemmas.{are_comments}
use Rattle.passage_remarks.proofs.OrderLemmas.{Before, before_irrefl, before_trans}
use Rattle.note_laws.specs.CommentLaws.{CommentsBySet}
use Rattle.note_laws.proofs.CommentPartLemmas.{is_text_by, same_section}
use Rattle.note_laws.proofs.OperationLemmas.{member_has, same_holder, same_withdrawn}
use Rattle.fugue_ids.proofs.OrderLemmas.{id_irrefl, id_trans}

-- the anchors of a comment of a section are elements of it
record AreIn (h : List Op) (s : Identifier) (c : Comment) : Type 0 where
  first : IsIn (within s) h c.first
  last : IsIn (within s) h c.last

anchors_in : (h : List Op) (s : Identifier) (c : Comment) → is_in_section h s c ≡ true → AreIn h s c
anchors_in h s c e =
    let anchors : Bool = is_text_of h s c.first && is_text_of h s c.last in
    let k = both_parts anchors (id_eq c.first c.last || before (within s) h c.first c.last) e in
    let l = both_parts (is_text_of h s c.first) (is_text_of h s c.last) k.0 in
    record { first = text_in s h c.first l.0; last = text_in s h c.last l.1 }

-- two lawful histories with the same operations
module _ (a b : List Op) (v : Lawful a) (w : Lawful b) (same : SameOps a b) where
  pub sections : (s : Identifier) (c : Comment) → is_in_section a s c ≡ is_in_section b s c
  sections s c =
      same_section s c a b v w (same-part a b same) (ap (is_text_by s) (same_holder a b v w same c.first)) (ap (is_text_by s) (same_holder a b v w same c.last))

  visible : (p : Place) → shown p a ≡ shown p b
  visible = (order_by_set a b v w same).same_shown

  -- a comment that the one lists, the other lists
  pub comment_over : (s : Identifier) (c : Comment) → Contains (comments_in a s) c → Contains (comments_in b s) c
  comment_over s c m =
      let i = from_comments a s c m in
      to_comments b s c (record {
        op = i.op;
        member = member_has b i.op (same-part a b same i.op (has_member a i.op i.member));
        says = i.says;
        in_section = sym (sections s c) ∙ i.in_section;
        not_withdrawn = sym (same_withdrawn a b same c.id) ∙ i.not_withdrawn;
      })

  -- the elements of a section
  elements : (s : Identifier) → All (IsIn (within s) a) (shown (within s) a)
  elements s = All-filter (λ x. not (is_hidden a x)) (IsIn (within s) a) (order (within s) a) (order-in (within s) a v)

  pub spans : (s : Identifier) (c : Comment) → is_in_section a s c ≡ true → margin_span a s c.first c.last ≡ margin_span b s c.first c.last
  spans s c e =
      let k = anchors_in a s c e in
      let r = (parts_keep_order (within s) a b v w (same-part a b same)).same_before in
      let A : Identifier → Identifier → Bool = before (within s) a in
      let B : Identifier → Identifier → Bool = before (within s) b in
      let xs : List Identifier = shown (within s) a in
      let from = count_alike (λ x. A x c.first) (λ x. B x c.first) xs
      (All-weaker (IsIn (within s) a) (λ x. A x c.first ≡ B x c.first) (λ x m. r x c.first m k.first) xs (elements s)) in
      let to =
      count_alike (λ x. id_eq x c.last || A x c.last) (λ x. id_eq x c.last || B x c.last) xs
      (All-weaker (IsIn (within s) a) (λ x. (id_eq x c.last || A x c.last) ≡ (id_eq x c.last || B x c.last)) (λ x m. ap (λ t. id_eq x c.last || t) (r x c.last m k.last)) xs
      (elements s)) in
      (λ i. record { from = from i; to = to i })
      ∙ (λ i. record { from = count_by (λ x. B x c.first) (visible (within s) i); to = count_by (λ x. id_eq x c.last || B x c.last) (visible (within s) i) })

  -- a remark of the one is one of the other
  pub remark_over : (r : Remark) → IsRemark a r → IsRemark b r
  remark_over r i =
      let s : Identifier = r.section in
      let e : is_in_section a s i.comment ≡ true = (from_comments a s i.comment i.listed).in_section in
      let here : placed_comment a i.comment s ≡ placed_comment b i.comment s =
      ap (λ (q : Span). record { section = s; id = i.comment.id; from = q.from; to = q.to; text = i.comment.text }) (spans s i.comment e) in
      record {
        comment = i.comment;
        listed = comment_over s i.comment i.listed;
        placed = ap (λ xs. number_from 1 xs s) (sym (arranged_by_set a b v w same).same_arranged) ∙ i.placed;
        says = i.says ∙ ap (λ (q : PlacedComment). remark_at q r.place) here;
      }

  -- the clusters of a section
  pub same_clusters : (s : Identifier) → clusters_of a s ≡ clusters_of b s
  same_clusters s =
      let letters : text a s ≡ text b s = λ i. flat_map (λ x. scalar_of (same_holder a b v w same x i)) (visible (within s) i) in
      ap (λ t. clusters (encode_utf8_all t)) letters

module _ (a b : List Op) (v : Lawful a) (w : Lawful b) (same : SameOps a b) where
  back : SameOps b a
  back op = sym (same op)

  listed : (s : Identifier) → by_id (comments_in a s) ≡ by_id (comments_in b s)
  listed s =
      same_ordered Earlier (λ c k. true≢false (sym k ∙ id_irrefl c.id)) (λ c d e. id_trans c.id d.id e.id) (by_id (comments_in a s)) (by_id (comments_in b s))
      (by_id_ordered (comments_in a s) (listed_apart a s v)) (by_id_ordered (comments_in b s) (listed_apart b s w))
      (λ c m. by_id_in (comments_in b s) c (comment_over a b v w same s c (by_id_from (comments_in a s) c m)))
      (λ c m. by_id_in (comments_in a s) c (comment_over b a w v back s c (by_id_from (comments_in b s) c m)))

  line_same : (k : ℕ) (s : Identifier) (c : Comment) → Contains (by_id (comments_in a s)) c → comment_line a k s c ≡ comment_line b k s c
  line_same k s c m =
      ap (λ (q : Span). decimal k ++ 32 ∷ decimal q.from ++ 32 ∷ decimal q.to ++ 32 ∷ c.text ++ 10 ∷ [])
      (spans a b v w same s c (from_comments a s c (by_id_from (comments_in a s) c m)).in_section)

  lines_same : (k : ℕ) (ss : List Identifier) → comment_lines a k ss ≡ comment_lines b k ss
  lines_same k [] = refl
  lines_same k (s ∷ ss) =
      let here : flat_map (comment_line a k s) (by_id (comments_in a s)) ≡ flat_map (comment_line b k s) (by_id (comments_in b s)) =
      parts_same (comment_line a k s) (comment_line b k s) (by_id (comments_in a s)) (line_same k s) ∙ ap (flat_map (comment_line b k s)) (listed s) in
      let rest = lines_same (suc k) ss in
      λ i. here i ++ rest i

  remarked : remarks a ≡ remarks b
  remarked =
      let x = are_comments a v in
      let y = are_comments b w in
      same_ordered Before before_irrefl before_trans (remarks a) (remarks b) x.ordered y.ordered
      (λ r m. (y.members r).1 (remark_over a b v w same r ((x.members r).0 m)))
      (λ r m. (x.members r).1 (remark_over b a w v back r ((y.members r).0 m)))

  printed_same : (n : ℕ) (rs : List Remark) → remarks_from a n rs ≡ remarks_from b n rs
  printed_same n [] = refl
  printed_same n (r ∷ rs) =
      let here = same_clusters a b v w same r.section in
      let rest = printed_same (suc n) rs in
      λ i. remark_text (here i) n r ++ rest i

pub comments_by_set : CommentsBySet
comments_by_set a b v w same =
    let visible = (order_by_set a b v w same).same_shown in
    record {
      same_sections = sections a b v w same;
      same_comments = listed a b v w same;
      same_spans = spans a b v w same;
      same_margins = lines_same a b v w same 1 (shown catalogue a) ∙ ap (comment_lines b 1) (visible catalogue);
      same_remarks = remarked a b v w same;
      same_text = printed_same a b v w same 1 (remarks a) ∙ ap (remarks_from b 1) (remarked a b v w same);
    }
