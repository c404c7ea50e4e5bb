-- The remarks are the comments of the arranged sections.
use Rattle.std.proofs.Common.{List, ap, false, inl, inr, refl, reverse, subst, sym, ◌∙◌, ◌∷◌, ◌≡◌, ℕ}
use Rattle.std.specs.Prelude.{None, Option, Some, if◌then◌else◌, option_map, ◌||◌}
use Rattle.std.specs.List.{Contains}
use Rattle.std.proofs.lemmas.Bool.{cases_Bool, true≢false}
use Rattle.std.proofs.lemmas.List.Sorted.{Contains-permutation, IsPermutation-reverse, IsPermutation-sym}
use Rattle.fugue_ids.specs.Identifiers.{Identifier, id_eq}
use Rattle.fugue_ids.specs.declared.op.Op.{Op}
use Rattle.fugue_ids.specs.declared.op.Op.TheVariants.{Delete}
use Rattle.fugue_ids.proofs.IdentifierLemmas.{id_eq-refl}
use Rattle.origin_model.specs.order.Printed.{is_hidden, is_withdrawn}
use Rattle.margin_notes.specs.Comments.{Comment, comment_in, comments_in}
use Rattle.margin_notes.specs.Listing.{commented_section}
use Rattle.margin_notes.specs.Placing.{PlacedComment, placed_in_section, placed_comment, placed_comments, placed_in}
use Rattle.margin_notes.proofs.KeptLemmas.{said_from, said_in}
use Rattle.margin_notes.proofs.MemberLemmas.{from_comments, has_section, section_is, to_comments}
use Rattle.passage_remarks.specs.Laws.{IsRemark, RemarksAreComments, WithdrawnIsGone}
use Rattle.passage_remarks.specs.Remarks.{Remark, remark_at, remark_of, remarks, section_place}
use Rattle.passage_remarks.proofs.OrderLemmas.{in_order_apart, in_order_from, in_order_in, in_order_ordered}
use Rattle.passage_remarks.proofs.RemarkLemmas.{found, found_apart}

-- the comment that an operation places
record IsPlacedBy (h : List Op) (op : Op) (p : PlacedComment) : Type 0 where
  comment : Comment
  says : comment_in op ≡ Some comment
  not_withdrawn : is_withdrawn h comment.id ≡ false
  in_section : commented_section h comment ≡ Some p.section
  is : p ≡ placed_comment h comment p.section

placed_by : (h : List Op) (op : Op) (p : PlacedComment) → placed_in h op ≡ Some p → IsPlacedBy h op p
placed_by h op p e = by (comment_in op) refl e
  where
    at : (c : Comment) (o : Option Identifier) → comment_in op ≡ Some c → is_withdrawn h c.id ≡ false → commented_section h c ≡ o → option_map (placed_comment h c) o ≡ Some p
        → IsPlacedBy h op p
    at c None says not_withdrawn k e = cc
    at c (Some s) says not_withdrawn k e =
        let d : placed_comment h c s ≡ p = cc in
        subst (IsPlacedBy h op) d (record { comment = c; says = says; not_withdrawn = not_withdrawn; in_section = k; is = refl })

    by : (o : Option Comment) → comment_in op ≡ o → (elim o [ None ↦ None | Some c ↦ if is_withdrawn h c.id then None else placed_in_section h c ]) ≡ Some p → IsPlacedBy h op p
    by None says k = cc
    by (Some c) says k =
        elim (cases_Bool (is_withdrawn h c.id)) [
          | inl t ↦ let never : None ≡ Some p = sym (ap (λ b. if b then None else placed_in_section h c) t) ∙ k in cc
          | inr t ↦ at c (commented_section h c) says t refl (sym (ap (λ b. if b then None else placed_in_section h c) t) ∙ k)
        ]

-- and the comments that are placed
places : (h : List Op) (op : Op) (c : Comment) (s : Identifier) → comment_in op ≡ Some c → is_withdrawn h c.id ≡ false → commented_section h c ≡ Some s
    → placed_in h op ≡ Some (placed_comment h c s)
places h op c s says not_withdrawn k =
    ap (λ o. elim o [ None ↦ None | Some c ↦ if is_withdrawn h c.id then None else placed_in_section h c ]) says
    ∙ ap (λ b. if b then None else placed_in_section h c) not_withdrawn
    ∙ ap (option_map (placed_comment h c)) k

-- the remark of a comment
of_comment : (h : List Op) (p : PlacedComment) (r : Remark) → remark_of h p ≡ Some r → (section_place h p.section ≡ Some r.place) × (r ≡ remark_at p r.place)
of_comment h p r e = by (section_place h p.section) refl e
  where
    by : (o : Option ℕ) → section_place h p.section ≡ o → option_map (remark_at p) o ≡ Some r → (section_place h p.section ≡ Some r.place) × (r ≡ remark_at p r.place)
    by None k e = cc
    by (Some n) k e =
        let d : remark_at p n ≡ r = cc in
        subst (λ (x : Remark). (section_place h p.section ≡ Some x.place) × (x ≡ remark_at p x.place)) d (k, refl)

pub remark_is : (h : List Op) (r : Remark) → Contains (remarks h) r → IsRemark h r
remark_is h r m =
    let k = said_from (remark_of h) (placed_comments h) r (in_order_from (found h) r m) in
    let p : PlacedComment = k.0 in
    let o = said_from (placed_in h) (reverse h) p k.1 in
    let b = placed_by h o.0 p o.2 in
    let e = of_comment h p r k.2 in
    let s : r.section ≡ p.section = ap (λ (x : Remark). x.section) e.1 in
    let held : Contains h o.0 = Contains-permutation (reverse h) h o.0 (IsPermutation-sym h (reverse h) (IsPermutation-reverse h)) o.1 in
    record {
      comment = b.comment;
      listed =
          subst (λ x. Contains (comments_in h x) b.comment) (sym s)
          (to_comments h p.section b.comment
          (record { op = o.0; member = held; says = b.says; in_section = section_is h b.comment p.section b.in_section; not_withdrawn = b.not_withdrawn }));
      placed = ap (section_place h) s ∙ e.0;
      says = e.1 ∙ ap (λ (x : PlacedComment). remark_at x r.place) b.is ∙ ap (λ x. remark_at (placed_comment h b.comment x) r.place) (sym s);
    }

is_remark : (h : List Op) (r : Remark) → IsRemark h r → Contains (remarks h) r
is_remark h r i =
    let c = from_comments h r.section i.comment i.listed in
    let here : placed_in h c.op ≡ Some (placed_comment h i.comment r.section) =
    places h c.op i.comment r.section c.says c.not_withdrawn (has_section h i.comment r.section c.in_section) in
    let p : PlacedComment = placed_comment h i.comment r.section in
    let held : Contains (reverse h) c.op = Contains-permutation h (reverse h) c.op (IsPermutation-reverse h) c.member in
    in_order_in (found h) r
    (said_in (remark_of h) (placed_comments h) p r (said_in (placed_in h) (reverse h) c.op p held here) (ap (option_map (remark_at p)) i.placed ∙ ap Some (sym i.says)))

pub are_comments : RemarksAreComments
are_comments h w = record {
  members = λ r. (remark_is h r, is_remark h r);
  ordered = in_order_ordered (found h) (found_apart h w);
  apart = in_order_apart (found h) (found_apart h w);
}

pub withdrawn_gone : WithdrawnIsGone
withdrawn_gone h x r m e =
    let g : List Op = Delete x ∷ h in
    let k = said_from (remark_of g) (placed_comments g) r (in_order_from (found g) r m) in
    let o = said_from (placed_in g) (reverse g) k.0 k.1 in
    let b = placed_by g o.0 k.0 o.2 in
    let own : b.comment.id ≡ x = sym (ap (λ (p : PlacedComment). p.id) b.is) ∙ sym (ap (λ (q : Remark). q.id) (of_comment g k.0 r k.2).1) ∙ e in
    true≢false (sym (ap (λ t. t || is_hidden h b.comment.id) (ap (λ y. id_eq y b.comment.id) (sym own) ∙ id_eq-refl b.comment.id)) ∙ b.not_withdrawn)
