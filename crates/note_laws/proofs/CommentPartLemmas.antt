-- Comments and their passages in a part of a history.
use Rattle.std.proofs.Common.{Bool, List, [], ap, false, inl, inr, map, not, refl, subst, sym, true, ◌&&◌, ◌∙◌, ◌∷◌, ◌≡◌}
use Rattle.std.specs.Prelude.{None, Option, Some, filter, nat_eq, ◌||◌}
use Rattle.std.specs.List.{All}
use Rattle.std.proofs.lemmas.Bool.{and_right, cases_Bool}
use Rattle.std.proofs.lemmas.List.Elements.{All-head, All-tail, All-weaker}
use Rattle.fugue_ids.specs.Identifiers.{Identifier, id_eq}
use Rattle.fugue_ids.specs.declared.op.Op.{Op}
use Rattle.fugue_ids.specs.declared.op.Op.TheVariants.{Delete, Note, Section, Text}
use Rattle.fugue_ids.proofs.ListLemmas.{all_from_contains, all_from_map, filter-both}
use Rattle.origin_model.specs.declared.operations.Place.TheVariants.{Section as within}
use Rattle.origin_model.specs.operations.History.{has_op, holder, holds, stands_at}
use Rattle.origin_model.specs.operations.Verdict.{Lawful, names}
use Rattle.origin_model.specs.order.Laws.{IsIn, IsPartOf, KeepsOrder}
use Rattle.origin_model.specs.order.Order.{before, order}
use Rattle.origin_model.specs.order.Printed.{is_hidden}
use Rattle.origin_model.proofs.SharedLemmas.{Fits, has-holder, is_own-id, order-in, parts_keep_order, Within-part}
use Rattle.catalogue_notes.proofs.HolderLemmas.{IsHeld, anything, names_held, not_both}
use Rattle.catalogue_notes.proofs.LiftLemmas.{if_so, some_inj}
use Rattle.margin_notes.specs.Comments.{Comment, comment_in, comment_of, is_in_section, is_text, is_text_of}
use Rattle.margin_notes.specs.Margins.{passage, stands_between}
use Rattle.margin_notes.specs.declared.limits.TheConstants.{COMMENT_CODE}
use Rattle.margin_notes.proofs.FilterLemmas.{filter-agree, filter-swap}
use Rattle.margin_notes.proofs.MemberLemmas.{comment_says, from_comments, to_comments}
use Rattle.margin_notes.proofs.PassageLemmas.{same_tests, text_in}
use Rattle.note_laws.specs.CommentLaws.{CommentInPart, ListedInPart, PassageInPart, ShownInPart, is_visible}
use Rattle.note_laws.proofs.OperationLemmas.{member_has, stands_in_part}

pub passage_in_part : PassageInPart
passage_in_part p part whole a b v w f m n =
    let k : KeepsOrder p part whole = parts_keep_order p part whole v w f in
    filter-agree (stands_between p part a b) (stands_between p whole a b) (order p part)
    (All-weaker (IsIn p part) (λ x. stands_between p part a b x ≡ stands_between p whole a b x)
    (λ x i. λ j. (id_eq a x || k.same_before a x m i j) && (id_eq x b || k.same_before x b i n j)) (order p part) (order-in p part v))
    ∙ ap (filter (stands_between p whole a b)) k.same_order
    ∙ filter-swap (stands_between p whole a b) (holds part) (order p whole)

-- what is visible in the whole is so in the part
visible_in_part : (part whole : List Op) (x : Identifier) → IsPartOf part whole → (is_visible part x && is_visible whole x) ≡ is_visible whole x
visible_in_part part whole x f =
    elim (cases_Bool (is_hidden whole x)) [
      | inl t ↦ (λ i. is_visible part x && not (t i)) ∙ and_right (is_visible part x) false refl ∙ sym (ap not t)
      | inr n ↦ ap (λ b. not b && is_visible whole x) (stands_in_part part whole x f n)
    ]

pub shown_in_part : ShownInPart
shown_in_part p part whole a b v w f m n =
    let xs : List Identifier = passage p part a b in
    filter-both (is_visible part) (is_visible whole) xs
    ∙ filter-agree (λ x. is_visible part x && is_visible whole x) (is_visible whole) xs
    (all_from_contains (λ x. (is_visible part x && is_visible whole x) ≡ is_visible whole x) xs (λ x k. visible_in_part part whole x f))
    ∙ ap (filter (is_visible whole)) (passage_in_part p part whole a b v w f m n)
    ∙ filter-swap (is_visible whole) (holds part) (passage p whole a b)

-- a comment whose anchors are Texts of the same sections is one of the same sections
pub same_section : (s : Identifier) (c : Comment) (part whole : List Op) → Lawful part → Lawful whole → IsPartOf part whole
    → is_text_of part s c.first ≡ is_text_of whole s c.first → is_text_of part s c.last ≡ is_text_of whole s c.last → is_in_section part s c ≡ is_in_section whole s c
same_section s c part whole v w f first last =
    let one : Bool = id_eq c.first c.last in
    same_tests (is_text_of part s c.first) (is_text_of part s c.last) (one || before (within s) part c.first c.last) (one || before (within s) whole c.first c.last)
    (λ t u. ap (λ b. one || b) ((parts_keep_order (within s) part whole v w f).same_before c.first c.last (text_in s part c.first t) (text_in s part c.last u)))
    ∙ (λ i. first i && last i && (one || before (within s) whole c.first c.last))

-- the names of a comment are its anchors
comment_names : (op : Op) (c : Comment) → comment_in op ≡ Some c → names op ≡ map anything (c.first ∷ c.last ∷ [])
comment_names (Section id left right title) c e = absurd (not_both None c refl e)
comment_names (Text id section left right ch) c e = absurd (not_both None c refl e)
comment_names (Delete target) c e = absurd (not_both None c refl e)
comment_names (Note id named code body) c e = by named (if_so (nat_eq code COMMENT_CODE) (comment_of id named body) c e)
  where
    by : (named : List Identifier) → comment_of id named body ≡ Some c → names (Note id named code body) ≡ map anything (c.first ∷ c.last ∷ [])
    by (a ∷ b ∷ []) k =
        let one : Comment = record { id = id; first = a; last = b; text = body } in
        ap (λ (d : Comment). map anything (d.first ∷ d.last ∷ [])) (some_inj one c (if_so (is_text body) (Some one) c k))
    by [] k = absurd (not_both None c refl k)
    by (a ∷ []) k = absurd (not_both None c refl k)
    by (a ∷ b ∷ d ∷ more) k = absurd (not_both None c refl k)

-- the anchors of a comment are held, and it is found by its identifier
record IsAnchored (h : List Op) (op : Op) (c : Comment) : Type 0 where
  held : holder h c.id ≡ Some op
  first : IsHeld h c.first
  last : IsHeld h c.last

anchored : (h : List Op) (op : Op) (c : Comment) → Lawful h → has_op h op ≡ true → comment_in op ≡ Some c → IsAnchored h op c
anchored h op c w k says =
    let held : holder h c.id ≡ Some op = has-holder h c.id op w k (is_own-id op c.id (comment_says op c says).own) in
    let ns : List Identifier = c.first ∷ c.last ∷ [] in
    let all : All (IsHeld h) ns =
    All-weaker (λ i. Fits h (anything i)) (IsHeld h) (λ i f. (f.0, f.1)) ns
    (all_from_map anything (Fits h) ns (subst (All (Fits h)) (comment_names op c says) (names_held h c.id op w held))) in
    record { held = held; first = All-head (IsHeld h) c.first (c.last ∷ []) all; last = All-head (IsHeld h) c.last [] (All-tail (IsHeld h) c.first (c.last ∷ []) all) }

-- x is a Text of a section, by what a look-up of it found
abbrev pub is_text_by : Identifier → Option Op → Bool
is_text_by s o = elim o [ None ↦ false | Some op ↦ stands_at (within s) op ]

-- what the part holds, the whole holds as one of the same section
text_in_part : (s : Identifier) (part whole : List Op) (x : Identifier) → Lawful whole → IsPartOf part whole → IsHeld part x → is_text_of part s x ≡ is_text_of whole s x
text_in_part s part whole x w f o = ap (is_text_by s) (o.1 ∙ sym (Within-part part whole w f x o.0 o.1))

pub comment_in_part : CommentInPart
comment_in_part s c op part whole v w f k says =
    let a = anchored part op c v k says in
    same_section s c part whole v w f (text_in_part s part whole c.first w f a.first) (text_in_part s part whole c.last w f a.last)

pub listed_in_part : ListedInPart
listed_in_part s c op part whole v w f k says =
    let same : is_in_section part s c ≡ is_in_section whole s c = comment_in_part s c op part whole v w f k says in (
      λ m.
          let i = from_comments whole s c m in (
            to_comments part s c (record {
              op = op;
              member = member_has part op k;
              says = says;
              in_section = same ∙ i.in_section;
              not_withdrawn = stands_in_part part whole c.id f i.not_withdrawn;
            }),
            i.not_withdrawn,
          ),
      λ m.
          let i = from_comments part s c m.0 in
          to_comments whole s c (record { op = op; member = member_has whole op (f op k); says = says; in_section = sym same ∙ i.in_section; not_withdrawn = m.1 }),
    )
