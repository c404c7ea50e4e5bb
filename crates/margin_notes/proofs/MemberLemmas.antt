-- The comments of a section, and which operations they are.
use Rattle.margin_notes.proofs.Words.{AllPairs, Bool, Contains, Identifier, Lawful, List, None, Note, Op, Option, Some, Text, Section, Delete, [], ap, before, cases_Bool, false}
use Rattle.margin_notes.proofs.Words.{holder, id_eq, id_of, if◌then◌else◌, inl, inr, not, stands_at, subst, sym, true, within, ◌&&◌, ◌||◌, ◌∙◌, ◌∷◌, ◌≡◌}
use Rattle.std.specs.Prelude.{nat_eq}
use Rattle.std.proofs.lemmas.List.Kept.{AllPairs-filter}
use Rattle.fugue_ids.proofs.IdentifierLemmas.{id_eq-refl, id_eq-true}
use Rattle.fugue_ids.proofs.ListLemmas.{contains_filter, contains_filter_from}
use Rattle.origin_model.specs.operations.History.{HaveOtherIds}
use Rattle.origin_model.specs.order.Printed.{is_withdrawn}
use Rattle.origin_model.proofs.SharedLemmas.{lawful_own}
use Rattle.margin_notes.specs.Comments.{Comment, by_id, comment_in, comment_of, comments, comments_in, is_in_section, is_text, is_text_of}
use Rattle.margin_notes.specs.Laws.{CommentsById}
use Rattle.margin_notes.specs.Listing.{body_in, commented_section, text_section}
use Rattle.margin_notes.specs.declared.limits.TheConstants.{COMMENT_CODE}
use Rattle.margin_notes.proofs.KeptLemmas.{said_from, said_in, said_pairs}
use Rattle.margin_notes.proofs.PassageLemmas.{both_parts}
use Rattle.margin_notes.proofs.SortLemmas.{Apart, by_id_count, by_id_from, by_id_in, by_id_ordered, ordered_once}
use Rattle.std.proofs.lemmas.Bool.{not-true}

-- what a comment says of its operation
pub record Says (op : Op) (c : Comment) : Type 0 where
  pub own : id_of op ≡ Some c.id
  pub body : body_in op ≡ c.text

pub comment_says : (op : Op) (c : Comment) → comment_in op ≡ Some c → Says op c
comment_says (Note id named code body) c e =
    elim (cases_Bool (nat_eq code COMMENT_CODE)) [
      | inl k ↦ by named (sym (ap (λ b. if b then comment_of id named body else None) k) ∙ e)
      | inr k ↦ let no : None ≡ Some c = sym (ap (λ b. if b then comment_of id named body else None) k) ∙ e in cc
    ]
  where
    by : (named : List Identifier) → comment_of id named body ≡ Some c → Says (Note id named code body) c
    by (a ∷ b ∷ []) e =
        elim (cases_Bool (is_text body)) [
          | inl k ↦
              let one : Comment = record { id = id; first = a; last = b; text = body } in
              let same : Some one ≡ Some c = sym (ap (λ t. if t then Some one else None) k) ∙ e in
              let is : one ≡ c = cc in
              record { own = ap (λ (x : Comment). Some x.id) is; body = ap (λ (x : Comment). x.text) is }
          | inr k ↦ let no : None ≡ Some c = sym (ap (λ t. if t then Some (record { id = id; first = a; last = b; text = body }) else None) k) ∙ e in cc
        ]
    by [] e = cc
    by (a ∷ []) e = cc
    by (a ∷ b ∷ d ∷ more) e = cc
comment_says (Section id left right title) c e = cc
comment_says (Text id section left right ch) c e = cc
comment_says (Delete target) c e = cc

-- no two comments of a history have one identifier
comments_apart : (h : List Op) → Lawful h → AllPairs Apart (comments h)
comments_apart h w =
    said_pairs comment_in HaveOtherIds Apart
    (λ a b u v other e f d. other u.id (comment_says a u e).own ((comment_says b v f).own ∙ ap Some (sym d))) h (lawful_own h w)

abbrev pub counts : List Op → Identifier → Comment → Bool
counts h s c = is_in_section h s c && not (is_withdrawn h c.id)

pub listed_apart : (h : List Op) (s : Identifier) → Lawful h → AllPairs Apart (comments_in h s)
listed_apart h s w = AllPairs-filter Apart (counts h s) (comments h) (comments_apart h w)

-- an operation is a comment of the section that no Delete names
pub record IsCommentOf (h : List Op) (s : Identifier) (c : Comment) : Type 0 where
  pub op : Op
  pub member : Contains h op
  pub says : comment_in op ≡ Some c
  pub in_section : is_in_section h s c ≡ true
  pub not_withdrawn : is_withdrawn h c.id ≡ false

pub from_comments : (h : List Op) (s : Identifier) (c : Comment) → Contains (comments_in h s) c → IsCommentOf h s c
from_comments h s c m =
    let k = contains_filter_from (counts h s) (comments h) c m in
    let f = said_from comment_in h c k.0 in
    let b = both_parts (is_in_section h s c) (not (is_withdrawn h c.id)) k.1 in
    record { op = f.0; member = f.1; says = f.2; in_section = b.0; not_withdrawn = not-true (is_withdrawn h c.id) b.1 }

pub to_comments : (h : List Op) (s : Identifier) (c : Comment) → IsCommentOf h s c → Contains (comments_in h s) c
to_comments h s c i =
    contains_filter (counts h s) (comments h) c (said_in comment_in h i.op c i.member i.says) (λ j. i.in_section j && not (i.not_withdrawn j))

-- the section of a comment is that of its anchors
pub section_is : (h : List Op) (c : Comment) (s : Identifier) → commented_section h c ≡ Some s → is_in_section h s c ≡ true
section_is h c s e = by (text_section (holder h c.first)) e
  where
    by : (o : Option Identifier) → (elim o [ None ↦ None | Some t ↦ if is_in_section h t c then Some t else None ]) ≡ Some s → is_in_section h s c ≡ true
    by None e = cc
    by (Some t) e =
        elim (cases_Bool (is_in_section h t c)) [
          | inl k ↦
              let same : Some t ≡ Some s = sym (ap (λ b. if b then Some t else None) k) ∙ e in
              let d : t ≡ s = cc in
              subst (λ x. is_in_section h x c ≡ true) d k
          | inr k ↦ let no : None ≡ Some s = sym (ap (λ b. if b then Some t else None) k) ∙ e in cc
        ]

-- an element of a section is a Text of it
pub text_of : (o : Option Op) (s : Identifier) → (elim o [ None ↦ false | Some op ↦ stands_at (within s) op ]) ≡ true → text_section o ≡ Some s
text_of (Some (Text id t left right ch)) s e = ap Some (id_eq-true t s e)
text_of (Some (Section id left right title)) s e = cc
text_of (Some (Delete target)) s e = cc
text_of (Some (Note id named code body)) s e = cc
text_of None s e = cc

-- and the other way round
pub text_at : (o : Option Op) (s : Identifier) → text_section o ≡ Some s → (elim o [ None ↦ false | Some op ↦ stands_at (within s) op ]) ≡ true
text_at (Some (Text id t left right ch)) s e = let d : t ≡ s = cc in subst (λ x. id_eq t x ≡ true) d (id_eq-refl t)
text_at (Some (Section id left right title)) s e = cc
text_at (Some (Delete target)) s e = cc
text_at (Some (Note id named code body)) s e = cc
text_at None s e = cc

pub has_section : (h : List Op) (c : Comment) (s : Identifier) → is_in_section h s c ≡ true → commented_section h c ≡ Some s
has_section h c s e =
    let anchors : Bool = is_text_of h s c.first && is_text_of h s c.last in
    let a = both_parts anchors (id_eq c.first c.last || before (within s) h c.first c.last) e in
    let b = both_parts (is_text_of h s c.first) (is_text_of h s c.last) a.0 in
    ap (λ o. elim o [ None ↦ None | Some t ↦ if is_in_section h t c then Some t else None ]) (text_of (holder h c.first) s b.0)
    ∙ ap (λ b. if b then Some s else None) e

pub comments_by_id : CommentsById
comments_by_id = record {
  members = λ h s c. (by_id_from (comments_in h s) c, by_id_in (comments_in h s) c);
  ordered = λ h s w. by_id_ordered (comments_in h s) (listed_apart h s w);
  once = λ h s w. ordered_once (by_id (comments_in h s)) (by_id_ordered (comments_in h s) (listed_apart h s w));
  count = λ h s. by_id_count (comments_in h s);
}
