-- The place of an operation that is a comment, and its line by that place.
use Rattle.margin_notes.proofs.Words.{Bool, Delete, Note, Section, Text, cases_Bool, id_of, inl, inr, true≢false, Identifier, IsIn, List, None, Op, Option, Some, [], ap, before}
use Rattle.margin_notes.proofs.Words.{false, holder, id_eq, if◌then◌else◌, option_map, refl, slice_get, subst, sym, true, within, ℕ, ◌&&◌, ◌++◌, ◌||◌, ◌∙◌, ◌∷◌, ◌≡◌}
use Rattle.std.specs.Prelude.{decimal, option_and_then}
use Rattle.origin_model.specs.order.Printed.{is_withdrawn}
use Rattle.replica_core.specs.Index.{if_section_or_note, is_section_or_note, section_or_note_at}
use Rattle.margin_notes.specs.Comments.{Comment, comment_in, is_text_of}
use Rattle.margin_notes.specs.Listing.{CommentLine, anchors_of, body_of, line_for, listed_line, line_of_comment, section_number, commented_section, text_section}
use Rattle.margin_notes.specs.Margins.{margin_span}
use Rattle.margin_notes.specs.Placing.{PlacedComment, comment_placed, placed_in_section, placed_comment, placed_in}
use Rattle.margin_notes.specs.declared.reading.Anchors.{Anchors}
use Rattle.margin_notes.proofs.MemberLemmas.{comment_says, has_section, section_is, text_at, text_of}
use Rattle.margin_notes.proofs.PassageLemmas.{both_parts, text_in}

-- what the section of a comment says of its anchors
pub record AnchorsIn (h : List Op) (s first last : Identifier) : Type 0 where
  pub first_in : text_section (holder h first) ≡ Some s
  pub last_in : text_section (holder h last) ≡ Some s
  pub in_order : (id_eq first last || before (within s) h first last) ≡ true

pub section_says : (h : List Op) (c : Comment) (s : Identifier) → commented_section h c ≡ Some s → AnchorsIn h s c.first c.last
section_says h c s e =
    let anchors : Bool = is_text_of h s c.first && is_text_of h s c.last in
    let a = both_parts anchors (id_eq c.first c.last || before (within s) h c.first c.last) (section_is h c s e) in
    let b = both_parts (is_text_of h s c.first) (is_text_of h s c.last) a.0 in
    record { first_in = text_of (holder h c.first) s b.0; last_in = text_of (holder h c.last) s b.1; in_order = a.1 }

pub section_from : (h : List Op) (c : Comment) (s : Identifier) → AnchorsIn h s c.first c.last → commented_section h c ≡ Some s
section_from h c s a = has_section h c s (λ i. (text_at (holder h c.first) s a.first_in i && text_at (holder h c.last) s a.last_in i) && a.in_order i)

-- where no section has the anchors, none has the comment
pub section_none : (h : List Op) (a : Anchors) (c : Comment) → a ≡ anchors_of c → ((s : Identifier) → AnchorsIn h s a.first a.last → ⊥) → None ≡ commented_section h c
section_none h a c e n = by (commented_section h c) refl
  where
    by : (o : Option Identifier) → commented_section h c ≡ o → None ≡ o
    by None k = refl
    by (Some s) k = absurd (n s (subst (λ (b : Anchors). AnchorsIn h s b.first b.last) (sym e) (section_says h c s k)))

pub section_some : (h : List Op) (a : Anchors) (c : Comment) (s : Identifier) → a ≡ anchors_of c → AnchorsIn h s a.first a.last → Some s ≡ commented_section h c
section_some h a c s e i = sym (section_from h c s (subst (λ (b : Anchors). AnchorsIn h s b.first b.last) e i))

-- the comment whose anchors were read
pub comment_from : (op : Op) (a : Anchors) → Some a ≡ option_map anchors_of (comment_in op) → (c : Comment) × (comment_in op ≡ Some c) × (a ≡ anchors_of c)
comment_from op a e = by (comment_in op) refl e
  where
    by : (o : Option Comment) → comment_in op ≡ o → Some a ≡ option_map anchors_of o → (c : Comment) × (comment_in op ≡ Some c) × (a ≡ anchors_of c)
    by None k e = cc
    by (Some c) k e = let d : a ≡ anchors_of c = cc in (c, k, d)

pub no_comment : (h : List Op) (op : Op) → None ≡ option_map anchors_of (comment_in op) → None ≡ placed_in h op
no_comment h op e = by (comment_in op) e
  where
    by : (o : Option Comment) → None ≡ option_map anchors_of o
        → ◌≡◌ {A = Option PlacedComment} None (elim o [ None ↦ None | Some c ↦ if is_withdrawn h c.id then None else placed_in_section h c ])
    by None e = refl
    by (Some c) e = cc

-- an operation whose anchors were read
module _ (h : List Op) (op : Op) (a : Anchors) (read : Some a ≡ option_map anchors_of (comment_in op)) where
  abbrev found : (c : Comment) × (comment_in op ≡ Some c) × (a ≡ anchors_of c)
  found = comment_from op a read

  same_id : a.id ≡ found.0.id
  same_id = ap (λ (b : Anchors). b.id) found.2

  by_comment : placed_in h op ≡ (if is_withdrawn h found.0.id then None else placed_in_section h found.0)
  by_comment = ap (λ o. elim o [ None ↦ None | Some c ↦ if is_withdrawn h c.id then None else placed_in_section h c ]) found.1

  pub withdrawn_none : is_withdrawn h a.id ≡ true → None ≡ placed_in h op
  withdrawn_none k = sym (by_comment ∙ ap (λ b. if b then None else placed_in_section h found.0) (ap (is_withdrawn h) (sym same_id) ∙ k))

  -- it is not withdrawn
  module _ (not_withdrawn : is_withdrawn h a.id ≡ false) where
    by_section : placed_in h op ≡ placed_in_section h found.0
    by_section = by_comment ∙ ap (λ b. if b then None else placed_in_section h found.0) (ap (is_withdrawn h) (sym same_id) ∙ not_withdrawn)

    pub section_missing : ((c : Comment) → a ≡ anchors_of c → None ≡ commented_section h c) → None ≡ placed_in h op
    section_missing f = sym (by_section ∙ ap (option_map (placed_comment h found.0)) (sym (f found.0 found.2)))

    -- and a section has it
    module _ (s : Identifier) (at_section : (c : Comment) → a ≡ anchors_of c → Some s ≡ commented_section h c) where
      pub anchors_are_in : AnchorsIn h s a.first a.last
      anchors_are_in = subst (λ (b : Anchors). AnchorsIn h s b.first b.last) (sym found.2) (section_says h found.0 s (sym (at_section found.0 found.2)))

      pub first_is_in : IsIn (within s) h a.first
      first_is_in = text_in s h a.first (text_at (holder h a.first) s anchors_are_in.first_in)

      pub last_is_in : IsIn (within s) h a.last
      last_is_in = text_in s h a.last (text_at (holder h a.last) s anchors_are_in.last_in)

      pub place_found : (ops : List Op) (from to at : ℕ) → slice_get ops at ≡ Some op → from ≡ (margin_span h s a.first a.last).from → to ≡ (margin_span h s a.first a.last).to
          → Some (comment_placed ops (record { section = s; id = a.id; from = from; to = to; at = at })) ≡ placed_in h op
      place_found ops from to at here begins ends =
          let c : Comment = found.0 in
          let body : body_of (slice_get ops at) ≡ c.text = ap body_of here ∙ (comment_says op c found.1).body in
          let from_is : from ≡ (margin_span h s c.first c.last).from = begins ∙ ap (λ (b : Anchors). (margin_span h s b.first b.last).from) found.2 in
          let to_is : to ≡ (margin_span h s c.first c.last).to = ends ∙ ap (λ (b : Anchors). (margin_span h s b.first b.last).to) found.2 in
          let one : comment_placed ops (record { section = s; id = a.id; from = from; to = to; at = at }) ≡ placed_comment h c s = λ i. record {
            section = s;
            id = same_id i;
            from = from_is i;
            to = to_is i;
            text = body i;
          } in
          ap Some one ∙ sym (by_section ∙ ap (option_map (placed_comment h c)) (sym (at_section c found.2)))

-- the line of a comment that stands in the section with the number k
abbrev pub placed_line : ℕ → PlacedComment → CommentLine
placed_line k p = record { number = k; id = p.id; bytes = decimal k ++ 32 ∷ decimal p.from ++ 32 ∷ decimal p.to ++ 32 ∷ p.text ++ 10 ∷ [] }

abbrev pub line_placed : List Op → PlacedComment → Option CommentLine
line_placed h p = option_map (λ k. placed_line k p) (section_number h p.section)

-- the line of an operation is that of its place
pub line_by_place : (h : List Op) (op : Op) → listed_line h op ≡ option_and_then (line_placed h) (placed_in h op)
line_by_place h op = by (comment_in op)
  where
    at : (c : Comment) (o : Option Identifier) → (elim o [ None ↦ None | Some s ↦ option_map (λ k. line_of_comment h k s c) (section_number h s) ]) ≡ option_and_then
        (line_placed h) (option_map (placed_comment h c) o)
    at c None = refl
    at c (Some s) = refl

    by : (o : Option Comment) → (elim o [ None ↦ None | Some c ↦ if is_withdrawn h c.id then None else line_for h c ])
        ≡ option_and_then (line_placed h) (elim o [ None ↦ None | Some c ↦ if is_withdrawn h c.id then None else placed_in_section h c ])
    by None = refl
    by (Some c) = elim (is_withdrawn h c.id) as (λ (b : Bool). (if b then None else line_for h c) ≡ option_and_then (line_placed h) (if b then None else placed_in_section h c))
        [ true ↦ refl | false ↦ at c (commented_section h c) ]

-- so it is of whatever stands somewhere
pub line_at_place : (h : List Op) (o : Option Op) → option_and_then (listed_line h) o ≡ option_and_then (line_placed h) (option_and_then (placed_in h) o)
line_at_place h None = refl
line_at_place h (Some op) = line_by_place h op

-- what is neither a Section nor a Note is no comment
pub no_place : (h : List Op) (op : Op) → is_section_or_note op ≡ false → placed_in h op ≡ None
no_place h (Section i l r t) e = absurd (true≢false e)
no_place h (Text i s l r c) e = refl
no_place h (Delete i) e = refl
no_place h (Note i ns c b) e = absurd (true≢false e)

pub no_line : (h : List Op) (op : Op) → is_section_or_note op ≡ false → listed_line h op ≡ None
no_line h op e = line_by_place h op ∙ ap (option_and_then (line_placed h)) (no_place h op e)

-- what an operation places has its identifier
pub placed_own : (h : List Op) (op : Op) (p : PlacedComment) → placed_in h op ≡ Some p → id_of op ≡ Some p.id
placed_own h op p e = by (comment_in op) refl e
  where
    at : (c : Comment) (o : Option Identifier) → option_map (placed_comment h c) o ≡ Some p → c.id ≡ p.id
    at c None k = cc
    at c (Some s) k = let d : placed_comment h c s ≡ p = cc in ap (λ (x : PlacedComment). x.id) d

    by : (o : Option Comment) → comment_in op ≡ o → (elim o [ None ↦ None | Some c ↦ if is_withdrawn h c.id then None else placed_in_section h c ]) ≡ Some p → id_of op ≡ Some p.id
    by None says k = cc
    by (Some c) says k =
        elim (cases_Bool (is_withdrawn h c.id)) [
          | inl t ↦ let no : None ≡ Some p = sym (ap (λ b. if b then None else placed_in_section h c) t) ∙ k in cc
          | inr t ↦ (comment_says op c says).own ∙ ap Some (at c (commented_section h c) (sym (ap (λ b. if b then None else placed_in_section h c) t) ∙ k))
        ]

-- the body at a position is that of the Section or Note there
pub body_there : (ops : List Op) (at : ℕ) → body_of (section_or_note_at ops at) ≡ body_of (slice_get ops at)
body_there ops at = by (slice_get ops at)
  where
    by : (o : Option Op) → body_of (option_and_then if_section_or_note o) ≡ body_of o
    by None = refl
    by (Some (Section i l r t)) = refl
    by (Some (Text i s l r c)) = refl
    by (Some (Delete i)) = refl
    by (Some (Note i ns c b)) = refl
