-- The elements between two anchors, and the comments of a section, stay as they are while the history grows.
use Rattle.margin_notes.proofs.Words.{All-weaker, Bool, Delete, Identifier, IsIn, KeepsOrder, Lawful, List, None, Note, Op, Option, Place, Section, Some, Text, [], ap, before}
use Rattle.margin_notes.proofs.Words.{cases_Bool, false, filter, first_missing, holder, holds, id_eq, id_of, if◌then◌else◌, inl, inr, names, order, refl, stands_at, sym, true}
use Rattle.margin_notes.proofs.Words.{within, ◌&&◌, ◌++◌, ◌||◌, ◌∙◌, ◌∷◌, ◌≡◌}
use Rattle.origin_model.specs.declared.operations.Role.{Role}
use Rattle.origin_model.specs.declared.operations.Role.TheVariants.{Any}
use Rattle.origin_model.proofs.SharedLemmas.{cases_held, found, holder_owns, holds-older, IsHeld, Lawful-append, order-in, own_id, part_at_end, parts_keep_order, when_ready}
use Rattle.origin_model.proofs.SharedLemmas.{Within-append}
use Rattle.std.specs.Prelude.{is_some, nat_eq}
use Rattle.fugue_ids.proofs.IdentifierLemmas.{not_some}
use Rattle.margin_notes.specs.declared.limits.TheConstants.{COMMENT_CODE}
use Rattle.margin_notes.specs.Comments.{Comment, comment_in, comment_of, is_in_section, is_text, is_text_of}
use Rattle.margin_notes.specs.Laws.{CommentsStay, SpanStays}
use Rattle.margin_notes.specs.Margins.{stands_between}
use Rattle.margin_notes.proofs.FilterLemmas.{filter-agree, filter-swap}

-- later operations keep the order of the older elements
keeps : (p : Place) (new h : List Op) → Lawful (new ++ h) → KeepsOrder p h (new ++ h)
keeps p new h w = parts_keep_order p h (new ++ h) (Lawful-append new h w) w (part_at_end new h)

pub span_stays : SpanStays
span_stays p new h a b w m n =
    let whole : List Op = new ++ h in
    let k : KeepsOrder p h whole = keeps p new h w in
    filter-agree (stands_between p h a b) (stands_between p whole a b) (order p h)
    (All-weaker (IsIn p h) (λ x. stands_between p h a b x ≡ stands_between p whole a b x)
    (λ x i. λ j. (id_eq a x || k.same_before a x m i j) && (id_eq x b || k.same_before x b i n j)) (order p h) (order-in p h (Lawful-append new h w)))
    ∙ ap (filter (stands_between p whole a b)) k.same_order
    ∙ filter-swap (stands_between p whole a b) (holds h) (order p whole)

-- x is a Text of a section, by what a look-up of it found
abbrev is_text_by : Identifier → Option Op → Bool
is_text_by s o = elim o [ None ↦ false | Some op ↦ stands_at (within s) op ]

-- both parts of a test
pub both_parts : (a b : Bool) → (a && b) ≡ true → (a ≡ true) × (b ≡ true)
both_parts true true e = (refl, refl)
both_parts true false e = cc
both_parts false b e = cc

-- a Text of a section is an element of it
pub text_in : (s : Identifier) (h : List Op) (x : Identifier) → is_text_of h s x ≡ true → IsIn (within s) h x
text_in s h x e =
    elim (cases_held (holder h x)) [
      | inl k ↦ cc (sym (ap (is_text_by s) k) ∙ e)
      | inr o ↦
          let at : stands_at (within s) o.0 ≡ true = sym (ap (is_text_by s) o.1) ∙ e in
          record { op = o.0; held = o.1; place = ap (λ b. if b then id_of o.0 else None) at ∙ own_id o.0 x (holder_owns h x o.0 o.1) }
    ]

-- a held operation stays one of its section
text_stays : (s : Identifier) (new h : List Op) (x : Identifier) → Lawful (new ++ h) → IsHeld h x → is_text_of (new ++ h) s x ≡ is_text_of h s x
text_stays s new h x w held =
    let o = found (holder h x) held in
    ap (is_text_by s) (Within-append new h w x o.0 o.1) ∙ sym (ap (is_text_by s) o.1)

-- tests of which the last is compared only where the others hold
pub same_tests : (a b c d : Bool) → (a ≡ true → b ≡ true → c ≡ d) → (a && b && c) ≡ (a && b && d)
same_tests true true c d f = f refl refl
same_tests true false c d f = refl
same_tests false b c d f = refl

-- a comment whose anchors are held is of the section now where it was
pub comment_stays : (s : Identifier) (c : Comment) (new h : List Op) → Lawful (new ++ h) → IsHeld h c.first → IsHeld h c.last → is_in_section (new ++ h) s c ≡ is_in_section h s c
comment_stays s c new h w a b =
    let whole : List Op = new ++ h in
    (λ i. text_stays s new h c.first w a i && text_stays s new h c.last w b i && (id_eq c.first c.last || before (within s) whole c.first c.last))
    ∙ same_tests (is_text_of h s c.first) (is_text_of h s c.last) (id_eq c.first c.last || before (within s) whole c.first c.last)
    (id_eq c.first c.last || before (within s) h c.first c.last)
    (λ t u. ap (λ v. id_eq c.first c.last || v) (sym ((keeps (within s) new h w).same_before c.first c.last (text_in s h c.first t) (text_in s h c.last u))))

-- what a test lets through is what was given
is_given : (b : Bool) (k c : Comment) → (if b then Some k else None) ≡ Some c → k ≡ c
is_given true k c e = cc
is_given false k c e = cc

-- the names of a comment are its anchors
comment_names : (op : Op) (c : Comment) → comment_in op ≡ Some c → names op ≡ (c.first, Any) ∷ (c.last, Any) ∷ []
comment_names (Section id left right title) c e = cc
comment_names (Text id section left right ch) c e = cc
comment_names (Delete target) c e = cc
comment_names (Note id named code body) c e =
    elim (cases_Bool (nat_eq code COMMENT_CODE)) [
      | inl k ↦ by named (sym (ap (λ b. if b then comment_of id named body else None) k) ∙ e)
      | inr k ↦ let no : None ≡ Some c = sym (ap (λ b. if b then comment_of id named body else None) k) ∙ e in cc
    ]
  where
    by : (named : List Identifier) → comment_of id named body ≡ Some c → names (Note id named code body) ≡ (c.first, Any) ∷ (c.last, Any) ∷ []
    by [] e = cc
    by (a ∷ []) e = cc
    by (a ∷ b ∷ d ∷ more) e = cc
    by (a ∷ b ∷ []) e = ap (λ (k : Comment). (k.first, Any) ∷ (k.last, Any) ∷ []) (is_given (is_text body) (record { id = id; first = a; last = b; text = body }) c e)

-- the first names that none is missing of are held
first_held : (h : List Op) (n : Identifier × Role) (ns : List (Identifier × Role)) → first_missing h (n ∷ ns) ≡ None → IsHeld h n.0 × (first_missing h ns ≡ None)
first_held h n ns e =
    let missing_by : Option Op → Option Identifier = λ o. elim o [ None ↦ Some n.0 | Some op ↦ first_missing h ns ] in
    elim (cases_held (holder h n.0)) [
      | inl k ↦ absurd (not_some n.0 (sym (ap missing_by k) ∙ e))
      | inr o ↦ (ap is_some o.1, sym (ap missing_by o.1) ∙ e)
    ]

pub comments_stay : CommentsStay
comments_stay s c op new h w is =
    let older : Lawful (op ∷ h) = Lawful-append new (op ∷ h) w in
    let none_missing : first_missing h ((c.first, Any) ∷ (c.last, Any) ∷ []) ≡ None = ap (first_missing h) (sym (comment_names op c is)) ∙ (when_ready h op older.0).none_missing in
    let first = first_held h (c.first, Any) ((c.last, Any) ∷ []) none_missing in
    let last = first_held h (c.last, Any) [] first.1 in
    comment_stays s c new (op ∷ h) w (holds-older op h c.first first.0) (holds-older op h c.last last.0) ∙ comment_stays s c (op ∷ []) h older first.0 last.0
