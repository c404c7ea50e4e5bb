-- The form of parts, and how a list of parts reads back from it.
use Rattle.std.proofs.Common.{List, [], ap, append_assoc, arith, cond, false, get_or, inl, inr, length, nat_eq, not, refl, rules, subst, sym, true, ℕ, ◌+◌, ◌++◌, ◌<◌, ◌∙◌, ◌∷◌}
use Rattle.std.proofs.Common.{◌≡◌, ◌&&◌}
use Rattle.std.specs.Prelude.{All, None, Option, Some, Result, Ok, Err, codes, encode_utf8_all}
use Rattle.std.specs.List.{join_with_byte, list_any, onto_first}
use Rattle.std.specs.Str.{IsUtf8, chars, is_utf8}
use lib.Utf8.{encode, scalar, scalars}
use Rattle.std.proofs.lemmas.Bool.{and_from, and_left, and_parts, and_right, both_ways, cases_Bool, cases_eq, false_from_ne_true, eqb-true, ne_eqb, not_from_true, or_from}
use Rattle.std.proofs.lemmas.Bool.{or_parts}
use Rattle.std.proofs.lemmas.List.{append-nil}
use Rattle.std.proofs.lemmas.List.Concat.{flat_map-cons}
use Rattle.std.proofs.lemmas.List.Elements.{All-append, All-cons, All-from_get_or, All-head, All-nil, All-tail}
use Rattle.std.proofs.lemmas.List.Splits.{join_with_byte-slice_split, length-slice_split, slice_split-cons_no}
use Rattle.std.proofs.lemmas.Str.{IsUtf8-append, IsUtf8-encode, IsUtf8-from_is_utf8, IsUtf8-nil, encode_ascii, inside_one, is_utf8-from_IsUtf8}
use Rattle.fugue_ids.specs.Titles.{ends_line, has_line_end}
use Rattle.catalogue_notes.specs.Claims.{is_title}
use Rattle.draft_plan.specs.Drafts.{Part, before_heading, first_bad, form, is_bad, is_bad_at, is_heading, draft_lines, part_form, part_under, parts_of, pieces, heading_title}
use Rattle.draft_plan.specs.Laws.{FormOfParts, IsPart, PartsOfForm, ended_lines, ends_part, with_empty_lines}
use Rattle.draft_plan.proofs.LineLemmas.{IsLine, closed_ended, line_split, pieces_closed, pieces_split, split_lines}
use Rattle.draft_plan.proofs.PartLemmas.{AreGood, ArePlain, before_all, heading_first, parts_plain, title_utf8}

-- what a part is written as, in front of others
part_whole : (p : Part) (rest : List ℕ) → part_form p ++ rest ≡ (codes "# " ++ p.title) ++ 10 ∷ (p.text ++ 10 ∷ rest)
part_whole p rest =
    append_assoc ((codes "# " ++ p.title) ++ 10 ∷ p.text) (10 ∷ []) rest ∙ append_assoc (codes "# " ++ p.title) (10 ∷ p.text) (10 ∷ rest)

heading_whole : (title : List ℕ) → IsLine title → IsLine (codes "# " ++ title)
heading_whole title h = All-cons (λ b. nat_eq b 10 ≡ false) 35 (32 ∷ title) refl (All-cons (λ b. nat_eq b 10 ≡ false) 32 title refl h)

part_pieces : (p : Part) (rest : List ℕ) → IsLine p.title → pieces (part_form p ++ rest) ≡ (codes "# " ++ p.title) ∷ (split_lines p.text ++ pieces rest)
part_pieces p rest h =
    ap pieces (part_whole p rest) ∙ line_split (codes "# " ++ p.title) (p.text ++ 10 ∷ rest) (heading_whole p.title h)
    ∙ ap (λ l. (codes "# " ++ p.title) ∷ l) (pieces_split p.text rest)

-- a title is one line
none_in : (bytes : List ℕ) → has_line_end bytes ≡ false → IsLine bytes
none_in [] e = All-nil (λ b. nat_eq b 10 ≡ false)
none_in (b ∷ bs) e =
    let both = or_parts (ends_line b) (has_line_end bs) e in
    All-cons (λ b. nat_eq b 10 ≡ false) b bs (or_parts (nat_eq b 10) (nat_eq b 13) both.0).0 (none_in bs both.1)

title_line : (t : List ℕ) → is_title t ≡ true → IsLine t
title_line t e = none_in t (false_from_ne_true (has_line_end t) (λ y. both_ways (not (has_line_end t)) (not_from_true (has_line_end t) y) (and_parts _ _ e).1))

-- a text without headings
none_heading : (ls : List (List ℕ)) → list_any is_heading ls ≡ false → ArePlain ls
none_heading [] e = All-nil (λ l. is_heading l ≡ false)
none_heading (l ∷ ls) e =
    let both = or_parts (is_heading l) (list_any is_heading ls) e in
    All-cons (λ l. is_heading l ≡ false) l ls both.0 (none_heading ls both.1)

-- the lines of a text in UTF-8 are in UTF-8
split_onto : (a r l : List ℕ) (ls : List (List ℕ)) → IsLine a → split_lines r ≡ l ∷ ls → split_lines (a ++ r) ≡ (a ++ l) ∷ ls
split_onto [] r l ls h e = e
split_onto (b ∷ a) r l ls h e =
    slice_split-cons_no (λ b. nat_eq b 10) b (a ++ r) (All-head (λ b. nat_eq b 10 ≡ false) b a h)
    ∙ ap (onto_first b) (split_onto a r l ls (All-tail (λ b. nat_eq b 10 ≡ false) b a h) e)

first_piece : (s : List (List ℕ)) → 0 < length s → (l : List ℕ) × (ls : List (List ℕ)) × (s ≡ l ∷ ls)
first_piece [] h = absurd (omega (arith, h))
first_piece (l ∷ ls) h = (l, ls, refl)

encoded_line : (c : ℕ) → (c ≡ 10 → ⊥) → IsLine (encode c)
encoded_line c other =
    All-from_get_or (λ b. nat_eq b 10 ≡ false) (encode c) 0
    (λ k l.
    ne_eqb (get_or (encode c) k 0) 10
    (λ e. other (inside_one c [] (encode c) k (sym (append-nil (encode c))) l (omega (arith, e)) ∙ e)))

utf8_lines : (cs : List ℕ) → scalars cs ≡ true → All IsUtf8 (split_lines (encode_utf8_all cs))
utf8_lines [] h = All-cons IsUtf8 [] [] IsUtf8-nil (All-nil IsUtf8)
utf8_lines (c ∷ cs) h =
    let both = and_parts (scalar c) (scalars cs) h in
    let more = utf8_lines cs both.1 in
    let rest : List ℕ = encode_utf8_all cs in
    elim (cases_eq c 10) [
      | inl e ↦
          subst (λ (front : List ℕ). All IsUtf8 (split_lines (front ++ rest))) (sym (ap encode e ∙ encode_ascii 10 (omega arith)))
          (All-cons IsUtf8 [] (split_lines rest) IsUtf8-nil more)
      | inr n ↦
          let first = first_piece (split_lines rest) (omega (arith, length-slice_split (λ b. nat_eq b 10) rest)) in
          let all : All IsUtf8 (first.0 ∷ first.1) = subst (All IsUtf8) first.2 more in
          subst (All IsUtf8) (sym (split_onto (encode c) rest first.0 first.1 (encoded_line c n) first.2))
          (All-cons IsUtf8 (encode c ++ first.0) first.1
          (IsUtf8-append (encode c) first.0 (IsUtf8-encode c (search rules)) (All-head IsUtf8 first.0 first.1 all)) (All-tail IsUtf8 first.0 first.1 all))
    ]

text_lines : (text : List ℕ) → IsUtf8 text → All IsUtf8 (split_lines text)
text_lines text u = subst (λ (t : List ℕ). All IsUtf8 (split_lines t)) u.1.1 (utf8_lines u.0 u.1.0)

good_lines : (ls : List (List ℕ)) → All IsUtf8 ls → ArePlain ls → AreGood ls
good_lines [] u h = All-nil (λ l. is_bad l ≡ false)
good_lines (l ∷ ls) u h =
    let utf8 = not_from_true (is_utf8 l) (is_utf8-from_IsUtf8 l (All-head IsUtf8 l ls u)) in
    let plain = and_left (is_heading l) (not (is_title (heading_title l))) (All-head (λ l. is_heading l ≡ false) l ls h) in
    All-cons (λ l. is_bad l ≡ false) l ls (or_from (not (is_utf8 l)) (is_heading l && not (is_title (heading_title l))) utf8 plain)
    (good_lines ls (All-tail IsUtf8 l ls u) (All-tail (λ l. is_heading l ≡ false) l ls h))

sign_utf8 : is_utf8 (codes "# ") ≡ true
unfolding is_utf8 chars encode
sign_utf8 = refl

good_heading : (title : List ℕ) → is_title title ≡ true → is_bad (codes "# " ++ title) ≡ false
good_heading title t =
    let line : List ℕ = codes "# " ++ title in
    let utf8 : IsUtf8 line = IsUtf8-append (codes "# ") title (IsUtf8-from_is_utf8 (codes "# ") sign_utf8) (title_utf8 title t) in
    or_from (not (is_utf8 line)) (is_heading line && not (is_title title)) (not_from_true (is_utf8 line) (is_utf8-from_IsUtf8 line utf8))
    (and_right (is_heading line) (not (is_title title)) (not_from_true (is_title title) t))

-- the lines of the form of parts
record IsFormed (ps : List Part) : Type 0 where
  pub at_heading : ends_part (pieces (form ps)) ≡ true
  pub parts : parts_of (pieces (form ps)) ≡ ps
  pub good : AreGood (pieces (form ps))

formed_more : (p : Part) (ps : List Part) → IsPart p → IsFormed ps → IsFormed (p ∷ ps)
formed_more p ps is more =
    let heading : List ℕ = codes "# " ++ p.title in
    let text : List (List ℕ) = split_lines p.text in
    let rest : List (List ℕ) = pieces (form ps) in
    let e : pieces (form (p ∷ ps)) ≡ heading ∷ (text ++ rest) = ap pieces (flat_map-cons part_form p ps) ∙ part_pieces p (form ps) (title_line p.title is.title) in
    let plain : ArePlain text = none_heading text is.no_heading in
    let text_is : join_with_byte 10 (before_heading (text ++ rest)) ≡ p.text =
    ap (join_with_byte 10) (before_all text rest plain more.at_heading) ∙ join_with_byte-slice_split 10 p.text in
    record {
      at_heading = ap ends_part e;
      parts = ap parts_of e ∙ (λ j. record { title = p.title; text = text_is j } ∷ parts_of (text ++ rest)) ∙ ap (λ l. p ∷ l) (parts_plain text rest plain ∙ more.parts);
      good = subst AreGood (sym e)
          (All-cons (λ l. is_bad l ≡ false) heading (text ++ rest) (good_heading p.title is.title)
          (All-append (λ l. is_bad l ≡ false) text rest (good_lines text (text_lines p.text (IsUtf8-from_is_utf8 p.text is.text)) plain) more.good));
    }

formed : (ps : List Part) → All IsPart ps → IsFormed ps
formed [] h = record { at_heading = refl; parts = refl; good = All-nil (λ l. is_bad l ≡ false) }
formed (p ∷ ps) h = formed_more p ps (All-head IsPart p ps h) (formed ps (All-tail IsPart p ps h))

-- no line is bad
none_bad : (n : ℕ) (ls : List (List ℕ)) → 1 < n → AreGood ls → first_bad n ls ≡ None
none_bad n [] h g = refl
none_bad n (l ∷ ls) h g =
    let other : nat_eq n 1 ≡ false = ne_eqb n 1 (λ e. absurd (omega (arith, h, e))) in
    let here : is_bad_at n l ≡ false =
    or_from (is_bad l) (nat_eq n 1 && not (is_heading l)) (All-head (λ l. is_bad l ≡ false) l ls g) (and_left (nat_eq n 1) (not (is_heading l)) other) in
    ap (λ t. cond t (Some n) (first_bad (n + 1) ls)) here ∙ none_bad (n + 1) ls (omega (arith, h)) (All-tail (λ l. is_bad l ≡ false) l ls g)

none_bad_first : (ls : List (List ℕ)) → ends_part ls ≡ true → AreGood ls → first_bad 1 ls ≡ None
none_bad_first [] e g = refl
none_bad_first (l ∷ ls) e g =
    let here : is_bad_at 1 l ≡ false = or_from (is_bad l) (not (is_heading l)) (All-head (λ l. is_bad l ≡ false) l ls g) (not_from_true (is_heading l) e) in
    ap (λ t. cond t (Some 1) (first_bad 2 ls)) here ∙ none_bad 2 ls (omega arith) (All-tail (λ l. is_bad l ≡ false) l ls g)

abbrev form_result : Option ℕ → List Part → Result (List Part) ℕ
form_result o ps = elim o [ None ↦ Ok ps | Some line ↦ Err line ]

pub parts_of_form : PartsOfForm
parts_of_form ps h =
    let f = formed ps h in
    let read : List (List ℕ) → Result (List Part) ℕ = λ ls. form_result (first_bad 1 ls) (parts_of ls) in
    ap read (pieces_closed (form ps)) ∙ ap (λ o. form_result o (parts_of (pieces (form ps)))) (none_bad_first (pieces (form ps)) f.at_heading f.good) ∙ ap Ok f.parts

-- lines, joined by LF, with LF after them
join_block : (b : List ℕ) (bs : List (List ℕ)) → join_with_byte 10 (b ∷ bs) ++ 10 ∷ [] ≡ ended_lines (b ∷ bs)
join_block b [] = sym (append-nil (b ++ 10 ∷ []))
join_block b (c ∷ bs) = append_assoc b (10 ∷ join_with_byte 10 (c ∷ bs)) (10 ∷ []) ∙ ap (λ l. b ++ 10 ∷ l) (join_block c bs) ∙ sym (append_assoc b (10 ∷ []) (ended_lines (c ∷ bs)))

heading_is : (line : List ℕ) → is_heading line ≡ true → line ≡ codes "# " ++ heading_title line
heading_is [] e = absurd (both_ways false refl e)
heading_is (a ∷ []) e = absurd (both_ways (nat_eq 35 a && false) (and_right (nat_eq 35 a) false refl) e)
heading_is (a ∷ b ∷ line) e =
    let both = and_parts (nat_eq 35 a) (nat_eq 32 b && true) e in
    let first : a ≡ 35 = sym (eqb-true 35 a both.0) in
    let second : b ≡ 32 = sym (eqb-true 32 b (and_parts (nat_eq 32 b) true both.1).0) in
    (λ j. first j ∷ second j ∷ line)

part_line : (l : List ℕ) (b : List (List ℕ)) (rest : List ℕ) → is_heading l ≡ true
    → part_form (record { title = heading_title l; text = join_with_byte 10 b }) ++ rest ≡ (l ++ 10 ∷ []) ++ ((join_with_byte 10 b ++ 10 ∷ []) ++ rest)
part_line l b rest e =
    part_whole (record { title = heading_title l; text = join_with_byte 10 b }) rest
    ∙ ap (λ (h : List ℕ). h ++ 10 ∷ (join_with_byte 10 b ++ 10 ∷ rest)) (sym (heading_is l e))
    ∙ ap (λ (t : List ℕ). l ++ 10 ∷ t) (sym (append_assoc (join_with_byte 10 b) (10 ∷ []) rest))
    ∙ sym (append_assoc l (10 ∷ []) ((join_with_byte 10 b ++ 10 ∷ []) ++ rest))

-- the lines up to the next heading, and the form of the parts after them
reform_heading : (l : List ℕ) (ls : List (List ℕ)) → is_heading l ≡ true → ended_lines (with_empty_lines ls) ≡ ended_lines (before_heading ls) ++ form (parts_of ls)
    → ended_lines (with_empty_lines (l ∷ ls)) ≡ form (parts_of (l ∷ ls))
reform_heading l [] e more = rw e (sym (part_line l [] [] e))
reform_heading l (k ∷ ls) e more =
    elim (cases_Bool (is_heading k)) [
      | inl t ↦
          let none : before_heading (k ∷ ls) ≡ [] = before_all [] (k ∷ ls) (All-nil (λ l. is_heading l ≡ false)) t in
          let one : ended_lines (with_empty_lines (k ∷ ls)) ≡ form (parts_of (k ∷ ls)) = more ∙ ap (λ b. ended_lines b ++ form (parts_of (k ∷ ls))) none in
          ap (λ t. ended_lines (cond t (l ∷ [] ∷ with_empty_lines (k ∷ ls)) (l ∷ with_empty_lines (k ∷ ls)))) (and_from (is_heading l) (is_heading k) e t)
          ∙ ap (λ m. (l ++ 10 ∷ []) ++ ((10 ∷ []) ++ m)) one
          ∙ sym (part_line l [] (form (parts_of (k ∷ ls))) e)
          ∙ ap (λ b. part_form (record { title = heading_title l; text = join_with_byte 10 b }) ++ form (parts_of (k ∷ ls))) (sym none)
          ∙ ap form (sym (ap (λ t. cond t (part_under l (k ∷ ls) ∷ parts_of (k ∷ ls)) (parts_of (k ∷ ls))) e))
      | inr n ↦
          let some : before_heading (k ∷ ls) ≡ k ∷ before_heading ls = ap (λ t. cond t [] (k ∷ before_heading ls)) n in
          ap (λ t. ended_lines (cond t (l ∷ [] ∷ with_empty_lines (k ∷ ls)) (l ∷ with_empty_lines (k ∷ ls)))) (and_right (is_heading l) (is_heading k) n)
          ∙ ap (λ m. (l ++ 10 ∷ []) ++ m) (more ∙ ap (λ b. ended_lines b ++ form (parts_of (k ∷ ls))) some
          ∙ ap (λ b. b ++ form (parts_of (k ∷ ls))) (sym (join_block k (before_heading ls))))
          ∙ sym (part_line l (k ∷ before_heading ls) (form (parts_of (k ∷ ls))) e)
          ∙ ap (λ b. part_form (record { title = heading_title l; text = join_with_byte 10 b }) ++ form (parts_of (k ∷ ls))) (sym some)
          ∙ ap form (sym (ap (λ t. cond t (part_under l (k ∷ ls) ∷ parts_of (k ∷ ls)) (parts_of (k ∷ ls))) e))
    ]

reform : (ls : List (List ℕ)) → ended_lines (with_empty_lines ls) ≡ ended_lines (before_heading ls) ++ form (parts_of ls)
reform [] = refl
reform (l ∷ ls) =
    elim (cases_Bool (is_heading l)) [
      | inl e ↦ reform_heading l ls e (reform ls) ∙ ap (λ b. ended_lines b ++ form (parts_of (l ∷ ls))) (sym (ap (λ t. cond t [] (l ∷ before_heading ls)) e))
      | inr e ↦
          ap (λ t. ended_lines (cond t (l ∷ [] ∷ with_empty_lines ls) (l ∷ with_empty_lines ls))) (and_left (is_heading l) (ends_part ls) e)
          ∙ ap (λ m. (l ++ 10 ∷ []) ++ m) (reform ls)
          ∙ sym (append_assoc (l ++ 10 ∷ []) (ended_lines (before_heading ls)) (form (parts_of ls)))
          ∙ ap (λ b. ended_lines b ++ form (parts_of ls)) (sym (ap (λ t. cond t [] (l ∷ before_heading ls)) e))
          ∙ ap (λ ps. ended_lines (before_heading (l ∷ ls)) ++ form ps) (sym (ap (λ t. cond t (part_under l ls ∷ parts_of ls) (parts_of ls)) e))
    ]

form_ok : (o : Option ℕ) (ps qs : List Part) → form_result o ps ≡ Ok qs → (o ≡ None) × (ps ≡ qs)
form_ok None ps qs e = (refl, cc)
form_ok (Some line) ps qs e = cc

pub form_of_parts : FormOfParts
form_of_parts d ps h =
    let is = form_ok (first_bad 1 (draft_lines d)) (parts_of (draft_lines d)) ps h in
    let none : before_heading (draft_lines d) ≡ [] = before_all [] (draft_lines d) (All-nil (λ l. is_heading l ≡ false)) (heading_first (draft_lines d) is.0) in
    record {
      draft = closed_ended d;
      form_is = ap form (sym is.1) ∙ ap (λ b. ended_lines b ++ form (parts_of (draft_lines d))) (sym none) ∙ sym (reform (draft_lines d));
    }
