-- The parts that lines make.
use Rattle.std.proofs.Common.{List, [], ap, append_assoc, arith, cond, false, inl, inr, length-append, nat_eq, not, refl, rules, subst, sym, take, true, ℕ, ◌+◌, ◌++◌, ◌-◌, ◌<◌}
use Rattle.std.proofs.Common.{◌≤◌, ◌∙◌, ◌∷◌, ◌≡◌, ◌⊎◌, ◌&&◌}
use Rattle.std.specs.Prelude.{All, None, Some, length}
use Rattle.std.specs.List.{join_with_byte}
use Rattle.std.specs.Str.{IsUtf8, is_utf8}
use Rattle.std.proofs.Math.Seq.{take-append_seam}
use Rattle.std.proofs.lemmas.Bool.{and_cases, and_parts, both_ways, cases_Bool, not-false, or_parts}
use Rattle.std.proofs.lemmas.List.{append-nil}
use Rattle.std.proofs.lemmas.List.Elements.{All-append, All-cons, All-head, All-nil, All-same, All-tail}
use Rattle.std.proofs.lemmas.Option.{none-some}
use Rattle.std.proofs.lemmas.Str.{IsUtf8-append, IsUtf8-encode, IsUtf8-from_is_utf8, IsUtf8-nil}
use Rattle.catalogue_notes.specs.Claims.{is_title}
use Rattle.draft_plan.specs.Drafts.{Part, before_heading, first_bad, is_bad, is_bad_at, is_heading, draft_lines, part_under, parts_of, pieces, heading_title}
use Rattle.draft_plan.specs.Laws.{ends_part}
use Rattle.draft_plan.specs.Readings.{IsFirstLine, IsFirstText, IsGood}
use Rattle.draft_plan.proofs.LineLemmas.{line_split, pieces_closed}

abbrev pub ArePlain : List (List ℕ) → Type 0
ArePlain ls = All (λ l. is_heading l ≡ false) ls

abbrev pub AreGood : List (List ℕ) → Type 0
AreGood ls = All (λ l. is_bad l ≡ false) ls

-- no line of the first ones is a heading, and the next one is
pub before_all : (a r : List (List ℕ)) → ArePlain a → ends_part r ≡ true → before_heading (a ++ r) ≡ a
before_all [] [] h e = refl
before_all [] (l ∷ r) h e = rw e refl
before_all (l ∷ a) r h e = rw (All-head (λ l. is_heading l ≡ false) l a h) (ap (λ t. l ∷ t) (before_all a r (All-tail (λ l. is_heading l ≡ false) l a h) e))

-- lines that are no headings begin no part
pub parts_plain : (a r : List (List ℕ)) → ArePlain a → parts_of (a ++ r) ≡ parts_of r
parts_plain [] r h = refl
parts_plain (l ∷ a) r h = rw (All-head (λ l. is_heading l ≡ false) l a h) (parts_plain a r (All-tail (λ l. is_heading l ≡ false) l a h))

pub before_plain : (ls : List (List ℕ)) → ArePlain (before_heading ls)
before_plain [] = All-nil (λ l. is_heading l ≡ false)
before_plain (l ∷ ls) =
    elim (cases_Bool (is_heading l)) [
      | inl e ↦ rw e (All-nil (λ l. is_heading l ≡ false))
      | inr e ↦ rw e (All-cons (λ l. is_heading l ≡ false) l (before_heading ls) e (before_plain ls))
    ]

-- a heading begins one
pub parts_head : (l : List ℕ) (ls : List (List ℕ)) → is_heading l ≡ true → parts_of (l ∷ ls) ≡ part_under l ls ∷ parts_of ls
parts_head l ls e = rw e refl

-- a line that may stand at a number is no bad line
pub good_at : (n : ℕ) (l : List ℕ) → is_bad_at n l ≡ false → is_bad l ≡ false
good_at n l e = (or_parts (is_bad l) (nat_eq n 1 && not (is_heading l)) e).0

pub none_bad_here : (n : ℕ) (l : List ℕ) (ls : List (List ℕ)) → first_bad n (l ∷ ls) ≡ None → is_bad_at n l ≡ false
none_bad_here n l ls h =
    elim (cases_Bool (is_bad_at n l)) [
      | inl e ↦ absurd (none-some n (sym h ∙ ap (λ t. cond t (Some n) (first_bad (n + 1) ls)) e))
      | inr e ↦ e
    ]

pub none_bad_after : (n : ℕ) (l : List ℕ) (ls : List (List ℕ)) → first_bad n (l ∷ ls) ≡ None → first_bad (n + 1) ls ≡ None
none_bad_after n l ls h = sym (ap (λ t. cond t (Some n) (first_bad (n + 1) ls)) (none_bad_here n l ls h)) ∙ h

good_all : (n : ℕ) (ls : List (List ℕ)) → first_bad n ls ≡ None → AreGood ls
good_all n [] h = All-nil (λ l. is_bad l ≡ false)
good_all n (l ∷ ls) h =
    All-cons (λ l. is_bad l ≡ false) l ls (good_at n l (none_bad_here n l ls h)) (good_all (n + 1) ls (none_bad_after n l ls h))

pub heading_first : (ls : List (List ℕ)) → first_bad 1 ls ≡ None → ends_part ls ≡ true
heading_first [] h = refl
heading_first (l ∷ ls) h = not-false (is_heading l) (or_parts (is_bad l) (not (is_heading l)) (none_bad_here 1 l ls h)).1

-- a draft that has no bad line
pub good_whole : (d : List ℕ) → first_bad 1 (draft_lines d) ≡ None → IsGood d
good_whole d h =
    let none : first_bad 1 (pieces d) ≡ None = ap (first_bad 1) (sym (pieces_closed d)) ∙ h in
    record { at_heading = heading_first (pieces d) none; good = good_all 1 (pieces d) none }

-- the title of a heading that is not bad is one
pub good_title : (l : List ℕ) → is_heading l ≡ true → is_bad l ≡ false → is_title (heading_title l) ≡ true
good_title l h e =
    elim (and_cases (is_heading l) (not (is_title (heading_title l))) (or_parts (not (is_utf8 l)) (is_heading l && not (is_title (heading_title l))) e).1) [
      | inl n ↦ absurd (both_ways (is_heading l) n h)
      | inr n ↦ not-false (is_title (heading_title l)) n
    ]

pub title_utf8 : (t : List ℕ) → is_title t ≡ true → IsUtf8 t
title_utf8 t e =
    let three = (and_parts _ _ e).0 in
    let two = (and_parts _ _ three).0 in
    IsUtf8-from_is_utf8 t (and_parts _ _ two).0

pub good_utf8 : (l : List ℕ) → is_bad l ≡ false → IsUtf8 l
good_utf8 l e = IsUtf8-from_is_utf8 l (not-false (is_utf8 l) (or_parts (not (is_utf8 l)) (is_heading l && not (is_title (heading_title l))) e).0)

line_feed_utf8 : IsUtf8 (10 ∷ [])
unfolding lib.Utf8.encode
line_feed_utf8 = IsUtf8-encode 10 (search rules)

-- lines in UTF-8, joined by LF
pub join_utf8 : (ls : List (List ℕ)) → AreGood ls → IsUtf8 (join_with_byte 10 ls)
join_utf8 [] h = IsUtf8-nil
join_utf8 (l ∷ []) h = good_utf8 l (All-head (λ l. is_bad l ≡ false) l [] h)
join_utf8 (l ∷ k ∷ ls) h =
    let more = join_utf8 (k ∷ ls) (All-tail (λ l. is_bad l ≡ false) l (k ∷ ls) h) in
    IsUtf8-append l (10 ∷ join_with_byte 10 (k ∷ ls)) (good_utf8 l (All-head (λ l. is_bad l ≡ false) l (k ∷ ls) h))
    (IsUtf8-append (10 ∷ []) (join_with_byte 10 (k ∷ ls)) line_feed_utf8 more)

good_left : (a b : List (List ℕ)) → AreGood (a ++ b) → AreGood a
good_left [] b h = All-nil (λ l. is_bad l ≡ false)
good_left (l ∷ a) b h =
    All-cons (λ l. is_bad l ≡ false) l a (All-head (λ l. is_bad l ≡ false) l (a ++ b) h) (good_left a b (All-tail (λ l. is_bad l ≡ false) l (a ++ b) h))

good_right : (a b : List (List ℕ)) → AreGood (a ++ b) → AreGood b
good_right [] b h = h
good_right (l ∷ a) b h = good_right a b (All-tail (λ l. is_bad l ≡ false) l (a ++ b) h)

-- the front of a text was passed: it has whole lines, none a heading, and the rest begins a line
pub record IsPassed (draft rest : List ℕ) : Type 0 where
  pub front : List ℕ
  pub draft_is : draft ≡ front ++ rest
  pub pieces_are : pieces draft ≡ pieces front ++ pieces rest
  pub plain : ArePlain (pieces front)
  pub whole : (rest ≡ []) ⊎ ((x : List ℕ) → pieces (front ++ x) ≡ pieces front ++ pieces x)

pub passed_none : (draft : List ℕ) → IsPassed draft draft
passed_none draft = record { front = []; draft_is = refl; pieces_are = refl; plain = All-nil (λ l. is_heading l ≡ false); whole = inr (λ x. refl) }

passed_last : (draft rest line behind : List ℕ) → (p : IsPassed draft rest) → IsFirstLine rest line behind → is_heading line ≡ false
    → ((x : List ℕ) → pieces (p.front ++ x) ≡ pieces p.front ++ pieces x) → rest ≡ line → behind ≡ [] → IsPassed draft behind
passed_last draft rest line behind p first plain whole s none =
    let alone : pieces rest ≡ line ∷ [] = first.pieces_are ∙ ap (λ b. line ∷ pieces b) none in
    let all : pieces (p.front ++ rest) ≡ pieces p.front ++ line ∷ [] = whole rest ∙ ap (λ l. pieces p.front ++ l) alone in
    record {
      front = p.front ++ rest;
      draft_is = p.draft_is ∙ sym (append-nil (p.front ++ rest)) ∙ ap (λ b. (p.front ++ rest) ++ b) (sym none);
      pieces_are = ap pieces p.draft_is ∙ sym (append-nil (pieces (p.front ++ rest))) ∙ ap (λ b. pieces (p.front ++ rest) ++ pieces b) (sym none);
      plain = All-same (λ l. is_heading l ≡ false) (pieces (p.front ++ rest)) (pieces p.front ++ line ∷ []) all
          (All-append (λ l. is_heading l ≡ false) (pieces p.front) (line ∷ []) p.plain (All-cons (λ l. is_heading l ≡ false) line [] plain (All-nil (λ l. is_heading l ≡ false))));
      whole = inl none;
    }

joined : (front line behind : List ℕ) → (front ++ (line ++ 10 ∷ [])) ++ behind ≡ front ++ (line ++ 10 ∷ behind)
joined front line behind = append_assoc front (line ++ 10 ∷ []) behind ∙ ap (λ l. front ++ l) (append_assoc line (10 ∷ []) behind)

passed_ended : (draft rest line behind : List ℕ) → (p : IsPassed draft rest) → IsFirstLine rest line behind → is_heading line ≡ false
    → ((x : List ℕ) → pieces (p.front ++ x) ≡ pieces p.front ++ pieces x) → rest ≡ line ++ 10 ∷ behind → IsPassed draft behind
passed_ended draft rest line behind p first plain whole s =
    let front : List ℕ = p.front ++ (line ++ 10 ∷ []) in
    let alone : pieces front ≡ pieces p.front ++ line ∷ [] = whole (line ++ 10 ∷ []) ∙ ap (λ l. pieces p.front ++ l) (line_split line [] first.one_line) in
    record {
      front = front;
      draft_is = p.draft_is ∙ ap (λ r. p.front ++ r) s ∙ sym (joined p.front line behind);
      pieces_are = p.pieces_are ∙ ap (λ l. pieces p.front ++ l) first.pieces_are ∙ sym (append_assoc (pieces p.front) (line ∷ []) (pieces behind))
          ∙ ap (λ l. l ++ pieces behind) (sym alone);
      plain = All-same (λ l. is_heading l ≡ false) (pieces front) (pieces p.front ++ line ∷ []) alone
          (All-append (λ l. is_heading l ≡ false) (pieces p.front) (line ∷ []) p.plain (All-cons (λ l. is_heading l ≡ false) line [] plain (All-nil (λ l. is_heading l ≡ false))));
      whole = inr (λ x.
          ap pieces (joined p.front line x) ∙ whole (line ++ 10 ∷ x) ∙ ap (λ l. pieces p.front ++ l) (line_split line x first.one_line)
          ∙ sym (append_assoc (pieces p.front) (line ∷ []) (pieces x)) ∙ ap (λ l. l ++ pieces x) (sym alone));
    }

-- one line more was passed
pub passed_line : (draft rest line behind : List ℕ) → 0 < length rest → IsPassed draft rest → IsFirstLine rest line behind → is_heading line ≡ false → IsPassed draft behind
passed_line draft rest line behind some p first plain =
    elim p.whole [
      | inl e ↦ absurd (omega (arith, some, ap length e))
      | inr whole ↦
          elim first.split [
            | inl s ↦ passed_ended draft rest line behind p first plain whole s
            | inr s ↦ passed_last draft rest line behind p first plain whole s.0 s.1
          ]
    ]

-- the text up to a heading, or to the end
pub text_passed : (draft rest text : List ℕ) → IsPassed draft rest → ends_part (pieces rest) ≡ true
    → text ≡ join_with_byte 10 (pieces (take (length draft - length rest) draft)) → IsFirstText draft text rest
text_passed draft rest text p e is =
    let long : length draft ≡ length p.front + length rest = ap length p.draft_is ∙ length-append p.front rest in
    let count : length draft - length rest ≡ length p.front = omega (arith, long) in
    let front : take (length draft - length rest) draft ≡ p.front = (λ j. take (count j) (p.draft_is j)) ∙ take-append_seam p.front rest in
    let before : before_heading (pieces draft) ≡ pieces p.front = ap before_heading p.pieces_are ∙ before_all (pieces p.front) (pieces rest) p.plain e in
    record {
      text_is = is ∙ ap (λ f. join_with_byte 10 (pieces f)) front ∙ ap (join_with_byte 10) (sym before);
      pieces_are = p.pieces_are ∙ ap (λ l. l ++ pieces rest) (sym before);
      at_heading = e;
      shorter = omega (arith, long);
    }

-- what is left was looked at: its first line is no heading
pub not_at_heading : (rest line behind : List ℕ) → ends_part (pieces rest) ≡ false → IsFirstLine rest line behind → is_heading line ≡ false
not_at_heading rest line behind e first = ap ends_part (sym first.pieces_are) ∙ e

pub not_empty : (rest : List ℕ) → ends_part (pieces rest) ≡ false → 0 < length rest
not_empty [] e = absurd (both_ways (ends_part []) e refl)
not_empty (b ∷ bs) e = omega arith

-- the first bad line was found, or there is none
pub bad_found : (draft rest line behind : List ℕ) (n : ℕ) → first_bad 1 (pieces draft) ≡ first_bad n (pieces rest) → IsFirstLine rest line behind → is_bad_at n line ≡ true
    → Some n ≡ first_bad 1 (draft_lines draft)
bad_found draft rest line behind n same first bad =
    sym (ap (first_bad 1) (pieces_closed draft) ∙ same ∙ ap (first_bad n) first.pieces_are ∙ ap (λ t. cond t (Some n) (first_bad (n + 1) (pieces behind))) bad)

pub bad_nowhere : (draft rest : List ℕ) (n : ℕ) → first_bad 1 (pieces draft) ≡ first_bad n (pieces rest) → length rest ≤ 0 → None ≡ first_bad 1 (draft_lines draft)
bad_nowhere draft [] n same h = sym (ap (first_bad 1) (pieces_closed draft) ∙ same)
bad_nowhere draft (b ∷ bs) n same h = absurd (omega (arith, h))

-- all parts were read
pub parts_end : (draft rest : List ℕ) (ps : List Part) → parts_of (pieces draft) ≡ ps ++ parts_of (pieces rest) → length rest ≤ 0 → ps ≡ parts_of (draft_lines draft)
parts_end draft [] ps same h = sym (ap parts_of (pieces_closed draft) ∙ same ∙ append-nil ps)
parts_end draft (b ∷ bs) ps same h = absurd (omega (arith, h))

-- a part was read, and the rest is good
pub record IsPartRead (draft heading text rest : List ℕ) : Type 0 where
  pub head : is_heading heading ≡ true
  pub title : IsUtf8 (heading_title heading)
  pub text_utf8 : IsUtf8 text
  pub parts : parts_of (pieces draft) ≡ record { title = heading_title heading; text = text } ∷ parts_of (pieces rest)
  pub good : IsGood rest

pub part_read : (draft heading behind text rest : List ℕ) → IsGood draft → IsFirstLine draft heading behind → IsFirstText behind text rest → IsPartRead draft heading text rest
part_read draft heading behind text rest g first t =
    let head : is_heading heading ≡ true = ap ends_part (sym first.pieces_are) ∙ g.at_heading in
    let all : AreGood (heading ∷ pieces behind) = subst AreGood first.pieces_are g.good in
    let tail : AreGood (before_heading (pieces behind) ++ pieces rest) = subst AreGood t.pieces_are (All-tail (λ l. is_bad l ≡ false) heading (pieces behind) all) in
    record {
      head = head;
      title = title_utf8 (heading_title heading) (good_title heading head (All-head (λ l. is_bad l ≡ false) heading (pieces behind) all));
      text_utf8 = subst IsUtf8 (sym t.text_is) (join_utf8 (before_heading (pieces behind)) (good_left (before_heading (pieces behind)) (pieces rest) tail));
      parts = ap parts_of first.pieces_are ∙ parts_head heading (pieces behind) head
          ∙ (λ j. record { title = heading_title heading; text = sym t.text_is j } ∷ parts_of (pieces behind))
          ∙ ap (λ ps. record { title = heading_title heading; text = text } ∷ ps)
          (ap parts_of t.pieces_are ∙ parts_plain (before_heading (pieces behind)) (pieces rest) (before_plain (pieces behind)));
      good = record { at_heading = t.at_heading; good = good_right (before_heading (pieces behind)) (pieces rest) tail };
    }
