-- The lines of a text.
use Rattle.std.proofs.Common.{List, [], ap, arith, cond, false, get_or, inl, inr, length, length-drop, nat_eq, not, refl, sym, take, drop, true, ℕ, ◌+◌, ◌++◌, ◌-◌, ◌<◌, ◌∙◌, ◌∷◌}
use Rattle.std.proofs.Common.{◌≡◌, ◌⊎◌}
use Rattle.std.specs.Prelude.{All, None, Option, Some, position, ◌==◌}
use Rattle.std.specs.List.{join_with_byte, onto_first, position_or_len, slice_split}
use Rattle.std.proofs.lemmas.Bool.{cases_Bool, cases_lt, eqb-true, lt-ltb, not-true}
use Rattle.std.proofs.lemmas.List.{append-nil, drop_more, get_or-take, length-take-le, take-append-drop, take_all}
use Rattle.std.proofs.lemmas.List.Elements.{All-from_get_or, All-head, All-tail}
use Rattle.std.proofs.lemmas.List.Quantifiers.{position-Some}
use Rattle.std.proofs.lemmas.List.Splits.{join_with_byte-slice_split, length-slice_split, slice_split_none}
use Rattle.std.proofs.lemmas.List.Sums.{prefix_len_passes}
use Rattle.std.proofs.lemmas.Option.{none-some}
use Rattle.draft_plan.specs.Drafts.{add_byte, with_last_line_end, ends_in_line_feed, is_heading, draft_lines, pieces}
use Rattle.draft_plan.specs.Laws.{ended_lines, ends_part}
use Rattle.draft_plan.specs.Readings.{IsFirstLine}

-- no byte of the line is LF
abbrev pub IsLine : List ℕ → Type 0
IsLine line = All (λ b. nat_eq b 10 ≡ false) line

-- what stands between the LFs of a text
abbrev pub split_lines : List ℕ → List (List ℕ)
split_lines text = slice_split (λ b. nat_eq b 10) text

onto_append : (c : ℕ) (s r : List (List ℕ)) → 0 < length s → onto_first c (s ++ r) ≡ onto_first c s ++ r
onto_append c [] r h = absurd (omega (arith, h))
onto_append c (p ∷ s) r h = refl

some_lines : (x : List ℕ) → 0 < length (split_lines x)
some_lines x = omega (arith, length-slice_split (λ b. nat_eq b 10) x)

byte_split : (c : ℕ) (x : List ℕ) (r : List (List ℕ)) → add_byte c (split_lines x ++ r) ≡ split_lines (c ∷ x) ++ r
byte_split c x r =
    elim (cases_Bool (nat_eq c 10)) [
      | inl e ↦ rw e refl
      | inr e ↦ rw e (onto_append c (split_lines x) r (some_lines x))
    ]

-- the lines of a text, and those after its LF
pub pieces_split : (x rest : List ℕ) → pieces (x ++ 10 ∷ rest) ≡ split_lines x ++ pieces rest
pieces_split [] rest = refl
pieces_split (c ∷ x) rest = ap (add_byte c) (pieces_split x rest) ∙ byte_split c x (pieces rest)

-- one line, and those after its LF
pub line_split : (line rest : List ℕ) → IsLine line → pieces (line ++ 10 ∷ rest) ≡ line ∷ pieces rest
line_split line rest h = pieces_split line rest ∙ ap (λ s. s ++ pieces rest) (slice_split_none (λ b. nat_eq b 10) line h)

-- one line without LF
pub line_alone : (b : ℕ) (bs : List ℕ) → IsLine (b ∷ bs) → pieces (b ∷ bs) ≡ (b ∷ bs) ∷ []
line_alone b [] h = rw (All-head (λ c. nat_eq c 10 ≡ false) b [] h) refl
line_alone b (c ∷ bs) h =
    ap (add_byte b) (line_alone c bs (All-tail (λ c. nat_eq c 10 ≡ false) b (c ∷ bs) h))
    ∙ rw (All-head (λ c. nat_eq c 10 ≡ false) b (c ∷ bs) h) refl

pieces_end : (b : ℕ) (bs : List ℕ) → ends_in_line_feed (b ∷ bs) ≡ false → pieces ((b ∷ bs) ++ 10 ∷ []) ≡ pieces (b ∷ bs)
pieces_end b [] e = rw e refl
pieces_end b (c ∷ bs) e = ap (add_byte b) (pieces_end c bs e)

-- the LF that closes a draft begins no line
pub pieces_closed : (d : List ℕ) → draft_lines d ≡ pieces d
pieces_closed [] = refl
pieces_closed (b ∷ bs) =
    elim (cases_Bool (ends_in_line_feed (b ∷ bs))) [
      | inl e ↦ rw e refl
      | inr e ↦ rw e (pieces_end b bs e)
    ]

some_first : (b : ℕ) (ls : List (List ℕ)) → 0 < length (onto_first b ls)
some_first b [] = omega arith
some_first b (l ∷ ls) = omega arith

-- lines and their LFs
some_pieces : (b : ℕ) (ls : List (List ℕ)) → 0 < length (add_byte b ls)
some_pieces b ls =
    elim (cases_Bool (nat_eq b 10)) [
      | inl e ↦ rw e (omega arith)
      | inr e ↦ rw e (some_first b ls)
    ]

ended_first : (b : ℕ) (ls : List (List ℕ)) → 0 < length ls → ended_lines (onto_first b ls) ≡ b ∷ ended_lines ls
ended_first b [] h = absurd (omega (arith, h))
ended_first b (l ∷ ls) h = refl

ended_byte : (b : ℕ) (ls : List (List ℕ)) → 0 < length ls → ended_lines (add_byte b ls) ≡ b ∷ ended_lines ls
ended_byte b ls h =
    elim (cases_Bool (nat_eq b 10)) [
      | inl e ↦ rw e (ap (λ c. c ∷ ended_lines ls) (sym (eqb-true b 10 e)))
      | inr e ↦ rw e (ended_first b ls h)
    ]

ended_pieces : (b : ℕ) (bs : List ℕ) → ends_in_line_feed (b ∷ bs) ≡ true → ended_lines (pieces (b ∷ bs)) ≡ b ∷ bs
ended_pieces b [] e = rw e (ap (λ c. c ∷ []) (sym (eqb-true b 10 e)))
ended_pieces b (c ∷ bs) e = ended_byte b (pieces (c ∷ bs)) (some_pieces c (pieces bs)) ∙ ap (λ l. b ∷ l) (ended_pieces c bs e)

ends_closed : (b : ℕ) (bs : List ℕ) → ends_in_line_feed (b ∷ (bs ++ 10 ∷ [])) ≡ true
ends_closed b [] = refl
ends_closed b (c ∷ bs) = ends_closed c bs

-- a closed draft is its lines, with LF after each
pub closed_ended : (d : List ℕ) → with_last_line_end d ≡ ended_lines (draft_lines d)
closed_ended [] = refl
closed_ended (b ∷ bs) =
    elim (cases_Bool (ends_in_line_feed (b ∷ bs))) [
      | inl e ↦ rw e (sym (ended_pieces b bs e))
      | inr e ↦ rw e (sym (ended_pieces b (bs ++ 10 ∷ []) (ends_closed b bs)))
    ]

-- the lines of a text that ends in LF, joined by LF, are the text without that
pub join_ended : (x : List ℕ) → join_with_byte 10 (pieces (x ++ 10 ∷ [])) ≡ x
join_ended x = ap (join_with_byte 10) (pieces_split x [] ∙ append-nil (split_lines x)) ∙ join_with_byte-slice_split 10 x

unended : (b : ℕ) (bs : List ℕ) → ends_in_line_feed (b ∷ bs) ≡ true → (front : List ℕ) × (b ∷ bs ≡ front ++ 10 ∷ [])
unended b [] e = ([], ap (λ c. c ∷ []) (eqb-true b 10 e))
unended b (c ∷ bs) e = let more = unended c bs e in (b ∷ more.0, ap (λ l. b ∷ l) more.1)

-- and those of another text are the text
pub join_unended : (s : List ℕ) → ((front : List ℕ) → s ≡ front ++ 10 ∷ [] → ⊥) → join_with_byte 10 (pieces s) ≡ s
join_unended [] none = refl
join_unended (b ∷ bs) none =
    elim (cases_Bool (ends_in_line_feed (b ∷ bs))) [
      | inl e ↦ let is = unended b bs e in absurd (none is.0 is.1)
      | inr e ↦ ap (join_with_byte 10) (sym (pieces_end b bs e)) ∙ join_ended (b ∷ bs)
    ]

first_line : (i : ℕ) (text : List ℕ) → i < length text → ((k : ℕ) → k < i → nat_eq (get_or text k 0) 10 ≡ false) → IsLine (take i text)
first_line i text h none =
    All-from_get_or (λ b. nat_eq b 10 ≡ false) (take i text) 0
    (λ k l.
    let below : k < i = omega (arith, l, length-take-le i text (omega (arith, h))) in
    ap (λ b. nat_eq b 10) (get_or-take i text k 0 below) ∙ none k below)

-- the first line ends at the first LF
pub line_found : (i : ℕ) (text : List ℕ) → position (λ b. b == 10) text ≡ Some i → IsFirstLine text (take i text) (take (length text - (i + 1)) (drop (i + 1) text))
line_found i text p =
    let f = position-Some (λ b. b == 10) text i 0 p in
    let rest : List ℕ = take (length text - (i + 1)) (drop (i + 1) text) in
    let is : get_or text i 0 ≡ 10 = eqb-true (get_or text i 0) 10 f.1 in
    let whole : rest ≡ drop (i + 1) text = take_all (length text - (i + 1)) (drop (i + 1) text) (omega (arith, length-drop (i + 1) text)) in
    let parts : text ≡ take i text ++ 10 ∷ rest = sym (take-append-drop i text) ∙ ap (λ z. take i text ++ z) (drop_more text i 0 f.0) ∙ (λ j. take i text ++ is j ∷ sym whole j) in
    let one : IsLine (take i text) = first_line i text f.0 f.2 in
    record {
      one_line = one;
      split = inl parts;
      pieces_are = ap pieces parts ∙ line_split (take i text) rest one;
      shorter = omega (arith, ap length whole, length-drop (i + 1) text, f.0);
    }

no_line_feed : (text : List ℕ) → position (λ b. b == 10) text ≡ None → IsLine text
no_line_feed text p =
    elim (cases_lt (position_or_len (λ b. b == 10) text) (length text)) [
      | inl l ↦
          absurd
          (none-some (position_or_len (λ b. b == 10) text)
          (sym p ∙ ap (λ t. cond t (Some (position_or_len (λ b. b == 10) text)) None) (lt-ltb (position_or_len (λ b. b == 10) text) (length text) l)))
      | inr g ↦
          All-from_get_or (λ b. nat_eq b 10 ≡ false) text 0
          (λ k l. not-true (nat_eq (get_or text k 0) 10) (prefix_len_passes (λ b. not (nat_eq b 10)) text k 0 (omega (arith, l, g))))
    ]

-- where there is no LF, the text is one line
pub line_whole : (text : List ℕ) → 0 < length text → position (λ b. b == 10) text ≡ None → IsFirstLine text text []
line_whole [] h p = absurd (omega (arith, h))
line_whole (b ∷ bs) h p =
    let one : IsLine (b ∷ bs) = no_line_feed (b ∷ bs) p in
    record { one_line = one; split = inr (refl, refl); pieces_are = line_alone b bs one; shorter = h }

-- the first line ends somewhere, or it does not
line_end : (text : List ℕ) → (position (λ b. b == 10) text ≡ None) ⊎ ((at : ℕ) × (position (λ b. b == 10) text ≡ Some at))
line_end text = by (position (λ b. b == 10) text) refl
  where
    by : (found : Option ℕ) → position (λ b. b == 10) text ≡ found → (position (λ b. b == 10) text ≡ None) ⊎ ((at : ℕ) × (position (λ b. b == 10) text ≡ Some at))
    by None is = inl is
    by (Some at) is = inr (at, is)

first_of : (text : List ℕ) → 0 < length text → (line : List ℕ) × (rest : List ℕ) × IsFirstLine text line rest
first_of text h =
    elim (line_end text) [
      | inl n ↦ (text, [], line_whole text h n)
      | inr f ↦ (take f.0 text, take (length text - (f.0 + 1)) (drop (f.0 + 1) text), line_found f.0 text f.1)
    ]

heading_line : (line rest : List ℕ) → is_heading (line ++ 10 ∷ rest) ≡ is_heading line
heading_line [] rest = refl
heading_line (a ∷ []) rest = refl
heading_line (a ∷ b ∷ line) rest = refl

-- its first line is a heading where the text begins as one
pub heading_begins : (text : List ℕ) → 0 < length text → is_heading text ≡ ends_part (pieces text)
heading_begins text h =
    let first = first_of text h in
    elim first.2.split [
      | inl s ↦ ap is_heading s ∙ heading_line first.0 first.1 ∙ ap ends_part (sym first.2.pieces_are)
      | inr s ↦ ap is_heading s.0 ∙ ap ends_part (sym first.2.pieces_are)
    ]
