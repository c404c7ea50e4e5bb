-- Whether a line asks for an edit, and what it comes to: of all edits there are finitely many that a line may ask for.
use Rattle.std.proofs.Common.{◌≡◌, ◌≢◌, ◌⊎◌, inl, inr, ◌<◌, ◌≤◌, ◌+◌, ◌^◌, ℕ, zero, suc, Bool, true, false, List, [], ◌∷◌, ◌++◌, length, refl, sym, ap, subst, arith, length-append}
use Rattle.std.specs.Prelude.{codes, decimal, encode_utf8_all}
use Rattle.std.specs.List.{flat_map}
use Rattle.std.specs.Str.{IsUtf8, all_scalars, is_utf8}
use Rattle.std.proofs.lemmas.Bool.{and_parts, cases_eq, cases_lt, false≢true}
use Rattle.std.proofs.lemmas.Str.{IsUtf8-from_is_utf8, is_utf8-from_IsUtf8, length-le-encodes}
use Rattle.std.proofs.Math.Utf8.{scalar_fits}
use lib.Utf8.{scalar}
use Rattle.fugue_ids.specs.Titles.{IsTitleText, has_line_end}
use Rattle.fugue_ids.specs.declared.limits.TheConstants.{LONGEST_TITLE}
use Rattle.origin_model.specs.edits.Edits.{Command, Put, Cut, Add, DropSection}
use Rattle.edit_script.specs.Grammar.{Asks, IsFaultyLine, IsNote, IsWritable, escaped_scalar, command_line}
use Rattle.edit_script.proofs.EscapeLemmas.{escaped_some}
use Rattle.fugue_ids.proofs.DecideLemmas.{Decided, is_false_decided, is_true_decided, less_decided, title_decided}

some_decided : (xs : List ℕ) → Decided (xs ≢ [])
some_decided [] = inr (λ some. some refl)
some_decided (x ∷ xs) = inl (λ e. cc e)

same_decided : (xs ys : List ℕ) → Decided (xs ≡ ys)
same_decided [] [] = inl refl
same_decided [] (y ∷ ys) = inr (λ e. cc e)
same_decided (x ∷ xs) [] = inr (λ e. cc e)
same_decided (x ∷ xs) (y ∷ ys) = by (cases_eq x y) (same_decided xs ys)
  where
    by : Decided (x ≡ y) → Decided (xs ≡ ys) → Decided (x ∷ xs ≡ y ∷ ys)
    by (inl first) (inl rest) = inl (λ i. first i ∷ rest i)
    by (inl first) (inr never) = inr (λ e. never cc)
    by (inr never) rest = inr (λ e. never cc)

-- one of the numbers below a bound has it, or none
below : (P : ℕ → Type 0) → ((n : ℕ) → Decided (P n)) → (bound : ℕ) → Decided ((n : ℕ) × (n < bound) × P n)
below P each zero = inr (λ found. omega (arith, found.1))
below P each (suc bound) = by (below P each bound) (each bound)
  where
    by : Decided ((n : ℕ) × (n < bound) × P n) → Decided (P bound) → Decided ((n : ℕ) × (n < suc bound) × P n)
    by (inl found) last = inl (found.0, omega (arith, found.1), found.2)
    by (inr none) (inl last) = inl (bound, omega arith, last)
    by (inr none) (inr not_last) = inr (λ found. elim (cases_lt found.0 bound) [
      | inl less ↦ none (found.0, less, found.2)
      | inr at ↦ let is : found.0 ≡ bound = omega (arith, at, found.1) in not_last (subst P is found.2)
    ])

-- so many members at most, each below a bound
abbrev Within : (bound most : ℕ) → List ℕ → Type 0
Within bound most [] = Unit {0}
Within bound zero (x ∷ xs) = ⊥
Within bound (suc most) (x ∷ xs) = (x < bound) × Within bound most xs

-- a first member, and the others
abbrev More : (bound most : ℕ) → (List ℕ → Type 0) → Type 0
More bound most P = (x : ℕ) × (x < bound) × ((xs : List ℕ) × Within bound most xs × P (x ∷ xs))

-- one of these lists has it, or none
among : (bound most : ℕ) (P : List ℕ → Type 0) → ((xs : List ℕ) → Decided (P xs)) → Decided ((xs : List ℕ) × Within bound most xs × P xs)
among bound zero P each = by (each [])
  where
    only : (P [] → ⊥) → (xs : List ℕ) → Within bound zero xs → P xs → ⊥
    only never [] within has = never has
    only never (x ∷ xs) within has = within

    by : Decided (P []) → Decided ((xs : List ℕ) × Within bound zero xs × P xs)
    by (inl has) = inl ([], tt, has)
    by (inr never) = inr (λ found. only never found.0 found.1 found.2)
among bound (suc most) P each =
    by (each []) (below (λ x. (xs : List ℕ) × Within bound most xs × P (x ∷ xs)) (λ x. among bound most (λ xs. P (x ∷ xs)) (λ xs. each (x ∷ xs))) bound)
  where
    neither : (P [] → ⊥) → (More bound most P → ⊥) → (xs : List ℕ) → Within bound (suc most) xs → P xs → ⊥
    neither never none [] within has = never has
    neither never none (x ∷ xs) within has = none (x, within.0, (xs, within.1, has))

    by : Decided (P []) → Decided (More bound most P) → Decided ((xs : List ℕ) × Within bound (suc most) xs × P xs)
    by (inl has) more = inl ([], tt, has)
    by (inr never) (inl more) = inl (more.0 ∷ more.2.0, (more.1, more.2.1), more.2.2)
    by (inr never) (inr none) = inr (λ found. neither never none found.0 found.1 found.2)

scalars_within : (most : ℕ) (xs : List ℕ) → length xs ≤ most → all_scalars xs ≡ true → Within (2 ^ 32) most xs
scalars_within most [] short all = tt
scalars_within zero (x ∷ xs) short all = absurd (omega (arith, short))
scalars_within (suc most) (x ∷ xs) short all =
    let parts = and_parts (scalar x) (all_scalars xs) all in
    (scalar_fits x parts.0, scalars_within most xs (omega (arith, short)) parts.1)

writable_decided : (command : Command) → Decided (IsWritable command)
writable_decided (Add at title) = by (less_decided (at + 1) (2 ^ 32)) (is_true_decided (all_scalars title)) (title_decided (encode_utf8_all title))
  where
    by : Decided (at + 1 < 2 ^ 32) → Decided (all_scalars title ≡ true) → Decided (IsTitleText (encode_utf8_all title)) → Decided (IsWritable (Add at title))
    by (inl place) (inl scalars) (inl is_title) = inl (place, scalars, is_title)
    by (inl place) (inl scalars) (inr never) = inr (λ can. never can.2)
    by (inl place) (inr never) is_title = inr (λ can. never can.1)
    by (inr never) scalars is_title = inr (λ can. never can.0)
writable_decided (Put k at new) = by (less_decided (k + 1) (2 ^ 32)) (less_decided at (2 ^ 32)) (is_true_decided (all_scalars new)) (some_decided new)
  where
    by : Decided (k + 1 < 2 ^ 32) → Decided (at < 2 ^ 32) → Decided (all_scalars new ≡ true) → Decided (new ≢ []) → Decided (IsWritable (Put k at new))
    by (inl section) (inl place) (inl scalars) (inl some) = inl (section, place, scalars, some)
    by (inl section) (inl place) (inl scalars) (inr never) = inr (λ can. never can.3)
    by (inl section) (inl place) (inr never) some = inr (λ can. never can.2)
    by (inl section) (inr never) scalars some = inr (λ can. never can.1)
    by (inr never) place scalars some = inr (λ can. never can.0)
writable_decided (Cut k at n) = by (less_decided (k + 1) (2 ^ 32)) (less_decided at (2 ^ 32)) (less_decided n (2 ^ 32))
  where
    by : Decided (k + 1 < 2 ^ 32) → Decided (at < 2 ^ 32) → Decided (n < 2 ^ 32) → Decided (IsWritable (Cut k at n))
    by (inl section) (inl place) (inl count) = inl (section, place, count)
    by (inl section) (inl place) (inr never) = inr (λ can. never can.2)
    by (inl section) (inr never) count = inr (λ can. never can.1)
    by (inr never) place count = inr (λ can. never can.0)
writable_decided (DropSection k) = less_decided (k + 1) (2 ^ 32)

asks_decided : (line : List ℕ) (command : Command) → Decided (Asks line command)
asks_decided line command = by (writable_decided command) (same_decided line (command_line command))
  where
    by : Decided (IsWritable command) → Decided (line ≡ command_line command) → Decided (Asks line command)
    by (inl can) (inl is) = inl (record { writable = can; line_is = is })
    by (inl can) (inr never) = inr (λ asks. never asks.line_is)
    by (inr never) is = inr (λ asks. never asks.writable)

module _ (line : List ℕ) where
  abbrev Adds : Type 0
  Adds = (at : ℕ) × (at < 2 ^ 32) × ((title : List ℕ) × Within (2 ^ 32) (length line) title × Asks line (Add at title))

  abbrev Puts : Type 0
  Puts = (k : ℕ) × (k < 2 ^ 32) × ((at : ℕ) × (at < 2 ^ 32) × ((new : List ℕ) × Within (2 ^ 32) (length line) new × Asks line (Put k at new)))

  abbrev Cuts : Type 0
  Cuts = (k : ℕ) × (k < 2 ^ 32) × ((at : ℕ) × (at < 2 ^ 32) × ((n : ℕ) × (n < 2 ^ 32) × Asks line (Cut k at n)))

  abbrev Drops : Type 0
  Drops = (k : ℕ) × (k < 2 ^ 32) × Asks line (DropSection k)

  add_decided : Decided Adds
  add_decided = below _ (λ at. among (2 ^ 32) (length line) _ (λ title. asks_decided line (Add at title))) (2 ^ 32)

  put_decided : Decided Puts
  put_decided = below _ (λ k. below _ (λ at. among (2 ^ 32) (length line) _ (λ new. asks_decided line (Put k at new))) (2 ^ 32)) (2 ^ 32)

  cut_decided : Decided Cuts
  cut_decided = below _ (λ k. below _ (λ at. below _ (λ n. asks_decided line (Cut k at n)) (2 ^ 32)) (2 ^ 32)) (2 ^ 32)

  drop_decided : Decided Drops
  drop_decided = below _ (λ k. asks_decided line (DropSection k)) (2 ^ 32)

-- no text is longer than it is written
written_short : (new : List ℕ) → length new ≤ length (flat_map escaped_scalar new)
written_short [] = omega arith
written_short (ch ∷ new) = let rest = written_short new in omega (arith, rest, escaped_some ch, length-append (escaped_scalar ch) (flat_map escaped_scalar new))

-- a text that a line has at its end is no longer than the line
title_short : (line title : List ℕ) (at : ℕ) → Asks line (Add at title) → length title ≤ length line
title_short line title at asks =
    let is : line ≡ 97 ∷ 100 ∷ 100 ∷ 32 ∷ (decimal (at + 1) ++ 32 ∷ encode_utf8_all title) = asks.line_is in
    omega (arith, ap length is, length-append (decimal (at + 1)) (32 ∷ encode_utf8_all title), length-le-encodes title)

text_short : (line new : List ℕ) (k at : ℕ) → Asks line (Put k at new) → length new ≤ length line
text_short line new k at asks =
    let is : line ≡ 112 ∷ 117 ∷ 116 ∷ 32 ∷ (decimal (k + 1) ++ 32 ∷ (decimal at ++ 32 ∷ flat_map escaped_scalar new)) = asks.line_is in
    omega (
      arith,
      ap length is,
      length-append (decimal (k + 1)) (32 ∷ (decimal at ++ 32 ∷ flat_map escaped_scalar new)),
      length-append (decimal at) (32 ∷ flat_map escaped_scalar new),
      written_short new,
    )

-- a line asks for an edit, or for none
pub edit_decided : (line : List ℕ) → Decided ((command : Command) × Asks line command)
edit_decided line = by (add_decided line) (put_decided line) (cut_decided line) (drop_decided line)
  where
    none : (Adds line → ⊥) → (Puts line → ⊥) → (Cuts line → ⊥) → (Drops line → ⊥) → (command : Command) → Asks line command → ⊥
    none adds puts cuts drops (Add at title) asks =
        adds (at, let can = asks.writable.0 in omega (arith, can), (title, scalars_within (length line) title (title_short line title at asks) asks.writable.1, asks))
    none adds puts cuts drops (Put k at new) asks =
        puts (
          k,
          let can = asks.writable.0 in omega (arith, can),
          (at, asks.writable.1, (new, scalars_within (length line) new (text_short line new k at asks) asks.writable.2, asks)),
        )
    none adds puts cuts drops (Cut k at n) asks = cuts (k, let can = asks.writable.0 in omega (arith, can), (at, asks.writable.1, (n, asks.writable.2, asks)))
    none adds puts cuts drops (DropSection k) asks = drops (k, let can = asks.writable in omega (arith, can), asks)

    by : Decided (Adds line) → Decided (Puts line) → Decided (Cuts line) → Decided (Drops line) → Decided ((command : Command) × Asks line command)
    by (inl a) p c d = inl (Add a.0 a.2.0, a.2.2)
    by (inr a) (inl p) c d = inl (Put p.0 p.2.0 p.2.2.0, p.2.2.2)
    by (inr a) (inr p) (inl c) d = inl (Cut c.0 c.2.0 c.2.2.0, c.2.2.2)
    by (inr a) (inr p) (inr c) (inl d) = inl (DropSection d.0, d.2)
    by (inr a) (inr p) (inr c) (inr d) = inr (λ found. none a p c d found.0 found.1)

utf8_decided : (line : List ℕ) → Decided (IsUtf8 line)
utf8_decided line = by (is_true_decided (is_utf8 line))
  where
    by : Decided (is_utf8 line ≡ true) → Decided (IsUtf8 line)
    by (inl is) = inl (IsUtf8-from_is_utf8 line is)
    by (inr never) = inr (λ utf8. never (is_utf8-from_IsUtf8 line utf8))

begins_decided : (line : List ℕ) → Decided ((line ≡ []) ⊎ ((rest : List ℕ) × (line ≡ codes "#" ++ rest)))
begins_decided [] = inl (inl refl)
begins_decided (byte ∷ rest) = by (cases_eq byte 35)
  where
    first : (other : List ℕ) → byte ∷ rest ≡ 35 ∷ other → byte ≡ 35
    first other e = cc e

    neither : (byte ≡ 35 → ⊥) → (byte ∷ rest ≡ []) ⊎ ((others : List ℕ) × (byte ∷ rest ≡ codes "#" ++ others)) → ⊥
    neither never (inl e) = cc e
    neither never (inr hash) = never (first hash.0 hash.1)

    by : Decided (byte ≡ 35) → Decided ((byte ∷ rest ≡ []) ⊎ ((others : List ℕ) × (byte ∷ rest ≡ codes "#" ++ others)))
    by (inl is) = inl (inr (rest, λ i. is i ∷ rest))
    by (inr never) = inr (neither never)

-- a line is a note line, or it is none
pub note_decided : (line : List ℕ) → Decided (IsNote line)
note_decided line = by (utf8_decided line) (begins_decided line)
  where
    by : Decided (IsUtf8 line) → Decided ((line ≡ []) ⊎ ((rest : List ℕ) × (line ≡ codes "#" ++ rest))) → Decided (IsNote line)
    by (inl utf8) (inl begins) = inl (record { utf8 = utf8; begins = begins })
    by (inl utf8) (inr never) = inr (λ note. never note.begins)
    by (inr never) begins = inr (λ note. never note.utf8)

-- a line is a note line, or asks for an edit, or is bad
pub line_is_one : (line : List ℕ) → IsNote line ⊎ ((command : Command) × Asks line command) ⊎ IsFaultyLine line
line_is_one line = by (note_decided line) (edit_decided line)
  where
    by : Decided (IsNote line) → Decided ((command : Command) × Asks line command) → IsNote line ⊎ ((command : Command) × Asks line command) ⊎ IsFaultyLine line
    by (inl note) edit = inl note
    by (inr never) (inl edit) = inr (inl edit)
    by (inr never) (inr none) = inr (inr (record { no_note = never; no_edit = λ command asks. none (command, asks) }))
