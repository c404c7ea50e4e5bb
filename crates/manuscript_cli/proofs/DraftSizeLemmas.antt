-- How many operations the parts of a draft take at least.
use Rattle.std.proofs.Common.{◌≡◌, ℕ, ◌+◌, ◌<◌, ◌≤◌, List, [], ◌∷◌, length, map, true, false, refl, arith, sym, ap, take, get_or}
use Rattle.std.specs.List.{sum_by}
use Rattle.std.specs.Str.{chars}
use Rattle.std.proofs.lemmas.List.Sums.{sum_by-cons, sum_by_more_le}
use Rattle.std.proofs.lemmas.List.{take_all}
use Rattle.section_plan.specs.declared.part.Part.{Part as ReadPart}
use Rattle.draft_plan.specs.Drafts.{Part}
use Rattle.draft_plan.specs.Limits.{part_letters}
use Rattle.draft_plan.specs.Readings.{seen_part}
use Rattle.manuscript_cli.specs.Revising.{is_too_large}
use Rattle.fugue_ids.specs.declared.limits.TheConstants.{MOST_OPERATIONS}
use Rattle.std.proofs.lemmas.Bool.{le-ltb, lt-ltb}

-- a section, and the letters of its text
abbrev pub taken : ReadPart → ℕ
taken part = 1 + length (chars part.text.now)

pub taken_all : (parts : List ReadPart) → sum_by taken parts ≡ length (map seen_part parts) + part_letters (map seen_part parts)
taken_all [] = refl
taken_all (part ∷ parts) =
    omega (arith, sum_by-cons taken part parts, sum_by-cons (λ (p : Part). length (chars p.text)) (seen_part part) (map seen_part parts), taken_all parts)

module _ (parts : List ReadPart) where
  -- the parts before one have a place, and it and its letters have none after them
  pub is_over : (at : ℕ) (d : ReadPart) (room letters : ℕ) → at < length parts → room + sum_by taken (take at parts) ≡ MOST_OPERATIONS
      → letters ≡ length (chars (get_or parts at d).text.now) → room ≤ letters → true ≡ is_too_large (map seen_part parts)
  is_over at d room letters there left long over =
      sym (lt-ltb MOST_OPERATIONS (length (map seen_part parts) + part_letters (map seen_part parts))
      (omega (arith, left, long, over, sum_by_more_le taken parts at d there, taken_all parts)))

  -- all parts have a place
  pub is_within : (at room : ℕ) → length parts ≤ at → room + sum_by taken (take at parts) ≡ MOST_OPERATIONS → false ≡ is_too_large (map seen_part parts)
  is_within at room all left =
      sym (le-ltb MOST_OPERATIONS (length (map seen_part parts) + part_letters (map seen_part parts))
      (omega (arith, left, ap (sum_by taken) (take_all at parts all), taken_all parts)))
