-- Operations counted one after another.
use Rattle.std.proofs.Common.{Bool, List, [], ap, arith, cond, false, length, true, ◌+◌, ◌≤◌, ◌∙◌, ◌∷◌, ◌≡◌}
use Rattle.std.specs.Prelude.{filter}
use Rattle.fugue_ids.specs.declared.op.Op.{Op}
use Rattle.manuscript_cli.specs.SectionCounts.{changes_section, count_of_kind}
use Rattle.manuscript_cli.specs.declared.section_counts.SectionChange.{SectionChange}

counted : (h rest : List Op) (change : SectionChange) (op : Op) (b : Bool) → changes_section h change op ≡ b
    → count_of_kind h (op ∷ rest) change ≡ cond b 1 0 + count_of_kind h rest change
counted h rest change op b e = ap (λ t. length (cond t (op ∷ filter (changes_section h change) rest) (filter (changes_section h change) rest))) e ∙ by b
  where
    by : (b : Bool) → length (cond b (op ∷ filter (changes_section h change) rest) (filter (changes_section h change) rest)) ≡ cond b 1 0 + length
        (filter (changes_section h change) rest)
    by true = omega arith
    by false = omega arith

-- one that does, and one that does not
pub counted_yes : (h rest : List Op) (change : SectionChange) (op : Op) → changes_section h change op ≡ true → count_of_kind h (op ∷ rest) change ≡ 1 + count_of_kind h rest change
counted_yes h rest change op e = counted h rest change op true e

pub counted_no : (h rest : List Op) (change : SectionChange) (op : Op) → changes_section h change op ≡ false → count_of_kind h (op ∷ rest) change ≡ count_of_kind h rest change
counted_no h rest change op e = omega (arith, counted h rest change op false e)

filter_few : (p : Op → Bool) (xs : List Op) → length (filter p xs) ≤ length xs
filter_few p [] = omega arith
filter_few p (x ∷ xs) = by (p x) (filter_few p xs)
  where
    by : (b : Bool) → length (filter p xs) ≤ length xs → length (cond b (x ∷ filter p xs) (filter p xs)) ≤ length (x ∷ xs)
    by true l = omega (arith, l)
    by false l = omega (arith, l)

-- no more than there are
pub counted_few : (h ops : List Op) (change : SectionChange) → count_of_kind h ops change ≤ length ops
counted_few h ops change = filter_few (changes_section h change) ops
