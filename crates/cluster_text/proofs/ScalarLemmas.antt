-- How the scalars of clusters add up.
use Rattle.std.proofs.Common.{◌≡◌, ℕ, zero, suc, ◌+◌, ◌≤◌, List, [], ◌∷◌, ◌++◌, length, take, drop, refl, ap, ap₂, sym, add-one, ◌∙◌, arith, length-append, length-drop, true}
use Rattle.std.proofs.lemmas.List.Sums.{sum_by_push}
use Rattle.std.proofs.lemmas.Str.{chars-append, length-le-encodes, encodes-chars}
use Rattle.std.specs.List.{concat}
use Rattle.std.specs.Str.{chars, IsUtf8}
use Rattle.cluster_text.specs.Clusters.{clusters, Passed}
use Rattle.unicode_segmentation.specs.Grapheme.{is_grapheme_break}
use Rattle.unicode_segmentation.proofs.SegmentsLemmas.{concat-segments}

-- a text has no more scalars than bytes
pub few_scalars : (text : List ℕ) → IsUtf8 text → length (chars text) ≤ length text
few_scalars text utf8 = omega (arith, length-le-encodes (chars text), ap length (encodes-chars text utf8))

next_taken : {X : Type 0} (i : ℕ) (xs : List X) (x : X) (rest : List X) → drop i xs ≡ x ∷ rest
    → (take (suc i) xs ≡ take i xs ++ x ∷ []) × (drop (suc i) xs ≡ rest) × (suc i ≤ length xs)
next_taken {X} zero [] x rest is = cc
next_taken {X} zero (y ∷ xs) x rest is = (cc, cc, omega arith)
next_taken {X} (suc i) [] x rest is = cc
next_taken {X} (suc i) (y ∷ xs) x rest is =
    let further = next_taken i xs x rest is in
    (ap (λ (front : List X). y ∷ front) further.0, further.1, omega (arith, further.2))

-- none was passed yet
pub passed_none : (old : List (List ℕ)) → Passed old old 0 0
passed_none old = record { enough = omega arith; left = refl; count_is = refl; others = omega arith }

-- one more is passed
pub passed_next : (old now new : List (List ℕ)) (n count more : ℕ) (cluster : List ℕ) → Passed old now n count → now ≡ cluster ∷ new
    → IsUtf8 cluster → more ≡ length (chars cluster) → Passed old new (n + 1) (count + more)
passed_next old now new n count more cluster passed first utf8 is =
    let taken = next_taken n old cluster new (sym passed.left ∙ first) in
    let parts = ap length (chars-append cluster (concat new) utf8) in
    let rest : length (chars (concat now)) ≡ length (chars (cluster ++ concat new)) = rw first refl in
    record {
      enough = omega (arith, taken.2);
      left = rw add-one (sym taken.1);
      count_is = rw (add-one, taken.0) (ap₂ ◌+◌ passed.count_is is ∙ sym (sum_by_push (λ (piece : List ℕ). length (chars piece)) (take n old) cluster));
      others = omega (arith, passed.others, parts, rest, length-append (chars cluster) (chars (concat new)));
    }

-- where none is left, no more can be passed
pub passed_all : (old now : List (List ℕ)) (n count : ℕ) → Passed old now n count → now ≡ [] → length old ≤ n
passed_all old now n count passed none =
    let rest = ap length (sym passed.left ∙ none) in
    omega (arith, rest, length-drop n old)

-- the clusters of a text have its scalars together
pub scalars_of_text : (text : List ℕ) (pieces : List (List ℕ)) → IsUtf8 text → pieces ≡ clusters text
    → length (chars (concat pieces)) ≡ length (chars text)
scalars_of_text text pieces utf8 are =
    ap (λ (l : List (List ℕ)). length (chars (concat l))) are
    ∙ ap (λ (bytes : List ℕ). length (chars bytes)) (concat-segments (is_grapheme_break true) text utf8)
