-- The clusters and the scalars of parts.
use Rattle.std.proofs.Common.{◌≡◌, ℕ, ◌+◌, ◌<◌, ◌≤◌, true, List, [], ◌∷◌, ◌++◌, length, drop, get_or, refl, sym, ap, ◌∙◌, append_assoc, append-nil, length-append, arith}
use Rattle.std.proofs.lemmas.List.{drop_more}
use Rattle.std.proofs.lemmas.Str.{chars-nil, chars-append, IsUtf8-append, IsUtf8-nil, IsUtf8-string_bytes}
use Rattle.std.specs.Prelude.{string_bytes}
use Rattle.std.specs.Str.{IsUtf8, chars}
use Rattle.cluster_text.specs.Boundaries.{first_opens}
use Rattle.cluster_text.specs.Clusters.{clusters}
use Rattle.cluster_text.specs.Parts.{scalar_count, whole}
use Rattle.cluster_text.specs.declared.part.Part.{Part}
use Rattle.cluster_text.proofs.BoundaryLemmas.{apart-closed}
use Rattle.cluster_text.proofs.TextLemmas.{alone, clusters-nil, first_opens-append, first_opens-some}

pub whole-utf8 : (parts : List Part) → IsUtf8 (whole parts)
whole-utf8 [] = IsUtf8-nil
whole-utf8 (part ∷ parts) = IsUtf8-append (string_bytes part.text) (whole parts) (IsUtf8-string_bytes part.text) (whole-utf8 parts)

pub whole-append : (xs ys : List Part) → whole (xs ++ ys) ≡ whole xs ++ whole ys
whole-append [] ys = refl
whole-append (x ∷ xs) ys = ap (λ t. string_bytes x.text ++ t) (whole-append xs ys) ∙ sym (append_assoc (string_bytes x.text) (whole xs) (whole ys))

pub whole-push : (parts : List Part) (part : Part) → whole (parts ++ part ∷ []) ≡ whole parts ++ string_bytes part.text
whole-push parts part = whole-append parts (part ∷ []) ∙ ap (λ t. whole parts ++ t) (append-nil (string_bytes part.text))

pub chars-whole : (xs ys : List Part) → chars (whole (xs ++ ys)) ≡ chars (whole xs) ++ chars (whole ys)
chars-whole xs ys = ap chars (whole-append xs ys) ∙ chars-append (whole xs) (whole ys) (whole-utf8 xs)

pub chars-first : (part : Part) (parts : List Part) → chars (whole (part ∷ parts)) ≡ chars (string_bytes part.text) ++ chars (whole parts)
chars-first part parts = chars-append (string_bytes part.text) (whole parts) (IsUtf8-string_bytes part.text)

pub scalar_count-none : scalar_count [] ≡ 0
scalar_count-none = ap length chars-nil

pub scalar_count-append : (xs ys : List Part) → scalar_count (xs ++ ys) ≡ scalar_count xs + scalar_count ys
scalar_count-append xs ys = ap length (chars-whole xs ys) ∙ length-append (chars (whole xs)) (chars (whole ys))

pub scalar_count-first : (part : Part) (parts : List Part) → scalar_count (part ∷ parts) ≡ length (chars (string_bytes part.text)) + scalar_count parts
scalar_count-first part parts = ap length (chars-first part parts) ∙ length-append (chars (string_bytes part.text)) (chars (whole parts))

-- the clusters of parts are those of the first and those of the others
pub clusters-first : (part : Part) (parts : List Part) → clusters (whole (part ∷ parts)) ≡ clusters (string_bytes part.text) ++ clusters (whole parts)
clusters-first part [] =
    ap clusters (append-nil (string_bytes part.text)) ∙ sym (append-nil (clusters (string_bytes part.text)))
    ∙ ap (λ cs. clusters (string_bytes part.text) ++ cs) (sym clusters-nil)
clusters-first part (next ∷ parts) =
    let opens : first_opens (chars (whole (next ∷ parts))) ≡ true =
    ap first_opens (chars-first next parts) ∙ first_opens-append (chars (string_bytes next.text)) (chars (whole parts)) (alone _ next.alone).0 in
    let here = alone _ part.alone in
    apart-closed (string_bytes part.text) (whole (next ∷ parts)) (IsUtf8-string_bytes part.text) (first_opens-some _ here.0) here.1 opens

pub clusters-parts : (xs ys : List Part) → clusters (whole (xs ++ ys)) ≡ clusters (whole xs) ++ clusters (whole ys)
clusters-parts [] ys = ap (λ cs. cs ++ clusters (whole ys)) (sym clusters-nil)
clusters-parts (x ∷ xs) ys =
    clusters-first x (xs ++ ys) ∙ ap (λ cs. clusters (string_bytes x.text) ++ cs) (clusters-parts xs ys)
    ∙ sym (append_assoc (clusters (string_bytes x.text)) (clusters (whole xs)) (clusters (whole ys)))
    ∙ ap (λ cs. cs ++ clusters (whole ys)) (sym (clusters-first x xs))

-- each part has a scalar
pub length-le-scalar_count : (parts : List Part) → length parts ≤ scalar_count parts
length-le-scalar_count [] = omega arith
length-le-scalar_count (part ∷ parts) =
    omega (arith, first_opens-some _ (alone _ part.alone).0, scalar_count-first part parts, length-le-scalar_count parts)

pub parts-first : (parts : List Part) (i : ℕ) (part : Part) → i < length parts → part ≡ get_or parts i part → drop i parts ≡ part ∷ drop (i + 1) parts
parts-first parts i part lt is = drop_more parts i part lt ∙ ap (λ (p : Part). p ∷ drop (i + 1) parts) (sym is)
