-- The bytes of a text, and the scalars that they spell.
use Rattle.std.proofs.Common.{◌≡◌, ℕ, List, [], ◌∷◌, ◌++◌, append_assoc, flat_map, sym, ◌∙◌, ap, Bool, true, false, nat_eq, refl}
use Rattle.std.specs.Str.{chars, encode_utf8_all, IsUtf8}
use Rattle.std.proofs.lemmas.Str.{chars-encodes}
use lib.Pointwise.{pointwise, bytes_decides}
use lib.Utf8.{encode}
use Rattle.std.specs.Cmp.{both_ways}

-- a text is written in UTF-8 part by part
pub encode-append : (a b : List ℕ) → encode_utf8_all (a ++ b) ≡ encode_utf8_all a ++ encode_utf8_all b
encode-append [] b = refl
encode-append (x ∷ a) b = ap (λ (t : List ℕ). encode x ++ t) (encode-append a b) ∙ sym (append_assoc (encode x) (encode_utf8_all a) (encode_utf8_all b))

pub encode-parts : {X : Type 0} (f : X → List ℕ) (xs : List X) → encode_utf8_all (flat_map f xs) ≡ flat_map (λ x. encode_utf8_all (f x)) xs
encode-parts f [] = refl
encode-parts f (x ∷ xs) = encode-append (f x) (flat_map f xs) ∙ ap (λ (t : List ℕ). encode_utf8_all (f x) ++ t) (encode-parts f xs)

-- a text is the UTF-8 of its scalars
pub encode_utf8_all-chars : (bytes : List ℕ) → IsUtf8 bytes → encode_utf8_all (chars bytes) ≡ bytes
encode_utf8_all-chars bytes utf8 =
    ap encode_utf8_all (ap chars (sym utf8.1.1) ∙ chars-encodes utf8.0 utf8.1.0) ∙ utf8.1.1

-- texts are the same where their scalars are
pointwise-chars : (a b : List ℕ) → IsUtf8 a → IsUtf8 b → pointwise nat_eq a b ≡ pointwise nat_eq (chars a) (chars b)
pointwise-chars a b u v =
    both_ways _ _
    (λ same. (bytes_decides _ _).1 (ap chars ((bytes_decides a b).0 same)))
    (λ same. (bytes_decides _ _).1 (sym (encode_utf8_all-chars a u) ∙ ap encode_utf8_all ((bytes_decides (chars a) (chars b)).0 same) ∙ encode_utf8_all-chars b v))

-- the same, by what the scalars are
pub pointwise_views : (a b s t : List ℕ) → IsUtf8 a → IsUtf8 b → chars a ≡ s → chars b ≡ t → pointwise nat_eq a b ≡ pointwise nat_eq s t
pointwise_views a b s t u v e f = pointwise-chars a b u v ∙ ap (λ (x : List ℕ). pointwise nat_eq x (chars b)) e ∙ ap (pointwise nat_eq s) f
