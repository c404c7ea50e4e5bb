-- Where a byte stands first in a text, and what stands before and after it.
use Rattle.std.proofs.Common.{List, [], ap, append_assoc, arith, cond, drop, false, get_or, length, length-append, length-drop, nat_eq, nat_lt, refl, suc, sym, take, ℕ, ◌+◌, ◌++◌}
use Rattle.std.proofs.Common.{◌-◌, ◌<◌, ◌≤◌, ◌∙◌, ◌∷◌, ◌≡◌, ◌≢◌, ◌↔◌}
use Rattle.std.specs.Prelude.{All, IfSome, IsSomeAnd, MatchOption, IsNone, None, Option, Some, position, ◌==◌}
use Rattle.std.specs.Borrow.{Bor}
use Rattle.std.specs.List.{position_or_len}
use Rattle.std.proofs.Math.Seq.{drop-append-add, drop-append_seam, take-append_seam}
use Rattle.std.proofs.lemmas.Bool.{eq-eqb, eqb-true, lt-ltb, ne_eqb}
use Rattle.std.proofs.lemmas.Bool.Decides.{nat_tests}
use Rattle.std.proofs.lemmas.List.{append-nil, drop_more, take-append-drop, take_all}
use Rattle.std.proofs.lemmas.List.Elements.{All-append, All-cons, All-head, All-nil, All-tail}
use Rattle.std.proofs.lemmas.Grind.{flat_map-append}
use Rattle.std.proofs.lemmas.List.Recursion.{is_position_or_len}
use Rattle.std.proofs.lemmas.List.Quantifiers.{position-Some}
use Rattle.std.proofs.lemmas.Option.{none-some, same_Some}
use Rattle.fugue_ids.specs.Identifiers.{Identifier}
use Rattle.order_proof.specs.Texts.{id_text, ids_text}
use Rattle.order_proof.specs.Readings.{HasNoByte, IsPossible}

-- how many bytes stand before the first such one
unfoldable count : ℕ → List ℕ → ℕ
count k [] = 0
count k (c ∷ cs) = cond (nat_eq c k) 0 (1 + count k cs)

counts : (k : ℕ) (text : List ℕ) → count k text ≡ position_or_len (λ b. b == k) text
unfolding count
counts k text = is_position_or_len (count k) (λ b. b == k) refl (λ x xs. refl) text

count_to : (k : ℕ) (first rest : List ℕ) → HasNoByte k first → count k (first ++ k ∷ rest) ≡ length first
unfolding count
count_to k [] rest f = ap (λ t. cond t 0 (1 + count k rest)) (eq-eqb k k refl)
count_to k (c ∷ first) rest f =
    let more : 1 + count k (first ++ k ∷ rest) ≡ suc (length first) = omega (arith, count_to k first rest f.1) in
    ap (λ t. cond t 0 (1 + count k (first ++ k ∷ rest))) (ne_eqb c k f.0) ∙ more

pub found_after : (k : ℕ) (text first rest : List ℕ) → HasNoByte k first → text ≡ first ++ k ∷ rest → position (λ b. b == k) text ≡ Some (length first)
found_after k text first rest f e =
    ap (position (λ b. b == k)) e
    ∙ ap (λ n. cond (nat_lt n (length (first ++ k ∷ rest))) (Some n) None) (sym (counts k (first ++ k ∷ rest)) ∙ count_to k first rest f)
    ∙ ap (λ t. cond t (Some (length first)) None) (lt-ltb (length first) (length (first ++ k ∷ rest)) (omega (arith, length-append first (k ∷ rest))))

-- no such byte
count_all : (k : ℕ) (text : List ℕ) → HasNoByte k text → count k text ≡ length text
unfolding count
count_all k [] f = refl
count_all k (c ∷ text) f =
    let more : 1 + count k text ≡ suc (length text) = omega (arith, count_all k text f.1) in
    ap (λ t. cond t 0 (1 + count k text)) (ne_eqb c k f.0) ∙ more

pub found_nowhere : (k : ℕ) (text : List ℕ) → HasNoByte k text → position (λ b. b == k) text ≡ None
found_nowhere k text f =
    let past : nat_lt (length text) (length text) ≡ false = grind (arith, nat_tests) in
    ap (λ n. cond (nat_lt n (length text)) (Some n) None) (sym (counts k text) ∙ count_all k text f) ∙ ap (λ t. cond t (Some (length text)) None) past

-- the text before and after it
pub parts_found : (k i : ℕ) (text first rest : List ℕ) → HasNoByte k first → text ≡ first ++ k ∷ rest → position (λ b. b == k) text ≡ Some i
    → (take i text ≡ first) × (take (length text - (i + 1)) (drop (i + 1) text) ≡ rest)
parts_found k i text first rest f e p =
    let at : i ≡ length first = same_Some i (length first) (sym p ∙ found_after k text first rest f e) in
    let behind : drop (i + 1) text ≡ rest = (λ j. drop (at j + 1) (e j)) ∙ drop-append-add first (k ∷ rest) 1 in (
      (λ j. take (at j) (e j)) ∙ take-append_seam first (k ∷ rest),
      take_all (length text - (i + 1)) (drop (i + 1) text) (omega (arith, length-drop (i + 1) text)) ∙ behind,
    )

pub split_there : (k i : ℕ) (text : List ℕ) → position (λ b. b == k) text ≡ Some i → text ≡ take i text ++ k ∷ take (length text - (i + 1)) (drop (i + 1) text)
split_there k i text p =
    let f = position-Some (λ b. b == k) text i 0 p in
    let is : get_or text i 0 ≡ k = eqb-true (get_or text i 0) k f.1 in
    sym (take-append-drop i text)
    ∙ ap (λ z. take i text ++ z) (drop_more text i 0 f.0)
    ∙ (λ j. take i text ++ is j ∷ sym (take_all (length text - (i + 1)) (drop (i + 1) text) (omega (arith, length-drop (i + 1) text))) j)

-- a word, and identifiers after it
pub word_found : (text word : List ℕ) (more : List Identifier) (i : ℕ) → HasNoByte 32 word → text ≡ word ++ ids_text more → position (λ b. b == 32) text ≡ Some i
    → (take i text ≡ word) × (take (length text - i) (drop i text) ≡ ids_text more)
word_found text word [] i f e p =
    absurd (none-some i (sym (found_nowhere 32 word f) ∙ ap (position (λ b. b == 32)) (sym (e ∙ append-nil word)) ∙ p))
word_found text word (m ∷ more) i f e p =
    let at : i ≡ length word = same_Some i (length word) (sym p ∙ found_after 32 text word (id_text m ++ ids_text more) f e) in
    let behind : drop i text ≡ ids_text (m ∷ more) = (λ j. drop (at j) (e j)) ∙ drop-append_seam word (ids_text (m ∷ more)) in (
      (λ j. take (at j) (e j)) ∙ take-append_seam word (ids_text (m ∷ more)),
      take_all (length text - i) (drop i text) (omega (arith, length-drop i text)) ∙ behind,
    )

pub word_alone : (text word : List ℕ) (more : List Identifier) → HasNoByte 32 word → text ≡ word ++ ids_text more → position (λ b. b == 32) text ≡ None
    → (text ≡ word) × ([] ≡ ids_text more)
word_alone text word [] f e p = (e ∙ append-nil word, refl)
word_alone text word (m ∷ more) f e p = absurd (none-some (length word) (sym p ∙ found_after 32 text word (id_text m ++ ids_text more) f e))

-- the identifier of two numbers
pub id_made : (made : Option Identifier) (replica counter : ℕ) (id : Identifier) → (IsNone made ↔ (replica ≡ 0))
    → IfSome made (λ i. (i.replica ≡ replica) × (i.counter ≡ counter)) → replica ≡ id.replica → counter ≡ id.counter → 0 < id.replica → made ≡ Some id
id_made None replica counter id none some r c k = absurd (omega (arith, none.0 refl, r, k))
id_made (Some i) replica counter id none some r c k = λ j. Some (record { replica = (some.0 ∙ r) j; counter = (some.1 ∙ c) j })

-- identifiers were read, and the rest of the text was not: all identifiers whose text it is begin with them
pub record IsReadTo (text : List ℕ) (ids : List Identifier) (rest : List ℕ) : Type 0 where
  pub written : text ≡ ids_text ids ++ rest
  pub possible : All IsPossible ids
  pub every : (xs : List Identifier) → All IsPossible xs → text ≡ ids_text xs → (ys : List Identifier) × All IsPossible ys × (rest ≡ ids_text ys) × (xs ≡ ids ++ ys)

pub read_none : (text : List ℕ) → IsReadTo text [] text
read_none text = record { written = refl; possible = All-nil IsPossible; every = λ xs p e. (xs, p, e, refl) }

-- what the first identifier of the rest is
abbrev Begins : (rest : List ℕ) → Identifier → (behind : List ℕ) → Type 0
Begins rest id behind = (y : Identifier) (more : List Identifier) → IsPossible y → rest ≡ ids_text (y ∷ more) → (id ≡ y) × (behind ≡ ids_text more)

more_of : (ids : List Identifier) (id : Identifier) (rest behind : List ℕ) (xs ys : List Identifier) → rest ≡ (32 ∷ id_text id) ++ behind → Begins rest id behind
    → All IsPossible ys → rest ≡ ids_text ys → xs ≡ ids ++ ys
    → (zs : List Identifier) × All IsPossible zs × (behind ≡ ids_text zs) × (xs ≡ (ids ++ id ∷ []) ++ zs)
more_of ids id rest behind xs [] b f p e k = absurd (let t : 32 ∷ (id_text id ++ behind) ≡ [] = sym b ∙ e in cc)
more_of ids id rest behind xs (y ∷ more) b f p e k =
    let found = f y more (All-head IsPossible y more p) e in
    (more, All-tail IsPossible y more p, found.1, k ∙ (λ j. ids ++ sym found.0 j ∷ more) ∙ sym (append_assoc ids (id ∷ []) more))

pub read_more : (text : List ℕ) (ids : List Identifier) (rest : List ℕ) (id : Identifier) (behind : List ℕ) → IsReadTo text ids rest → rest ≡ (32 ∷ id_text id) ++ behind
    → IsPossible id
    → Begins rest id behind → IsReadTo text (ids ++ id ∷ []) behind
read_more text ids rest id behind r b p f = record {
  written =
      r.written
      ∙ ap (λ z. ids_text ids ++ z) b
      ∙ sym (append_assoc (ids_text ids) (32 ∷ id_text id) behind)
      ∙ ap (λ z. (ids_text ids ++ z) ++ behind) (sym (append-nil (32 ∷ id_text id)))
      ∙ ap (λ z. z ++ behind) (sym (flat_map-append (λ (i : Identifier). 32 ∷ id_text i) ids (id ∷ [])));
  possible = All-append IsPossible ids (id ∷ []) r.possible (All-cons IsPossible id [] p (All-nil IsPossible));
  every = λ xs q e. let k = r.every xs q e in more_of ids id rest behind xs k.0 b f k.1 k.2 k.3;
}

-- where no identifier comes next
stops : (rest : List ℕ) (ys : List Identifier) → 0 < length rest → ((y : Identifier) (more : List Identifier) → IsPossible y → rest ≡ ids_text (y ∷ more) → ⊥) → All IsPossible ys
    → rest ≡ ids_text ys → ⊥
stops rest [] l f p e = omega (arith, ap length e, l)
stops rest (y ∷ more) l f p e = f y more (All-head IsPossible y more p) e

pub read_stops : (text : List ℕ) (ids : List Identifier) (rest : List ℕ) → IsReadTo text ids rest → 0 < length rest
    → ((y : Identifier) (more : List Identifier) → IsPossible y → rest ≡ ids_text (y ∷ more) → ⊥)
    → (xs : List Identifier) → All IsPossible xs → text ≡ ids_text xs → ⊥
read_stops text ids rest r l f xs p e = let k = r.every xs p e in stops rest k.0 l f k.1 k.2

-- where nothing is left
ends : (rest : List ℕ) (ys : List Identifier) → length rest ≤ 0 → rest ≡ ids_text ys → ys ≡ []
ends rest [] l e = refl
ends rest (y ∷ more) l e = absurd (omega (arith, ap length e, l))

pub read_ends : (text : List ℕ) (ids : List Identifier) (rest : List ℕ) → IsReadTo text ids rest → length rest ≤ 0 → (xs : List Identifier) → All IsPossible xs
    → text ≡ ids_text xs → ids ≡ xs
read_ends text ids rest r l xs p e =
    let k = r.every xs p e in
    sym (append-nil ids) ∙ ap (λ z. ids ++ z) (sym (ends rest k.0 l k.2)) ∙ sym k.3

-- a text begins with a piece, or does not
abbrev IsStripped : (text piece : List ℕ) → Option (Bor (List ℕ)) → Type 0
IsStripped text piece r = MatchOption r ((rest : List ℕ) → text ≢ piece ++ rest) (λ x. text ≡ piece ++ x.now)

pub strip_parts : (text piece : List ℕ) (r : Option (Bor (List ℕ))) → IsStripped text piece r → IfSome r (λ rest. text ≡ piece ++ rest.now)
strip_parts text piece None m = tt
strip_parts text piece (Some x) m = m

pub common_prefix : (piece a b : List ℕ) → piece ++ a ≡ piece ++ b → a ≡ b
common_prefix [] a b e = e
common_prefix (c ∷ piece) a b e = let t : piece ++ a ≡ piece ++ b = cc in common_prefix piece a b t

pub strip_found : (text piece rest : List ℕ) (r : Option (Bor (List ℕ))) → IsStripped text piece r → text ≡ piece ++ rest → IsSomeAnd r (λ found. found.now ≡ rest)
strip_found text piece rest None m e = m rest e
strip_found text piece rest (Some x) m e = common_prefix piece x.now rest (sym m ∙ e)
