-- The test of operations tells whether they are equal.
use Rattle.std.specs.Prelude.{◌≡◌, true, refl, nat_eq, List}
use Rattle.std.proofs.Common.{ap, ◌&&◌}
use Rattle.std.proofs.lemmas.Bool.{and_from, and_parts, eq-eqb, eqb-true, false≢true}
use lib.Pointwise.{bytes_decides, pointwise, pointwise_decides}
use Rattle.fugue_ids.specs.Identifiers.{Identifier, id_eq, origin_eq}
use Rattle.fugue_ids.specs.Ops.{op_eq}
use Rattle.fugue_ids.proofs.IdentifierLemmas.{eq-id_eq, id_eq-refl, id_eq-true, origin_eq-refl, origin_eq-true}
use Rattle.fugue_ids.specs.declared.op.Op.{Op}
use Rattle.fugue_ids.specs.declared.op.Op.TheVariants.{Delete, Note, Section, Text}

-- lists of identifiers that pass the test are equal
ids_decide : (is js : List Identifier) → (pointwise id_eq is js ≡ true → is ≡ js) × (is ≡ js → pointwise id_eq is js ≡ true)
ids_decide = pointwise_decides (λ i j. (id_eq-true i j, eq-id_eq i j))

-- operations that pass the test are equal
pub op_eq-true : (a b : Op) → op_eq a b ≡ true → a ≡ b
op_eq-true (Section i l r t) (Section j m s u) h =
    let x = and_parts (id_eq i j && origin_eq l m && origin_eq r s) (pointwise nat_eq t u) h in
    let y = and_parts (id_eq i j && origin_eq l m) (origin_eq r s) x.0 in
    let z = and_parts (id_eq i j) (origin_eq l m) y.0 in
    λ k. Section (id_eq-true i j z.0 k) (origin_eq-true l m z.1 k) (origin_eq-true r s y.1 k) ((bytes_decides t u).0 x.1 k)
op_eq-true (Section i l r t) (Text j q m s d) h = absurd (false≢true h)
op_eq-true (Section i l r t) (Delete j) h = absurd (false≢true h)
op_eq-true (Section i l r t) (Note j m d e) h = absurd (false≢true h)
op_eq-true (Text i p l r c) (Section j m s u) h = absurd (false≢true h)
op_eq-true (Text i p l r c) (Text j q m s d) h =
    let x = and_parts (id_eq i j && id_eq p q && origin_eq l m && origin_eq r s) (nat_eq c d) h in
    let y = and_parts (id_eq i j && id_eq p q && origin_eq l m) (origin_eq r s) x.0 in
    let z = and_parts (id_eq i j && id_eq p q) (origin_eq l m) y.0 in
    let w = and_parts (id_eq i j) (id_eq p q) z.0 in
    λ k. Text (id_eq-true i j w.0 k) (id_eq-true p q w.1 k) (origin_eq-true l m z.1 k) (origin_eq-true r s y.1 k) (eqb-true c d x.1 k)
op_eq-true (Text i p l r c) (Delete j) h = absurd (false≢true h)
op_eq-true (Text i p l r c) (Note j m d e) h = absurd (false≢true h)
op_eq-true (Delete i) (Section j m s u) h = absurd (false≢true h)
op_eq-true (Delete i) (Text j q m s d) h = absurd (false≢true h)
op_eq-true (Delete i) (Delete j) h = ap Delete (id_eq-true i j h)
op_eq-true (Delete i) (Note j m d e) h = absurd (false≢true h)
op_eq-true (Note i n c b) (Section j m s u) h = absurd (false≢true h)
op_eq-true (Note i n c b) (Text j q m s d) h = absurd (false≢true h)
op_eq-true (Note i n c b) (Delete j) h = absurd (false≢true h)
op_eq-true (Note i n c b) (Note j m d e) h =
    let x = and_parts (id_eq i j && pointwise id_eq n m && nat_eq c d) (pointwise nat_eq b e) h in
    let y = and_parts (id_eq i j && pointwise id_eq n m) (nat_eq c d) x.0 in
    let z = and_parts (id_eq i j) (pointwise id_eq n m) y.0 in
    λ k. Note (id_eq-true i j z.0 k) ((ids_decide n m).0 z.1 k) (eqb-true c d y.1 k) ((bytes_decides b e).0 x.1 k)

-- an operation passes the test with itself
pub op_eq-refl : (a : Op) → op_eq a a ≡ true
op_eq-refl (Section i l r t) = and_from _ _ (and_from _ _ (and_from _ _ (id_eq-refl i) (origin_eq-refl l)) (origin_eq-refl r)) ((bytes_decides t t).1 refl)
op_eq-refl (Text i p l r c) = and_from _ _ (and_from _ _ (and_from _ _ (and_from _ _ (id_eq-refl i) (id_eq-refl p)) (origin_eq-refl l)) (origin_eq-refl r)) (eq-eqb c c refl)
op_eq-refl (Delete i) = id_eq-refl i
op_eq-refl (Note i n c b) =
    and_from _ _ (and_from _ _ (and_from _ _ (id_eq-refl i) ((ids_decide n n).1 refl)) (eq-eqb c c refl)) ((bytes_decides b b).1 refl)
