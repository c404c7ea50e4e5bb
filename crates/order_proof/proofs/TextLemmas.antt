-- The text of a certificate tells its lines, and these tell the certificate.
use Rattle.std.proofs.Common.{Bool, List, false, inl, inr, true, [], ap, append_assoc, arith, refl, sym, ℕ, ◌++◌, ◌<◌, ◌^◌, ◌∙◌, ◌∷◌, ◌≡◌, nat_eq}
use Rattle.std.specs.Prelude.{All, decimal, flat_map, if◌then◌else◌, map}
use Rattle.std.proofs.lemmas.Bool.{cases_Bool, eq-eqb, false≢true, true≢false}
use Rattle.std.proofs.lemmas.List.{append-nil}
use Rattle.std.proofs.lemmas.List.Elements.{All-head, All-tail}
use Rattle.std.proofs.lemmas.Fmt.{decimal_injective, decimal_is_IsNumeral}
use Rattle.std.proofs.lemmas.Str.Parse.{digit_from_value}
use Rattle.std.specs.Str.Parse.{AllDigits}
use Rattle.fugue_ids.specs.Identifiers.{Identifier}
use Rattle.order_proof.specs.declared.step.Reason.{Reason}
use Rattle.order_proof.specs.declared.step.Reason.TheVariants.{End, Inner, Later, Prefix, Tie}
use Rattle.fugue_ids.specs.declared.op.Op.{Op}
use Rattle.order_proof.specs.declared.step.Step.{Step}
use Rattle.order_proof.specs.Certificates.{Certificate, HoldsBy, IsValid}
use Rattle.order_proof.specs.Laws.{ReadsUniquely, ValidReadsUniquely}
use Rattle.order_proof.specs.Readings.{HasNoByte}
use Rattle.order_proof.specs.Texts.{IsNarrow, ProofLine, Word, chain_lines, reason_line, claim, down, end, id_text, ids_text, inner, later, proof_line_text, proof_lines, prefix}
use Rattle.order_proof.specs.Texts.{right, tie, written_step, step_written_by, word_text}

pub free-append : (k : ℕ) (a b : List ℕ) → HasNoByte k a → HasNoByte k b → HasNoByte k (a ++ b)
free-append k [] b f g = g
free-append k (c ∷ a) b f g = (f.0, free-append k a b f.1 g)

-- what stands before the first mark
pub split_at : (k : ℕ) (a b r s : List ℕ) → HasNoByte k a → HasNoByte k b → a ++ k ∷ r ≡ b ++ k ∷ s → (a ≡ b) × (r ≡ s)
split_at k [] [] r s f g e = let t : r ≡ s = cc in (refl, t)
split_at k [] (c ∷ b) r s f g e = let t : c ≡ k = cc in absurd (g.0 t)
split_at k (c ∷ a) [] r s f g e = let t : c ≡ k = cc in absurd (f.0 t)
split_at k (c ∷ a) (d ∷ b) r s f g e =
    let h : c ≡ d = cc in
    let t : a ++ k ∷ r ≡ b ++ k ∷ s = cc in
    let m = split_at k a b r s f.1 g.1 t in
    ((λ i. h i ∷ m.0 i), m.1)

-- pieces, each with a mark after it
abbrev marked : ℕ → List (List ℕ) → List ℕ
marked k xs = flat_map (λ x. x ++ k ∷ []) xs

abbrev HaveNoByte : ℕ → List (List ℕ) → Type 0
HaveNoByte k [] = Unit {0}
HaveNoByte k (x ∷ xs) = HasNoByte k x × HaveNoByte k xs

-- no piece is empty of its mark
some_piece : (k : ℕ) (x r : List ℕ) → [] ≡ (x ++ k ∷ []) ++ r → ⊥
some_piece k [] r e = cc
some_piece k (c ∷ x) r e = cc

-- the pieces are fixed by their text
pieces_once : (k : ℕ) (xs ys : List (List ℕ)) → HaveNoByte k xs → HaveNoByte k ys → marked k xs ≡ marked k ys → xs ≡ ys
pieces_once k [] [] f g e = refl
pieces_once k [] (y ∷ ys) f g e = absurd (some_piece k y (marked k ys) e)
pieces_once k (x ∷ xs) [] f g e = absurd (some_piece k x (marked k xs) (sym e))
pieces_once k (x ∷ xs) (y ∷ ys) f g e =
    let p = split_at k x y (marked k xs) (marked k ys) f.0 g.0 (sym (append_assoc x (k ∷ []) (marked k xs)) ∙ e ∙ append_assoc y (k ∷ []) (marked k ys)) in
    let q = pieces_once k xs ys f.1 g.1 p.1 in
    λ i. p.0 i ∷ q i

-- digits are no marks
digits_free : (k : ℕ) (ds : List ℕ) → k < 48 → AllDigits 10 ds → HasNoByte k ds
digits_free k [] l d = tt
digits_free k (c ∷ cs) l d = ((λ e. omega (arith, digit_from_value c d.0, e, l)), digits_free k cs l d.1)

pub decimal_free : (k n : ℕ) → k < 48 → n < 2 ^ 32 → HasNoByte k (decimal n)
decimal_free k n l h = digits_free k (decimal n) l (decimal_is_IsNumeral n (omega (arith, h))).0.1

-- an identifier is fixed by its text
pub id_free : (k : ℕ) (id : Identifier) → k < 46 → IsNarrow id → HasNoByte k (id_text id)
id_free k id l n =
    free-append k (decimal id.replica) (46 ∷ decimal id.counter) (decimal_free k id.replica (omega (arith, l)) n.0)
    ((λ e. omega (arith, e, l)), decimal_free k id.counter (omega (arith, l)) n.1)

id_once : (a b : Identifier) → IsNarrow a → IsNarrow b → id_text a ≡ id_text b → a ≡ b
id_once a b m n e =
    let p = split_at 46 (decimal a.replica) (decimal b.replica) (decimal a.counter) (decimal b.counter) (decimal_free 46 a.replica (omega arith) m.0)
    (decimal_free 46 b.replica (omega arith) n.0) e in
    let r : a.replica ≡ b.replica = decimal_injective a.replica b.replica (omega (arith, m.0)) (omega (arith, n.0)) p.0 in
    let c : a.counter ≡ b.counter = decimal_injective a.counter b.counter (omega (arith, m.1)) (omega (arith, n.1)) p.1 in
    λ i. record { replica = r i; counter = c i }

ids_once : (xs ys : List Identifier) → All IsNarrow xs → All IsNarrow ys → map id_text xs ≡ map id_text ys → xs ≡ ys
ids_once [] [] m n e = refl
ids_once [] (y ∷ ys) m n e = cc
ids_once (x ∷ xs) [] m n e = cc
ids_once (x ∷ xs) (y ∷ ys) m n e =
    let p : id_text x ≡ id_text y = cc in
    let q : map id_text xs ≡ map id_text ys = cc in
    let r = id_once x y (All-head IsNarrow x xs m) (All-head IsNarrow y ys n) p in
    let s = ids_once xs ys (All-tail IsNarrow x xs m) (All-tail IsNarrow y ys n) q in
    λ i. r i ∷ s i

-- a word is fixed by its first letter
abbrev word_by : ℕ → Word
word_by n =
    if nat_eq n 99 then claim else if nat_eq n 100 then down else if nat_eq n 114 then right else if nat_eq n 112 then prefix
    else if nat_eq n 105 then inner else if nat_eq n 101 then end else if nat_eq n 108 then later else tie

abbrev first_byte : List ℕ → ℕ
first_byte [] = 0
first_byte (c ∷ cs) = c

word_read : (w : Word) → word_by (first_byte (word_text w)) ≡ w
word_read claim = refl
word_read down = refl
word_read right = refl
word_read prefix = refl
word_read inner = refl
word_read end = refl
word_read later = refl
word_read tie = refl

word_once : (v w : Word) → word_text v ≡ word_text w → v ≡ w
word_once v w e = sym (word_read v) ∙ ap (λ t. word_by (first_byte t)) e ∙ word_read w

-- a word has neither a space nor a line end
abbrev free_test : ℕ → List ℕ → Bool
free_test k [] = true
free_test k (c ∷ cs) = if nat_eq c k then false else free_test k cs

free_from : (k : ℕ) (cs : List ℕ) → free_test k cs ≡ true → HasNoByte k cs
free_from k [] e = tt
free_from k (c ∷ cs) e =
    elim (cases_Bool (nat_eq c k)) [
      | inl h ↦ absurd (false≢true (sym (ap (λ b. if b then false else free_test k cs) h) ∙ e))
      | inr h ↦ ((λ d. true≢false (sym (eq-eqb c k d) ∙ h)), free_from k cs (sym (ap (λ b. if b then false else free_test k cs) h) ∙ e))
    ]

word_test : (w : Word) → (free_test 10 (word_text w) ≡ true) × (free_test 32 (word_text w) ≡ true)
word_test claim = (refl, refl)
word_test down = (refl, refl)
word_test right = (refl, refl)
word_test prefix = (refl, refl)
word_test inner = (refl, refl)
word_test end = (refl, refl)
word_test later = (refl, refl)
word_test tie = (refl, refl)

-- a line in front of its end
abbrev body : ProofLine → List ℕ
body l = word_text l.word ++ flat_map (λ id. 32 ∷ id_text id) l.ids

pub ids_free : (ids : List Identifier) → All IsNarrow ids → HasNoByte 10 (ids_text ids)
ids_free [] n = tt
ids_free (i ∷ ids) n =
    free-append 10 (32 ∷ id_text i) (flat_map (λ id. 32 ∷ id_text id) ids) ((λ e. omega (arith, e)), id_free 10 i (omega arith) (All-head IsNarrow i ids n))
    (ids_free ids (All-tail IsNarrow i ids n))

body_free : (l : ProofLine) → All IsNarrow l.ids → HasNoByte 10 (body l)
body_free l n = free-append 10 (word_text l.word) (flat_map (λ id. 32 ∷ id_text id) l.ids) (free_from 10 (word_text l.word) (word_test l.word).0) (ids_free l.ids n)

-- a line with a space in place of its end, as pieces
ids_marked : (w : List ℕ) (ids : List Identifier) → (w ++ flat_map (λ id. 32 ∷ id_text id) ids) ++ 32 ∷ [] ≡ marked 32 (w ∷ map id_text ids)
ids_marked w [] = ap (λ z. z ++ 32 ∷ []) (append-nil w) ∙ sym (append-nil (w ++ 32 ∷ []))
ids_marked w (i ∷ ids) =
    let more : List ℕ = flat_map (λ id. 32 ∷ id_text id) ids in
    append_assoc w (32 ∷ (id_text i ++ more)) (32 ∷ [])
    ∙ sym (append_assoc w (32 ∷ []) ((id_text i ++ more) ++ 32 ∷ []))
    ∙ ap (λ z. (w ++ 32 ∷ []) ++ z) (ids_marked (id_text i) ids)

pieces_free : (ids : List Identifier) → All IsNarrow ids → HaveNoByte 32 (map id_text ids)
pieces_free [] n = tt
pieces_free (i ∷ ids) n = (id_free 32 i (omega arith) (All-head IsNarrow i ids n), pieces_free ids (All-tail IsNarrow i ids n))

-- a line is fixed by its text
body_once : (l m : ProofLine) → All IsNarrow l.ids → All IsNarrow m.ids → body l ≡ body m → l ≡ m
body_once l m f g e =
    let p : word_text l.word ∷ map id_text l.ids ≡ word_text m.word ∷ map id_text m.ids =
    pieces_once 32 (word_text l.word ∷ map id_text l.ids) (word_text m.word ∷ map id_text m.ids)
    (free_from 32 (word_text l.word) (word_test l.word).1, pieces_free l.ids f) (free_from 32 (word_text m.word) (word_test m.word).1, pieces_free m.ids g)
    (sym (ids_marked (word_text l.word) l.ids) ∙ ap (λ z. z ++ 32 ∷ []) e ∙ ids_marked (word_text m.word) m.ids) in
    let v : word_text l.word ≡ word_text m.word = cc in
    let q : map id_text l.ids ≡ map id_text m.ids = cc in
    let w = word_once l.word m.word v in
    let i = ids_once l.ids m.ids f g q in
    λ j. record { word = w j; ids = i j }

-- lines are fixed by their text
lines_marked : (ls : List ProofLine) → flat_map proof_line_text ls ≡ marked 10 (map body ls)
lines_marked [] = refl
lines_marked (l ∷ ls) = λ i. sym (append_assoc (word_text l.word) (flat_map (λ id. 32 ∷ id_text id) l.ids) (10 ∷ [])) i ++ lines_marked ls i

bodies_free : (ls : List ProofLine) → All (λ (l : ProofLine). All IsNarrow l.ids) ls → HaveNoByte 10 (map body ls)
bodies_free [] n = tt
bodies_free (l ∷ ls) n = (body_free l (All-head (λ (l : ProofLine). All IsNarrow l.ids) l ls n), bodies_free ls (All-tail (λ (l : ProofLine). All IsNarrow l.ids) l ls n))

bodies_once : (ls ms : List ProofLine) → All (λ (l : ProofLine). All IsNarrow l.ids) ls → All (λ (l : ProofLine). All IsNarrow l.ids) ms → map body ls ≡ map body ms → ls ≡ ms
bodies_once [] [] f g e = refl
bodies_once [] (m ∷ ms) f g e = cc
bodies_once (l ∷ ls) [] f g e = cc
bodies_once (l ∷ ls) (m ∷ ms) f g e =
    let N : ProofLine → Type 0 = λ (z : ProofLine). All IsNarrow z.ids in
    let p : body l ≡ body m = cc in
    let q : map body ls ≡ map body ms = cc in
    let r = body_once l m (All-head N l ls f) (All-head N m ms g) p in
    let s = bodies_once ls ms (All-tail N l ls f) (All-tail N m ms g) q in
    λ i. r i ∷ s i

lines_once : (ls ms : List ProofLine) → All (λ (l : ProofLine). All IsNarrow l.ids) ls → All (λ (l : ProofLine). All IsNarrow l.ids) ms
    → flat_map proof_line_text ls ≡ flat_map proof_line_text ms → ls ≡ ms
lines_once ls ms f g e =
    bodies_once ls ms f g (pieces_once 10 (map body ls) (map body ms) (bodies_free ls f) (bodies_free ms g) (sym (lines_marked ls) ∙ e ∙ lines_marked ms))

-- what the last line of a step says
abbrev reason_by : Word → List Identifier → Reason
reason_by later (p ∷ q ∷ []) = Later p q
reason_by end ids = End
reason_by tie ids = Tie
reason_by w ids = Inner

-- the step that lines tell, and the lines after it
abbrev nothing : Step
nothing = let none : Identifier = record { replica = 0; counter = 0 } in record { x = none; y = none; down_x = []; down_y = []; right_x = []; right_y = []; reason = Prefix }

abbrev read_by : Word → (x y : Identifier) → (a b : ProofLine) → List ProofLine → Step × List ProofLine
read_by prefix x y a b more = (record { x = x; y = y; down_x = []; down_y = a.ids; right_x = []; right_y = []; reason = Prefix }, more)
read_by _ x y a b (c ∷ d ∷ e ∷ more) = (record { x = x; y = y; down_x = a.ids; down_y = b.ids; right_x = c.ids; right_y = d.ids; reason = reason_by e.word e.ids }, more)
read_by _ x y a b more = (nothing, [])

abbrev read_claim : List Identifier → List ProofLine → Step × List ProofLine
read_claim (x ∷ y ∷ []) (a ∷ b ∷ more) = read_by b.word x y a b more
read_claim ids more = (nothing, [])

abbrev read_step : List ProofLine → Step × List ProofLine
read_step (l ∷ more) = read_claim l.ids more
read_step [] = (nothing, [])

-- a step as its lines tell it
abbrev written_with : Step → Reason → Step
written_with s Prefix = record { x = s.x; y = s.y; down_x = []; down_y = s.down_y; right_x = []; right_y = []; reason = Prefix }
written_with s r = record { x = s.x; y = s.y; down_x = s.down_x; down_y = s.down_y; right_x = s.right_x; right_y = s.right_y; reason = r }

step_read : (s : Step) (r : Reason) (more : List ProofLine) → read_step ((chain_lines s r ++ reason_line r ∷ []) ++ more) ≡ (written_with s r, more)
step_read s Prefix more = refl
step_read s Inner more = refl
step_read s End more = refl
step_read s (Later p q) more = refl
step_read s Tie more = refl

written-same : (s : Step) (r : Reason) → r ≡ s.reason → written_with s r ≡ step_written_by s r
written-same s Prefix e = refl
written-same s r e = λ i. record { x = s.x; y = s.y; down_x = s.down_x; down_y = s.down_y; right_x = s.right_x; right_y = s.right_y; reason = e i }

-- a step has lines
some_lines : (s : Step) (r : Reason) (more : List ProofLine) → [] ≡ (chain_lines s r ++ reason_line r ∷ []) ++ more → ⊥
some_lines s Prefix more e = cc
some_lines s r more e = cc

-- lines tell the certificate
lines_tell : (c d : Certificate) → proof_lines c ≡ proof_lines d → map written_step c ≡ map written_step d
lines_tell [] [] e = refl
lines_tell [] (t ∷ d) e = absurd (some_lines t t.reason (proof_lines d) e)
lines_tell (s ∷ c) [] e = absurd (some_lines s s.reason (proof_lines c) (sym e))
lines_tell (s ∷ c) (t ∷ d) e =
    let p : (written_with s s.reason, proof_lines c) ≡ (written_with t t.reason, proof_lines d) =
    sym (step_read s s.reason (proof_lines c)) ∙ ap read_step e ∙ step_read t t.reason (proof_lines d) in
    let q = lines_tell c d (ap (λ (z : Step × List ProofLine). z.1) p) in
    let r : written_step s ≡ written_step t = sym (written-same s s.reason refl) ∙ ap (λ (z : Step × List ProofLine). z.0) p ∙ written-same t t.reason refl in
    λ i. r i ∷ q i

pub reads_uniquely : ReadsUniquely
reads_uniquely c d m n e = lines_tell c d (lines_once (proof_lines c) (proof_lines d) m n e)

-- a step that holds has no chain that its text leaves out
written-holds : (h : List Op) (s : Step) (r : Reason) → r ≡ s.reason → HoldsBy h s r → step_written_by s r ≡ s
written-holds h s Prefix e t =
    λ i. record { x = s.x; y = s.y; down_x = sym t.no_down_x i; down_y = s.down_y; right_x = sym t.no_right_x i; right_y = sym t.no_right_y i; reason = e i }
written-holds h s r e t = refl

pub written-valid : (h : List Op) (c : Certificate) → IsValid h c → map written_step c ≡ c
written-valid h [] v = absurd v
written-valid h (s ∷ []) v = ap (λ z. z ∷ []) (written-holds h s s.reason refl v.0.holds)
written-valid h (s ∷ t ∷ more) v =
    let p = written-holds h s s.reason refl v.0.holds in
    let q = written-valid h (t ∷ more) v.2 in
    λ i. p i ∷ q i

pub valid_reads_uniquely : ValidReadsUniquely
valid_reads_uniquely h g c d v w m n e = sym (written-valid h c v) ∙ reads_uniquely c d m n e ∙ written-valid g d w
