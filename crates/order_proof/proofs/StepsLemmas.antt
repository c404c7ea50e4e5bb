-- The steps of a certificate, one after the other, as they are read.
use Rattle.std.proofs.Common.{List, [], ap, append_assoc, arith, length, length-append, refl, subst, sym, ℕ, ◌++◌, ◌<◌, ◌≤◌, ◌∙◌, ◌∷◌, ◌≡◌}
use Rattle.std.specs.Prelude.{All, flat_map, map}
use Rattle.std.proofs.lemmas.Grind.{flat_map-append}
use Rattle.std.proofs.lemmas.List.{append-nil}
use Rattle.std.proofs.lemmas.List.Elements.{All-append, All-cons, All-head, All-nil, All-tail}
use Rattle.order_proof.specs.declared.step.Reason.{Reason}
use Rattle.order_proof.specs.declared.step.Reason.TheVariants.{End, Inner, Later, Prefix, Tie}
use Rattle.order_proof.specs.declared.step.Step.{Step}
use Rattle.order_proof.specs.Certificates.{Certificate}
use Rattle.order_proof.specs.Readings.{IsProofText}
use Rattle.order_proof.specs.Texts.{ProofLine, chain_lines, proof_line_text, proof_lines, proof_text, reason_line, step_lines, step_text, written_step}
use Rattle.order_proof.proofs.LineLemmas.{IsFine, Tells}
use Rattle.order_proof.proofs.WritingLemmas.{by_steps}

text-cons : (s : Step) (c : Certificate) → proof_text (s ∷ c) ≡ step_text s ++ proof_text c
text-cons s c = sym (by_steps (s ∷ c)) ∙ ap (λ z. step_text s ++ z) (by_steps c)

-- the text of a step has bytes
some_bytes : (s : Step) (r : Reason) → 0 < length (flat_map proof_line_text (chain_lines s r) ++ proof_line_text (reason_line r))
some_bytes s Prefix = omega arith
some_bytes s Inner = omega arith
some_bytes s End = omega arith
some_bytes s (Later p q) = omega arith
some_bytes s Tie = omega arith

pub some_text : (s : Step) (more : List ℕ) → 0 < length (step_text s ++ more)
some_text s more = omega (arith, length-append (step_text s) more, some_bytes s s.reason)

lines-push : (c : Certificate) (s : Step) → proof_lines (c ++ s ∷ []) ≡ proof_lines c ++ step_lines s
lines-push [] s = append-nil (step_lines s)
lines-push (t ∷ c) s = ap (λ z. step_lines t ++ z) (lines-push c s) ∙ sym (append_assoc (step_lines t) (proof_lines c) (step_lines s))

text-push : (c : Certificate) (s : Step) (rest : List ℕ) → proof_text (c ++ s ∷ []) ++ rest ≡ proof_text c ++ (step_text s ++ rest)
text-push c s rest =
    ap (λ z. z ++ rest) (sym (by_steps (c ++ s ∷ [])) ∙ flat_map-append step_text c (s ∷ []) ∙ (λ i. by_steps c i ++ append-nil (step_text s) i))
    ∙ append_assoc (proof_text c) (step_text s) rest

map-push : (c : Certificate) (s : Step) → map written_step (c ++ s ∷ []) ≡ map written_step c ++ written_step s ∷ []
map-push [] s = refl
map-push (t ∷ c) s = ap (λ z. written_step t ∷ z) (map-push c s)

-- lines of a certificate, and of what follows
front_fine : (ls ms : List ProofLine) → All IsFine (ls ++ ms) → All IsFine ls × All IsFine ms
front_fine [] ms p = (All-nil IsFine, p)
front_fine (l ∷ ls) ms p =
    let k = front_fine ls ms (All-tail IsFine l (ls ++ ms) p) in
    (All-cons IsFine l ls (All-head IsFine l (ls ++ ms) p) k.0, k.1)

-- steps were read, and the rest of the text was not: each certificate whose text it is begins with them
pub record IsReadSo (text rest : List ℕ) (c : Certificate) : Type 0 where
  pub written : text ≡ proof_text c ++ rest
  pub fine : All IsFine (proof_lines c)
  pub whole : map written_step c ≡ c
  pub every : (d : Certificate) → All IsFine (proof_lines d) → text ≡ proof_text d
      → (e : Certificate) × All IsFine (proof_lines e) × (rest ≡ proof_text e) × (map written_step d ≡ c ++ map written_step e)

pub read_no_step : (text : List ℕ) → IsReadSo text text []
read_no_step text = record { written = refl; fine = All-nil IsFine; whole = refl; every = λ d p e. (d, p, e, refl) }

-- what the first step of the rest is
abbrev pub BeginsStep : (rest behind : List ℕ) → Step → Type 0
BeginsStep rest behind s = (t : Step) (more : List ℕ) → All IsFine (step_lines t) → rest ≡ step_text t ++ more → (s ≡ written_step t) × (behind ≡ more)

next_of : (c : Certificate) (rest behind : List ℕ) (s : Step) → Tells rest behind s → BeginsStep rest behind s → (d e : Certificate) → All IsFine (proof_lines e)
    → rest ≡ proof_text e
    → map written_step d ≡ c ++ map written_step e → (f : Certificate) × All IsFine (proof_lines f) × (behind ≡ proof_text f)
    × (map written_step d ≡ (c ++ s ∷ []) ++ map written_step f)
next_of c rest behind s t b d [] p e k = absurd (omega (arith, ap length (sym t.0 ∙ e), some_text s behind))
next_of c rest behind s t b d (u ∷ f) p e k =
    let parts = front_fine (step_lines u) (proof_lines f) p in
    let found = b u (proof_text f) parts.0 (e ∙ text-cons u f) in
    (f, parts.1, found.1, k ∙ (λ i. c ++ sym found.0 i ∷ map written_step f) ∙ sym (append_assoc c (s ∷ []) (map written_step f)))

pub read_step_more : (text rest behind : List ℕ) (c : Certificate) (s : Step) → IsReadSo text rest c → Tells rest behind s → BeginsStep rest behind s
    → IsReadSo text behind (c ++ s ∷ [])
read_step_more text rest behind c s r t b = record {
  written = r.written ∙ ap (λ z. proof_text c ++ z) t.0 ∙ sym (text-push c s behind);
  fine = subst (All IsFine) (sym (lines-push c s)) (All-append IsFine (proof_lines c) (step_lines s) r.fine t.1);
  whole = map-push c s ∙ (λ i. r.whole i ++ t.2 i ∷ []);
  every = λ d p e. let k = r.every d p e in next_of c rest behind s t b d k.0 k.1 k.2 k.3;
}

-- where no step comes next, and something is left
no_next : (rest : List ℕ) (e : Certificate) → 0 < length rest → All IsFine (proof_lines e) → rest ≡ proof_text e
    → (t : Step) × (more : List ℕ) × All IsFine (step_lines t) × (rest ≡ step_text t ++ more)
no_next rest [] l p e = absurd (omega (arith, ap length e, l))
no_next rest (u ∷ f) l p e = (u, proof_text f, (front_fine (step_lines u) (proof_lines f) p).0, e ∙ text-cons u f)

pub next_step : (text rest : List ℕ) (c : Certificate) → IsReadSo text rest c → 0 < length rest → (d : Certificate) → IsProofText text d
    → (t : Step) × (more : List ℕ) × All IsFine (step_lines t) × (rest ≡ step_text t ++ more)
next_step text rest c r l d p = let k = r.every d p.possible p.text_is in no_next rest k.0 l k.1 k.2

-- where nothing is left
none_left : (rest : List ℕ) (e : Certificate) → length rest ≤ 0 → rest ≡ proof_text e → e ≡ []
none_left rest [] l e = refl
none_left rest (u ∷ f) l e = absurd (omega (arith, ap length (e ∙ text-cons u f), some_text u (proof_text f), l))

pub read_all : (text rest : List ℕ) (c : Certificate) → IsReadSo text rest c → length rest ≤ 0 → 0 < length text → IsProofText text c × (map written_step c ≡ c)
read_all text rest c r l k =
    let none : rest ≡ [] = empty rest l in
    let is : text ≡ proof_text c = r.written ∙ ap (λ z. proof_text c ++ z) none ∙ append-nil (proof_text c) in
    (record { text_is = is; has_step = λ e. omega (arith, ap length (is ∙ ap proof_text e), k); possible = r.fine }, r.whole)
  where
    empty : (xs : List ℕ) → length xs ≤ 0 → xs ≡ []
    empty [] l = refl
    empty (x ∷ xs) l = absurd (omega (arith, l))

pub read_as : (text rest : List ℕ) (c : Certificate) → IsReadSo text rest c → length rest ≤ 0 → (d : Certificate) → IsProofText text d → c ≡ map written_step d
read_as text rest c r l d p =
    let k = r.every d p.possible p.text_is in
    sym (append-nil c) ∙ ap (λ z. c ++ map written_step z) (sym (none_left rest k.0 l k.2)) ∙ sym k.3

-- no certificate has the empty text
pub no_text : (text : List ℕ) → length text ≤ 0 → (d : Certificate) → IsProofText text d → ⊥
no_text text l d p = p.has_step (none_left text d l p.text_is)
