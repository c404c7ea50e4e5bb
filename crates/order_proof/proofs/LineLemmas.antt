-- The lines of a step, one after the other, as they are read.
use Rattle.std.proofs.Common.{List, [], ap, append_assoc, arith, refl, subst, sym, ℕ, ◌++◌, ◌∙◌, ◌∷◌, ◌≡◌, ◌≢◌, ◌⊎◌, inl, inr}
use Rattle.std.specs.Prelude.{All, Err, IfOk, Ok, Result, codes, flat_map}
use Rattle.std.proofs.lemmas.List.{append-nil}
use Rattle.std.proofs.lemmas.List.Elements.{All-cons, All-head, All-nil, All-tail}
use Rattle.fugue_ids.specs.Identifiers.{Identifier}
use Rattle.order_proof.specs.declared.reading.TextFault.{TextFault}
use Rattle.order_proof.specs.declared.step.Reason.{Reason}
use Rattle.order_proof.specs.declared.step.Reason.TheVariants.{End, Inner, Later, Prefix, Tie}
use Rattle.order_proof.specs.declared.step.Step.{Step}
use Rattle.order_proof.specs.Readings.{MemoryWasWanting, IsPossible, IsReadAs, sibling_lines}
use Rattle.order_proof.specs.Texts.{IsNarrow, ProofLine, chain_lines, claim, down, ids_text, proof_line, proof_line_text, reason_line, right, step_lines, step_text, step_written_by}
use Rattle.order_proof.specs.Texts.{written_step, word_with_ids}

-- a fault is passed on
pub passed_on : {U : Type 0} (r : Result U TextFault) (f : TextFault) (Q : U → Type 0) → ((x : TextFault) × (r ≡ Err x) × (x ≡ f)) → MemoryWasWanting f → IsReadAs r Q
passed_on r f Q p m = subst (λ z. IsReadAs z Q) (sym p.1) (subst MemoryWasWanting (sym p.2) m)

pub narrow_all : (ids : List Identifier) → All IsPossible ids → All IsNarrow ids
narrow_all [] p = All-nil IsNarrow
narrow_all (i ∷ ids) p = All-cons IsNarrow i ids (All-head IsPossible i ids p).1 (narrow_all ids (All-tail IsPossible i ids p))

-- a line, and what stands after it
pub line_split : (word : List ℕ) (ids : List Identifier) (more : List ℕ) → word_with_ids word ids ++ more ≡ word ++ (ids_text ids ++ 10 ∷ more)
line_split word ids more = append_assoc word (ids_text ids ++ 10 ∷ []) more ∙ ap (λ z. word ++ z) (append_assoc (ids_text ids) (10 ∷ []) more)

-- the text does not begin with this piece
abbrev Misses : List ℕ → List ℕ → Type 0
Misses text piece = (more : List ℕ) → text ≡ piece ++ more → ⊥

-- the one reason that is left
pub later_is : (text : List ℕ) (reason : Reason) (more : List ℕ) → Misses text (codes "inner\n") → Misses text (codes "end\n") → Misses text (codes "tie\n")
    → All IsPossible ((reason_line reason).ids) → reason ≢ Prefix → text ≡ proof_line_text (reason_line reason) ++ more
    → (p : Identifier) × (q : Identifier) × (reason ≡ Later p q) × All IsPossible (p ∷ q ∷ []) × (text ≡ word_with_ids (codes "later") (p ∷ q ∷ []) ++ more)
later_is text Prefix more a b c p n e = absurd (n refl)
later_is text Inner more a b c p n e = absurd (a more e)
later_is text End more a b c p n e = absurd (b more e)
later_is text Tie more a b c p n e = absurd (c more e)
later_is text (Later u v) more a b c p n e = (u, v, refl, p, e)

-- lines of identifiers that there are
abbrev pub IsFine : ProofLine → Type 0
IsFine l = All IsPossible l.ids

assoc_four : (a b c r more : List ℕ) → (a ++ (b ++ (c ++ (r ++ [])))) ++ more ≡ a ++ (b ++ (c ++ (r ++ more)))
assoc_four a b c r more = simp (append_assoc, append-nil {A = ℕ})

pub siblings_split : (s : Step) (more : List ℕ) → flat_map proof_line_text (sibling_lines s) ++ more
    ≡ word_with_ids (codes "down") s.down_y
    ++ (word_with_ids (codes "right") s.right_x ++ (word_with_ids (codes "right") s.right_y ++ (proof_line_text (reason_line s.reason) ++ more)))
siblings_split s more =
    assoc_four (word_with_ids (codes "down") s.down_y) (word_with_ids (codes "right") s.right_x) (word_with_ids (codes "right") s.right_y)
    (proof_line_text (reason_line s.reason)) more

assoc_six : (a b c d e r more : List ℕ) → ((a ++ (b ++ (c ++ (d ++ (e ++ []))))) ++ r) ++ more ≡ a ++ (b ++ ((c ++ (d ++ (e ++ (r ++ [])))) ++ more))
assoc_six a b c d e r more = simp (append_assoc, append-nil {A = ℕ})

-- the lines of a step that is not by Prefix
five_lines : (s : Step) (r : Reason) → r ≢ Prefix
    → chain_lines s r ≡ proof_line claim (s.x ∷ s.y ∷ []) ∷ proof_line down s.down_x ∷ proof_line down s.down_y ∷ proof_line right s.right_x ∷ proof_line right s.right_y ∷ []
five_lines s Prefix n = absurd (n refl)
five_lines s Inner n = refl
five_lines s End n = refl
five_lines s (Later p q) n = refl
five_lines s Tie n = refl

pub sibling_split : (s : Step) (more : List ℕ) → s.reason ≢ Prefix
    → step_text s ++ more ≡ word_with_ids (codes "claim") (s.x ∷ s.y ∷ []) ++ (word_with_ids (codes "down") s.down_x ++ (flat_map proof_line_text (sibling_lines s) ++ more))
sibling_split s more n =
    ap (λ ls. (flat_map proof_line_text ls ++ proof_line_text (reason_line s.reason)) ++ more) (five_lines s s.reason n)
    ∙ assoc_six (word_with_ids (codes "claim") (s.x ∷ s.y ∷ [])) (word_with_ids (codes "down") s.down_x) (word_with_ids (codes "down") s.down_y)
    (word_with_ids (codes "right") s.right_x) (word_with_ids (codes "right") s.right_y) (proof_line_text (reason_line s.reason)) more

assoc_three : (a b r more : List ℕ) → ((a ++ (b ++ [])) ++ r) ++ more ≡ a ++ (b ++ (r ++ more))
assoc_three a b r more = simp (append_assoc, append-nil {A = ℕ})

pub prefix_split : (s : Step) (more : List ℕ) → s.reason ≡ Prefix
    → step_text s ++ more ≡ word_with_ids (codes "claim") (s.x ∷ s.y ∷ []) ++ (word_with_ids (codes "down") s.down_y ++ (codes "prefix\n" ++ more))
prefix_split s more e =
    ap (λ r. (flat_map proof_line_text (chain_lines s r) ++ proof_line_text (reason_line r)) ++ more) e
    ∙ assoc_three (word_with_ids (codes "claim") (s.x ∷ s.y ∷ [])) (word_with_ids (codes "down") s.down_y) (codes "prefix\n") more

pub prefix_or_not : (r : Reason) → (r ≡ Prefix) ⊎ (r ≢ Prefix)
prefix_or_not Prefix = inl refl
prefix_or_not Inner = inr (λ e. cc)
prefix_or_not End = inr (λ e. cc)
prefix_or_not (Later p q) = inr (λ e. cc)
prefix_or_not Tie = inr (λ e. cc)

-- what the lines of a step name
pub sibling_fine : (s : Step) → s.reason ≢ Prefix → All IsFine (step_lines s) → All IsPossible (s.x ∷ s.y ∷ []) × All IsPossible s.down_x × All IsFine (sibling_lines s)
sibling_fine s n p =
    let q : All IsFine (proof_line claim (s.x ∷ s.y ∷ []) ∷ proof_line down s.down_x ∷ sibling_lines s) =
    subst (λ ls. All IsFine (ls ++ reason_line s.reason ∷ [])) (five_lines s s.reason n) p in
    let t = All-tail IsFine (proof_line claim (s.x ∷ s.y ∷ [])) (proof_line down s.down_x ∷ sibling_lines s) q in (
      All-head IsFine (proof_line claim (s.x ∷ s.y ∷ [])) (proof_line down s.down_x ∷ sibling_lines s) q,
      All-head IsFine (proof_line down s.down_x) (sibling_lines s) t,
      All-tail IsFine (proof_line down s.down_x) (sibling_lines s) t,
    )

pub fine_sibling : (s : Step) → s.reason ≢ Prefix → All IsPossible (s.x ∷ s.y ∷ []) → All IsPossible s.down_x → All IsFine (sibling_lines s) → All IsFine (step_lines s)
fine_sibling s n a b c =
    subst (λ ls. All IsFine (ls ++ reason_line s.reason ∷ [])) (sym (five_lines s s.reason n))
    (All-cons IsFine (proof_line claim (s.x ∷ s.y ∷ [])) (proof_line down s.down_x ∷ sibling_lines s) a (All-cons IsFine (proof_line down s.down_x) (sibling_lines s) b c))

pub prefix_fine : (s : Step) → s.reason ≡ Prefix → All IsFine (step_lines s) → All IsPossible (s.x ∷ s.y ∷ []) × All IsPossible s.down_y
prefix_fine s e p =
    let rest : List ProofLine = reason_line Prefix ∷ [] in
    let q : All IsFine (proof_line claim (s.x ∷ s.y ∷ []) ∷ proof_line down s.down_y ∷ rest) = subst (λ r. All IsFine (chain_lines s r ++ reason_line r ∷ [])) e p in
    let t = All-tail IsFine (proof_line claim (s.x ∷ s.y ∷ [])) (proof_line down s.down_y ∷ rest) q in
    (All-head IsFine (proof_line claim (s.x ∷ s.y ∷ [])) (proof_line down s.down_y ∷ rest) q, All-head IsFine (proof_line down s.down_y) rest t)

-- four lines of identifiers that there are
pub fine_four : (s : Step) → All IsPossible s.down_y → All IsPossible s.right_x → All IsPossible s.right_y → All IsPossible ((reason_line s.reason).ids)
    → All IsFine (sibling_lines s)
fine_four s a b c d =
    All-cons IsFine (proof_line down s.down_y) (proof_line right s.right_x ∷ proof_line right s.right_y ∷ reason_line s.reason ∷ []) a
    (All-cons IsFine (proof_line right s.right_x) (proof_line right s.right_y ∷ reason_line s.reason ∷ []) b
    (All-cons IsFine (proof_line right s.right_y) (reason_line s.reason ∷ []) c (All-cons IsFine (reason_line s.reason) [] d (All-nil IsFine))))

pub four_fine : (s : Step) → All IsFine (sibling_lines s)
    → All IsPossible s.down_y × All IsPossible s.right_x × All IsPossible s.right_y × All IsPossible ((reason_line s.reason).ids)
four_fine s p =
    let q = All-tail IsFine (proof_line down s.down_y) (proof_line right s.right_x ∷ proof_line right s.right_y ∷ reason_line s.reason ∷ []) p in
    let r = All-tail IsFine (proof_line right s.right_x) (proof_line right s.right_y ∷ reason_line s.reason ∷ []) q in
    let t = All-tail IsFine (proof_line right s.right_y) (reason_line s.reason ∷ []) r in (
      All-head IsFine (proof_line down s.down_y) (proof_line right s.right_x ∷ proof_line right s.right_y ∷ reason_line s.reason ∷ []) p,
      All-head IsFine (proof_line right s.right_x) (proof_line right s.right_y ∷ reason_line s.reason ∷ []) q,
      All-head IsFine (proof_line right s.right_y) (reason_line s.reason ∷ []) r,
      All-head IsFine (reason_line s.reason) [] t,
    )

-- a step that is not by Prefix tells all of itself
pub sibling_written : (s : Step) (r : Reason) → r ≢ Prefix → step_written_by s r ≡ s
sibling_written s Prefix n = absurd (n refl)
sibling_written s Inner n = refl
sibling_written s End n = refl
sibling_written s (Later p q) n = refl
sibling_written s Tie n = refl

-- the first lines of a step: its claim, and its first chain, with what stands after them
pub record IsStepText (s : Step) (text more : List ℕ) : Type 0 where
  pub down : List Identifier
  pub rest : List ℕ
  pub claim_fine : All IsPossible (s.x ∷ s.y ∷ [])
  pub down_fine : All IsPossible down
  pub text_is : text ≡ word_with_ids (codes "claim") (s.x ∷ s.y ∷ []) ++ (word_with_ids (codes "down") down ++ rest)
  pub behind : ((s.reason ≡ Prefix) × (down ≡ s.down_y) × (rest ≡ codes "prefix\n" ++ more))
      ⊎ ((s.reason ≢ Prefix) × (down ≡ s.down_x) × All IsFine (sibling_lines s) × (rest ≡ flat_map proof_line_text (sibling_lines s) ++ more))

pub first_lines : (s : Step) (text more : List ℕ) → All IsFine (step_lines s) → text ≡ step_text s ++ more → IsStepText s text more
first_lines s text more p e =
    elim (prefix_or_not s.reason) [
      | inl k ↦
          let f = prefix_fine s k p in
          record { down = s.down_y; rest = codes "prefix\n" ++ more; claim_fine = f.0; down_fine = f.1; text_is = e ∙ prefix_split s more k; behind = inl (k, refl, refl) }
      | inr k ↦
          let f = sibling_fine s k p in
          record {
            down = s.down_x;
            rest = flat_map proof_line_text (sibling_lines s) ++ more;
            claim_fine = f.0;
            down_fine = f.1;
            text_is = e ∙ sibling_split s more k;
            behind = inr (k, refl, f.2, refl);
          }
    ]

pub fine_prefix : (s : Step) → s.reason ≡ Prefix → All IsPossible (s.x ∷ s.y ∷ []) → All IsPossible s.down_y → All IsFine (step_lines s)
fine_prefix s e a b =
    let rest : List ProofLine = reason_line Prefix ∷ [] in
    subst (λ r. All IsFine (chain_lines s r ++ reason_line r ∷ [])) (sym e)
    (All-cons IsFine (proof_line claim (s.x ∷ s.y ∷ [])) (proof_line down s.down_y ∷ rest) a
    (All-cons IsFine (proof_line down s.down_y) rest b (All-cons IsFine (reason_line Prefix) [] (All-nil IsPossible) (All-nil IsFine))))

-- what a text tells before its rest
abbrev pub Tells : (text rest : List ℕ) → Step → Type 0
Tells text rest s = (text ≡ step_text s ++ rest) × All IsFine (step_lines s) × (written_step s ≡ s)

pub step_from : (r : Result Step TextFault) (text behind rest : List ℕ) (x y : Identifier) (d : List Identifier)
    → text ≡ word_with_ids (codes "claim") (x ∷ y ∷ []) ++ (word_with_ids (codes "down") d ++ behind) → All IsPossible (x ∷ y ∷ []) → All IsPossible d
    → IfOk r (λ s. (behind ≡ flat_map proof_line_text (sibling_lines s) ++ rest) × All IsFine (sibling_lines s) × (s.x ≡ x) × (s.y ≡ y) × (s.down_x ≡ d) × (s.reason ≢ Prefix))
    → IfOk r (Tells text rest)
step_from (Err f) text behind rest x y d e a b k = tt
step_from (Ok s) text behind rest x y d e a b k =
    let whole : text ≡ word_with_ids (codes "claim") (s.x ∷ s.y ∷ []) ++ (word_with_ids (codes "down") s.down_x ++ (flat_map proof_line_text (sibling_lines s) ++ rest)) =
    e ∙ (λ i. word_with_ids (codes "claim") (sym k.2 i ∷ sym k.3 i ∷ []) ++ (word_with_ids (codes "down") (sym k.4 i) ++ k.0 i)) in (
      whole ∙ sym (sibling_split s rest k.5),
      fine_sibling s k.5 (subst (λ z. All IsPossible (z ∷ s.y ∷ [])) (sym k.2) (subst (λ z. All IsPossible (x ∷ z ∷ [])) (sym k.3) a)) (subst (All IsPossible) (sym k.4) b) k.1,
      sibling_written s s.reason k.5,
    )

unfoldable first_byte : List ℕ → ℕ
first_byte [] = 0
first_byte (c ∷ cs) = c

-- a line of a chain is no line of a reason
pub no_prefix : (s : Step) (rest more : List ℕ) → codes "prefix\n" ++ rest ≡ flat_map proof_line_text (sibling_lines s) ++ more → ⊥
unfolding first_byte
no_prefix s rest more e = omega (arith, ap first_byte e)
