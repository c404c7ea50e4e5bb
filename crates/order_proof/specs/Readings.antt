-- What is read of the text of a certificate.
use Rattle.std.specs.Prelude.{◌≡◌, ◌≢◌, ℕ, ◌<◌, Result, Ok, Err, List, [], ◌∷◌, All}
use Rattle.fugue_ids.specs.Identifiers.{Identifier}
use Rattle.fugue_ids.specs.declared.op.Op.{Op}
use Rattle.order_proof.specs.declared.reading.TextFault.{TextFault}
use Rattle.order_proof.specs.declared.reading.TextFault.TheVariants as fault
use Rattle.order_proof.specs.declared.step.Step.{Step}
use Rattle.order_proof.specs.Certificates.{Certificate, IsValid}
use Rattle.order_proof.specs.Texts.{IsNarrow, ProofLine, down, proof_line, proof_lines, proof_text, reason_line, right}

-- an identifier that there is: its numbers are of 32 bits, and no replica is 0
abbrev pub IsPossible : Identifier → Type 0
IsPossible id = (0 < id.replica) × IsNarrow id

-- the text is that of the certificate, which has a step, and tells identifiers that there are
pub record IsProofText (text : List ℕ) (c : Certificate) : Type 0 where
  pub text_is : text ≡ proof_text c
  pub has_step : c ≢ []
  pub possible : All (λ (l : ProofLine). All IsPossible l.ids) (proof_lines c)

-- the text is that of a valid certificate
abbrev pub IsValidText : List Op → List ℕ → Type 0
IsValidText h text = (c : Certificate) × IsProofText text c × IsValid h c

-- the byte k is not in the text
abbrev pub HasNoByte : ℕ → List ℕ → Type 0
HasNoByte k [] = Unit {0}
HasNoByte k (c ∷ cs) = (c ≢ k) × HasNoByte k cs

-- the lines of a step that is not by Prefix, from the third on
abbrev pub sibling_lines : Step → List ProofLine
sibling_lines s = proof_line down s.down_y ∷ proof_line right s.right_x ∷ proof_line right s.right_y ∷ reason_line s.reason ∷ []

-- not the text is at fault, but memory ran out
abbrev pub MemoryWasWanting : TextFault → Type 0
MemoryWasWanting fault.NoMemory = Unit {0}
MemoryWasWanting fault.NoProof = ⊥

-- what was read is such, or memory ran out
abbrev pub IsReadAs : {T : Type 0} → Result T TextFault → (T → Type 0) → Type 0
IsReadAs (Ok x) P = P x
IsReadAs (Err f) P = MemoryWasWanting f
