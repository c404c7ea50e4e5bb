-- The text of a certificate, in lines of a word and identifiers.
use Rattle.std.specs.Prelude.{ℕ, ◌<◌, ◌^◌, List, [], ◌∷◌, ◌++◌, All, flat_map, codes, decimal}
use Rattle.fugue_ids.specs.Identifiers.{Identifier}
use Rattle.order_proof.specs.declared.step.Reason.{Reason}
use Rattle.order_proof.specs.declared.step.Reason.TheVariants.{Prefix, Inner, End, Later, Tie}
use Rattle.order_proof.specs.declared.step.Step.{Step}
use Rattle.order_proof.specs.Certificates.{Certificate}

-- the words with which lines begin
pub data Word : Type 0 where
  claim : Word
  down : Word
  right : Word
  prefix : Word
  inner : Word
  end : Word
  later : Word
  tie : Word

-- how a word of a certificate is spelled
abbrev pub word_text : Word → List ℕ
word_text claim = codes "claim"
word_text down = codes "down"
word_text right = codes "right"
word_text prefix = codes "prefix"
word_text inner = codes "inner"
word_text end = codes "end"
word_text later = codes "later"
word_text tie = codes "tie"

-- a line of a certificate: its word, and the identifiers after it
pub record ProofLine : Type 0 where
  pub word : Word
  pub ids : List Identifier

-- replica, a dot, counter
abbrev pub id_text : Identifier → List ℕ
id_text id = decimal id.replica ++ 46 ∷ decimal id.counter

-- each identifier after a space
abbrev pub ids_text : List Identifier → List ℕ
ids_text ids = flat_map (λ id. 32 ∷ id_text id) ids

-- a word, each identifier after a space, LF
abbrev pub word_with_ids : List ℕ → List Identifier → List ℕ
word_with_ids word ids = word ++ (ids_text ids ++ 10 ∷ [])

-- how a line is written
abbrev pub proof_line_text : ProofLine → List ℕ
proof_line_text l = word_with_ids (word_text l.word) l.ids

-- a line by its two parts
abbrev pub proof_line : Word → List Identifier → ProofLine
proof_line word ids = record { word = word; ids = ids }

-- the line of a reason
abbrev pub reason_line : Reason → ProofLine
reason_line Prefix = proof_line prefix []
reason_line Inner = proof_line inner []
reason_line End = proof_line end []
reason_line (Later p q) = proof_line later (p ∷ q ∷ [])
reason_line Tie = proof_line tie []

-- the lines of a step before its reason: its claim, and the chains that show it; a step by Prefix has one
abbrev pub chain_lines : Step → Reason → List ProofLine
chain_lines s Prefix = proof_line claim (s.x ∷ s.y ∷ []) ∷ proof_line down s.down_y ∷ []
chain_lines s reason =
    proof_line claim (s.x ∷ s.y ∷ []) ∷ proof_line down s.down_x ∷ proof_line down s.down_y ∷ proof_line right s.right_x
    ∷ proof_line right s.right_y ∷ []

-- the lines of a step: its chains, and its reason
abbrev pub step_lines : Step → List ProofLine
step_lines s = chain_lines s s.reason ++ reason_line s.reason ∷ []

-- the lines of a certificate
abbrev pub proof_lines : Certificate → List ProofLine
proof_lines [] = []
proof_lines (s ∷ more) = step_lines s ++ proof_lines more

-- the text of a step, as it is written: its reason goes last
abbrev pub step_text : Step → List ℕ
step_text s = flat_map proof_line_text (chain_lines s s.reason) ++ proof_line_text (reason_line s.reason)

-- a certificate as it is printed
abbrev pub proof_text : Certificate → List ℕ
proof_text c = flat_map proof_line_text (proof_lines c)

-- a step without the chains that its text leaves out
abbrev pub step_written_by : Step → Reason → Step
step_written_by s Prefix = record { x = s.x; y = s.y; down_x = []; down_y = s.down_y; right_x = []; right_y = []; reason = Prefix }
step_written_by s reason = s

-- a step with the identifiers that its lines name
abbrev pub written_step : Step → Step
written_step s = step_written_by s s.reason

-- both numbers are of 32 bits
abbrev pub IsNarrow : Identifier → Type 0
IsNarrow id = (id.replica < 2 ^ 32) × (id.counter < 2 ^ 32)

-- all numbers that the text tells are of 32 bits
abbrev pub AllNarrow : Certificate → Type 0
AllNarrow c = All (λ (l : ProofLine). All IsNarrow l.ids) (proof_lines c)
