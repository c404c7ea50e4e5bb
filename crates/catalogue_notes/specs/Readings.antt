-- What the code reads of a note.
use Rattle.std.specs.Prelude.{Bool, Option, Some, None, if◌then◌else◌, option_map}
use Rattle.fugue_ids.specs.Identifiers.{Identifier}
use Rattle.fugue_ids.specs.declared.op.Op.{Op}
use Rattle.catalogue_notes.specs.Claims.{Claim, Move, Origins, Retitle, claim, retitle_in}
use Rattle.catalogue_notes.specs.declared.reading.Candidate.{Candidate}
use Rattle.catalogue_notes.specs.declared.reading.Gap.{Gap}
use Rattle.catalogue_notes.specs.declared.reading.Move.{Move as ReadMove}

-- the origins that were read
abbrev pub read_origins : Gap → Origins
read_origins g = record { left = g.left; right = g.right }

-- a move that was read
abbrev pub move_claim : ReadMove → Move
move_claim m = claim m.candidate.id m.candidate.section m.candidate.stamp (read_origins m.gap)

-- the candidate of a claim
abbrev pub candidate_of : {V : Type 0} → Claim V → Candidate
candidate_of c = record { id = c.id; section = c.section; stamp = c.stamp }

-- what a retitle says in the comparison of claims
abbrev pub retitle_candidate : Retitle → Candidate
retitle_candidate r = candidate_of r

-- a retitle of a known section
abbrev pub known_candidate : (Identifier → Bool) → Option Candidate → Option Candidate
known_candidate known None = None
known_candidate known (Some b) = if known b.section then Some b else None

-- the candidate of an operation's retitle, where it retitles a known section
abbrev pub known_retitle : (Identifier → Bool) → Op → Option Candidate
known_retitle known op = known_candidate known (option_map retitle_candidate (retitle_in op))
