-- The winner of a section, among candidates.
use Rattle.std.specs.Prelude.{Option, Some, None, Bool, if◌then◌else◌, ◌&&◌, ◌||◌, nat_eq, nat_lt, List, [], ◌∷◌, filter}
use Rattle.fugue_ids.specs.Identifiers.{Identifier, id_eq, id_lt}
use Rattle.catalogue_notes.specs.declared.reading.Candidate.{Candidate}

-- a wins over b: by its stamp, and then by its identifier
abbrev pub candidate_wins : Candidate → Candidate → Bool
candidate_wins a b = nat_lt b.stamp a.stamp || (nat_eq b.stamp a.stamp && id_lt b.id a.id)

-- the winner of two claims, where there is a second one
abbrev pub better_candidate : Candidate → Option Candidate → Candidate
better_candidate a None = a
better_candidate a (Some b) = if candidate_wins a b then a else b

-- the one that wins over the others
abbrev pub best_candidate : List Candidate → Option Candidate
best_candidate [] = None
best_candidate (b ∷ bs) = Some (better_candidate b (best_candidate bs))

-- the candidate is on the section, and live
abbrev pub candidate_counts : (Identifier → Bool) → Identifier → Candidate → Bool
candidate_counts is_live s b = id_eq b.section s && is_live b.id

-- of the live candidates on a section the one that wins over the others
abbrev pub winning_candidate : (Identifier → Bool) → Identifier → List Candidate → Option Candidate
winning_candidate is_live s bs = best_candidate (filter (candidate_counts is_live s) bs)
