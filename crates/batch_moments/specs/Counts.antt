-- How many operations of each kind are among some, and the parts of a line that tell it.
use Rattle.std.specs.Prelude.{ℕ, ◌^◌, nat_eq, Bool, true, false, if◌then◌else◌, List, [], ◌∷◌, ◌++◌, filter, flat_map, length}
use Rattle.std.specs.List.{range_with_len}
use Rattle.fugue_ids.specs.declared.op.Op.{Op}
use Rattle.fugue_ids.specs.declared.op.Op.TheVariants.{Section, Text, Delete, Note}
use Rattle.batch_moments.specs.declared.part.Part.{Part}
use Rattle.batch_moments.specs.declared.part.Part.TheVariants.{Texts, Deletes, Sections, Notes}

-- the operation is a Text that the replica made
abbrev pub is_letter_by : ℕ → Op → Bool
is_letter_by replica (Text id section left right ch) = nat_eq id.replica replica
is_letter_by replica _ = false

-- the operation is a Delete
abbrev pub is_delete : Op → Bool
is_delete (Delete target) = true
is_delete _ = false

-- the operation is a Section
abbrev pub is_section_operation : Op → Bool
is_section_operation (Section id left right title) = true
is_section_operation _ = false

-- the operation is a Note
abbrev pub is_note : Op → Bool
is_note (Note id names code body) = true
is_note _ = false

-- how many of the operations are so
abbrev pub count : (Op → Bool) → List Op → ℕ
count is ops = length (filter is ops)

-- what is reported of so many: nothing where there are none
abbrev pub part_of_count : (ℕ → Part) → ℕ → List Part
part_of_count part n = if nat_eq n 0 then [] else part n ∷ []

-- the numbers that a replica may have, in ascending order
unfoldable pub replicas : List ℕ
replicas = range_with_len 0 (2 ^ 32)

-- how many Texts each replica made that made some, in ascending order of the replicas
abbrev pub text_parts : List Op → List Part
text_parts ops = flat_map (λ replica. part_of_count (Texts replica) (count (is_letter_by replica) ops)) replicas

-- what is reported of the operations
abbrev pub reported_parts : List Op → List Part
reported_parts ops = text_parts ops ++ part_of_count Deletes (count is_delete ops)
    ++ part_of_count Sections (count is_section_operation ops)
    ++ part_of_count Notes (count is_note ops)
