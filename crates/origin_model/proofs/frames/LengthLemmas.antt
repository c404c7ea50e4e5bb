-- How long frames are: no framing is longer than the operations' own frames.
use Rattle.origin_model.proofs.Words.{All, All-head, All-tail, Delete, Note, Identifier, List, None, Op, Option, Section, Some, Text, [], ap, arith, flat_map, length}
use Rattle.origin_model.proofs.Words.{length-append, refl, ℕ, ◌+◌, ◌∷◌, ◌≡◌, ◌≤◌}
use Rattle.std.specs.Prelude.{◌*◌}
use Rattle.std.proofs.lemmas.Grind.{flat_map-append}
use Rattle.origin_model.specs.declared.grammar.Grammar.{Grammar}
use Rattle.origin_model.specs.declared.grammar.Grammar.TheVariants.{Version2}
use Rattle.origin_model.specs.frames.Frames.{Framed, IsFrame, IsItem, Item, Single, Typed, frame, item_bytes, item_ops, origin_bytes, run_frame, scalar_bytes, single_frames}
use Rattle.origin_model.proofs.frames.ItemLemmas.{bytes_of, ops_of}
use Rattle.origin_model.proofs.frames.TypedLemmas.{length-run}
use Rattle.fugue_ids.specs.Runs.{in_a_row, next_id}

pub length-scalars : (text : List ℕ) → length (flat_map scalar_bytes text) ≡ 3 * length text
length-scalars [] = refl
length-scalars (c ∷ text) = omega (arith, length-scalars text)

origin_some : (o : Option Identifier) → 1 ≤ length (origin_bytes o)
origin_some None = omega arith
origin_some (Some id) = omega arith

pub origin_short : (o : Option Identifier) → length (origin_bytes o) ≤ 9
origin_short None = omega arith
origin_short (Some id) = omega arith

text_long : (id s before : Identifier) (r : Option Identifier) (c : ℕ) → 30 ≤ length (frame (Text id s (Some before) r c))
text_long id s before r c = simp length-append (omega (arith, origin_some r))

typed_long : (id s before : Identifier) (r : Option Identifier) (text : List ℕ) → 30 * length text ≤ length (single_frames (in_a_row id s (Some before) r text))
typed_long id s before r [] = omega arith
typed_long id s before r (c ∷ text) =
    omega (
      arith,
      text_long id s before r c,
      typed_long (next_id id) s id r text,
      length-append (frame (Text id s (Some before) r c)) (single_frames (in_a_row (next_id id) s (Some id) r text)),
    )

first_long : (id s : Identifier) (l r : Option Identifier) (c : ℕ) → length (frame (Text id s l r c)) ≡ 20 + length (origin_bytes l) + length (origin_bytes r)
first_long id s l r c = simp length-append (omega arith)

pub run_long : (id s : Identifier) (l r : Option Identifier) (text : List ℕ)
    → length (run_frame (record { id = id; section = s; left = l; right = r; text = text })) ≡ 19 + length (origin_bytes l) + length (origin_bytes r) + 3 * length text
run_long id s l r text = simp length-append (omega (arith, length-scalars text))

run_short : (id s : Identifier) (l r : Option Identifier) (text : List ℕ) → 2 ≤ length text
    → length (run_frame (record { id = id; section = s; left = l; right = r; text = text })) ≤ length (single_frames (in_a_row id s l r text))
run_short id s l r [] some = absurd (omega (arith, some))
run_short id s l r (c ∷ text) some =
    omega (
      arith,
      run_long id s l r (c ∷ text),
      first_long id s l r c,
      typed_long (next_id id) s id r text,
      length-append (frame (Text id s l r c)) (single_frames (in_a_row (next_id id) s (Some id) r text)),
    )

item_short : (i : Item) → IsItem Version2 i → length (item_bytes i) ≤ length (single_frames (item_ops i))
item_short (Single op) is = omega (arith, length-append (frame op) [])
item_short (Typed run) is = run_short run.id run.section run.left run.right run.text is.text.some

frame_short : (f : Framed) → IsFrame Version2 f → length f.bytes ≤ length (single_frames f.ops)
frame_short f is = omega (arith, ap length is.bytes_are, item_short is.item is.is_item, ap (λ (l : List Op). length (single_frames l)) is.ops_are)

-- no framing is longer
pub framing_short : (found : List Framed) → All (IsFrame Version2) found → length (bytes_of found) ≤ length (single_frames (ops_of found))
framing_short [] are = omega arith
framing_short (f ∷ found) are =
    omega (
      arith,
      frame_short f (All-head (IsFrame Version2) f found are),
      framing_short found (All-tail (IsFrame Version2) f found are),
      length-append f.bytes (bytes_of found),
      ap length (flat_map-append frame f.ops (ops_of found)),
      length-append (single_frames f.ops) (single_frames (ops_of found)),
    )

-- a frame has at least three bytes for each operation, and six more
single_wide : (op : Op) → 9 ≤ length (frame op)
single_wide (Section i l r t) = simp length-append (omega arith)
single_wide (Text i s l r c) = simp length-append (omega arith)
single_wide (Delete i) = omega arith
single_wide (Note i ns c b) = simp length-append (omega arith)

item_wide : (g : Grammar) (i : Item) → IsItem g i → 3 * length (item_ops i) + 6 ≤ length (item_bytes i)
item_wide g (Single op) is = omega (arith, single_wide op)
item_wide g (Typed run) is = omega (arith, run_long run.id run.section run.left run.right run.text, length-run run)

pub frame_wide : (g : Grammar) (f : Framed) → IsFrame g f → 3 * length f.ops + 6 ≤ length f.bytes
frame_wide g f is = omega (arith, item_wide g is.item is.is_item, ap length is.bytes_are, ap length is.ops_are)
