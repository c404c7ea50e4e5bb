-- The frame of a run, and what is written of operations after others.
use Rattle.std.proofs.Common.{take, get_or, add-one, ◌≡◌, ℕ, zero, suc, ◌+◌, ◌<◌, ◌≤◌, Bool, true, false, List, [], ◌∷◌, ◌++◌, length, refl, ap, sym, ◌∙◌, arith, inl, inr}
use Rattle.std.proofs.Common.{append_assoc, append-nil, length-append}
use Rattle.std.specs.Prelude.{All, Option, Some, None, ◌&&◌, ◌^◌, nat_lt, if◌then◌else◌, flat_map}
use Rattle.std.specs.Char.{IsScalar}
use Rattle.std.proofs.lemmas.Bool.{and_from, and_left, and_right, cases_Bool, lt-ltb, le-ltb, cases_lt}
use Rattle.std.proofs.Math.Seq.{take-suc}
use Rattle.std.proofs.lemmas.List.{flat_map_more}
use Rattle.std.proofs.lemmas.List.Elements.{All-cons, All-head, All-nil, All-tail}
use Rattle.fugue_ids.specs.Identifiers.{Identifier}
use Rattle.op_runs.specs.Deletions.{deletes_by, deletes_down, deletes_up, id_before, target_by}
use Rattle.op_runs.proofs.DeletionLemmas.{deletes_more}
use Rattle.fugue_ids.specs.Ops.{op_eq}
use Rattle.fugue_ids.specs.declared.op.Op.{Op}
use Rattle.fugue_ids.specs.declared.op.Op.TheVariants.{Section, Text, Delete, Note}
use Rattle.fugue_ids.specs.declared.run.RunStart.{RunStart}
use Rattle.fugue_ids.specs.Runs.{in_a_row, next_id, run_from, start_after, text_by, text_in}
use Rattle.fugue_ids.proofs.OpLemmas.{op_eq-refl, op_eq-true}
use Rattle.origin_model.specs.frames.Frames.{HasFrame, IsIdentifier, IsFrameOrigin, Item, Single, Typed, frame, item_bytes, run_frame, scalar_bytes}
use Rattle.origin_model.specs.frames.Framings.{frames, item_with, items, items_from, longer, next_text, run_more, scalar_in}
use Rattle.op_frame.specs.OpenRuns.{IsCompleteRun, open_ops, run_of}
use Rattle.op_frame.proofs.GatherLemmas.{further, run_after_first}

-- the item that stands for the Texts of a run, of which the first has this scalar
abbrev pub run_item : RunStart → ℕ → List ℕ → Item
run_item start ch [] = Single (text_by start ch)
run_item start ch (next ∷ text) = Typed (run_of start (ch ∷ next ∷ text))

run_grown : (start : RunStart) (ch : ℕ) (text : List ℕ) (op : Op) → item_with (run_item start ch text) op ≡ longer (run_of start (ch ∷ text)) op
run_grown start ch [] op = refl
run_grown start ch (next ∷ text) op = refl

item_more : (start : RunStart) (ch : ℕ) (text : List ℕ) (c : ℕ) → Typed (run_of start (ch ∷ text ++ c ∷ [])) ≡ run_item start ch (text ++ c ∷ [])
item_more start ch [] c = refl
item_more start ch (next ∷ text) c = refl

-- the next Text is taken into the item
takes_next : (start : RunStart) (ch : ℕ) (text : List ℕ) (c : ℕ) → length (ch ∷ text) < 1024
    → item_with (run_item start ch text) (text_by (start_after start (length (ch ∷ text))) c) ≡ Some (run_item start ch (text ++ c ∷ []))
takes_next start ch text c room =
    let op : Op = text_by (start_after start (length (ch ∷ text))) c in
    run_grown start ch text op
    ∙ ap (λ (b : Bool). if b then Some (Typed (run_more (run_of start (ch ∷ text)) c)) else None)
    (and_from (nat_lt (length (ch ∷ text)) 1024) (op_eq op op) (lt-ltb (length (ch ∷ text)) 1024 room) (op_eq-refl op))
    ∙ ap Some (item_more start ch text c)

-- any other operation is not
takes_no_other : (start : RunStart) (ch : ℕ) (text : List ℕ) (op : Op) → ((c : ℕ) → op ≡ text_by (start_after start (length (ch ∷ text))) c → length (ch ∷ text) < 1024 → ⊥)
    → item_with (run_item start ch text) op ≡ None
takes_no_other start ch text op none =
    let next : Op = next_text (run_of start (ch ∷ text)) (scalar_in op) in
    let not_it : (nat_lt (length (ch ∷ text)) 1024 && op_eq op next) ≡ false =
    elim (cases_Bool (op_eq op next)) [
      | inr other ↦ and_right (nat_lt (length (ch ∷ text)) 1024) (op_eq op next) other
      | inl same ↦ elim (cases_lt (length (ch ∷ text)) 1024) [
        | inl room ↦ absurd (none (scalar_in op) (op_eq-true op next same) room)
        | inr full ↦ and_left (nat_lt (length (ch ∷ text)) 1024) (op_eq op next) (le-ltb (length (ch ∷ text)) 1024 full)
      ]
    ] in
    run_grown start ch text op ∙ ap (λ (b : Bool). if b then Some (Typed (run_more (run_of start (ch ∷ text)) (scalar_in op))) else None) not_it

-- what comes of the items where the first is begun
abbrev begun : Item → Op → List Op → Option Item → List Item
begun item op rest o = elim o [ Some more ↦ items_from more rest | None ↦ item ∷ items_from (Single op) rest ]

-- the Texts of a run are taken in one after another
takes_run : (start : RunStart) (ch : ℕ) (text more : List ℕ) (rest : List Op) → length (ch ∷ text ++ more) ≤ 1024
    → items_from (run_item start ch text) (run_from (start_after start (length (ch ∷ text))) more ++ rest) ≡ items_from (run_item start ch (text ++ more)) rest
takes_run start ch text [] rest short = ap (λ (t : List ℕ). items_from (run_item start ch t) rest) (sym (append-nil text))
takes_run start ch text (c ∷ more) rest short =
    let item : Item = run_item start ch text in
    let next : RunStart = start_after start (length (ch ∷ text)) in
    let long : length (ch ∷ text) + 1 ≡ length (ch ∷ text ++ c ∷ []) = omega (arith, length-append text (c ∷ [])) in
    let room : length (ch ∷ text) < 1024 = omega (arith, short, length-append text (c ∷ more)) in
    let short' : length (ch ∷ (text ++ c ∷ []) ++ more) ≤ 1024 =
    omega (arith, short, length-append text (c ∷ more), length-append (text ++ c ∷ []) more, length-append text (c ∷ [])) in
    ap (λ (ops : List Op). items_from item (ops ++ rest))
    (run_after_first next c more ∙ ap (λ (s : RunStart). text_by next c ∷ run_from s more) (further start (length (ch ∷ text)) 1))
    ∙ ap (λ (n : ℕ). items_from item (text_by next c ∷ run_from (start_after start n) more ++ rest)) long
    ∙ ap (begun item (text_by next c) (run_from (start_after start (length (ch ∷ text ++ c ∷ []))) more ++ rest)) (takes_next start ch text c room)
    ∙ takes_run start ch (text ++ c ∷ []) more rest short'
    ∙ ap (λ (t : List ℕ). items_from (run_item start ch t) rest) (append_assoc text (c ∷ []) more)

-- no more operations are of the item
takes_no_more : (start : RunStart) (ch : ℕ) (text : List ℕ) (rest : List Op) → IsCompleteRun (Some start) (ch ∷ text) rest
    → items_from (run_item start ch text) rest ≡ run_item start ch text ∷ items rest
takes_no_more start ch text [] done = refl
takes_no_more start ch text (op ∷ rest) done =
    ap (begun (run_item start ch text) op rest)
    (takes_no_other start ch text op (λ c is room. done (start_after start (length (ch ∷ text))) c rest (ap (λ (o : Op). o ∷ rest) is) (refl, room)))

run_then : (start : RunStart) (ch : ℕ) (text : List ℕ) (rest : List Op) → length (ch ∷ text) ≤ 1024 → IsCompleteRun (Some start) (ch ∷ text) rest
    → frames (run_from start (ch ∷ text) ++ rest) ≡ item_bytes (run_item start ch text) ++ frames rest
run_then start ch text rest short done =
    ap (λ (ops : List Op). frames (ops ++ rest)) (run_after_first start ch text)
    ∙ ap (flat_map item_bytes) (takes_run start ch [] text rest short ∙ takes_no_more start ch text rest done)

-- the frame of a run alone
pub run_alone : (start : RunStart) (ch : ℕ) (text : List ℕ) → length (ch ∷ text) ≤ 1024 → frames (run_from start (ch ∷ text)) ≡ item_bytes (run_item start ch text)
run_alone start ch text short =
    ap frames (sym (append-nil (run_from start (ch ∷ text)))) ∙ run_then start ch text [] short (λ next c more is goes. cc is) ∙ append-nil (item_bytes (run_item start ch text))

-- a run that is done, and what is after it
pub done_then : (opened : Option RunStart) (text : List ℕ) (rest : List Op) → length text ≤ 1024 → IsCompleteRun opened text rest
    → frames (open_ops opened text ++ rest) ≡ frames (open_ops opened text) ++ frames rest
done_then None text rest short done = refl
done_then (Some start) [] rest short done = refl
done_then (Some start) (ch ∷ text) rest short done = run_then start ch text rest short done ∙ ap (λ (bytes : List ℕ). bytes ++ frames rest) (sym (run_alone start ch text short))

-- an operation that is no Text, and what is after it
pub other_then : (op : Op) (rest : List Op) → text_in op ≡ None → frames (op ∷ rest) ≡ frame op ++ frames rest
other_then (Section id left right title) [] is = refl
other_then (Section id left right title) (op ∷ rest) is = refl
other_then (Text id section left right ch) rest is = absurd (cc is)
other_then (Delete target) [] is = refl
other_then (Delete target) (op ∷ rest) is = refl
other_then (Note id names code body) [] is = refl
other_then (Note id names code body) (op ∷ rest) is = refl

-- the operations of a run have frames
pub run_frames : (id section : Identifier) (left right : Option Identifier) (text : List ℕ) → IsIdentifier id → id.counter + length text ≤ 2 ^ 32 → IsIdentifier section
    → IsFrameOrigin left → IsFrameOrigin right
    → All IsScalar text → All HasFrame (in_a_row id section left right text)
run_frames id section left right [] own few s l r scalars = All-nil HasFrame
run_frames id section left right (ch ∷ []) own few s l r scalars =
    All-cons HasFrame (Text id section left right ch) [] (own, s, l, r, All-head IsScalar ch [] scalars) (All-nil HasFrame)
run_frames id section left right (ch ∷ c ∷ text) own few s l r scalars =
    let next : IsIdentifier (next_id id) = record { some_replica = own.some_replica; replica_fits = own.replica_fits; counter_fits = omega (arith, few) } in
    All-cons HasFrame (Text id section left right ch) (in_a_row (next_id id) section (Some id) right (c ∷ text)) (own, s, l, r, All-head IsScalar ch (c ∷ text) scalars)
    (run_frames (next_id id) section (Some id) right (c ∷ text) next (omega (arith, few)) s own r (All-tail IsScalar ch (c ∷ text) scalars))

-- Deletes of neighbours, and what is after them
pub deletes_then : (down : Bool) (target : Identifier) (n : ℕ) (rest : List Op) → frames (deletes_by down target n ++ rest) ≡ frames (deletes_by down target n) ++ frames rest
deletes_then true target zero rest = refl
deletes_then true target (suc n) rest =
    other_then (Delete target) (deletes_down (id_before target 1) n ++ rest) refl ∙ ap (λ (l : List ℕ). frame (Delete target) ++ l) (deletes_then true (id_before target 1) n rest)
    ∙ sym (append_assoc (frame (Delete target)) (frames (deletes_down (id_before target 1) n)) (frames rest))
    ∙ ap (λ (l : List ℕ). l ++ frames rest) (sym (other_then (Delete target) (deletes_down (id_before target 1) n) refl))
deletes_then false target zero rest = refl
deletes_then false target (suc n) rest =
    other_then (Delete target) (deletes_up (next_id target) n ++ rest) refl ∙ ap (λ (l : List ℕ). frame (Delete target) ++ l) (deletes_then false (next_id target) n rest)
    ∙ sym (append_assoc (frame (Delete target)) (frames (deletes_up (next_id target) n)) (frames rest))
    ∙ ap (λ (l : List ℕ). l ++ frames rest) (sym (other_then (Delete target) (deletes_up (next_id target) n) refl))

pub frames_more : (down : Bool) (target : Identifier) (n : ℕ)
    → frames (deletes_by down target (n + 1)) ≡ frames (deletes_by down target n) ++ frame (Delete (target_by down target n))
frames_more down target n =
    ap frames (deletes_more down target n) ∙ deletes_then down target n (Delete (target_by down target n) ∷ [])
    ∙ ap (λ (l : List ℕ). frames (deletes_by down target n) ++ l) (append-nil (frame (Delete (target_by down target n))))

-- some Deletes go on with nothing
pub deletes_first : (down : Bool) (target : Identifier) (n : ℕ) → 0 < n → (rest : List Op) → (more : List Op) × (deletes_by down target n ++ rest ≡ Delete target ∷ more)
deletes_first down target zero some rest = absurd (omega (arith, some))
deletes_first true target (suc n) some rest = (deletes_down (id_before target 1) n ++ rest, refl)
deletes_first false target (suc n) some rest = (deletes_up (next_id target) n ++ rest, refl)

-- the frame of a run that is longer than one Text
pub many_written : (start : RunStart) (text : List ℕ) (old new : List ℕ) → 1 < length text → length text ≤ 1024 → new ≡ old ++ run_frame (run_of start text)
    → new ≡ old ++ frames (run_from start text)
many_written start [] old new more short is = absurd (omega (arith, more))
many_written start (ch ∷ []) old new more short is = absurd (omega (arith, more))
many_written start (ch ∷ next ∷ text) old new more short is = is ∙ ap (λ (l : List ℕ). old ++ l) (sym (run_alone start ch (next ∷ text) short))

-- the scalars of one Text more
pub scalars_more : (text : List ℕ) (i : ℕ) (ch : ℕ) → i < length text → ch ≡ get_or text i ch
    → flat_map scalar_bytes (take i text) ++ scalar_bytes ch ≡ flat_map scalar_bytes (take (i + 1) text)
scalars_more text i ch below is =
    flat_map_more scalar_bytes [] (take i text) ch
    ∙ ap (flat_map scalar_bytes) (ap (λ (x : ℕ). take i text ++ x ∷ []) is ∙ sym (take-suc text i ch below) ∙ ap (λ (n : ℕ). take n text) (sym (add-one i)))
