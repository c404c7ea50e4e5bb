-- The operations of a file have identifiers that there are.
use Rattle.std.proofs.Common.{List, [], arith, subst, sym, ℕ, ◌+◌, ◌<◌, ◌^◌, ◌∷◌, ◌≡◌, ◌≤◌, length}
use Rattle.std.specs.Prelude.{All, Option, Some, flat_map}
use Rattle.std.proofs.lemmas.List.Elements.{All-append, All-cons, All-head, All-nil, All-tail}
use Rattle.fugue_ids.specs.Identifiers.{Identifier}
use Rattle.fugue_ids.specs.Ops.{id_of}
use Rattle.fugue_ids.specs.Runs.{in_a_row, next_id}
use Rattle.fugue_ids.specs.declared.op.Op.{Op}
use Rattle.fugue_ids.specs.declared.op.Op.TheVariants.{Delete, Note, Section, Text}
use Rattle.origin_model.specs.declared.grammar.Grammar.{Grammar}
use Rattle.origin_model.specs.declared.grammar.Grammar.TheVariants.{Version1, Version2}
use Rattle.origin_model.specs.files.Image.{Batch, Content, HasImage, Holds, IsBatch, batch_ops}
use Rattle.origin_model.specs.frames.Frames.{Framed, HasFrame, IsFrame, IsIdentifier, IsItem, Item, Single, Typed, item_ops}

-- an identifier of the operation's own is one that there is
abbrev pub HasPossibleId : Op → Type 0
HasPossibleId op = (i : Identifier) → id_of op ≡ Some i → IsIdentifier i

own_is : (id i : Identifier) → Some id ≡ Some i → IsIdentifier id → IsIdentifier i
own_is id i e is = let same : id ≡ i = cc e in subst IsIdentifier same is

framed_has : (op : Op) → HasFrame op → HasPossibleId op
framed_has (Section id left right title) has i e = own_is id i e has.0
framed_has (Text id section left right ch) has i e = own_is id i e has.0
framed_has (Delete target) has i e = cc e
framed_has (Note id named code body) has i e = own_is id i e has.0

run_has : (id section : Identifier) (left right : Option Identifier) (text : List ℕ) → 0 < id.replica → id.replica < 2 ^ 32 → id.counter + length text ≤ 2 ^ 32
    → All HasPossibleId (in_a_row id section left right text)
run_has id section left right [] some fits few = All-nil HasPossibleId
run_has id section left right (ch ∷ text) some fits few =
    let own : IsIdentifier id = record { some_replica = some; replica_fits = fits; counter_fits = omega (arith, few) } in
    All-cons HasPossibleId (Text id section left right ch) (in_a_row (next_id id) section (Some id) right text) (λ i e. own_is id i e own)
    (run_has (next_id id) section (Some id) right text some fits (omega (arith, few)))

item_has : (g : Grammar) (item : Item) → IsItem g item → All HasPossibleId (item_ops item)
item_has Version1 (Single op) is = All-cons HasPossibleId op [] (framed_has op is.0) (All-nil HasPossibleId)
item_has Version1 (Typed run) is = absurd is
item_has Version2 (Single op) is = All-cons HasPossibleId op [] (framed_has op is) (All-nil HasPossibleId)
item_has Version2 (Typed run) is = run_has run.id run.section run.left run.right run.text is.id.some_replica is.id.replica_fits is.counters_fit

frames_have : (g : Grammar) (found : List Framed) → All (IsFrame g) found → All HasPossibleId (flat_map (λ framed. framed.ops) found)
frames_have g [] are = All-nil HasPossibleId
frames_have g (framed ∷ found) are =
    let is : IsFrame g framed = All-head (IsFrame g) framed found are in
    All-append HasPossibleId framed.ops (flat_map (λ framed. framed.ops) found)
    (subst (All HasPossibleId) (sym is.ops_are) (item_has g is.item is.is_item)) (frames_have g found (All-tail (IsFrame g) framed found are))

batches_have : (batches : List Batch) → All IsBatch batches → All HasPossibleId (batch_ops batches)
batches_have [] are = All-nil HasPossibleId
batches_have (batch ∷ batches) are =
    let is : IsBatch batch = All-head IsBatch batch batches are in
    All-append HasPossibleId batch.ops (batch_ops batches)
    (subst (All HasPossibleId) (sym is.reads.ops_are) (frames_have batch.grammar is.reads.found is.reads.are_frames)) (batches_have batches (All-tail IsBatch batch batches are))

pub file_has : (bytes : List ℕ) (content : Content) → HasImage bytes (Holds content) → All HasPossibleId content.ops
file_has bytes content holds =
    subst (λ (c : Content). All HasPossibleId c.ops) (sym holds.1.content_is) (batches_have holds.1.batches holds.1.found.batches_are)
