-- Small files of replica 1 with hold 16, and what they mean.
use Rattle.origin_model.proofs.Words.{All-cons, All-nil, Delete, List, Op, [], arith, refl, ℕ, ◌++◌, ◌∷◌, ◌≡◌, ◌≢◌}
use Rattle.origin_model.specs.declared.grammar.Grammar.{Grammar}
use Rattle.origin_model.specs.declared.grammar.Grammar.TheVariants.{Version1, Version2}
use Rattle.origin_model.specs.files.Image.{BadBatch, Batch, HasImage, Holds, IsBatch, NoGate, NoTag, NotReplica, header, new_file, number_at, tag_of, word_tag}
use Rattle.origin_model.specs.frames.Frames.{HasFrame, IsItem, Single, frame}
use Rattle.origin_model.proofs.files.AppendLemmas.{batch_appended, new_file_holds}
use Rattle.origin_model.proofs.files.BatchLemmas.{batch_of, is_batch}
use Rattle.origin_model.proofs.frames.SingleLemmas.{singles_read}

-- a new file has 14 bytes, of which the last is a closed gate
new_file_is : new_file 1 16 ≡ 0x46 ∷ 0x47 ∷ 0x4D ∷ 0x58 ∷ 2 ∷ 0 ∷ 0 ∷ 0 ∷ 1 ∷ 0 ∷ 0 ∷ 0 ∷ 16 ∷ 0 ∷ []
new_file_is = refl

new_file_is_empty : HasImage (new_file 1 16) (Holds (record { replica = 1; hold = 16; ops = []; at = 13; slots = 0 }))
new_file_is_empty = new_file_holds 1 16 (omega arith) (omega arith) (omega arith) (omega arith)

-- a header of version 1 is one too, and nothing else but the version differs
abbrev old_header : List ℕ
old_header = 0x46 ∷ 0x47 ∷ 0x4D ∷ 0x58 ∷ 1 ∷ 0 ∷ 0 ∷ 0 ∷ 1 ∷ 0 ∷ 0 ∷ 0 ∷ 16 ∷ []

old_file_is_empty : HasImage (old_header ++ 0 ∷ []) (Holds (record { replica = 1; hold = 16; ops = []; at = 13; slots = 0 }))
old_file_is_empty = (
  refl,
  record {
    batches = [];
    gate = 0;
    rest = [];
    found = record { batches_are = All-nil IsBatch; few = omega arith; split = refl; gate = λ e. cc e };
    closed = λ e. omega (arith, e);
    content_is = refl;
  },
)

-- 13 bytes are no file, nor are bytes that begin with 0, nor a header of version 3
no_files : HasImage (header 1 16) NotReplica × HasImage (0x00 ∷ 0x47 ∷ 0x4D ∷ 0x58 ∷ 1 ∷ 0 ∷ 0 ∷ 0 ∷ 1 ∷ 0 ∷ 0 ∷ 0 ∷ 16 ∷ 0 ∷ []) NotReplica
    × HasImage (0x46 ∷ 0x47 ∷ 0x4D ∷ 0x58 ∷ 3 ∷ 0 ∷ 0 ∷ 0 ∷ 1 ∷ 0 ∷ 0 ∷ 0 ∷ 16 ∷ 0 ∷ []) NotReplica
no_files = (refl, refl, refl)

-- a first gate of 7 ends the meaning
first_gate_of_7 : HasImage (header 1 16 ++ 7 ∷ 0 ∷ 0 ∷ []) (Holds (record { replica = 1; hold = 16; ops = []; at = 13; slots = 0 }))
first_gate_of_7 = (
  refl,
  record {
    batches = [];
    gate = 7;
    rest = 0 ∷ 0 ∷ [];
    found = record { batches_are = All-nil IsBatch; few = omega arith; split = refl; gate = λ e. cc e };
    closed = λ e. omega (arith, e);
    content_is = refl;
  },
)

-- a Delete of (9, 0)
abbrev op : Op
op = Delete (record { replica = 9; counter = 0 })

-- it has a frame
op_has : HasFrame op
op_has = record { some_replica = omega arith; replica_fits = omega arith; counter_fits = omega arith }

-- the batch of it that version 1 wrote, whose word is its length alone
abbrev old_batch : Batch
old_batch = record { word = 0 ∷ 0 ∷ 0 ∷ 9 ∷ []; bytes = frame op; grammar = Version1; ops = op ∷ [] }

old_batch_is : IsBatch old_batch
old_batch_is = record {
  four_bytes = refl;
  tagged = refl;
  counts = refl;
  short = omega arith;
  reads = singles_read Version1 (op ∷ []) (All-cons (λ o. IsItem Version1 (Single o)) op [] (op_has, tt) (All-nil (λ o. IsItem Version1 (Single o))));
}

-- the batch of it that is written, whose word has the tag 1
new_batch_is : IsBatch (batch_of (op ∷ []))
new_batch_is = is_batch (op ∷ []) (singles_read Version2 (op ∷ []) (All-cons HasFrame op [] op_has (All-nil HasFrame))) (omega arith)

-- a file of version 1 holds the operation, and a second gate of 7 ends the meaning after the first slot
abbrev old_file : List ℕ
old_file = old_header ++ (1 ∷ 0 ∷ 0 ∷ 0 ∷ 9 ∷ frame op) ++ 7 ∷ 1 ∷ 1 ∷ []

old_file_holds : HasImage old_file (Holds (record { replica = 1; hold = 16; ops = op ∷ []; at = 27; slots = 1 }))
old_file_holds =
    batch_appended (old_header ++ 0 ∷ []) (record { replica = 1; hold = 16; ops = []; at = 13; slots = 0 }) old_batch 7 (1 ∷ 1 ∷ []) old_file_is_empty old_batch_is (omega arith)
    (λ e. omega (arith, e))

-- a save carries it over: the header and the old slot stay, and the new slot has the tag 1
old_file_saved : HasImage (old_header ++ (1 ∷ 0 ∷ 0 ∷ 0 ∷ 9 ∷ frame op) ++ (1 ∷ 0x20 ∷ 0 ∷ 0 ∷ 9 ∷ frame op) ++ 0 ∷ [])
    (Holds (record { replica = 1; hold = 16; ops = op ∷ op ∷ []; at = 41; slots = 2 }))
old_file_saved =
    batch_appended old_file (record { replica = 1; hold = 16; ops = op ∷ []; at = 27; slots = 1 }) (batch_of (op ∷ [])) 0 [] old_file_holds new_batch_is (omega arith)
    (λ e. omega (arith, e))

-- an empty batch is one
empty_batch : HasImage (header 1 16 ++ (1 ∷ 0x20 ∷ 0 ∷ 0 ∷ 0 ∷ []) ++ 0 ∷ []) (Holds (record { replica = 1; hold = 16; ops = []; at = 18; slots = 1 }))
empty_batch =
    batch_appended (new_file 1 16) (record { replica = 1; hold = 16; ops = []; at = 13; slots = 0 }) (batch_of []) 0 [] new_file_is_empty
    (is_batch [] (singles_read Version2 [] (All-nil HasFrame)) (omega arith)) (omega arith) (λ e. omega (arith, e))

-- but not without a byte after it, nor with another tag
empty_batch_at_the_end : HasImage (header 1 16 ++ 1 ∷ 0 ∷ 0 ∷ 0 ∷ 0 ∷ []) (BadBatch 0)
empty_batch_at_the_end = (
  refl,
  record {
    batches = [];
    rest = 0 ∷ 0 ∷ 0 ∷ 0 ∷ [];
    found = record { batches_are = All-nil IsBatch; few = omega arith; split = refl; gate = λ e. cc e };
    number = refl;
    bad = NoGate refl;
  },
)

another_tag : HasImage (header 1 16 ++ 1 ∷ 0x40 ∷ 0 ∷ 0 ∷ 0 ∷ 0 ∷ []) (BadBatch 0)
another_tag = (
  refl,
  record {
    batches = [];
    rest = 0x40 ∷ 0 ∷ 0 ∷ 0 ∷ 0 ∷ [];
    found = record { batches_are = All-nil IsBatch; few = omega arith; split = refl; gate = λ e. cc e };
    number = refl;
    bad = NoTag no_tag;
  },
)
  where
    no_tag : (grammar : Grammar) → word_tag (number_at 0 (0x40 ∷ 0 ∷ 0 ∷ 0 ∷ 0 ∷ [])) ≢ tag_of grammar
    no_tag Version1 e = omega (arith, e)
    no_tag Version2 e = omega (arith, e)
