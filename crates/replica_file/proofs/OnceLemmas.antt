-- Loading comes to one answer.
use Rattle.std.proofs.Common.{◌≡◌, ◌≢◌, ℕ, ◌+◌, ◌≤◌, List, [], ◌∷◌, ◌++◌, length, refl, ap, sym, subst, ◌∙◌, arith, append_assoc}
use Rattle.std.specs.Prelude.{Result, Ok, Err}
use Rattle.std.specs.List.{AllByRecursion}
use Rattle.std.proofs.lemmas.Bool.{false≢true}
use Rattle.std.proofs.lemmas.Grind.{flat_map-append}
use Rattle.std.proofs.lemmas.List.Elements.{recursion_from_All}
use Rattle.origin_model.specs.files.Image.{BadBatch, Batch, Content, Holds, IsBatch, IsNoBatch, OpenSlots, batch_ops, last_slot, open_slot, open_slots, slots_of, state}
use Rattle.origin_model.proofs.SharedLemmas.{Bad, Closed, Ends, image_once, no_open_slot, same_batch, slots_not_empty}
use Rattle.origin_model.specs.edits.State.{State}
use Rattle.replica_file.specs.declared.load_file.End.{End}
use Rattle.replica_file.specs.declared.load_file.LoadFault.{LoadFault}
use Rattle.replica_file.specs.declared.load_file.LoadFault.TheVariants as fault_is
use Rattle.replica_file.specs.Load.{LoadAnswerIs, LoadAnswersBy, AreTooMany, FindPlace, FindsBadBatch, FindsTooMany, IsLoadByBytes, Loads, hold_of}
use Rattle.replica_file.proofs.AppendLemmas.{read_once, same_content}
use Rattle.replica_file.proofs.LoadingLemmas.{never_both, still_many}

-- open slots of a file, wherever they stop, are the first ones of all
pub first_ones : (k m : ℕ) (bs cs : List Batch) (r q : List ℕ) → AllByRecursion IsBatch bs → AllByRecursion IsBatch cs → open_slots bs ++ r ≡ open_slots cs ++ q
    → m ≡ k + length cs → k + length bs ≤ last_slot
    → r ≢ [] → Ends m q → (more : List Batch) × (cs ≡ bs ++ more)
first_ones k m [] cs r q a b e mk few f y = (cs, refl)
first_ones k m (b ∷ bs) [] r q a c e mk few f y =
    absurd (no_open_slot m b (open_slots bs ++ r) q a.0 (slots_not_empty bs r f) (omega (arith, mk, few)) (sym e ∙ append_assoc (open_slot b) (open_slots bs) r) y)
first_ones k m (b ∷ bs) (c ∷ cs) r q x y e mk few f ends =
    let d : (b.word ++ b.bytes) ++ (open_slots bs ++ r) ≡ (c.word ++ c.bytes) ++ (open_slots cs ++ q) =
    cc (sym (append_assoc (open_slot b) (open_slots bs) r) ∙ e ∙ append_assoc (open_slot c) (open_slots cs) q) in
    let s = same_batch read_once b c (open_slots bs ++ r) (open_slots cs ++ q) x.0 y.0
    (sym (append_assoc b.word b.bytes (open_slots bs ++ r)) ∙ d ∙ append_assoc c.word c.bytes (open_slots cs ++ q)) in
    let rest = first_ones (k + 1) m bs cs r q x.1 y.1 s.1 (omega (arith, mk)) (omega (arith, few)) f ends in
    (rest.0, λ i. sym s.0 i ∷ rest.1 i)

-- the operations of open slots, of which one is too many, are no first ones of some that find their place
no_place : (bytes : List ℕ) (most m : ℕ) (many : FindsTooMany most bytes) (cs : List Batch) (q : List ℕ) → OpenSlots (slots_of bytes) cs q → m ≡ length cs → Ends m q
    → FindPlace (hold_of bytes) most (batch_ops cs) → ⊥
no_place bytes most m many cs q found is ends place =
    let bs : List Batch = many.earlier ++ many.batch ∷ [] in
    let first = first_ones 0 m bs cs many.rest q (recursion_from_All IsBatch bs many.found.batches_are) (recursion_from_All IsBatch cs found.batches_are)
    (sym many.found.split ∙ found.split) (omega (arith, is))
    (omega (arith, many.found.few)) many.found.gate ends in
    let ops : batch_ops cs ≡ batch_ops bs ++ batch_ops first.0 = ap batch_ops first.1 ∙ flat_map-append (λ (batch : Batch). batch.ops) bs first.0 in
    never_both (hold_of bytes) most (batch_ops cs) place
    (subst (AreTooMany (hold_of bytes) most) (sym ops) (still_many (hold_of bytes) most (batch_ops bs) (batch_ops first.0) many.refused))

-- a file whose content is taken in has no operation too many
loads_or_many : (most : ℕ) (bytes : List ℕ) (r : State) (end : End) → Loads most bytes r end → FindsTooMany most bytes → ⊥
loads_or_many most bytes r end l many =
    let well = l.holds.1 in
    no_place bytes most (length well.batches) many well.batches (well.gate ∷ well.rest) well.found refl (Closed well.gate well.rest refl well.closed)
    (subst (λ (c : Content). FindPlace c.hold most c.ops) well.content_is l.place)

bad_or_many : (most : ℕ) (bytes : List ℕ) (slot : ℕ) → FindsBadBatch most bytes slot → FindsTooMany most bytes → ⊥
bad_or_many most bytes slot b many =
    no_place bytes most (length b.ends.batches) many b.ends.batches (1 ∷ b.ends.rest) b.ends.found refl
    (Bad b.ends.rest refl (subst (λ (n : ℕ). IsNoBatch n b.ends.rest) b.ends.number b.ends.bad)) b.place

-- two answers that the bytes decide are one
pub answers_once : (most : ℕ) (bytes : List ℕ) (a b : Result (State × End) LoadFault) → IsLoadByBytes a → IsLoadByBytes b → LoadAnswerIs most bytes a → LoadAnswerIs most bytes b
    → a ≡ b
answers_once most bytes (Ok x) (Ok y) p q l k =
    let same = same_content bytes l.content k.content l.holds k.holds in
    let held = l.replica_is ∙ ap (λ (c : Content). record { number = c.replica; hold = c.hold; most = most; held = state c }) same ∙ sym k.replica_is in
    let ends = l.end_is ∙ ap (λ (c : Content). record { at = c.at; slots = c.slots }) same ∙ sym k.end_is in
    λ i. Ok (held i, ends i)
answers_once most bytes (Ok x) (Err fault_is.NotReplica) p q l k = absurd (false≢true (sym k ∙ l.holds.0))
answers_once most bytes (Ok x) (Err (fault_is.BadBatch slot)) p q l k =
    let same : Holds l.content ≡ BadBatch slot = image_once read_once bytes (Holds l.content) (BadBatch slot) l.holds (k.header, k.ends) in cc same
answers_once most bytes (Ok x) (Err (fault_is.TooMany n)) p q l k = absurd (loads_or_many most bytes x.0 x.1 l k.1)
answers_once most bytes (Ok x) (Err fault_is.DiskFault) p q l k = absurd q
answers_once most bytes (Ok x) (Err fault_is.NoMemory) p q l k = absurd q
answers_once most bytes (Err fault_is.NotReplica) (Ok y) p q l k = absurd (false≢true (sym l ∙ k.holds.0))
answers_once most bytes (Err fault_is.NotReplica) (Err fault_is.NotReplica) p q l k = refl
answers_once most bytes (Err fault_is.NotReplica) (Err (fault_is.BadBatch slot)) p q l k = absurd (false≢true (sym l ∙ k.header))
answers_once most bytes (Err fault_is.NotReplica) (Err (fault_is.TooMany n)) p q l k = absurd (false≢true (sym l ∙ k.1.header))
answers_once most bytes (Err fault_is.NotReplica) (Err fault_is.DiskFault) p q l k = absurd q
answers_once most bytes (Err fault_is.NotReplica) (Err fault_is.NoMemory) p q l k = absurd q
answers_once most bytes (Err (fault_is.BadBatch slot)) (Ok y) p q l k =
    let same : Holds k.content ≡ BadBatch slot = image_once read_once bytes (Holds k.content) (BadBatch slot) k.holds (l.header, l.ends) in cc same
answers_once most bytes (Err (fault_is.BadBatch slot)) (Err fault_is.NotReplica) p q l k = absurd (false≢true (sym k ∙ l.header))
answers_once most bytes (Err (fault_is.BadBatch slot)) (Err (fault_is.BadBatch other)) p q l k =
    let same : BadBatch slot ≡ BadBatch other = image_once read_once bytes (BadBatch slot) (BadBatch other) (l.header, l.ends) (k.header, k.ends) in
    let n : slot ≡ other = cc same in
    λ i. Err (fault_is.BadBatch (n i))
answers_once most bytes (Err (fault_is.BadBatch slot)) (Err (fault_is.TooMany n)) p q l k = absurd (bad_or_many most bytes slot l k.1)
answers_once most bytes (Err (fault_is.BadBatch slot)) (Err fault_is.DiskFault) p q l k = absurd q
answers_once most bytes (Err (fault_is.BadBatch slot)) (Err fault_is.NoMemory) p q l k = absurd q
answers_once most bytes (Err (fault_is.TooMany n)) (Ok y) p q l k = absurd (loads_or_many most bytes y.0 y.1 k l.1)
answers_once most bytes (Err (fault_is.TooMany n)) (Err fault_is.NotReplica) p q l k = absurd (false≢true (sym k ∙ l.1.header))
answers_once most bytes (Err (fault_is.TooMany n)) (Err (fault_is.BadBatch slot)) p q l k = absurd (bad_or_many most bytes slot k l.1)
answers_once most bytes (Err (fault_is.TooMany n)) (Err (fault_is.TooMany m)) p q l k = let same : n ≡ m = l.0 ∙ sym k.0 in λ i. Err (fault_is.TooMany (same i))
answers_once most bytes (Err (fault_is.TooMany n)) (Err fault_is.DiskFault) p q l k = absurd q
answers_once most bytes (Err (fault_is.TooMany n)) (Err fault_is.NoMemory) p q l k = absurd q
answers_once most bytes (Err fault_is.DiskFault) b p q l k = absurd p
answers_once most bytes (Err fault_is.NoMemory) b p q l k = absurd p

-- an answer with its cause comes exactly where the bytes say so
pub exact : (most : ℕ) (bytes : List ℕ) (result : Result (State × End) LoadFault) → LoadAnswerIs most bytes result → LoadAnswersBy result most bytes
exact most bytes result cause by answer other = (
  λ same. subst (LoadAnswerIs most bytes) same cause,
  λ is. answers_once most bytes result answer by other cause is,
)
