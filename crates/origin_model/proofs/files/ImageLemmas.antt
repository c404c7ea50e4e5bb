-- The image of a file: one at most, fixed by its parts, and what a further batch makes of it.
use Rattle.origin_model.proofs.Words.{AllByRecursion, List, Op, [], ap, append_assoc, arith, drop, false≢true, length, length-append, refl, subst, suc, sym, take, ℕ, ◌++◌, ◌+◌}
use Rattle.origin_model.proofs.Words.{◌<◌, ◌∙◌, ◌∷◌, ◌≡◌, ◌≢◌, ◌≤◌}
use Rattle.std.proofs.Math.Seq.{take-append_seam}
use Rattle.std.proofs.lemmas.List.Elements.{recursion_from_All}
use Rattle.origin_model.specs.files.Image.{BadBatch, Batch, Content, CutShort, EndsBadly, EndsWell, HasImage, Holds, Image, IsBatch, IsNoBatch, LastSlot, NoFrames, NoGate, NoTag}
use Rattle.origin_model.specs.files.Image.{NoWord, NotReplica, OpenSlots, TooLong, content_of, header_of, last_slot, length_at, number_at, open_slot, open_slots, slots_of}
use Rattle.origin_model.specs.files.Image.{word_tag}
use Rattle.origin_model.specs.declared.grammar.Grammar.{Grammar}
use Rattle.origin_model.specs.frames.Frames.{Reads, Whole}
use Rattle.origin_model.proofs.files.BatchLemmas.{after_word, length_is, one_grammar, same_batch, word_is}
use Rattle.std.proofs.lemmas.List.{nil_from_length}

-- bytes are read in one way
abbrev pub ReadOnce : Type 0
ReadOnce = (grammar : Grammar) (bytes : List ℕ) (ops others : List Op) → Reads grammar bytes ops Whole → Reads grammar bytes others Whole → ops ≡ others

-- how the open slots end: by another gate than 1, or by an open slot of this number that has no batch
pub data Ends (slot : ℕ) (rest : List ℕ) : Type 0 where
  Closed : (gate : ℕ) (more : List ℕ) → rest ≡ gate ∷ more → gate ≢ 1 → Ends slot rest
  Bad : (more : List ℕ) → rest ≡ 1 ∷ more → IsNoBatch slot more → Ends slot rest

-- a batch with a byte after it is no fault
no_fault : (slot : ℕ) (b : Batch) (more bytes : List ℕ) → IsBatch b → more ≢ [] → slot < last_slot → bytes ≡ b.word ++ (b.bytes ++ more) → IsNoBatch slot bytes → ⊥
no_fault slot b more bytes h n l e (NoWord k) = omega (arith, k, ap length e, length-append b.word (b.bytes ++ more), h.four_bytes)
no_fault slot b more bytes h n l e (NoTag none) = none b.grammar (ap (λ z. word_tag (number_at 0 z)) e ∙ ap word_tag (word_is b (b.bytes ++ more) h) ∙ h.tagged)
no_fault slot b more bytes h n l e (TooLong k) = omega (arith, k, h.short, ap (length_at 0) e ∙ length_is b (b.bytes ++ more) h)
no_fault slot b more bytes h n l e (CutShort k) =
    omega (arith, k, ap (length_at 0) e ∙ length_is b (b.bytes ++ more) h, ap length (ap (drop 4) e ∙ after_word b (b.bytes ++ more) h), length-append b.bytes more)
no_fault slot b more bytes h n l e (NoFrames grammar tagged none) =
    let whole : take (length_at 0 bytes) (drop 4 bytes) ≡ b.bytes =
    (λ i. take ((ap (length_at 0) e ∙ length_is b (b.bytes ++ more) h) i) ((ap (drop 4) e ∙ after_word b (b.bytes ++ more) h) i)) ∙ take-append_seam b.bytes more in
    let same : b.grammar ≡ grammar =
    one_grammar b.grammar grammar (sym h.tagged ∙ sym (ap word_tag (word_is b (b.bytes ++ more) h)) ∙ sym (ap (λ z. word_tag (number_at 0 z)) e) ∙ tagged) in
    none b.ops (subst (λ g. Reads g (take (length_at 0 bytes) (drop 4 bytes)) b.ops Whole) same (subst (λ z. Reads b.grammar z b.ops Whole) (sym whole) h.reads))
no_fault slot b more bytes h n l e (NoGate k) =
    n (nil_from_length more
    (omega (arith, k, ap (length_at 0) e ∙ length_is b (b.bytes ++ more) h, ap length (ap (drop 4) e ∙ after_word b (b.bytes ++ more) h), length-append b.bytes more)))
no_fault slot b more bytes h n l e (LastSlot k) = omega (arith, k, l)

-- no open slot with a byte after it stands where the open slots end
pub no_open_slot : (slot : ℕ) (b : Batch) (more rest : List ℕ) → IsBatch b → more ≢ [] → slot < last_slot → rest ≡ open_slot b ++ more → Ends slot rest → ⊥
no_open_slot slot b more rest h n l e (Closed gate others d closed) = let one : gate ≡ 1 = cc (sym d ∙ e) in closed one
no_open_slot slot b more rest h n l e (Bad others d bad) =
    let behind : others ≡ (b.word ++ b.bytes) ++ more = cc (sym d ∙ e) in
    no_fault slot b more others h n l (behind ∙ append_assoc b.word b.bytes more) bad

-- a byte stands after open slots
pub slots_not_empty : (bs : List Batch) (rest : List ℕ) → rest ≢ [] → open_slots bs ++ rest ≢ []
slots_not_empty [] rest n e = n e
slots_not_empty (b ∷ bs) rest n e = cc e

-- the first open slot and what stands after it
first_slot : (b : Batch) (bs : List Batch) (rest : List ℕ) → open_slots (b ∷ bs) ++ rest ≡ open_slot b ++ (open_slots bs ++ rest)
first_slot b bs rest = append_assoc (open_slot b) (open_slots bs) rest

-- open slots up to their end are fixed by the bytes
same_slots : ReadOnce → (k m n : ℕ) (bs cs : List Batch) (r q : List ℕ) → AllByRecursion IsBatch bs → AllByRecursion IsBatch cs → open_slots bs ++ r ≡ open_slots cs ++ q
    → m ≡ k + length bs → n ≡ k + length cs → m ≤ last_slot → n ≤ last_slot → Ends m r → Ends n q → r ≢ [] → q ≢ [] → (bs ≡ cs) × (r ≡ q)
same_slots once k m n [] [] r q a b e mk nk ml nl x y f g = (refl, e)
same_slots once k m n [] (c ∷ cs) r q a b e mk nk ml nl x y f g =
    absurd (no_open_slot m c (open_slots cs ++ q) r b.0 (slots_not_empty cs q g) (omega (arith, mk, nk, nl)) (e ∙ first_slot c cs q) x)
same_slots once k m n (c ∷ cs) [] r q a b e mk nk ml nl x y f g =
    absurd (no_open_slot n c (open_slots cs ++ r) q a.0 (slots_not_empty cs r f) (omega (arith, mk, nk, ml)) (sym e ∙ first_slot c cs r) y)
same_slots once k m n (b ∷ bs) (c ∷ cs) r q x y e mk nk ml nl u v f g =
    let d : (b.word ++ b.bytes) ++ (open_slots bs ++ r) ≡ (c.word ++ c.bytes) ++ (open_slots cs ++ q) = cc (sym (first_slot b bs r) ∙ e ∙ first_slot c cs q) in
    let s = same_batch once b c (open_slots bs ++ r) (open_slots cs ++ q) x.0 y.0
    (sym (append_assoc b.word b.bytes (open_slots bs ++ r)) ∙ d ∙ append_assoc c.word c.bytes (open_slots cs ++ q)) in
    let rest = same_slots once (suc k) m n bs cs r q x.1 y.1 s.1 (omega (arith, mk)) (omega (arith, nk)) ml nl u v f g in
    ((λ i. s.0 i ∷ rest.0 i), rest.1)

-- the batches of two walks of the same bytes are the same
same_walk : ReadOnce → (slots : List ℕ) (bs cs : List Batch) (r q : List ℕ) → OpenSlots slots bs r → OpenSlots slots cs q → Ends (length bs) r → Ends (length cs) q
    → (bs ≡ cs) × (r ≡ q)
same_walk once slots bs cs r q f g x y =
    same_slots once 0 (length bs) (length cs) bs cs r q (recursion_from_All IsBatch bs f.batches_are) (recursion_from_All IsBatch cs g.batches_are) (sym f.split ∙ g.split)
    (omega arith) (omega arith) f.few g.few x y f.gate g.gate

-- where the open slots end badly
bad_end : (slots : List ℕ) (slot : ℕ) (e : EndsBadly slots slot) → Ends (length e.batches) (1 ∷ e.rest)
bad_end slots slot e = Bad e.rest refl (subst (λ n. IsNoBatch n e.rest) e.number e.bad)

-- and where they end well
good_end : (bytes : List ℕ) (content : Content) (e : EndsWell bytes content) → Ends (length e.batches) (e.gate ∷ e.rest)
good_end bytes content e = Closed e.gate e.rest refl e.closed

-- no file ends both ways
not_both : ReadOnce → (bytes : List ℕ) (slot : ℕ) (content : Content) → EndsBadly (slots_of bytes) slot → EndsWell bytes content → ⊥
not_both once bytes slot content x y =
    let w = same_walk once (slots_of bytes) x.batches y.batches (1 ∷ x.rest) (y.gate ∷ y.rest) x.found y.found (bad_end (slots_of bytes) slot x) (good_end bytes content y) in
    let one : y.gate ≡ 1 = cc (w.1) in
    y.closed one

-- a file has one image at most
pub image_once : ReadOnce → (bytes : List ℕ) (a b : Image) → HasImage bytes a → HasImage bytes b → a ≡ b
image_once once bytes NotReplica NotReplica x y = refl
image_once once bytes NotReplica (BadBatch slot) x y = absurd (false≢true (sym x ∙ y.0))
image_once once bytes NotReplica (Holds content) x y = absurd (false≢true (sym x ∙ y.0))
image_once once bytes (BadBatch slot) NotReplica x y = absurd (false≢true (sym y ∙ x.0))
image_once once bytes (Holds content) NotReplica x y = absurd (false≢true (sym y ∙ x.0))
image_once once bytes (BadBatch slot) (BadBatch other) x y =
    let w = same_walk once (slots_of bytes) x.1.batches y.1.batches (1 ∷ x.1.rest) (1 ∷ y.1.rest) x.1.found y.1.found (bad_end (slots_of bytes) slot x.1)
    (bad_end (slots_of bytes) other y.1) in
    ap BadBatch (x.1.number ∙ ap length w.0 ∙ sym y.1.number)
image_once once bytes (BadBatch slot) (Holds content) x y = absurd (not_both once bytes slot content x.1 y.1)
image_once once bytes (Holds content) (BadBatch slot) x y = absurd (not_both once bytes slot content y.1 x.1)
image_once once bytes (Holds content) (Holds other) x y =
    let w = same_walk once (slots_of bytes) x.1.batches y.1.batches (x.1.gate ∷ x.1.rest) (y.1.gate ∷ y.1.rest) x.1.found y.1.found (good_end bytes content x.1)
    (good_end bytes other y.1) in
    ap Holds (x.1.content_is ∙ ap (content_of (header_of bytes)) w.0 ∙ sym y.1.content_is)
