-- Batches: the frames of operations are one, and bytes are told from other bytes by where they part.
use Rattle.origin_model.proofs.Words.{List, Op, ap, arith, drop, length, refl, subst, sym, take, ℕ, ◌+◌, ◌++◌, ◌<◌, ◌∙◌, ◌≡◌, ◌≤◌}
use Rattle.std.proofs.Math.Seq.{drop-append_seam, take-append_seam}
use Rattle.std.proofs.lemmas.Grind.{flat_map-append}
use Rattle.std.proofs.lemmas.Nat.{from_be_bytes-to_be_bytes_4}
use Rattle.std.specs.Int.{from_be_bytes, to_be_bytes, w32}
use Rattle.origin_model.specs.declared.files.TheConstants.{LONGEST_BATCH, TAG_UNIT}
use Rattle.origin_model.specs.declared.grammar.Grammar.{Grammar}
use Rattle.origin_model.specs.declared.grammar.Grammar.TheVariants.{Version1, Version2}
use Rattle.origin_model.specs.files.Image.{Batch, IsBatch, batch_ops, length_at, number_at, open_slot, open_slots, tag_of, word_length, word_of, word_tag}
use Rattle.origin_model.specs.frames.Frames.{Reads, Whole}
use Rattle.origin_model.specs.frames.Framings.{frames}

-- lists with fronts of one length are equal in front
pub common_prefix : (xs ys vs ws : List ℕ) → length xs ≡ length vs → xs ++ ys ≡ vs ++ ws → xs ≡ vs
common_prefix xs ys vs ws l e = sym (take-append_seam xs ys) ∙ (λ i. take (l i) (e i)) ∙ take-append_seam vs ws

-- and after it
pub same_rest : (xs ys vs ws : List ℕ) → length xs ≡ length vs → xs ++ ys ≡ vs ++ ws → ys ≡ ws
same_rest xs ys vs ws l e = sym (drop-append_seam xs ys) ∙ (λ i. drop (l i) (e i)) ∙ drop-append_seam vs ws

-- the batch that is written of operations
abbrev pub batch_of : List Op → Batch
batch_of ops = record { word = to_be_bytes w32 (word_of Version2 (length (frames ops))); bytes = frames ops; grammar = Version2; ops = ops }

-- it is one, where its frames are within the limit
pub is_batch : (ops : List Op) → Reads Version2 (frames ops) ops Whole → length (frames ops) ≤ LONGEST_BATCH → IsBatch (batch_of ops)
is_batch ops reads short =
    let word : from_be_bytes w32 (to_be_bytes w32 (word_of Version2 (length (frames ops)))) ≡ TAG_UNIT + length (frames ops)
    = from_be_bytes-to_be_bytes_4 (word_of Version2 (length (frames ops))) (omega (arith, short)) in
    record {
      four_bytes = refl;
      tagged = ap word_tag word ∙ tag_is (length (frames ops)) (omega (arith, short));
      counts = ap word_length word ∙ length_is (length (frames ops)) (omega (arith, short));
      short = short;
      reads = reads;
    }
  where
    tag_is : (n : ℕ) → n < TAG_UNIT → word_tag (TAG_UNIT + n) ≡ 1
    tag_is n l = omega (arith, l)

    length_is : (n : ℕ) → n < TAG_UNIT → word_length (TAG_UNIT + n) ≡ n
    length_is n l = omega (arith, l)

-- the number in front of a batch is that of its word
pub word_is : (b : Batch) (more : List ℕ) → IsBatch b → number_at 0 (b.word ++ more) ≡ from_be_bytes w32 b.word
word_is b more h = ap (from_be_bytes w32) ((λ i. take (sym h.four_bytes i) (b.word ++ more)) ∙ take-append_seam b.word more)

-- so the length there is that of its bytes
pub length_is : (b : Batch) (more : List ℕ) → IsBatch b → length_at 0 (b.word ++ more) ≡ length b.bytes
length_is b more h = ap word_length (word_is b more h) ∙ h.counts

-- what stands after the word
pub after_word : (b : Batch) (more : List ℕ) → IsBatch b → drop 4 (b.word ++ more) ≡ more
after_word b more h = (λ i. drop (sym h.four_bytes i) (b.word ++ more)) ∙ drop-append_seam b.word more

-- a tag is that of one grammar
pub one_grammar : (g h : Grammar) → tag_of g ≡ tag_of h → g ≡ h
one_grammar Version1 Version1 e = refl
one_grammar Version1 Version2 e = absurd (omega (arith, e))
one_grammar Version2 Version1 e = absurd (omega (arith, e))
one_grammar Version2 Version2 e = refl

-- two batches at one place are one, where bytes are read in one way
pub same_batch : ((grammar : Grammar) (bytes : List ℕ) (ops others : List Op) → Reads grammar bytes ops Whole → Reads grammar bytes others Whole → ops ≡ others)
    → (b c : Batch) (ys zs : List ℕ) → IsBatch b → IsBatch c → b.word ++ (b.bytes ++ ys) ≡ c.word ++ (c.bytes ++ zs) → (b ≡ c) × (ys ≡ zs)
same_batch once b c ys zs h k e =
    let four : length b.word ≡ length c.word = h.four_bytes ∙ sym k.four_bytes in
    let word : b.word ≡ c.word = common_prefix b.word (b.bytes ++ ys) c.word (c.bytes ++ zs) four e in
    let more : b.bytes ++ ys ≡ c.bytes ++ zs = same_rest b.word (b.bytes ++ ys) c.word (c.bytes ++ zs) four e in
    let len : length b.bytes ≡ length c.bytes = sym h.counts ∙ ap (λ w. word_length (from_be_bytes w32 w)) word ∙ k.counts in
    let bytes : b.bytes ≡ c.bytes = common_prefix b.bytes ys c.bytes zs len more in
    let grammar : b.grammar ≡ c.grammar = one_grammar b.grammar c.grammar (sym h.tagged ∙ ap (λ w. word_tag (from_be_bytes w32 w)) word ∙ k.tagged) in
    let reads : Reads c.grammar c.bytes b.ops Whole = subst (λ g. Reads g c.bytes b.ops Whole) grammar (subst (λ z. Reads b.grammar z b.ops Whole) bytes h.reads) in
    let ops : b.ops ≡ c.ops = once c.grammar c.bytes b.ops c.ops reads k.reads in
    ((λ i. record { word = word i; bytes = bytes i; grammar = grammar i; ops = ops i }), same_rest b.bytes ys c.bytes zs len more)

-- open slots of two lists
pub slots-append : (bs cs : List Batch) → open_slots (bs ++ cs) ≡ open_slots bs ++ open_slots cs
slots-append bs cs = flat_map-append open_slot bs cs

-- and their operations
pub ops-append : (bs cs : List Batch) → batch_ops (bs ++ cs) ≡ batch_ops bs ++ batch_ops cs
ops-append bs cs = flat_map-append (λ batch. batch.ops) bs cs
