-- Each list of bytes has an image: a walk of its open slots ends at a gate other than 1, or at an open slot that has no batch.
use Rattle.origin_model.proofs.Words.{All, All-cons, All-nil, List, Op, [], ap, append_assoc, arith, cases_Bool, drop, inl, inr, length, length-append, length-take-le, refl, suc}
use Rattle.origin_model.proofs.Words.{sym, take, take-append-drop, true, zero, ℕ, ◌++◌, ◌+◌, ◌<◌, ◌∙◌, ◌∷◌, ◌≡◌, ◌≢◌, ◌≤◌, ◌⊎◌}
use Rattle.std.proofs.lemmas.Bool.{and_parts, cases_eq, cases_lt, leb-true}
use Rattle.std.proofs.lemmas.List.{length-drop}
use Rattle.std.specs.Prelude.{nat_le}
use Rattle.origin_model.specs.declared.files.TheConstants.{LONGEST_BATCH}
use Rattle.origin_model.specs.files.Image.{BadBatch, Batch, CutShort, HasImage, Holds, Image, IsBatch, IsNoBatch, LastSlot, NoFrames, NoGate, NoTag, NoWord, NotReplica, TooLong}
use Rattle.origin_model.specs.files.Image.{content_of, has_header, header_of, is_header, last_slot, length_at, number_at, open_slot, open_slots, slots_of, tag_of, word_tag}
use Rattle.origin_model.specs.declared.grammar.Grammar.{Grammar}
use Rattle.origin_model.specs.declared.grammar.Grammar.TheVariants.{Version1, Version2}
use Rattle.origin_model.specs.frames.Frames.{Reads, Whole}
use Rattle.origin_model.proofs.files.ImageLemmas.{Bad, Closed, Ends}

-- bytes are whole frames of some operations, or of none
abbrev pub ReadSome : Type 0
ReadSome = (grammar : Grammar) (bytes : List ℕ) → ((ops : List Op) × Reads grammar bytes ops Whole) ⊎ ((ops : List Op) → Reads grammar bytes ops Whole → ⊥)

-- a tag is that of a grammar, or of none
tag_decided : (tag : ℕ) → ((grammar : Grammar) × (tag ≡ tag_of grammar)) ⊎ ((grammar : Grammar) → tag ≢ tag_of grammar)
tag_decided tag = elim (cases_eq tag 0) [
  | inl none ↦ inl (Version1, none)
  | inr more ↦ elim (cases_eq tag 1) [
    | inl one ↦ inl (Version2, one)
    | inr much ↦ inr (λ grammar. other more much grammar)
  ]
]
  where
    other : tag ≢ 0 → tag ≢ 1 → (grammar : Grammar) → tag ≢ tag_of grammar
    other more much Version1 = more
    other more much Version2 = much

-- a batch with bytes after it stands in front
record Stands (slot : ℕ) (bytes : List ℕ) : Type 0 where
  batch : Batch
  behind : List ℕ
  is_batch : IsBatch batch
  split : bytes ≡ (batch.word ++ batch.bytes) ++ behind
  gate : behind ≢ []
  few : slot < last_slot

-- after the gate of an open slot stands a batch with bytes after it, or none
opened : ReadSome → (slot : ℕ) (bytes : List ℕ) → slot ≤ last_slot → IsNoBatch slot bytes ⊎ Stands slot bytes
opened some slot bytes l =
    let n : ℕ = length_at 0 bytes in
    let rest : List ℕ = drop 4 bytes in
    elim (cases_eq slot last_slot) [
      | inl last ↦ inl (LastSlot last)
      | inr more ↦ elim (cases_lt (length bytes) 4) [
        | inl short ↦ inl (NoWord short)
        | inr four ↦ elim (tag_decided (word_tag (number_at 0 bytes))) [
          | inr none ↦ inl (NoTag none)
          | inl tagged ↦ elim (cases_lt LONGEST_BATCH n) [
            | inl long ↦ inl (TooLong long)
            | inr within ↦ elim (cases_lt (length rest) n) [
              | inl cut ↦ inl (CutShort cut)
              | inr there ↦ elim (cases_eq (length rest) n) [
                | inl end ↦ inl (NoGate end)
                | inr gate ↦ elim (some tagged.0 (take n rest)) [
                  | inr none ↦ inl (NoFrames tagged.0 tagged.1 none)
                  | inl read ↦
                      let size : length (take n rest) ≡ n = length-take-le n rest there in
                      inr (record {
                        batch = record { word = take 4 bytes; bytes = take n rest; grammar = tagged.0; ops = read.0 };
                        behind = drop n rest;
                        is_batch = record { four_bytes = length-take-le 4 bytes four; tagged = tagged.1; counts = sym size; short = omega (arith, size, within); reads = read.1 };
                        split = sym (append_assoc (take 4 bytes) (take n rest) (drop n rest) ∙ ap (λ z. take 4 bytes ++ z) (take-append-drop n rest) ∙ take-append-drop 4 bytes);
                        gate = λ e. gate (omega (arith, ap length e, length-drop n rest, there));
                        few = omega (arith, l, more);
                      })
                ]
              ]
            ]
          ]
        ]
      ]
    ]

-- open slots up to where they end
record Walked (slot : ℕ) (slots : List ℕ) : Type 0 where
  batches : List Batch
  rest : List ℕ
  number : ℕ
  number_is : number ≡ slot + length batches
  batches_are : All IsBatch batches
  few : number ≤ last_slot
  split : slots ≡ open_slots batches ++ rest
  ends : Ends number rest

-- each list of bytes that is not empty is walked
walk : ReadSome → (n slot : ℕ) (slots : List ℕ) → length slots ≤ n → slots ≢ [] → slot ≤ last_slot → Walked slot slots
walk some n slot [] l e f = absurd (e refl)
walk some zero slot (gate ∷ bytes) l e f = absurd (omega (arith, l))
walk some (suc n) slot (gate ∷ bytes) l e f =
    let stop : Ends slot (gate ∷ bytes) → Walked slot (gate ∷ bytes) = λ ends.
    record { batches = []; rest = gate ∷ bytes; number = slot; number_is = omega arith; batches_are = All-nil IsBatch; few = f; split = refl; ends = ends } in
    elim (cases_eq gate 1) [
      | inr closed ↦ stop (Closed gate bytes refl closed)
      | inl one ↦ elim (opened some slot bytes f) [
        | inl bad ↦ stop (Bad bytes (ap (λ g. g ∷ bytes) one) bad)
        | inr s ↦
            let less : length s.behind ≤ n = omega (arith, l, ap length s.split, length-append (s.batch.word ++ s.batch.bytes) s.behind) in
            let r = walk some n (suc slot) s.behind less s.gate (omega (arith, s.few)) in
            record {
              batches = s.batch ∷ r.batches;
              rest = r.rest;
              number = r.number;
              number_is = omega (arith, r.number_is);
              batches_are = All-cons IsBatch s.batch r.batches s.is_batch r.batches_are;
              few = r.few;
              split = (λ i. one i ∷ s.split i) ∙ ap (λ z. open_slot s.batch ++ z) r.split ∙ sym (append_assoc (open_slot s.batch) (open_slots r.batches) r.rest);
              ends = r.ends;
            }
      ]
    ]

-- the image, by how the walk ends
image_of : (bytes rest : List ℕ) → has_header bytes ≡ true → (w : Walked 0 (slots_of bytes)) → Ends w.number rest → w.rest ≡ rest → (image : Image) × HasImage bytes image
image_of bytes rest t w (Closed gate more e closed) same = (
  Holds (content_of (header_of bytes) w.batches),
  (
    t,
    record {
      batches = w.batches;
      gate = gate;
      rest = more;
      found = record { batches_are = w.batches_are; few = omega (arith, w.few, w.number_is); split = w.split ∙ ap (λ z. open_slots w.batches ++ z) (same ∙ e); gate = λ d. cc d };
      closed = closed;
      content_is = refl;
    },
  ),
)
image_of bytes rest t w (Bad more e bad) same = (
  BadBatch w.number,
  (
    t,
    record {
      batches = w.batches;
      rest = more;
      found = record { batches_are = w.batches_are; few = omega (arith, w.few, w.number_is); split = w.split ∙ ap (λ z. open_slots w.batches ++ z) (same ∙ e); gate = λ d. cc d };
      number = omega (arith, w.number_is);
      bad = bad;
    },
  ),
)

-- each list of bytes has an image
pub image_some : ReadSome → (bytes : List ℕ) → (image : Image) × HasImage bytes image
image_some some bytes =
    elim (cases_Bool (has_header bytes)) [
      | inr f ↦ (NotReplica, f)
      | inl t ↦
          let enough : 14 ≤ length bytes = leb-true 14 (length bytes) (and_parts (nat_le 14 (length bytes)) (is_header (header_of bytes)) t).0 in
          let w = walk some (length (slots_of bytes)) 0 (slots_of bytes) (omega arith) (λ e. omega (arith, ap length e, length-drop 13 bytes, enough)) (omega arith) in
          image_of bytes w.rest t w w.ends refl
    ]
