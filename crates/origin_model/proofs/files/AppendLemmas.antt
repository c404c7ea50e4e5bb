-- A file by its parts: a new one, one with a further batch, and one with other bytes after its gate.
use Rattle.origin_model.proofs.Words.{All, All-append, All-cons, All-nil, List, [], ap, append-nil, append_assoc, arith, drop, length, length-append, length-take-le, refl, suc}
use Rattle.origin_model.proofs.Words.{sym, take, take-append-drop, true, ℕ, ◌&&◌, ◌++◌, ◌+◌, ◌<◌, ◌^◌, ◌∙◌, ◌∷◌, ◌≡◌, ◌≢◌, ◌≤◌}
use Rattle.std.proofs.Common.{nat_le}
use Rattle.std.proofs.Math.Seq.{drop-append_seam, take-append-add, take-append_seam}
use Rattle.std.proofs.lemmas.Bool.{and_from, and_parts, le-leb, leb-true}
use Rattle.std.proofs.lemmas.Nat.{from_be_bytes-to_be_bytes_4}
use Rattle.fugue_ids.specs.declared.limits.TheConstants.{GREATEST_HOLD}
use Rattle.origin_model.specs.files.Image.{Batch, Content, HasImage, Holds, IsBatch, batch_ops, content_of, header, header_of, is_header, last_slot, new_file, open_slot}
use Rattle.origin_model.specs.files.Image.{open_slots, slots_of}
use Rattle.origin_model.proofs.files.BatchLemmas.{ops-append, slots-append}

-- a header, open slots, another gate than 1, and any bytes
pub record Parts (bytes : List ℕ) (content : Content) : Type 0 where
  pub head : List ℕ
  pub batches : List Batch
  pub gate : ℕ
  pub rest : List ℕ
  pub long : length head ≡ 13
  pub is_head : is_header head ≡ true
  pub batches_are : All IsBatch batches
  pub few : length batches ≤ last_slot
  pub closed : gate ≢ 1
  pub split : bytes ≡ head ++ (open_slots batches ++ gate ∷ rest)
  pub content_is : content ≡ content_of head batches

-- such bytes hold what the parts say
pub from_parts : (bytes : List ℕ) (content : Content) → Parts bytes content → HasImage bytes (Holds content)
from_parts bytes content p =
    let more : List ℕ = open_slots p.batches ++ p.gate ∷ p.rest in
    let head : header_of bytes ≡ p.head = (λ i. take (sym p.long i) (p.split i)) ∙ take-append_seam p.head more in
    let slots : slots_of bytes ≡ more = (λ i. drop (sym p.long i) (p.split i)) ∙ drop-append_seam p.head more in
    let enough : 14 ≤ length bytes = omega (arith, ap length p.split, length-append p.head more, length-append (open_slots p.batches) (p.gate ∷ p.rest), p.long) in (
      and_from (nat_le 14 (length bytes)) (is_header (header_of bytes)) (le-leb 14 (length bytes) enough) (ap is_header head ∙ p.is_head),
      record {
        batches = p.batches;
        gate = p.gate;
        rest = p.rest;
        found = record { batches_are = p.batches_are; few = p.few; split = slots; gate = λ e. cc e };
        closed = p.closed;
        content_is = p.content_is ∙ ap (λ h. content_of h p.batches) (sym head);
      },
    )

-- and bytes that hold something have such parts
pub to_parts : (bytes : List ℕ) (content : Content) → HasImage bytes (Holds content) → Parts bytes content
to_parts bytes content h =
    let both = and_parts (nat_le 14 (length bytes)) (is_header (header_of bytes)) h.0 in
    let enough : 14 ≤ length bytes = leb-true 14 (length bytes) both.0 in
    record {
      head = header_of bytes;
      batches = h.1.batches;
      gate = h.1.gate;
      rest = h.1.rest;
      long = length-take-le 13 bytes (omega (arith, enough));
      is_head = both.1;
      batches_are = h.1.found.batches_are;
      few = h.1.found.few;
      closed = h.1.closed;
      split = sym (take-append-drop 13 bytes) ∙ ap (λ z. header_of bytes ++ z) h.1.found.split;
      content_is = h.1.content_is;
    }

-- the bytes up to the gate that ends the meaning
pub before_gate : (bytes : List ℕ) (content : Content) (p : Parts bytes content) → take content.at bytes ≡ p.head ++ open_slots p.batches
before_gate bytes content p =
    let slots : List ℕ = open_slots p.batches in
    let at : content.at ≡ length p.head + length slots = ap (λ z. z.at) p.content_is ∙ ap (λ n. n + length slots) (sym p.long) in
    (λ i. take (at i) (p.split i)) ∙ take-append-add p.head (slots ++ p.gate ∷ p.rest) (length slots) ∙ ap (λ z. p.head ++ z) (take-append_seam slots (p.gate ∷ p.rest))

-- and with the gate
with_gate : (bytes : List ℕ) (content : Content) (p : Parts bytes content) → take (suc content.at) bytes ≡ p.head ++ (open_slots p.batches ++ p.gate ∷ [])
with_gate bytes content p =
    let slots : List ℕ = open_slots p.batches in
    let at : suc content.at ≡ length p.head + (length slots + 1) = omega (arith, ap (λ z. z.at) p.content_is, p.long) in
    (λ i. take (at i) (p.split i)) ∙ take-append-add p.head (slots ++ p.gate ∷ p.rest) (length slots + 1) ∙ ap (λ z. p.head ++ z) (take-append-add slots (p.gate ∷ p.rest) 1)

-- bytes after the gate count for nothing
pub same_to_gate : (bytes other : List ℕ) (content : Content) → HasImage bytes (Holds content) → take (suc content.at) other ≡ take (suc content.at) bytes
    → HasImage other (Holds content)
same_to_gate bytes other content h e =
    let p = to_parts bytes content h in
    let more : List ℕ = drop (suc content.at) other in
    let slots : List ℕ = open_slots p.batches in
    from_parts other content (record {
      head = p.head;
      batches = p.batches;
      gate = p.gate;
      rest = more;
      long = p.long;
      is_head = p.is_head;
      batches_are = p.batches_are;
      few = p.few;
      closed = p.closed;
      split =
          sym (take-append-drop (suc content.at) other) ∙ ap (λ z. z ++ more) (e ∙ with_gate bytes content p) ∙ append_assoc p.head (slots ++ p.gate ∷ []) more
          ∙ ap (λ z. p.head ++ z) (append_assoc slots (p.gate ∷ []) more);
      content_is = p.content_is;
    })

-- what a file holds with one more batch
abbrev pub with_batch : Content → Batch → Content
with_batch content batch =
    record { replica = content.replica; hold = content.hold; ops = content.ops ++ batch.ops; at = content.at + length (open_slot batch); slots = content.slots + 1 }

-- a batch that is written in the place of the gate, open, with another gate than 1 after it, is the file's last
pub batch_appended : (bytes : List ℕ) (content : Content) (new : Batch) (gate : ℕ) (rest : List ℕ) → HasImage bytes (Holds content) → IsBatch new
    → content.slots < last_slot → gate ≢ 1 → HasImage (take content.at bytes ++ (open_slot new ++ gate ∷ rest)) (Holds (with_batch content new))
batch_appended bytes content new gate rest h is few closed =
    let p = to_parts bytes content h in
    let batches : List Batch = p.batches ++ new ∷ [] in
    let slots : open_slots batches ≡ open_slots p.batches ++ open_slot new = slots-append p.batches (new ∷ []) ∙ ap (λ z. open_slots p.batches ++ z) (append-nil (open_slot new)) in
    let count : length batches ≡ length p.batches + 1 = length-append p.batches (new ∷ []) in
    let slots_before : content.slots ≡ length p.batches = ap (λ z. z.slots) p.content_is in
    let at : content.at + length (open_slot new) ≡ 13 + length (open_slots batches) =
    omega (arith, ap (λ z. z.at) p.content_is, ap length slots, length-append (open_slots p.batches) (open_slot new)) in
    let all_ops : content.ops ++ new.ops ≡ batch_ops batches =
    ap (λ z. z.ops ++ new.ops) p.content_is ∙ ap (λ z. batch_ops p.batches ++ z) (sym (append-nil new.ops)) ∙ sym (ops-append p.batches (new ∷ [])) in
    from_parts (take content.at bytes ++ (open_slot new ++ gate ∷ rest)) (with_batch content new) (record {
      head = p.head;
      batches = batches;
      gate = gate;
      rest = rest;
      long = p.long;
      is_head = p.is_head;
      batches_are = All-append IsBatch p.batches (new ∷ []) p.batches_are (All-cons IsBatch new [] is (All-nil IsBatch));
      few = omega (arith, count, slots_before, few);
      closed = closed;
      split =
          ap (λ z. z ++ (open_slot new ++ gate ∷ rest)) (before_gate bytes content p) ∙ append_assoc p.head (open_slots p.batches) (open_slot new ++ gate ∷ rest)
          ∙ ap (λ z. p.head ++ z) (sym (append_assoc (open_slots p.batches) (open_slot new) (gate ∷ rest)) ∙ ap (λ z. z ++ gate ∷ rest) (sym slots));
      content_is = λ i. record {
        replica = (p.content_is i).replica;
        hold = (p.content_is i).hold;
        ops = all_ops i;
        at = at i;
        slots = (ap (λ n. n + 1) slots_before ∙ sym count) i;
      };
    })

-- a new file holds nothing
pub new_file_holds : (replica hold : ℕ) → 0 < replica → replica < 2 ^ 32 → 0 < hold → hold ≤ GREATEST_HOLD
    → HasImage (new_file replica hold) (Holds (record { replica = replica; hold = hold; ops = []; at = 13; slots = 0 }))
new_file_holds replica hold some fits held within =
    let r = from_be_bytes-to_be_bytes_4 replica fits in
    let n = from_be_bytes-to_be_bytes_4 hold (omega (arith, within)) in
    from_parts (new_file replica hold) (record { replica = replica; hold = hold; ops = []; at = 13; slots = 0 }) (record {
      head = header replica hold;
      batches = [];
      gate = 0;
      rest = [];
      long = refl;
      is_head = (λ i. nat_le 1 (r i) && nat_le 1 (n i) && nat_le (n i) GREATEST_HOLD)
          ∙ and_from (nat_le 1 replica && nat_le 1 hold) (nat_le hold GREATEST_HOLD) (and_from (nat_le 1 replica) (nat_le 1 hold) (le-leb 1 replica some) (le-leb 1 hold held))
          (le-leb hold GREATEST_HOLD within);
      batches_are = All-nil IsBatch;
      few = omega arith;
      closed = λ e. omega (arith, e);
      split = refl;
      content_is = λ i. record { replica = sym r i; hold = sym n i; ops = []; at = 13; slots = 0 };
    })
