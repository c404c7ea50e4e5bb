-- The moments of a file, batch by batch.
use Rattle.std.proofs.Common.{◌≡◌, ℕ, ◌+◌, ◌<◌, List, [], ◌∷◌, ◌++◌, length, drop, refl, ap, sym, subst, ◌∙◌, append_assoc, arith, length-append}
use Rattle.std.specs.Prelude.{Bool, true}
use Rattle.std.proofs.lemmas.List.{append-nil}
use Rattle.origin_model.specs.files.Image.{BadBatch, Batch, Content, HasImage, Holds, Image, IsBatch, NotReplica, OpenSlots, content_of, header_of, last_slot, slots_of}
use Rattle.origin_model.proofs.SharedLemmas.{Closed}
use Rattle.std.proofs.lemmas.List.Elements.{recursion_from_All}
use Rattle.origin_model.specs.taking.Taking.{Held}
use Rattle.origin_model.specs.edits.State.{State}
use Rattle.replica_file.specs.declared.load_file.End.{End}
use Rattle.replica_file.specs.declared.gate.Gate.{Gate}
use Rattle.replica_file.specs.Loading.{IsSameButHeld}
use Rattle.replica_file.specs.Moments.{HasMoments, OneListOfMoments, WalkedWith, WalksOutWith, accepted_by, new_moment, moments_after, moments_of}
use Rattle.replica_file.specs.Slots.{TakesSlot, Walked}
use Rattle.replica_file.proofs.AppendLemmas.{same_content}
use Rattle.replica_file.proofs.ImageLemmas.{has_one_image}
use Rattle.replica_file.proofs.OnceLemmas.{first_ones}
use Rattle.replica_file.proofs.WalkLemmas.{gate_after, walk_on, walk_on_adds}

-- one batch more
moments_next : (hold : ℕ) (earlier batches : List Batch) (batch : Batch) → moments_after hold earlier (batches ++ batch ∷ [])
    ≡ moments_after hold earlier batches ++ new_moment (accepted_by hold (earlier ++ batches)) (accepted_by hold ((earlier ++ batches) ++ batch ∷ []))
moments_next hold earlier [] batch =
    append-nil (new_moment (accepted_by hold earlier) (accepted_by hold (earlier ++ batch ∷ [])))
    ∙ ap (λ (l : List Batch). new_moment (accepted_by hold l) (accepted_by hold (l ++ batch ∷ []))) (sym (append-nil earlier))
moments_next hold earlier (first ∷ batches) batch =
    let here = new_moment (accepted_by hold earlier) (accepted_by hold (earlier ++ first ∷ [])) in
    let rest = moments_after hold (earlier ++ first ∷ []) batches in
    let last : List Batch → List ℕ = λ l. new_moment (accepted_by hold l) (accepted_by hold (l ++ batch ∷ [])) in
    ap (λ (l : List ℕ). here ++ l) (moments_next hold (earlier ++ first ∷ []) batches batch)
    ∙ sym (append_assoc here rest (last ((earlier ++ first ∷ []) ++ batches)))
    ∙ ap (λ (l : List Batch). (here ++ rest) ++ last l) (append_assoc earlier (first ∷ []) batches)

module _ (bytes : List ℕ) (slots : ℕ) (gate : Gate) (r : State) (moments : List ℕ) (w : WalkedWith bytes slots gate r moments) (open_now : gate.open ≡ true) (next : Gate)
    (was now : Bool) (s : State)
    (was_so : was ≡ true) (few : slots < last_slot) (same : IsSameButHeld r s) (took : TakesSlot bytes gate.at next was r now s) (found : now ≡ true) where
  abbrev further : Walked bytes (slots + 1) next s
  further = walk_on bytes slots gate r w.walked open_now next was now s was_so few same took found

  adds : further.batches ≡ w.walked.batches ++ took.batch ∷ []
  adds = walk_on_adds bytes slots gate r w.walked open_now next was now s was_so few same took found

  -- the slot is taken in, and its moment noted
  pub walk_noting : (more : List ℕ) → more ≡ moments ++ new_moment (length r.held.history) (length s.held.history) → WalkedWith bytes (slots + 1) next s more
  walk_noting more is = record {
    walked = further;
    are = is
        ∙ (λ i. w.are i ++ new_moment (length (ap (λ (h : Held). h.history) w.walked.fed.same i)) (length (ap (λ (h : Held). h.history) further.fed.same i)))
        ∙ ap (λ (h : ℕ). moments_of h w.walked.batches ++ new_moment (accepted_by h w.walked.batches) (accepted_by s.hold further.batches)) (sym (ap (λ (t : State). t.hold) same))
        ∙ ap (λ (l : List Batch). moments_of s.hold w.walked.batches ++ new_moment (accepted_by s.hold w.walked.batches) (accepted_by s.hold l)) adds
        ∙ sym (moments_next s.hold [] w.walked.batches took.batch)
        ∙ ap (moments_of s.hold) (sym adds);
  }

no_batch : (batches : List Batch) → 0 ≡ length batches → batches ≡ []
no_batch [] none = refl
no_batch (batch ∷ batches) none = absurd (omega (arith, none))

-- the walk begins with no moment
pub walk_begins : (bytes : List ℕ) (first : Gate) (r : State) (moments : List ℕ) → moments ≡ [] → Walked bytes 0 first r → WalkedWith bytes 0 first r moments
walk_begins bytes first r moments none w = record { walked = w; are = none ∙ ap (moments_of r.hold) (sym (no_batch w.batches w.number)) }

-- and at its end they are those of the file
pub walk_ends : (bytes : List ℕ) (end : End) (r : State) (moments : List ℕ) → WalksOutWith bytes end r moments → HasMoments bytes moments
walk_ends bytes end r moments with_moments =
    let out = with_moments.out in
    let w = out.walked in
    record {
      header = w.header;
      content = content_of (header_of bytes) w.batches;
      ends = record {
        batches = w.batches;
        gate = w.is_gate.byte;
        rest = drop (out.gate.at + 1) bytes;
        found = subst (OpenSlots (slots_of bytes) w.batches) (gate_after bytes out.gate.at w.is_gate.byte w.is_gate.is) w.found;
        closed = w.is_gate.shuts out.shut;
        content_is = refl;
      };
      are = with_moments.are ∙ ap (λ (h : ℕ). moments_of h w.batches) w.hold_is;
    }

-- a list that is as long with more after it
no_more : (batches all more : List Batch) → all ≡ batches ++ more → length batches ≡ length all → all ≡ batches
no_more batches all [] is long = is ∙ append-nil batches
no_more batches all (batch ∷ more) is long = absurd (omega (arith, ap length is, length-append batches (batch ∷ more), long))

pub one_list : OneListOfMoments
one_list bytes a b x y =
    let same : x.content ≡ y.content = same_content bytes x.content y.content (x.header, x.ends) (y.header, y.ends) in
    let bs : List Batch = x.ends.batches in
    let cs : List Batch = y.ends.batches in
    let first = first_ones 0 (length cs) bs cs (x.ends.gate ∷ x.ends.rest) (y.ends.gate ∷ y.ends.rest) (recursion_from_All IsBatch bs x.ends.found.batches_are)
    (recursion_from_All IsBatch cs y.ends.found.batches_are)
    (sym x.ends.found.split ∙ y.ends.found.split) (omega arith) (omega (arith, x.ends.found.few)) x.ends.found.gate (Closed y.ends.gate y.ends.rest refl y.ends.closed) in
    let long : length bs ≡ length cs =
    sym (ap (λ (c : Content). c.slots) x.ends.content_is) ∙ ap (λ (c : Content). c.slots) same ∙ ap (λ (c : Content). c.slots) y.ends.content_is in
    let alike : cs ≡ bs = no_more bs cs first.0 first.1 long in
    x.are ∙ (λ i. moments_of (same i).hold (sym alike i)) ∙ sym y.are

-- a replica's file has moments
pub some_moments : (bytes : List ℕ) → (moments : List ℕ) × ((content : Content) → HasImage bytes (Holds content) → HasMoments bytes moments)
some_moments bytes = by_image (has_one_image.some bytes).0 (has_one_image.some bytes).1
  where
    by_image : (image : Image) → HasImage bytes image → (moments : List ℕ) × ((content : Content) → HasImage bytes (Holds content) → HasMoments bytes moments)
    by_image (Holds content) has = (moments_of content.hold has.1.batches, λ other is. record { header = has.0; content = content; ends = has.1; are = refl })
    by_image NotReplica has = ([], λ content is. (let same : Holds content ≡ NotReplica = has_one_image.one bytes (Holds content) NotReplica is has in cc same))
    by_image (BadBatch slot) has = ([], λ content is. (let same : Holds content ≡ BadBatch slot = has_one_image.one bytes (Holds content) (BadBatch slot) is has in cc same))
