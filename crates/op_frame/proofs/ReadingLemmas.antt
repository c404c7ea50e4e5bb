-- Streams of frames by a grammar, and how they are read.
use Rattle.std.specs.Prelude.{◌≡◌, ℕ, zero, suc, ◌+◌, ◌<◌, ◌≤◌, All, List, [], ◌∷◌, ◌++◌, length, ◌⊎◌, refl}
use Rattle.std.proofs.Common.{ap, sym, subst, ◌∙◌, arith, append_assoc, inl, inr, length-append}
use Rattle.std.proofs.lemmas.List.{append-nil, flat_map_more}
use Rattle.std.proofs.lemmas.List.Elements.{All-cons, All-head, All-nil, All-push, All-tail}
use Rattle.fugue_ids.specs.Identifiers.{Identifier}
use Rattle.fugue_ids.specs.declared.op.Op.{Op}
use Rattle.fugue_ids.specs.declared.op.Op.TheVariants.{Delete, Note, Section, Text}
use Rattle.origin_model.specs.declared.grammar.Grammar.{Grammar}
use Rattle.origin_model.specs.declared.grammar.Grammar.TheVariants.{Version2}
use Rattle.origin_model.proofs.SharedLemmas.{FramesOnce}
use Rattle.origin_model.specs.frames.Frames.{Begins, End, Whole, CutShort as EndsCut, BadFrame as EndsBad, EndsSo, Framed, IsFrame, IsIdentifier, IsPartial, Item, Reads, Single}
use Rattle.origin_model.specs.frames.Frames.{Starts, Typed, frame, item_bytes, item_ops}
pub use Rattle.origin_model.proofs.SharedLemmas.{bytes_of, ops_of}
use Rattle.op_frame.proofs.FrontLemmas.{Front, bad_there, frame_there, front_of, front_there}
use Rattle.op_frame.proofs.ItemLemmas.{item_code, item_framed, item_is_framed, of_each_version}

-- replica 1 and counter 0
abbrev pub first_id : Identifier
first_id = record { replica = 1; counter = 0 }

pub first_is_one : IsIdentifier first_id
first_is_one = record { some_replica = omega arith; replica_fits = omega arith; counter_fits = omega arith }

pub frame_some : (op : Op) → 0 < length (frame op)
frame_some (Section i l r t) = omega arith
frame_some (Text i s l r ch) = omega arith
frame_some (Delete i) = omega arith
frame_some (Note i n c b) = omega arith

pub item_some : (i : Item) → 0 < length (item_bytes i)
item_some (Single op) = frame_some op
item_some (Typed run) = omega arith

-- at one place stands one frame
pub record SameFront (f h : Framed) (r s : List ℕ) : Type 0 where
  pub bytes : f.bytes ≡ h.bytes
  pub ops : f.ops ≡ h.ops
  pub rest : r ≡ s

module _ (g : Grammar) where
  pub no_bytes_are_partial : IsPartial g []
  no_bytes_are_partial = record {
    framed = item_framed (Single (Delete first_id));
    is_frame = item_is_framed g (Single (Delete first_id)) (of_each_version g (Delete first_id) first_is_one tt);
    more = frame (Delete first_id);
    lacks = omega arith;
    front = refl;
  }

  pub framed_some : (framed : Framed) → IsFrame g framed → 0 < length framed.bytes
  framed_some framed is = omega (arith, item_some is.item, ap length is.bytes_are)

  pub common_prefix : (f h : Framed) (r s : List ℕ) → IsFrame g f → IsFrame g h → f.bytes ++ r ≡ h.bytes ++ s → SameFront f h r s
  common_prefix f h r s p q is =
      let both = (item_code g).once p.item q.item r s p.is_item q.is_item
      (ap (λ (l : List ℕ). l ++ r) (sym p.bytes_are) ∙ is ∙ ap (λ (l : List ℕ). l ++ s) q.bytes_are) in
      record { bytes = p.bytes_are ∙ ap item_bytes both.0 ∙ sym q.bytes_are; ops = p.ops_are ∙ ap item_ops both.0 ∙ sym q.ops_are; rest = both.1 }

  -- bytes that begin with a frame are no proper front of one
  pub begins_not_partial : (b : List ℕ) (framed : Framed) (rest : List ℕ) → Begins g b framed rest → IsPartial g b → ⊥
  begins_not_partial b framed rest begins p =
      let same = common_prefix framed p.framed (rest ++ p.more) [] begins.is_frame p.is_frame
      (sym (append_assoc framed.bytes rest p.more) ∙ ap (λ (l : List ℕ). l ++ p.more) (sym begins.split) ∙ sym p.front ∙ sym (append-nil p.framed.bytes)) in
      omega (arith, ap length same.rest, length-append rest p.more, p.lacks)

  -- where a frame stands, no stream ends
  not_ended : (b : List ℕ) (framed : Framed) (rest : List ℕ) (k : ℕ) (end : End) → Begins g b framed rest → EndsSo g b k end → ⊥
  not_ended b framed rest k Whole begins ends =
      omega (arith, framed_some framed begins.is_frame, ap length (sym ends ∙ begins.split), length-append framed.bytes rest)
  not_ended b framed rest k (EndsCut j) begins ends = begins_not_partial b framed rest begins ends.2
  not_ended b framed rest k (EndsBad j) begins ends = ends.1.no_frame framed rest begins

  same_end : (rest : List ℕ) (k : ℕ) (e f : End) → EndsSo g rest k e → EndsSo g rest k f → e ≡ f
  same_end rest k Whole Whole p q = refl
  same_end rest k Whole (EndsCut j) p q = absurd (q.1 p)
  same_end rest k Whole (EndsBad j) p q = absurd (q.1.no_front (subst (IsPartial g) (sym p) no_bytes_are_partial))
  same_end rest k (EndsCut j) Whole p q = absurd (p.1 q)
  same_end rest k (EndsCut j) (EndsCut l) p q = ap EndsCut (p.0 ∙ sym q.0)
  same_end rest k (EndsCut j) (EndsBad l) p q = absurd (q.1.no_front p.2)
  same_end rest k (EndsBad j) Whole p q = absurd (p.1.no_front (subst (IsPartial g) (sym q) no_bytes_are_partial))
  same_end rest k (EndsBad j) (EndsCut l) p q = absurd (p.1.no_front q.2)
  same_end rest k (EndsBad j) (EndsBad l) p q = ap EndsBad (p.0 ∙ sym q.0)

  -- frames with a rest after them, and further frames in this rest
  record GoesOn (fs : List Framed) (r : List ℕ) (hs : List Framed) (s : List ℕ) : Type 0 where
    more : List Framed
    are_frames : All (IsFrame g) more
    rest : r ≡ bytes_of more ++ s
    bytes : bytes_of hs ≡ bytes_of fs ++ bytes_of more
    ops : ops_of hs ≡ ops_of fs ++ ops_of more

  -- frames at the front are the first ones of all up to an end
  goes_on : (fs : List Framed) (r : List ℕ) (hs : List Framed) (s : List ℕ) → All (IsFrame g) fs → All (IsFrame g) hs → bytes_of fs ++ r ≡ bytes_of hs ++ s
      → (k : ℕ) (end : End) → EndsSo g s k end → GoesOn fs r hs s
  goes_on [] r hs s p q same k end ends = record { more = hs; are_frames = q; rest = same; bytes = refl; ops = refl }
  goes_on (f ∷ fs) r [] s p q same k end ends =
      absurd (not_ended s f (bytes_of fs ++ r) k end (record { is_frame = All-head (IsFrame g) f fs p; split = sym same ∙ append_assoc f.bytes (bytes_of fs) r }) ends)
  goes_on (f ∷ fs) r (h ∷ hs) s p q same k end ends =
      let first = common_prefix f h (bytes_of fs ++ r) (bytes_of hs ++ s) (All-head (IsFrame g) f fs p) (All-head (IsFrame g) h hs q)
      (sym (append_assoc f.bytes (bytes_of fs) r) ∙ same ∙ append_assoc h.bytes (bytes_of hs) s) in
      let behind = goes_on fs r hs s (All-tail (IsFrame g) f fs p) (All-tail (IsFrame g) h hs q) first.rest k end ends in
      record {
        more = behind.more;
        are_frames = behind.are_frames;
        rest = behind.rest;
        bytes = (λ i. sym first.bytes i ++ behind.bytes i) ∙ sym (append_assoc f.bytes (bytes_of fs) (bytes_of behind.more));
        ops = (λ i. sym first.ops i ++ behind.ops i) ∙ sym (append_assoc f.ops (ops_of fs) (ops_of behind.more));
      }

  -- after an end stands no frame
  none_after : (more : List Framed) (r s : List ℕ) (k : ℕ) (end : End) → All (IsFrame g) more → r ≡ bytes_of more ++ s → EndsSo g r k end → more ≡ []
  none_after [] r s k end are is ends = refl
  none_after (f ∷ more) r s k end are is ends =
      absurd (not_ended r f (bytes_of more ++ s) k end (record { is_frame = All-head (IsFrame g) f more are; split = is ∙ append_assoc f.bytes (bytes_of more) s }) ends)

  -- a stream is read in one way
  pub reads_once : (b : List ℕ) (ops others : List Op) (e f : End) → Reads g b ops e → Reads g b others f → (ops ≡ others) × (e ≡ f)
  reads_once b ops others e f p q =
      let both = goes_on p.found p.rest q.found q.rest p.are_frames q.are_frames (sym p.split ∙ q.split) (length (bytes_of q.found)) f q.ends in
      let none = none_after both.more p.rest q.rest (length (bytes_of p.found)) e both.are_frames both.rest p.ends in
      let here : p.rest ≡ q.rest = both.rest ∙ ap (λ (fs : List Framed). bytes_of fs ++ q.rest) none in
      let at : bytes_of q.found ≡ bytes_of p.found = both.bytes ∙ ap (λ (fs : List Framed). bytes_of p.found ++ bytes_of fs) none ∙ append-nil (bytes_of p.found) in (
        p.ops_are ∙ sym (both.ops ∙ ap (λ (fs : List Framed). ops_of p.found ++ ops_of fs) none ∙ append-nil (ops_of p.found)) ∙ sym q.ops_are,
        same_end q.rest (length (bytes_of q.found)) e f
            (subst (λ (n : ℕ). EndsSo g q.rest n e) (ap length (sym at)) (subst (λ (l : List ℕ). EndsSo g l (length (bytes_of p.found)) e) here p.ends)) q.ends,
      )

  -- frames at the front of a stream stand for its first operations
  pub starts_first : (b : List ℕ) (ops : List Op) (rest : List ℕ) (all : List Op) (end : End) → Starts g b ops rest → Reads g b all end → (more : List Op) × (all ≡ ops ++ more)
  starts_first b ops rest all end p q =
      let both = goes_on p.found rest q.found q.rest p.are_frames q.are_frames (sym p.split ∙ q.split) (length (bytes_of q.found)) end q.ends in
      (ops_of both.more, q.ops_are ∙ both.ops ∙ ap (λ (l : List Op). l ++ ops_of both.more) (sym p.ops_are))

  -- one frame more at the front of a stream
  pub starts_more : (b : List ℕ) (ops : List Op) (rest : List ℕ) (framed : Framed) (behind : List ℕ) → Starts g b ops rest → Begins g rest framed behind
      → Starts g b (ops ++ framed.ops) behind
  starts_more b ops rest framed behind p q = record {
    found = p.found ++ framed ∷ [];
    are_frames = All-push (IsFrame g) p.found framed p.are_frames q.is_frame;
    ops_are = ap (λ (l : List Op). l ++ framed.ops) p.ops_are ∙ flat_map_more (λ f. f.ops) [] p.found framed;
    split = p.split ∙ ap (λ (l : List ℕ). bytes_of p.found ++ l) q.split ∙ sym (append_assoc (bytes_of p.found) framed.bytes behind)
        ∙ ap (λ (l : List ℕ). l ++ behind) (flat_map_more (λ f. f.bytes) [] p.found framed);
  }

  -- frames up to where the bytes end, and how they end there, counted from a start
  record ReadsFrom (start : ℕ) (b : List ℕ) : Type 0 where
    found : List Framed
    are_frames : All (IsFrame g) found
    rest : List ℕ
    split : b ≡ bytes_of found ++ rest
    end : End
    ends : EndsSo g rest (start + length (bytes_of found)) end

  reads_from : (most start : ℕ) (b : List ℕ) → length b ≤ most → ReadsFrom start b
  reads_from most start [] fits = record { found = []; are_frames = All-nil (IsFrame g); rest = []; split = refl; end = Whole; ends = refl }
  reads_from zero start (x ∷ b) fits = absurd (omega (arith, fits))
  reads_from (suc most) start (x ∷ b) fits = by_front (front_of g (x ∷ b)) (λ later rest. reads_from most later rest)
    where
      stops_here : (end : End) → EndsSo g (x ∷ b) (start + 0) end → ReadsFrom start (x ∷ b)
      stops_here end ends = record { found = []; are_frames = All-nil (IsFrame g); rest = x ∷ b; split = refl; end = end; ends = ends }

      by_front : Front g (x ∷ b) → ((later : ℕ) (rest : List ℕ) → length rest ≤ most → ReadsFrom later rest) → ReadsFrom start (x ∷ b)
      by_front (frame_there framed rest begins) reads =
          let behind = reads (start + length framed.bytes) rest
          (omega (arith, fits, framed_some framed begins.is_frame, ap length begins.split, length-append framed.bytes rest)) in
          record {
            found = framed ∷ behind.found;
            are_frames = All-cons (IsFrame g) framed behind.found begins.is_frame behind.are_frames;
            rest = behind.rest;
            split = begins.split ∙ ap (λ (l : List ℕ). framed.bytes ++ l) behind.split ∙ sym (append_assoc framed.bytes (bytes_of behind.found) behind.rest);
            end = behind.end;
            ends = subst (λ (n : ℕ). EndsSo g behind.rest n behind.end) (omega (arith, length-append framed.bytes (bytes_of behind.found))) behind.ends;
          }
      by_front (front_there partial) reads = stops_here (EndsCut (start + 0)) (refl, (λ none. cc none), partial)
      by_front (bad_there bad) reads = stops_here (EndsBad (start + 0)) (refl, bad)

  -- all bytes can be read
  pub reads_some : (b : List ℕ) → (ops : List Op) × (end : End) × Reads g b ops end
  reads_some b =
      let r = reads_from (length b) 0 b (omega arith) in (
        ops_of r.found,
        r.end,
        record {
          found = r.found;
          are_frames = r.are_frames;
          ops_are = refl;
          rest = r.rest;
          split = r.split;
          ends = subst (λ (n : ℕ). EndsSo g r.rest n r.end) (omega arith) r.ends;
        },
      )

  -- how bytes end that begin a frame
  pub partial_end : (rest : List ℕ) (k : ℕ) → IsPartial g rest → (end : End) × EndsSo g rest k end × ((end ≡ Whole) ⊎ ((offset : ℕ) × (end ≡ EndsCut offset)))
  partial_end [] k partial = (Whole, refl, inl refl)
  partial_end (x ∷ rest) k partial = (EndsCut k, (refl, (λ none. cc none), partial), inr (k, refl))

-- of frames at the front of the same bytes there is one
pub frames_once : FramesOnce
frames_once f h r s p q is = let same = common_prefix Version2 f h r s p q is in (same.ops, same.rest)
