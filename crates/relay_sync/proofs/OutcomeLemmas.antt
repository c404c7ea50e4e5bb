-- What a reply comes to: exactly one end.
use Rattle.std.proofs.Common.{[], List, ap, append_assoc, arith, get_or, inl, inr, length, length-append, refl, subst, sym, take, ℕ, ◌++◌, ◌<◌, ◌≤◌, ◌∙◌, ◌∷◌, ◌≡◌, ◌≢◌, ◌⊎◌}
use Rattle.std.specs.Prelude.{All}
use Rattle.std.specs.Int.{from_be_bytes, w32}
use Rattle.std.proofs.lemmas.Bool.{cases_lt}
use Rattle.std.proofs.lemmas.List.{append-nil, take_all}
use Rattle.std.proofs.lemmas.List.Elements.{All-head, All-tail}
use Rattle.fugue_ids.specs.declared.limits.TheConstants.{STREAM_LIMIT}
use Rattle.fugue_ids.specs.declared.op.Op.{Op}
use Rattle.origin_model.specs.declared.grammar.Grammar.TheVariants.{Version2}
use Rattle.origin_model.specs.frames.Frames.{End as StreamEnd, Whole as EndsWhole, CutShort as EndsCutShort, BadFrame as EndsInBadFrame, EndsSo, Framed, IsFrame, Reads}
use Rattle.origin_model.specs.relay.Session.{refusal_message}
use Rattle.origin_model.specs.taking.Taking.{MeetsNoLimit, Held}
use Rattle.origin_model.proofs.SharedLemmas.{bytes_of, no_place_left, ops_of}
use Rattle.op_frame.specs.IntakeOutcomes.{IntakeOutcome, MeetsTooMany, Comes as StreamComes, Whole as StreamWhole}
use Rattle.op_frame.specs.IntakeOutcomes.{CutShort as StreamCut, BadFrame as StreamBad, TooLong as StreamLong}
use Rattle.op_frame.specs.IntakeOutcomes.{TooMany as StreamMany}
use Rattle.op_frame.proofs.CodeLemmas.{same_fronts}
use Rattle.op_frame.proofs.ComesLemmas.{comes_once, comes_some}
use Rattle.op_frame.proofs.FrontLemmas.{Front, bad_there, front_of, front_there as part_there, frame_there}
use Rattle.op_frame.proofs.ReadingLemmas.{begins_not_partial, framed_some, common_prefix, starts_more}
use Rattle.relay_sync.specs.Outcomes.{BeginsBytes, IsNoMessage, EndsReply, EndsTaking, ReadsReply, ReplyComes, ReplyEnd, Ended, Refused as EndsRefused, Bad, Cut, TooLong, TooMany}
use Rattle.relay_sync.specs.Replies.{End, IsCode, IsMessage, IsMessageFront, Message, Operations, Refusal, ending}
use Rattle.relay_sync.proofs.HearingLemmas.{IsLead, code_after, frame_front, leads, no_bytes, number_front, other_is_frame, other_is_partial, refusal_front}
use Rattle.fugue_ids.proofs.DecideLemmas.{both_decided, Decided, decided_by, equal_decided, less_decided}

-- at one place stands one message
record SameMessage (m n : Message) (r s : List ℕ) : Type 0 where
  message : m ≡ n
  behind : r ≡ s

same_message : (m n : Message) (a b r s : List ℕ) → IsMessage m a → IsMessage n b → a ++ r ≡ b ++ s → SameMessage m n r s
same_message m n a b r s p q is = by_kind m n p q (leads m a r p) (subst (λ (l : List ℕ). IsLead n (get_or l 0 0)) (sym is) (leads n b s q))
  where
    by_kind : (m n : Message) → IsMessage m a → IsMessage n b → IsLead m (get_or (a ++ r) 0 0) → IsLead n (get_or (a ++ r) 0 0) → SameMessage m n r s
    by_kind (Operations ops) (Operations others) p q f g =
        let same = common_prefix Version2 (record { bytes = a; ops = ops }) (record { bytes = b; ops = others }) r s p q is in
        record { message = ap Operations same.ops; behind = same.rest }
    by_kind (End count) (End number) p q f g =
        let whole : ending ∷ (p.0 ++ r) ≡ ending ∷ (q.0 ++ s) = ap (λ (l : List ℕ). l ++ r) (sym p.3) ∙ is ∙ ap (λ (l : List ℕ). l ++ s) q.3 in
        let tails : p.0 ++ r ≡ q.0 ++ s = cc whole in
        let both = same_fronts p.0 q.0 r s (p.1 ∙ sym q.1) tails in
        record { message = ap End (p.2 ∙ ap (from_be_bytes w32) both.0 ∙ sym q.2); behind = both.1 }
    by_kind (Refusal code) (Refusal other) p q f g =
        let whole : 0x58 ∷ code ∷ r ≡ 0x58 ∷ other ∷ s = ap (λ (l : List ℕ). l ++ r) (sym p.1) ∙ is ∙ ap (λ (l : List ℕ). l ++ s) q.1 in
        let one : code ≡ other = cc whole in
        let rest : r ≡ s = cc whole in
        record { message = ap Refusal one; behind = rest }
    by_kind (Operations ops) (End number) p q f g = absurd (omega (arith, f, g))
    by_kind (Operations ops) (Refusal other) p q f g = absurd (omega (arith, f, g))
    by_kind (End count) (Operations others) p q f g = absurd (omega (arith, f, g))
    by_kind (End count) (Refusal other) p q f g = absurd (omega (arith, f, g))
    by_kind (Refusal code) (Operations others) p q f g = absurd (omega (arith, f, g))
    by_kind (Refusal code) (End number) p q f g = absurd (omega (arith, f, g))

begins_once : (m n : Message) (bytes : List ℕ) → BeginsBytes m bytes → BeginsBytes n bytes → m ≡ n
begins_once m n bytes p q = (same_message m n p.whole q.whole p.behind q.behind p.is_message q.is_message (sym p.split ∙ q.split)).message

-- bytes that begin with a message are no proper front of one
pub begins_no_front : (m : Message) (bytes : List ℕ) → BeginsBytes m bytes → IsMessageFront bytes → ⊥
begins_no_front m bytes p f =
    let same = same_message m f.message p.whole f.whole (p.behind ++ f.more) [] p.is_message f.is_message
    (sym (append_assoc p.whole p.behind f.more) ∙ ap (λ (l : List ℕ). l ++ f.more) (sym p.split) ∙ sym f.front ∙ sym (append-nil f.whole)) in
    omega (arith, ap length same.behind, length-append p.behind f.more, f.lacks)

-- what stands at the front of any bytes: a message, a proper front of one, or neither
pub data Stand (bytes : List ℕ) : Type 0 where
  message_there : (message : Message) → BeginsBytes message bytes → Stand bytes
  front_there : IsMessageFront bytes → Stand bytes
  none_there : IsNoMessage bytes → Stand bytes

end_stand : (xs : List ℕ) → Stand (0x55 ∷ xs)
end_stand [] = front_there (number_front [] (0 ∷ 0 ∷ 0 ∷ 0 ∷ []) (omega arith) refl)
end_stand (a ∷ []) = front_there (number_front (a ∷ []) (0 ∷ 0 ∷ 0 ∷ []) (omega arith) refl)
end_stand (a ∷ b ∷ []) = front_there (number_front (a ∷ b ∷ []) (0 ∷ 0 ∷ []) (omega arith) refl)
end_stand (a ∷ b ∷ c ∷ []) = front_there (number_front (a ∷ b ∷ c ∷ []) (0 ∷ []) (omega arith) refl)
end_stand (a ∷ b ∷ c ∷ d ∷ more) =
    message_there (End (from_be_bytes w32 (a ∷ b ∷ c ∷ d ∷ [])))
    (record { whole = ending ∷ a ∷ b ∷ c ∷ d ∷ []; is_message = (a ∷ b ∷ c ∷ d ∷ [], refl, refl, refl); behind = more; split = refl })

refusal_stand : (xs : List ℕ) → Stand (0x58 ∷ xs)
refusal_stand [] = front_there refusal_front
refusal_stand (code ∷ more) =
    by_code (decided_by (both_decided (less_decided 0 code) (less_decided code 4)) (λ p. (omega (arith, p.0), omega (arith, p.1))) (λ p. (omega (arith, p.0), omega (arith, p.1))))
  where
    by_code : Decided (IsCode code) → Stand (0x58 ∷ code ∷ more)
    by_code (inl is) = message_there (Refusal code) (record { whole = refusal_message code; is_message = (is, refl); behind = more; split = refl })
    by_code (inr none) = none_there (record {
      none_begins = λ message p. none (code_after message p.whole p.behind code more p.is_message p.split);
      no_front = λ p. none (code_after p.message p.whole [] code (more ++ p.more) p.is_message (sym p.front ∙ sym (append-nil p.whole)));
    })

frame_stand : (x : ℕ) (xs : List ℕ) → x ≢ 0x55 → x ≢ 0x58 → Stand (x ∷ xs)
frame_stand x xs no_end no_refusal = by_front (front_of Version2 (x ∷ xs))
  where
    by_front : Front Version2 (x ∷ xs) → Stand (x ∷ xs)
    by_front (frame_there framed rest begins) =
        message_there (Operations framed.ops) (record { whole = framed.bytes; is_message = begins.is_frame; behind = rest; split = begins.split })
    by_front (part_there partial) = front_there (frame_front (x ∷ xs) partial)
    by_front (bad_there bad) = none_there (record {
      none_begins = λ message p.
          let f = other_is_frame message p.whole p.behind x xs no_end no_refusal p.is_message p.split in
          bad.no_frame (record { bytes = p.whole; ops = f.0 }) p.behind (record { is_frame = f.1; split = p.split });
      no_front = λ p. bad.no_front (other_is_partial x xs no_end no_refusal p);
    })

pub stand_of : (bytes : List ℕ) → Stand bytes
stand_of [] = front_there no_bytes
stand_of (x ∷ xs) = by_first (equal_decided x 0x55) (equal_decided x 0x58)
  where
    by_first : Decided (x ≡ 0x55) → Decided (x ≡ 0x58) → Stand (x ∷ xs)
    by_first (inl is) other = subst (λ (y : ℕ). Stand (y ∷ xs)) (sym is) (end_stand xs)
    by_first (inr no_end) (inl is) = subst (λ (y : ℕ). Stand (y ∷ xs)) (sym is) (refusal_stand xs)
    by_first (inr no_end) (inr no_refusal) = frame_stand x xs no_end no_refusal

-- the end that a message brings which is not taken in
abbrev end_at : Message → ReplyEnd
end_at (Operations ops) = TooMany
end_at (End count) = Ended count
end_at (Refusal code) = EndsRefused code

-- and the one that bytes bring which go no further
abbrev front_end : {size limit : ℕ} → ℕ → (size ≤ limit) ⊎ (limit < size) → ReplyEnd
front_end place (inl fits) = Cut place
front_end place (inr longer) = TooLong

-- so many bytes are within the limit of a stream, or they are not
fits_or_not : (size : ℕ) → (size ≤ STREAM_LIMIT) ⊎ (STREAM_LIMIT < size)
fits_or_not size = elim (cases_lt STREAM_LIMIT size) [ inl longer ↦ inr longer | inr fits ↦ inl fits ]

abbrev end_by : {size limit : ℕ} {bytes : List ℕ} → ℕ → (size ≤ limit) ⊎ (limit < size) → Stand bytes → ReplyEnd
end_by place fits (message_there message p) = end_at message
end_by place fits (front_there p) = front_end place fits
end_by place fits (none_there p) = Bad place

module _ (size place : ℕ) (rest : List ℕ) where
  by_message : (message : Message) (fits : (size ≤ STREAM_LIMIT) ⊎ (STREAM_LIMIT < size)) (stand : Stand rest) → BeginsBytes message rest → end_at message ≡ end_by place fits stand
  by_message message fits (message_there other q) p = ap end_at (begins_once message other rest p q)
  by_message message fits (front_there q) p = absurd (begins_no_front message rest p q)
  by_message message fits (none_there q) p = absurd (q.none_begins message p)

  by_rest : (fits : (size ≤ STREAM_LIMIT) ⊎ (STREAM_LIMIT < size)) (stand : Stand rest) → IsMessageFront rest → front_end place fits ≡ end_by place fits stand
  by_rest fits (message_there other q) p = absurd (begins_no_front other rest q p)
  by_rest fits (front_there q) p = refl
  by_rest fits (none_there q) p = absurd (q.no_front p)

  by_none : (fits : (size ≤ STREAM_LIMIT) ⊎ (STREAM_LIMIT < size)) (stand : Stand rest) → IsNoMessage rest → Bad place ≡ end_by place fits stand
  by_none fits (message_there other q) p = absurd (p.none_begins other q)
  by_none fits (front_there q) p = absurd (p.no_front q)
  by_none fits (none_there q) p = refl

  is_cut : (at : ℕ) (fits : (size ≤ STREAM_LIMIT) ⊎ (STREAM_LIMIT < size)) → at ≡ place → size ≤ STREAM_LIMIT → Cut at ≡ front_end place fits
  is_cut at (inl fits) is short = ap Cut is
  is_cut at (inr longer) is short = absurd (omega (arith, longer, short))

  is_long : (fits : (size ≤ STREAM_LIMIT) ⊎ (STREAM_LIMIT < size)) → STREAM_LIMIT < size → TooLong ≡ front_end place fits
  is_long (inl fits) long = absurd (omega (arith, fits, long))
  is_long (inr longer) long = refl

  -- what stands after the frames tells the end
  end_is : (end : ReplyEnd) (fits : (size ≤ STREAM_LIMIT) ⊎ (STREAM_LIMIT < size)) (stand : Stand rest) → EndsReply size place rest end → end ≡ end_by place fits stand
  end_is (Ended count) fits stand e = by_message (End count) fits stand e
  end_is (EndsRefused code) fits stand e = by_message (Refusal code) fits stand e
  end_is (Bad at) fits stand e = ap Bad e.0 ∙ by_none fits stand e.1
  end_is (Cut at) fits stand e = is_cut at fits e.0 e.1 ∙ by_rest fits stand e.2
  end_is TooLong fits stand e = is_long fits e.0 ∙ by_rest fits stand e.1
  end_is TooMany fits stand e = absurd e

  -- a frame ends nothing
  not_ended : (end : ReplyEnd) (ops : List Op) → EndsReply size place rest end → BeginsBytes (Operations ops) rest → ⊥
  not_ended (Ended count) ops e p =
      let same : End count ≡ Operations ops = begins_once (End count) (Operations ops) rest e p in
      cc same
  not_ended (EndsRefused code) ops e p =
      let same : Refusal code ≡ Operations ops = begins_once (Refusal code) (Operations ops) rest e p in
      cc same
  not_ended (Bad at) ops e p = e.1.none_begins (Operations ops) p
  not_ended (Cut at) ops e p = begins_no_front (Operations ops) rest p e.2
  not_ended TooLong ops e p = begins_no_front (Operations ops) rest p e.1
  not_ended TooMany ops e p = e

-- the first of some frames is the message that stands there
first_there : (f : Framed) (fs : List Framed) (b rest : List ℕ) → All (IsFrame Version2) (f ∷ fs) → b ≡ bytes_of (f ∷ fs) ++ rest → BeginsBytes (Operations f.ops) b
first_there f fs b rest are is = record {
  whole = f.bytes;
  is_message = All-head (IsFrame Version2) f fs are;
  behind = bytes_of fs ++ rest;
  split = is ∙ append_assoc f.bytes (bytes_of fs) rest;
}

-- two lists of frames at the front of the same bytes
record SameFrames (fs hs : List Framed) (r s : List ℕ) : Type 0 where
  bytes : bytes_of fs ≡ bytes_of hs
  ops : ops_of fs ≡ ops_of hs
  rest : r ≡ s

module _ (size : ℕ) (r s : List ℕ) where
  -- each goes up to an end
  same_frames : (fs hs : List Framed) (p q : ℕ) (end other : ReplyEnd) → All (IsFrame Version2) fs → All (IsFrame Version2) hs → EndsReply size p r end → EndsReply size q s other
      → bytes_of fs ++ r ≡ bytes_of hs ++ s → SameFrames fs hs r s
  same_frames [] [] p q end other are too e f is = record { bytes = refl; ops = refl; rest = is }
  same_frames [] (h ∷ hs) p q end other are too e f is = absurd (not_ended size p r end h.ops e (first_there h hs r s too is))
  same_frames (g ∷ fs) [] p q end other are too e f is = absurd (not_ended size q s other g.ops f (first_there g fs s r are (sym is)))
  same_frames (g ∷ fs) (h ∷ hs) p q end other are too e f is =
      let one = common_prefix Version2 g h (bytes_of fs ++ r) (bytes_of hs ++ s) (All-head (IsFrame Version2) g fs are) (All-head (IsFrame Version2) h hs too)
      (sym (append_assoc g.bytes (bytes_of fs) r) ∙ is ∙ append_assoc h.bytes (bytes_of hs) s) in
      let behind = same_frames fs hs p q end other (All-tail (IsFrame Version2) g fs are) (All-tail (IsFrame Version2) h hs too) e f one.rest in
      record { bytes = λ i. one.bytes i ++ behind.bytes i; ops = λ i. one.ops i ++ behind.ops i; rest = behind.rest }

  -- one goes up to an end: it has the operations of the other, and further ones
  first_frames : (fs hs : List Framed) (q : ℕ) (other : ReplyEnd) → All (IsFrame Version2) fs → All (IsFrame Version2) hs → EndsReply size q s other
      → bytes_of fs ++ r ≡ bytes_of hs ++ s
      → (more : List Op) × (ops_of hs ≡ ops_of fs ++ more)
  first_frames [] hs q other are too f is = (ops_of hs, refl)
  first_frames (g ∷ fs) [] q other are too f is = absurd (not_ended size q s other g.ops f (first_there g fs s r are (sym is)))
  first_frames (g ∷ fs) (h ∷ hs) q other are too f is =
      let one = common_prefix Version2 g h (bytes_of fs ++ r) (bytes_of hs ++ s) (All-head (IsFrame Version2) g fs are) (All-head (IsFrame Version2) h hs too)
      (sym (append_assoc g.bytes (bytes_of fs) r) ∙ is ∙ append_assoc h.bytes (bytes_of hs) s) in
      let behind = first_frames fs hs q other (All-tail (IsFrame Version2) g fs are) (All-tail (IsFrame Version2) h hs too) f one.rest in
      (behind.0, (λ i. sym one.ops i ++ behind.1 i) ∙ sym (append_assoc g.ops (ops_of fs) behind.0))

-- a reply is read in one way
pub reads_once : (bytes : List ℕ) (ops others : List Op) (end other : ReplyEnd) → ReadsReply bytes ops end → ReadsReply bytes others other → (ops ≡ others) × (end ≡ other)
reads_once bytes ops others end other p q =
    let size : ℕ = length bytes in
    let same = same_frames size p.rest q.rest p.found q.found (length (bytes_of p.found)) (length (bytes_of q.found)) end other p.are_frames q.are_frames p.ends q.ends
    (sym p.split ∙ q.split) in
    let moved = subst (λ (n : ℕ). EndsReply size n q.rest end) (ap length same.bytes) (subst (λ (l : List ℕ). EndsReply size (length (bytes_of p.found)) l end) same.rest p.ends) in
    let fits = fits_or_not size in
    let stand = stand_of q.rest in (
      p.ops_are ∙ same.ops ∙ sym q.ops_are,
      end_is size (length (bytes_of q.found)) q.rest end fits stand moved
          ∙ sym (end_is size (length (bytes_of q.found)) q.rest other fits stand q.ends),
    )

module _ (hold most : ℕ) (start : Held) (bytes : List ℕ) where
  -- what is read to an end comes to it, if all finds its place
  pub by_reading : (ops : List Op) (end : ReplyEnd) → ReadsReply bytes ops end → EndsTaking hold most start bytes ops end
  by_reading ops (Ended count) r = r
  by_reading ops (EndsRefused code) r = r
  by_reading ops (Bad at) r = r
  by_reading ops (Cut at) r = r
  by_reading ops TooLong r = r
  by_reading ops TooMany r = absurd r.ends

  read_or_met : (ops : List Op) (end : ReplyEnd) → EndsTaking hold most start bytes ops end
      → ReadsReply bytes ops end ⊎ ((end ≡ TooMany) × MeetsTooMany Version2 hold most start (take STREAM_LIMIT bytes) ops)
  read_or_met ops (Ended count) e = inl e
  read_or_met ops (EndsRefused code) e = inl e
  read_or_met ops (Bad at) e = inl e
  read_or_met ops (Cut at) e = inl e
  read_or_met ops TooLong e = inl e
  read_or_met ops TooMany e = inr (refl, e)

  -- where all finds its place, no operation is one too many
  not_both : (ops others : List Op) (end : ReplyEnd) → MeetsNoLimit hold most start ops → ReadsReply bytes ops end
      → MeetsTooMany Version2 hold most start (take STREAM_LIMIT bytes) others → ⊥
  not_both ops others end places q m =
      let s = starts_more Version2 (take STREAM_LIMIT bytes) m.earlier m.rest m.framed m.behind m.starts m.begins in
      let first = first_frames (length bytes) m.behind q.rest s.found q.found (length (bytes_of q.found)) end s.are_frames q.are_frames q.ends (sym s.split ∙ q.split) in
      let all : ops ≡ others ++ m.op ∷ (m.more ++ first.0) =
      q.ops_are ∙ first.1 ∙ ap (λ (l : List Op). l ++ first.0) (sym s.ops_are ∙ ap (λ (l : List Op). m.earlier ++ l) m.brings) ∙ regroup m.earlier m.front m.op m.more first.0
      ∙ ap (λ (l : List Op). l ++ m.op ∷ (m.more ++ first.0)) (sym m.taken) in
      no_place_left hold most start others (m.more ++ first.0) m.op (subst (MeetsNoLimit hold most start) all places) m.refused
    where
      regroup : (a b : List Op) (x : Op) (c d : List Op) → (a ++ (b ++ x ∷ c)) ++ d ≡ (a ++ b) ++ x ∷ (c ++ d)
      regroup a b x c d = simp append_assoc

  -- a reply comes to one end
  pub reply_comes_once : (ops others : List Op) (end other : ReplyEnd) → ReplyComes hold most start bytes ops end → ReplyComes hold most start bytes others other
      → (ops ≡ others) × (end ≡ other)
  reply_comes_once ops others end other p q = both (read_or_met ops end p.ends) (read_or_met others other q.ends)
    where
      both : ReadsReply bytes ops end ⊎ ((end ≡ TooMany) × MeetsTooMany Version2 hold most start (take STREAM_LIMIT bytes) ops)
          → ReadsReply bytes others other ⊎ ((other ≡ TooMany) × MeetsTooMany Version2 hold most start (take STREAM_LIMIT bytes) others) → (ops ≡ others) × (end ≡ other)
      both (inl a) (inl b) = reads_once bytes ops others end other a b
      both (inl a) (inr b) = absurd (not_both ops others end p.has_place a b.1)
      both (inr a) (inl b) = absurd (not_both others ops other q.has_place b a.1)
      both (inr a) (inr b) =
          let same = comes_once Version2 hold most start STREAM_LIMIT bytes ops others StreamMany StreamMany (record { has_place = p.has_place; ends = a.1 })
          (record { has_place = q.has_place; ends = b.1 }) in
          (same.0, a.0 ∙ sym b.0)

  -- no frame stands where a stream of frames ends
  no_frame_at : (rest : List ℕ) (place : ℕ) (end : StreamEnd) (ops : List Op) → EndsSo Version2 rest place end → BeginsBytes (Operations ops) rest → ⊥
  no_frame_at rest place EndsWhole ops ends p =
      omega (arith, framed_some Version2 (record { bytes = p.whole; ops = ops }) p.is_message, ap length (sym ends ∙ p.split), length-append p.whole p.behind)
  no_frame_at rest place (EndsCutShort k) ops ends p =
      begins_not_partial Version2 rest (record { bytes = p.whole; ops = ops }) p.behind (record { is_frame = p.is_message; split = p.split }) ends.2
  no_frame_at rest place (EndsInBadFrame k) ops ends p = ends.1.no_frame (record { bytes = p.whole; ops = ops }) p.behind (record { is_frame = p.is_message; split = p.split })

  -- the frames of a reply, and the rest after them
  reading : (ops : List Op) (end : StreamEnd) → Reads Version2 (take STREAM_LIMIT bytes) ops end → (other : ReplyEnd) × ReadsReply bytes ops other
  reading ops end r = by_stand (stand_of r.rest) (fits_or_not (length bytes))
    where
      place : ℕ
      place = length (bytes_of r.found)

      ended : (other : ReplyEnd) → EndsReply (length bytes) place r.rest other → (other : ReplyEnd) × ReadsReply bytes ops other
      ended other e = (other, record { found = r.found; are_frames = r.are_frames; ops_are = r.ops_are; rest = r.rest; split = r.split; ends = e })

      by_stand : Stand r.rest → (length bytes ≤ STREAM_LIMIT) ⊎ (STREAM_LIMIT < length bytes) → (other : ReplyEnd) × ReadsReply bytes ops other
      by_stand (front_there p) (inl short) = ended (Cut place) (refl, short, p)
      by_stand (front_there p) (inr longer) = ended TooLong (longer, p)
      by_stand (none_there p) fits = ended (Bad place) (refl, p)
      by_stand (message_there (End count) p) fits = ended (Ended count) p
      by_stand (message_there (Refusal code) p) fits = ended (EndsRefused code) p
      by_stand (message_there (Operations brought) p) fits = absurd (no_frame_at r.rest place end brought r.ends p)

  plainly : (ops : List Op) (end : StreamEnd) → MeetsNoLimit hold most start ops → Reads Version2 (take STREAM_LIMIT bytes) ops end
      → (ops : List Op) × (end : ReplyEnd) × ReplyComes hold most start bytes ops end
  plainly ops end places reads = let r = reading ops end reads in (ops, r.0, record { has_place = places; ends = by_reading ops r.0 r.1 })

  -- and to some end
  pub reply_comes_some : (ops : List Op) × (end : ReplyEnd) × ReplyComes hold most start bytes ops end
  reply_comes_some = let c = comes_some Version2 hold most start STREAM_LIMIT bytes in by_outcome c.0 c.1 c.2
    where
      whole : (ops : List Op) (end : StreamEnd) → length bytes ≤ STREAM_LIMIT → Reads Version2 bytes ops end → Reads Version2 (take STREAM_LIMIT bytes) ops end
      whole ops end fits reads = subst (λ (b : List ℕ). Reads Version2 b ops end) (sym (take_all STREAM_LIMIT bytes fits)) reads

      by_outcome : (ops : List Op) (outcome : IntakeOutcome) → StreamComes Version2 hold most start STREAM_LIMIT bytes ops outcome
          → (ops : List Op) × (end : ReplyEnd) × ReplyComes hold most start bytes ops end
      by_outcome ops StreamMany c = (ops, TooMany, record { has_place = c.has_place; ends = c.ends })
      by_outcome ops StreamWhole c = plainly ops EndsWhole c.has_place (whole ops EndsWhole c.ends.0 c.ends.1)
      by_outcome ops (StreamCut k) c = plainly ops (EndsCutShort k) c.has_place (whole ops (EndsCutShort k) c.ends.0 c.ends.1)
      by_outcome ops (StreamBad k) c = plainly ops (EndsInBadFrame k) c.has_place c.ends
      by_outcome ops StreamLong c = plainly ops c.ends.1.0 c.has_place c.ends.1.1
