-- What a stream comes to: exactly one end, and by which end a reader's answers and those of taking in show it.
use Rattle.std.proofs.Common.{◌≡◌, ℕ, ◌-◌, ◌<◌, ◌≤◌, List, [], ◌∷◌, ◌++◌, length, take, refl, ap, sym, subst, ◌∙◌, arith, append_assoc, length-append, inl, inr}
use Rattle.std.specs.Prelude.{◌⊎◌, All, Option, Some, None, IfSome, Result, Ok, Err}
use Rattle.std.proofs.lemmas.List.{take_all}
use Rattle.std.proofs.lemmas.Grind.{flat_map-append}
use Rattle.std.proofs.lemmas.List.Elements.{All-cons, All-head, All-nil, All-tail}
use Rattle.std.proofs.lemmas.Bool.{cases_order}
use Rattle.std.proofs.lemmas.Option.{IfSome_then}
use Rattle.fugue_ids.specs.declared.op.Op.{Op}
use Rattle.outer_ports.specs.Sources.{SourceView}
use Rattle.origin_model.specs.declared.grammar.Grammar.{Grammar}
use Rattle.origin_model.specs.frames.Frames.{End, Whole as EndsWhole, CutShort as EndsCutShort, BadFrame as EndsInBadFrame, Framed, IsFrame, Reads}
use Rattle.origin_model.specs.taking.Taking.{Held, MeetsNoLimit, TooMany as AnswersTooMany, answer, held_from, tally_from, no_counts}
use Rattle.origin_model.specs.declared.taking.Tally.{Tally}
use Rattle.origin_model.proofs.SharedLemmas.{Refused, held-append, no_place_left, places-append, places-none, same_refused, taken_or_refused}
use Rattle.op_frame.specs.declared.fault.FrameFault.{FrameFault}
use Rattle.op_frame.specs.declared.fault.FrameFault.TheVariants as frame_fault
use Rattle.op_frame.specs.Readers.{FrameReading, to_give, Follows, Gave, Nexts}
use Rattle.op_frame.specs.IntakeOutcomes.{IntakeOutcome, Whole, CutShort, BadFrame, TooLong, TooMany, MeetsTooMany, Ends, Comes}
use Rattle.op_frame.proofs.ReadingLemmas.{bytes_of, ops_of, reads_once, reads_some, starts_first, starts_more}
use Rattle.op_frame.proofs.StreamLemmas.{follows, gave_more}
use Rattle.op_frame.proofs.SpecifiedLemmas.{shows, take_past}

-- the outcome of a stream whose bytes up to the limit end so, by whether it is longer
abbrev outcome_by : {limit n : ℕ} → End → (n ≤ limit) ⊎ (limit < n) → IntakeOutcome
outcome_by (EndsInBadFrame k) long = BadFrame k
outcome_by EndsWhole (inl short) = Whole
outcome_by (EndsCutShort k) (inl short) = CutShort k
outcome_by end (inr long) = TooLong

module _ (g : Grammar) (hold most : ℕ) where
  -- an operation of the first frame, or of a later one, finds no place
  meets_here : (start : Held) (f : Framed) (b : List ℕ) → IsFrame g f → (r : Refused hold most start f.ops) → MeetsTooMany g hold most start (f.bytes ++ b) r.front
  meets_here start f b is r = record {
    earlier = [];
    rest = f.bytes ++ b;
    starts = record { found = []; are_frames = All-nil (IsFrame g); ops_are = refl; split = refl };
    framed = f;
    behind = b;
    begins = record { is_frame = is; split = refl };
    front = r.front;
    op = r.op;
    more = r.more;
    brings = r.is;
    taken = refl;
    refused = r.refused;
  }

  meets_later : (start : Held) (f : Framed) (b : List ℕ) (ops : List Op) → IsFrame g f → MeetsTooMany g hold most (held_from hold most start f.ops) b ops
      → MeetsTooMany g hold most start (f.bytes ++ b) (f.ops ++ ops)
  meets_later start f b ops is m = record {
    earlier = f.ops ++ m.earlier;
    rest = m.rest;
    starts = record {
      found = f ∷ m.starts.found;
      are_frames = All-cons (IsFrame g) f m.starts.found is m.starts.are_frames;
      ops_are = ap (λ (l : List Op). f.ops ++ l) m.starts.ops_are;
      split = ap (λ (l : List ℕ). f.bytes ++ l) m.starts.split ∙ sym (append_assoc f.bytes (bytes_of m.starts.found) m.rest);
    };
    framed = m.framed;
    behind = m.behind;
    begins = m.begins;
    front = m.front;
    op = m.op;
    more = m.more;
    brings = m.brings;
    taken = ap (λ (l : List Op). f.ops ++ l) m.taken ∙ sym (append_assoc f.ops m.earlier m.front);
    refused = ap (λ (s : Held). answer hold most s m.op) (sym (held-append hold most start f.ops ops)) ∙ m.refused;
  }

  -- the operations of frames all find their place, or a frame brings the first that finds none
  met_or_not : (start : Held) (found : List Framed) (rest : List ℕ) → All (IsFrame g) found
      → MeetsNoLimit hold most start (ops_of found) ⊎ ((ops : List Op) × MeetsNoLimit hold most start ops × MeetsTooMany g hold most start (bytes_of found ++ rest) ops)
  met_or_not start [] rest are = inl (places-none hold most start)
  met_or_not start (f ∷ found) rest are = elim (taken_or_refused hold most start f.ops) [
    | inr r ↦ inr (
      r.front,
      r.has_place,
      subst (λ (b : List ℕ). MeetsTooMany g hold most start b r.front) (sym (append_assoc f.bytes (bytes_of found) rest))
          (meets_here start f (bytes_of found ++ rest) (All-head (IsFrame g) f found are) r),
    )
    | inl places ↦ elim (met_or_not (held_from hold most start f.ops) found rest (All-tail (IsFrame g) f found are)) [
      | inl others ↦ inl (places-append hold most start f.ops (ops_of found) places others)
      | inr m ↦ inr (
        f.ops ++ m.0,
        places-append hold most start f.ops m.0 places m.1,
        subst (λ (b : List ℕ). MeetsTooMany g hold most start b (f.ops ++ m.0)) (sym (append_assoc f.bytes (bytes_of found) rest))
            (meets_later start f (bytes_of found ++ rest) m.0 (All-head (IsFrame g) f found are) m.2),
      )
    ]
  ]

module _ (g : Grammar) (hold most : ℕ) (start : Held) (limit : ℕ) (bytes : List ℕ) where
  fits_or_not : (n : ℕ) → (n ≤ limit) ⊎ (limit < n)
  fits_or_not n = elim (cases_order n limit) [ inl same ↦ inl (omega (arith, same)) | inr (inl less) ↦ inl (omega (arith, less)) | inr (inr more) ↦ inr more ]

  -- a stream comes to some end
  pub comes_some : (ops : List Op) × (outcome : IntakeOutcome) × Comes g hold most start limit bytes ops outcome
  comes_some =
      let r = reads_some g (take limit bytes) in
      elim (met_or_not g hold most start r.2.found r.2.rest r.2.are_frames) [
        | inl places ↦ by_end r.1 (subst (MeetsNoLimit hold most start) (sym r.2.ops_are) places) r.2 (fits_or_not (length bytes))
        | inr m ↦ (m.0, TooMany, record { has_place = m.1; ends = subst (λ (b : List ℕ). MeetsTooMany g hold most start b m.0) (sym r.2.split) m.2 })
      ]
    where
      by_end : {ops : List Op} (end : End) → MeetsNoLimit hold most start ops → Reads g (take limit bytes) ops end → (length bytes ≤ limit) ⊎ (limit < length bytes)
          → (ops : List Op) × (outcome : IntakeOutcome) × Comes g hold most start limit bytes ops outcome
      by_end {ops} EndsWhole places reads (inl fits) =
          (ops, Whole, record { has_place = places; ends = (fits, subst (λ (b : List ℕ). Reads g b ops EndsWhole) (take_all limit bytes fits) reads) })
      by_end {ops} EndsWhole places reads (inr longer) = (ops, TooLong, record { has_place = places; ends = (longer, (EndsWhole, reads, inl refl)) })
      by_end {ops} (EndsCutShort k) places reads (inl fits) =
          (ops, CutShort k, record { has_place = places; ends = (fits, subst (λ (b : List ℕ). Reads g b ops (EndsCutShort k)) (take_all limit bytes fits) reads) })
      by_end {ops} (EndsCutShort k) places reads (inr longer) = (ops, TooLong, record { has_place = places; ends = (longer, (EndsCutShort k, reads, inr (k, refl))) })
      by_end {ops} (EndsInBadFrame k) places reads fits = (ops, BadFrame k, record { has_place = places; ends = reads })

  -- what an end says of the reading of the bytes up to the limit
  abbrev IsPlain : (all : List Op) (end : End) → List Op → IntakeOutcome → Type 0
  IsPlain all end ops outcome = MeetsNoLimit hold most start all × (ops ≡ all) × (outcome ≡ outcome_by end (fits_or_not (length bytes)))

  abbrev IsRefused : (all : List Op) → List Op → IntakeOutcome → Type 0
  IsRefused all ops outcome = (r : Refused hold most start all) × (r.front ≡ ops) × (outcome ≡ TooMany)

  refused_of : (all : List Op) (end : End) (ops : List Op) → MeetsNoLimit hold most start ops → Reads g (take limit bytes) all end
      → MeetsTooMany g hold most start (take limit bytes) ops
      → IsRefused all ops TooMany
  refused_of all end ops places reads m =
      let first = starts_first g (take limit bytes) (m.earlier ++ m.framed.ops) m.behind all end
      (starts_more g (take limit bytes) m.earlier m.rest m.framed m.behind m.starts m.begins) reads in (
        record {
          front = ops;
          op = m.op;
          more = m.more ++ first.0;
          is = first.1 ∙ ap (λ (l : List Op). (m.earlier ++ l) ++ first.0) m.brings ∙ regroup m.earlier m.front m.op m.more first.0
              ∙ ap (λ (l : List Op). l ++ m.op ∷ (m.more ++ first.0)) (sym m.taken);
          has_place = places;
          refused = m.refused;
        },
        refl,
        refl,
      )
    where
      regroup : (a b : List Op) (x : Op) (c d : List Op) → (a ++ (b ++ x ∷ c)) ++ d ≡ (a ++ b) ++ x ∷ (c ++ d)
      regroup a b x c d = simp append_assoc

  short_outcome : (end : End) (outcome : IntakeOutcome) (d : (length bytes ≤ limit) ⊎ (limit < length bytes))
      → ((fits : length bytes ≤ limit) → outcome ≡ outcome_by end (inl fits))
      → length bytes ≤ limit
      → outcome ≡ outcome_by end d
  short_outcome end outcome (inl fits) is short = is fits
  short_outcome end outcome (inr longer) is short = absurd (omega (arith, longer, short))

  long_outcome : (end : End) (d : (length bytes ≤ limit) ⊎ (limit < length bytes)) → ((end ≡ EndsWhole) ⊎ ((offset : ℕ) × (end ≡ EndsCutShort offset))) → limit < length bytes
      → TooLong ≡ outcome_by end d
  long_outcome end (inl fits) well long = absurd (omega (arith, fits, long))
  long_outcome end (inr longer) (inl whole) long = ap (λ (e : End). outcome_by e (inr longer)) (sym whole)
  long_outcome end (inr longer) (inr cut) long = ap (λ (e : End). outcome_by e (inr longer)) (sym cut.1)

  plain : (all : List Op) (end : End) (ops : List Op) (outcome : IntakeOutcome) (own : End) → MeetsNoLimit hold most start ops → Reads g (take limit bytes) all end
      → Reads g (take limit bytes) ops own → outcome ≡ outcome_by own (fits_or_not (length bytes)) → IsPlain all end ops outcome ⊎ IsRefused all ops outcome
  plain all end ops outcome own places reads came is =
      let same = reads_once g (take limit bytes) ops all own end came reads in
      inl (subst (MeetsNoLimit hold most start) same.0 places, same.0, subst (λ (e : End). outcome ≡ outcome_by e (fits_or_not (length bytes))) same.1 is)

  plain_or_refused : (all : List Op) (end : End) (ops : List Op) (outcome : IntakeOutcome) → Reads g (take limit bytes) all end → Comes g hold most start limit bytes ops outcome
      → IsPlain all end ops outcome ⊎ IsRefused all ops outcome
  plain_or_refused all end ops Whole reads c =
      plain all end ops Whole EndsWhole c.has_place reads (subst (λ (b : List ℕ). Reads g b ops EndsWhole) (sym (take_all limit bytes c.ends.0)) c.ends.1)
      (short_outcome EndsWhole Whole (fits_or_not (length bytes)) (λ d. refl) c.ends.0)
  plain_or_refused all end ops (CutShort k) reads c =
      plain all end ops (CutShort k) (EndsCutShort k) c.has_place reads (subst (λ (b : List ℕ). Reads g b ops (EndsCutShort k)) (sym (take_all limit bytes c.ends.0)) c.ends.1)
      (short_outcome (EndsCutShort k) (CutShort k) (fits_or_not (length bytes)) (λ d. refl) c.ends.0)
  plain_or_refused all end ops (BadFrame k) reads c = plain all end ops (BadFrame k) (EndsInBadFrame k) c.has_place reads c.ends refl
  plain_or_refused all end ops TooLong reads c =
      plain all end ops TooLong c.ends.1.0 c.has_place reads c.ends.1.1 (long_outcome c.ends.1.0 (fits_or_not (length bytes)) c.ends.1.2 c.ends.0)
  plain_or_refused all end ops TooMany reads c = inr (refused_of all end ops c.has_place reads c.ends)

  -- a stream comes to one end
  pub comes_once : (ops others : List Op) (outcome other : IntakeOutcome) → Comes g hold most start limit bytes ops outcome → Comes g hold most start limit bytes others other
      → (ops ≡ others) × (outcome ≡ other)
  comes_once ops others outcome other p q =
      let r = reads_some g (take limit bytes) in
      both r.0 r.1 (plain_or_refused r.0 r.1 ops outcome r.2 p) (plain_or_refused r.0 r.1 others other r.2 q)
    where
      not_both : (all : List Op) → MeetsNoLimit hold most start all → Refused hold most start all → ⊥
      not_both all places r = no_place_left hold most start r.front r.more r.op (subst (MeetsNoLimit hold most start) r.is places) r.refused

      both : (all : List Op) (end : End) → IsPlain all end ops outcome ⊎ IsRefused all ops outcome → IsPlain all end others other ⊎ IsRefused all others other
          → (ops ≡ others) × (outcome ≡ other)
      both all end (inl a) (inl b) = (a.1 ∙ sym b.1, a.2 ∙ sym b.2)
      both all end (inl a) (inr b) = absurd (not_both all a.0 b.0)
      both all end (inr a) (inl b) = absurd (not_both all b.0 a.0)
      both all end (inr a) (inr b) = (sym a.1 ∙ same_refused hold most start all a.0 b.0 ∙ b.1, a.2 ∙ sym b.2)

-- an operation among those of frames: the frame that brings it
record Within (g : Grammar) (found : List Framed) (xs : List Op) (op : Op) : Type 0 where
  before : List Framed
  framed : Framed
  after : List Framed
  found_are : found ≡ before ++ framed ∷ after
  are_before : All (IsFrame g) before
  is_frame : IsFrame g framed
  -- its operations before this one, and after it
  front : List Op
  more : List Op
  brings : framed.ops ≡ front ++ op ∷ more
  taken : xs ≡ ops_of before ++ front

parted : (op : Op) (xs ys zs ws : List Op) → xs ++ op ∷ ys ≡ zs ++ ws
    → ((more : List Op) × (zs ≡ xs ++ op ∷ more)) ⊎ ((between : List Op) × (xs ≡ zs ++ between) × (between ++ op ∷ ys ≡ ws))
parted op xs ys [] ws same = inr (xs, refl, same)
parted op [] ys (z ∷ zs) ws same = let first : z ≡ op = sym (cc same) in inl (zs, λ i. first i ∷ zs)
parted op (x ∷ xs) ys (z ∷ zs) ws same =
    let first : x ≡ z = cc same in
    let others : xs ++ op ∷ ys ≡ zs ++ ws = cc same in
    elim (parted op xs ys zs ws others) [
      | inl p ↦ inl (p.0, λ i. sym first i ∷ p.1 i)
      | inr p ↦ inr (p.0, (λ i. first i ∷ p.1 i), p.2)
    ]

within : (g : Grammar) (found : List Framed) → All (IsFrame g) found → (xs : List Op) (op : Op) (ys : List Op) → xs ++ op ∷ ys ≡ ops_of found → Within g found xs op
within g [] are xs op ys same = absurd (omega (arith, ap length same, length-append xs (op ∷ ys)))
within g (f ∷ found) are xs op ys same =
    by_part (parted op xs ys f.ops (ops_of found) same) (λ between later. within g found (All-tail (IsFrame g) f found are) between op ys later)
  where
    by_part : ((more : List Op) × (f.ops ≡ xs ++ op ∷ more)) ⊎ ((between : List Op) × (xs ≡ f.ops ++ between) × (between ++ op ∷ ys ≡ ops_of found))
        → ((between : List Op) → between ++ op ∷ ys ≡ ops_of found → Within g found between op) → Within g (f ∷ found) xs op
    by_part (inl p) later = record {
      before = [];
      framed = f;
      after = found;
      found_are = refl;
      are_before = All-nil (IsFrame g);
      is_frame = All-head (IsFrame g) f found are;
      front = xs;
      more = p.0;
      brings = p.1;
      taken = refl;
    }
    by_part (inr p) later =
        let w = later p.0 p.2 in
        record {
          before = f ∷ w.before;
          framed = w.framed;
          after = w.after;
          found_are = ap (λ (fs : List Framed). f ∷ fs) w.found_are;
          are_before = All-cons (IsFrame g) f w.before (All-head (IsFrame g) f found are) w.are_before;
          is_frame = w.is_frame;
          front = w.front;
          more = w.more;
          brings = w.brings;
          taken = p.1 ∙ ap (λ (l : List Op). f.ops ++ l) w.taken ∙ sym (append_assoc f.ops (ops_of w.before) w.front);
        }

-- it finds no place
meets_within : (g : Grammar) (hold most : ℕ) (start : Held) (found : List Framed) (xs : List Op) (op : Op) (w : Within g found xs op) (bytes left : List ℕ)
    → bytes ≡ bytes_of found ++ left
    → answer hold most (held_from hold most start xs) op ≡ AnswersTooMany → MeetsTooMany g hold most start bytes xs
meets_within g hold most start found xs op w bytes left is many = record {
  earlier = ops_of w.before;
  rest = w.framed.bytes ++ (bytes_of w.after ++ left);
  starts = record {
    found = w.before;
    are_frames = w.are_before;
    ops_are = refl;
    split = is ∙ ap (λ (l : List ℕ). l ++ left) (ap bytes_of w.found_are ∙ flat_map-append (λ (f : Framed). f.bytes) w.before (w.framed ∷ w.after))
        ∙ regroup (bytes_of w.before) w.framed.bytes (bytes_of w.after) left;
  };
  framed = w.framed;
  behind = bytes_of w.after ++ left;
  begins = record { is_frame = w.is_frame; split = refl };
  front = w.front;
  op = op;
  more = w.more;
  brings = w.brings;
  taken = w.taken;
  refused = many;
}
  where
    regroup : (a b c d : List ℕ) → (a ++ (b ++ c)) ++ d ≡ a ++ (b ++ (c ++ d))
    regroup a b c d = simp append_assoc

-- of the bytes that were specified, the reader gave operations which all found their place: what they left, and their counts
pub record Fed (hold most : ℕ) (start : Held) (specified : Option (List ℕ)) (reader : FrameReading) (left : Option (List ℕ)) (state : Held) (counts : Tally) : Type 0 where
  pub ops : List Op
  pub gave : Gave specified ops reader left
  pub has_place : MeetsNoLimit hold most start ops
  pub state_is : state ≡ held_from hold most start ops
  pub counts_are : counts ≡ tally_from hold most start ops no_counts

module _ (hold most : ℕ) (start : Held) where
  module _ (specified : Option (List ℕ)) (old new : FrameReading) (before after : SourceView) (state : Held) (counts : Tally)
      (fed : Fed hold most start specified old before.left state counts) where
    after_it : (result : Result (Option Op) FrameFault) → Nexts old new before after result → Follows specified fed.ops old new after result
    after_it result nexts = follows specified fed.ops old new before after fed.gave result nexts

    came : (outcome : IntakeOutcome) (P : List ℕ → Type 0) → ((bytes : List ℕ) → P bytes → Ends old.grammar hold most start old.limit bytes fed.ops outcome) → IfSome specified P
        → IfSome specified (λ bytes. Comes old.grammar hold most start old.limit bytes fed.ops outcome)
    came outcome P ends is = IfSome_then specified is (λ bytes p. record { has_place = fed.has_place; ends = ends bytes p })

    -- the stream is over
    pub fed_whole : Nexts old new before after (Ok None) → IfSome specified (λ bytes. Comes old.grammar hold most start old.limit bytes fed.ops Whole)
    fed_whole nexts = came Whole _ (λ bytes is. is) (after_it (Ok None) nexts).ends

    -- the stream ends inside of a frame
    pub fed_cut : (k : ℕ) → Nexts old new before after (Err (frame_fault.CutShort k))
        → IfSome specified (λ bytes. Comes old.grammar hold most start old.limit bytes fed.ops (CutShort k))
    fed_cut k nexts = came (CutShort k) _ (λ bytes is. is) (after_it (Err (frame_fault.CutShort k)) nexts).ends

    -- no frame stands in the stream, up to its limit
    pub fed_bad : (k : ℕ) → Nexts old new before after (Err (frame_fault.BadFrame k))
        → IfSome specified (λ bytes. Comes old.grammar hold most start old.limit bytes fed.ops (BadFrame k))
    fed_bad k nexts = came (BadFrame k) _ (λ bytes is. is.0) (after_it (Err (frame_fault.BadFrame k)) nexts).ends

    -- the stream goes on after its limit, up to which it has no fault
    pub fed_long : Nexts old new before after (Err frame_fault.TooLong) → IfSome specified (λ bytes. Comes old.grammar hold most start old.limit bytes fed.ops TooLong)
    fed_long nexts = came TooLong _ (λ bytes is. is) (after_it (Err frame_fault.TooLong) nexts).ends

    -- the operation that was given finds no place
    pub fed_many : (op : Op) → Nexts old new before after (Ok (Some op)) → answer hold most state op ≡ AnswersTooMany
        → IfSome specified (λ bytes. Comes old.grammar hold most start old.limit bytes fed.ops TooMany)
    fed_many op nexts many =
        let g : Grammar = old.grammar in
        let gave = gave_more specified fed.ops op old new before.left after.left nexts.advances.grammar fed.gave nexts.gives in
        let are : All (IsFrame g) gave.found = subst (λ (h : Grammar). All (IsFrame h) gave.found) nexts.advances.grammar gave.are_frames in
        let w = within g gave.found are fed.ops op new.todo (sym (append_assoc fed.ops (op ∷ []) new.todo) ∙ gave.ops_are) in
        shows (λ bytes. Comes g hold most start old.limit bytes fed.ops TooMany) (bytes_of gave.found) (to_give new after.left) specified gave.split (λ rest _. record {
          has_place = fed.has_place;
          ends = meets_within g hold most start gave.found fed.ops op w (take old.limit (bytes_of gave.found ++ rest)) (take (old.limit - new.offset) rest)
              (take_past (bytes_of gave.found) rest old.limit new.offset gave.offset (omega (arith, nexts.advances.within, nexts.advances.limit)))
              (ap (λ (s : Held). answer hold most s op) (sym fed.state_is) ∙ many);
        })
