-- One step of the reader: what the unread bytes show of those that are to be read.
use Rattle.std.proofs.Common.{◌≡◌, ◌≢◌, ℕ, ◌+◌, ◌-◌, ◌<◌, ◌≤◌, Bool, false, List, [], ◌∷◌, ◌++◌, length, take, drop, refl, ap, sym, subst, ◌∙◌, ◌⊎◌, inl, inr, arith, append_assoc}
use Rattle.std.proofs.Common.{length-append, length-drop}
use Rattle.std.specs.Prelude.{Option, Some, None, Result, Ok, Err, IfSome, IfOk, IfErr, IsErrOf, slice_get}
use Rattle.std.specs.Io.KnownBytes.{prepend_known}
use Rattle.std.proofs.lemmas.List.{take_at, take-append-drop, length-take-le, append-nil}
use Rattle.fugue_ids.specs.declared.op.Op.{Op}
use Rattle.outer_ports.specs.Sources.{SourceView, KeepsCount}
use Rattle.outer_ports.proofs.CountLemmas.{count_so, count_then}
use Rattle.origin_model.specs.declared.grammar.Grammar.{Grammar}
use Rattle.origin_model.specs.frames.Frames.{Framed, IsBad, IsPartial}
use Rattle.op_frame.specs.FrameFronts.{AsksMemory, IsFrameOf}
use Rattle.op_frame.specs.Headers.{after_held, held_ops}
use Rattle.op_frame.specs.Readers.{ReadingAnswerIs, AnswersBy, CarriesOffset, Moves}
use Rattle.op_frame.specs.Refills.{Refills, Drops}
use Rattle.op_frame.specs.Steps.{TakesFrontFrame, TakesFirst, TakesFrame, TakesOff, only_op, taken_held, taken_length}
use Rattle.op_frame.specs.declared.fault.FrameFault.{FrameFault}
use Rattle.op_frame.specs.declared.fault.FrameFault.TheVariants.{BadFrame, CutShort, ReadFault, TooLong, NoMemory}
use Rattle.op_frame.specs.declared.step.Taken.{Taken}
use Rattle.op_frame.proofs.AnswerLemmas.{answers_by}
use Rattle.op_frame.proofs.DecodingLemmas.{same_meaning}
use Rattle.op_frame.proofs.FrameFrontLemmas.{frame_short}
use Rattle.op_frame.proofs.FrameLemmas.{bad_goes_on}
use Rattle.op_frame.proofs.SpecifiedLemmas.{shows, some_is, take_past}
use Rattle.fugue_ids.proofs.JoinLemmas.{prepend_twice}

-- where the reader stands within a call: nothing that was to be given is lost
pub record Stands (old unread : List ℕ) (before now : SourceView) (room : ℕ) : Type 0 where
  pub split : prepend_known old before.left ≡ prepend_known unread now.left
  pub inside : length unread ≤ room
  pub count : KeepsCount before now ⊥

first_stays : (b rest : List ℕ) (x : ℕ) → slice_get b 0 ≡ Some x → slice_get (b ++ rest) 0 ≡ Some x
first_stays [] rest x is = absurd (cc is)
first_stays (y ∷ b) rest x is = is

pub asks_too : (b rest : List ℕ) → AsksMemory b → AsksMemory (b ++ rest)
asks_too b rest (inl title) = inl (first_stays b rest 1 title)
asks_too b rest (inr body) = inr (first_stays b rest 5 body)

module _ (g : Grammar) (old unread : List ℕ) (before now : SourceView) (offset room : ℕ) (s : Stands old unread before now room) where
  answer : (result : Result (Option Op) FrameFault) → ((rest : List ℕ) → now.left ≡ Some rest → ReadingAnswerIs g result offset room (unread ++ rest))
      → IfSome (prepend_known old before.left) (AnswersBy g result offset room)
  answer result is = shows (AnswersBy g result offset room) unread now.left (prepend_known old before.left) s.split
      (λ rest left. answers_by g result offset room (unread ++ rest) (is rest left))

  -- an answer that is no fault of the source, by the bytes specified so far
  ends_so : (new : List ℕ) (result : Result (Option Taken) FrameFault) → ((rest : List ℕ) → now.left ≡ Some rest → ReadingAnswerIs g (only_op result) offset room (unread ++ rest))
      → CarriesOffset (only_op result) offset → IfOk result (λ given. IfSome given (λ taken. TakesFirst g taken old new before.left now.left))
      → Moves (only_op result) old new before.left now.left
      → length (after_held (taken_held result) new) + taken_length result ≤ room → (IsErrOf result TooLong → ⊥) → (IsErrOf result ReadFault → ⊥)
      → TakesFrontFrame g old new before now offset room result
  ends_so new result is at first moves within short no_fault = record {
    answer = answer (only_op result) is;
    at = at;
    first = first;
    moves = moves;
    within = within;
    full = λ long. absurd (short long);
    count = count_so ⊥ _ s.count no_fault (λ none. absurd none);
  }

  -- a frame stands at the front of the unread bytes
  gives : (new : List ℕ) (taken : Taken) (n : ℕ) → n ≤ length unread → IsFrameOf g (take n unread) → TakesOff taken unread new n
      → TakesFrontFrame g old new before now offset room (Ok (Some taken))
  gives new taken n whole f p =
      let framed : Framed = record { bytes = take n unread; ops = taken.op ∷ held_ops taken.held new } in
      let is = same_meaning g (take n unread) framed.ops f p.is_frame in
      let split : unread ≡ take n unread ++ drop n unread = sym (take-append-drop n unread) in
      let long : length (take n unread) ≡ n = length-take-le n unread whole in
      ends_so new (Ok (Some taken)) (λ rest left. record {
        framed = framed;
        is_frame = is;
        others = held_ops taken.held new;
        first = refl;
        within = omega (arith, long, whole, s.inside);
        rest = drop n unread ++ rest;
        split = ap (λ (l : List ℕ). l ++ rest) split ∙ append_assoc (take n unread) (drop n unread) rest;
      }) tt (record {
        framed = framed;
        is_frame = is;
        ops_are = refl;
        len = p.len ∙ sym long;
        split = s.split ∙ ap (λ (l : List ℕ). prepend_known l now.left) split ∙ sym (prepend_twice (take n unread) (drop n unread) now.left)
            ∙ ap (λ (l : List ℕ). prepend_known (take n unread) (prepend_known l now.left)) p.rest;
        held = p.held;
      }) tt (omega (arith, ap length p.rest, length-drop n unread, p.len, whole, s.inside)) (λ is. cc is) (λ is. cc is)

  -- no frame stands there, whatever follows
  pub refuses : IsBad g unread → TakesFrontFrame g old unread before now offset room (Err (BadFrame offset))
  refuses bad = ends_so unread (Err (BadFrame offset)) (λ rest is. (
    refl,
    subst (IsBad g) (sym (take_past unread rest room (length unread) refl s.inside)) (bad_goes_on g unread (take (room - length unread) rest) bad),
  )) refl tt s.split (omega (arith, s.inside)) (λ is. cc is) (λ is. cc is)

  -- a title or a body found no memory
  wants : (new : List ℕ) → new ≡ unread → AsksMemory unread → TakesFrontFrame g old new before now offset room (Err NoMemory)
  wants new same first =
      ends_so new (Err NoMemory) (λ rest is. asks_too unread rest first) tt tt (s.split ∙ ap (λ (l : List ℕ). prepend_known l now.left) (sym same))
      (omega (arith, s.inside, ap length same))
      (λ is. cc is) (λ is. cc is)

  -- the frame at the front was taken off, or found no memory
  pub takes_frame : (new : List ℕ) (n : ℕ) (result : Result (Option Taken) FrameFault) → n ≤ length unread → IsFrameOf g (take n unread) → TakesFrame unread new n result
      → TakesFrontFrame g old new before now offset room result
  takes_frame new n (Ok (Some taken)) whole f p = gives new taken n whole f p
  takes_frame new n (Ok None) whole f p = absurd p
  takes_frame new n (Err NoMemory) whole f p = wants new p.0 p.1
  takes_frame new n (Err (BadFrame k)) whole f p = absurd p
  takes_frame new n (Err (CutShort k)) whole f p = absurd p
  takes_frame new n (Err ReadFault) whole f p = absurd p
  takes_frame new n (Err TooLong) whole f p = absurd p

  -- the stream is over, and so are its frames, or it is over within one
  pub over : (result : Result (Option Taken) FrameFault) → IsPartial g unread → IfSome now.left (λ left. left ≡ []) → IfOk result (λ given. (given ≡ None) × (unread ≡ []))
      → IfErr result (λ e. (e ≡ CutShort offset) × (unread ≢ [])) → TakesFrontFrame g old unread before now offset room result
  over (Ok None) front none is cut =
      ends_so unread (Ok None) (λ rest left. (λ i. is.1 i ++ some_is (λ (l : List ℕ). l ≡ []) now.left rest none left i)) tt tt (is.1, none, s.split) (omega (arith, s.inside))
      (λ is. cc is) (λ is. cc is)
  over (Ok (Some taken)) front none is cut = absurd (cc is.0)
  over (Err e) front none is cut =
      subst (λ (fault : FrameFault). TakesFrontFrame g old unread before now offset room (Err fault)) (sym cut.0) (ends_so unread (Err (CutShort offset)) (λ rest left.
      let all : unread ≡ unread ++ rest = sym (append-nil unread) ∙ ap (λ (l : List ℕ). unread ++ l) (sym (some_is (λ (l : List ℕ). l ≡ []) now.left rest none left)) in
      subst (ReadingAnswerIs g (Err (CutShort offset)) offset room) all (refl, cut.1, s.inside, front)) refl tt (s.split, none) (omega (arith, s.inside)) (λ is. cc is)
      (λ is. cc is))

  more_there : (left : Option (List ℕ)) (rest : List ℕ) (byte : ℕ) → Some rest ≡ prepend_known (byte ∷ []) left → 0 < length rest
  more_there None rest byte is = absurd (cc is)
  more_there (Some l) rest byte is = let same : rest ≡ byte ∷ l = cc is in omega (arith, ap length same)

  read_is_long : (e : FrameFault) → ◌≡◌ {A = Result Bool FrameFault} (Err e) (Err ReadFault) → e ≡ TooLong → ⊥
  read_is_long e is long = cc (is, long)

  -- the source failed, or has more than the limit takes
  pub stops : (new : List ℕ) (after : SourceView) (e : FrameFault) → IsPartial g unread → Refills unread new now after (room - length unread) (Err e)
      → TakesFrontFrame g old new before after offset room (Err e)
  stops new after e front r = by_fault r.faults
    where
      by_fault : (e ≡ ReadFault) × (after.left ≡ now.left) ⊎ (e ≡ TooLong) × (room - length unread ≡ 0) × Drops now.left after.left
          → TakesFrontFrame g old new before after offset room (Err e)
      by_fault (inl f) = subst (λ (fault : FrameFault). TakesFrontFrame g old new before after offset room (Err fault)) (sym f.0) (record {
        answer = answer (Err ReadFault) (λ rest is. tt);
        at = tt;
        first = tt;
        moves = s.split ∙ (λ i. prepend_known (sym r.kept i) (sym f.1 i));
        within = omega (arith, s.inside, ap length r.kept);
        full = λ is. absurd (cc is);
        count = count_then _ s.count (count_so _ _ r.count (λ is. ap Err f.0) (λ is. refl));
      })
      by_fault (inr f) =
          let here : length unread ≡ room = omega (arith, s.inside, f.1) in
          subst (λ (fault : FrameFault). TakesFrontFrame g old new before after offset room (Err fault)) (sym f.0) (record {
            answer = answer (Err TooLong) (λ rest is. (
              omega (arith, here, more_there after.left rest f.2.byte (sym is ∙ f.2.dropped), length-append unread rest),
              subst (IsPartial g) (sym (take_at unread rest room here)) (front),
            ));
            at = tt;
            first = tt;
            moves = (
              f.2.byte,
              s.split ∙ ap (prepend_known unread) f.2.dropped ∙ prepend_twice unread (f.2.byte ∷ []) after.left
                  ∙ ap (λ (l : List ℕ). prepend_known (l ++ f.2.byte ∷ []) after.left) (sym r.kept),
            );
            within = omega (arith, s.inside, ap length r.kept);
            full = λ is. omega (arith, here, ap length r.kept);
            count = count_then _ s.count (count_so _ _ r.count (λ is. absurd (cc is)) (λ is. absurd (read_is_long e is f.0)));
          })

  -- the source took nothing from where the reader stands, or gave more
  pub at_last : (new : List ℕ) (after : SourceView) (more : ℕ) → Refills unread new now after more (Ok false) → Stands old new before after room
  at_last new after more r = record {
    split = s.split ∙ r.split;
    inside = omega (arith, s.inside, ap length r.grew);
    count = count_then ⊥ s.count (count_so _ ⊥ r.count (λ none. absurd none) (λ is. cc is));
  }

pub front_short : (g : Grammar) (b : List ℕ) → IsPartial g b → length b < 4096
front_short g b p = omega (arith, frame_short g p.framed p.is_frame, ap length p.front, length-append b p.more)
