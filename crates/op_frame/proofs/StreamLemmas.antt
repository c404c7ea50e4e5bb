-- What a caller of the reader concludes from its answers.
use Rattle.std.specs.Prelude.{◌≡◌, ℕ, ◌+◌, ◌-◌, ◌≤◌, All, List, [], ◌∷◌, ◌++◌, length, take, drop, Option, Some, None, Result, Ok, Err, IfSome, IfOk, IsErrOf, refl}
use Rattle.std.proofs.Common.{ap, sym, subst, ◌∙◌, arith, append_assoc, length-append}
use Rattle.std.specs.Io.KnownBytes.{prepend_known}
use Rattle.std.proofs.lemmas.Grind.{flat_map-append}
use Rattle.std.proofs.lemmas.List.{append-nil, flat_map_more, take-append-drop}
use Rattle.std.proofs.lemmas.List.Elements.{All-append, All-nil, All-push}
use Rattle.fugue_ids.specs.declared.op.Op.{Op}
use Rattle.outer_ports.specs.Sources.{SourceView}
use Rattle.origin_model.specs.declared.grammar.Grammar.{Grammar}
use Rattle.origin_model.specs.frames.Frames.{Framed, IsFrame, IsBad, End, Whole, CutShort as EndsCut, BadFrame as EndsBad, EndsSo, Reads}
use Rattle.origin_model.proofs.SharedLemmas.{frame_wide}
use Rattle.op_frame.specs.declared.fault.FrameFault.TheVariants.{BadFrame, CutShort, ReadFault, TooLong, NoMemory}
use Rattle.op_frame.specs.declared.fault.FrameFault.{FrameFault}
use Rattle.op_frame.specs.Readers.{FrameReading, to_give, ReadingAnswerIs, AreFirst, Chains, EndsBy, Follows, Gave, GaveFirst, GivesOperation, GivesInOrder, HasTodo, IsByReading}
use Rattle.op_frame.specs.Readers.{IsReadByBytes, Nexts, RisesByThree, answer_of_rest, given_with, held, raised_end, read}
use Rattle.op_frame.proofs.FrameLemmas.{bad_goes_on}
use Rattle.op_frame.proofs.ReadingLemmas.{bytes_of, ops_of, partial_end, reads_once, reads_some, starts_first}
use Rattle.op_frame.proofs.SpecifiedLemmas.{prepend_none, shows, some_is, take_past}
use Rattle.fugue_ids.proofs.JoinLemmas.{prepend_twice}

-- nothing was given yet
pub gave_none : (reader : FrameReading) (left : Option (List ℕ)) → reader.todo ≡ [] → reader.unread ≡ [] → reader.offset ≡ 0 → Gave left [] reader left
gave_none reader left todo none start = record {
  found = [];
  are_frames = All-nil (IsFrame reader.grammar);
  ops_are = todo;
  split = sym (prepend_none (to_give reader left) ∙ ap (λ (l : List ℕ). prepend_known l left) none ∙ prepend_none left);
  offset = start;
}

anything : (specified : Option (List ℕ)) → IfSome specified (λ bytes. Unit {0})
anything None = tt
anything (Some bytes) = tt

-- one operation more was given
pub gave_more : (specified : Option (List ℕ)) (ops : List Op) (op : Op) (old new : FrameReading) (before after : Option (List ℕ)) → new.grammar ≡ old.grammar
    → Gave specified ops old before
    → GivesOperation op old new before after
    → Gave specified (ops ++ op ∷ []) new after
gave_more specified ops op old new before after same so (held todo unread offset last left) = record {
  found = so.found;
  are_frames = subst (λ (g : Grammar). All (IsFrame g) so.found) (sym same) so.are_frames;
  ops_are = append_assoc ops (op ∷ []) new.todo ∙ ap (λ (l : List Op). ops ++ l) (sym todo) ∙ so.ops_are;
  split = so.split ∙ λ i. prepend_known (bytes_of so.found) (prepend_known (sym unread i) (sym left i));
  offset = offset ∙ so.offset;
}
gave_more specified ops op old new before after same so (read none framed is first moved offset last) =
    let bytes : bytes_of so.found ++ framed.bytes ≡ bytes_of (so.found ++ framed ∷ []) = flat_map_more (λ f. f.bytes) [] so.found framed in
    let given : ops ≡ ops_of so.found = sym (append-nil ops) ∙ ap (λ (l : List Op). ops ++ l) (sym none) ∙ so.ops_are in
    record {
      found = so.found ++ framed ∷ [];
      are_frames = subst (λ (g : Grammar). All (IsFrame g) (so.found ++ framed ∷ [])) (sym same) (All-push (IsFrame old.grammar) so.found framed so.are_frames is);
      ops_are = append_assoc ops (op ∷ []) new.todo ∙ (λ i. given i ++ sym first i) ∙ flat_map_more (λ f. f.ops) [] so.found framed;
      split = so.split ∙ ap (prepend_known (bytes_of so.found)) moved ∙ prepend_twice (bytes_of so.found) framed.bytes (to_give new after)
          ∙ ap (λ (l : List ℕ). prepend_known l (to_give new after)) bytes;
      offset = omega (arith, offset, so.offset, length-append (bytes_of so.found) framed.bytes, ap length bytes);
    }

-- the end of the rest is that of the whole
ends_raised : (g : Grammar) (rest : List ℕ) (k n : ℕ) (end : End) → EndsSo g rest k end → EndsSo g rest (n + k) (raised_end n end)
ends_raised g rest k n Whole ends = ends
ends_raised g rest k n (EndsCut j) ends = (ap (λ (m : ℕ). n + m) ends.0, ends.1, ends.2)
ends_raised g rest k n (EndsBad j) ends = (ap (λ (m : ℕ). n + m) ends.0, ends.1)

raised_none : (end : End) → end ≡ raised_end 0 end
raised_none Whole = refl
raised_none (EndsCut k) = let e : k ≡ 0 + k = omega arith in ap EndsCut e
raised_none (EndsBad k) = let e : k ≡ 0 + k = omega arith in ap EndsBad e

-- frames before bytes that are read
frames_before : (g : Grammar) (found : List Framed) (rest : List ℕ) (ops : List Op) (end : End) → All (IsFrame g) found → Reads g rest ops end
    → Reads g (bytes_of found ++ rest) (ops_of found ++ ops) (raised_end (length (bytes_of found)) end)
frames_before g found rest ops end are r =
    let bytes : bytes_of (found ++ r.found) ≡ bytes_of found ++ bytes_of r.found = flat_map-append (λ (f : Framed). f.bytes) found r.found in
    let long : length (bytes_of found) + length (bytes_of r.found) ≡ length (bytes_of (found ++ r.found)) =
    sym (length-append (bytes_of found) (bytes_of r.found)) ∙ ap length (sym bytes) in
    record {
      found = found ++ r.found;
      are_frames = All-append (IsFrame g) found r.found are r.are_frames;
      ops_are = ap (λ (l : List Op). ops_of found ++ l) r.ops_are ∙ sym (flat_map-append (λ (f : Framed). f.ops) found r.found);
      rest = r.rest;
      split = ap (λ (l : List ℕ). bytes_of found ++ l) r.split ∙ sym (append_assoc (bytes_of found) (bytes_of r.found) r.rest) ∙ ap (λ (l : List ℕ). l ++ r.rest) (sym bytes);
      ends = subst (λ (n : ℕ). EndsSo g r.rest n (raised_end (length (bytes_of found)) end)) long
          (ends_raised g r.rest (length (bytes_of r.found)) (length (bytes_of found)) end r.ends);
    }

-- one frame before bytes that are read
read_before : (g : Grammar) (framed : Framed) (rest : List ℕ) (ops : List Op) (end : End) → IsFrame g framed → Reads g rest ops end
    → Reads g (framed.bytes ++ rest) (framed.ops ++ ops) (raised_end (length framed.bytes) end)
read_before g framed rest ops end is r =
    let bytes : bytes_of (framed ∷ []) ≡ framed.bytes = append-nil framed.bytes in
    let ops_are : ops_of (framed ∷ []) ≡ framed.ops = append-nil framed.ops in
    subst (λ (l : List Op). Reads g (framed.bytes ++ rest) (l ++ ops) (raised_end (length framed.bytes) end)) ops_are
    (subst (λ (l : List ℕ). Reads g (l ++ rest) (ops_of (framed ∷ []) ++ ops) (raised_end (length l) end)) bytes
    (frames_before g (framed ∷ []) rest ops end (All-push (IsFrame g) [] framed (All-nil (IsFrame g)) is) r))

-- what stands before bytes that are specified
specified_after : (front : List ℕ) (specified : Option (List ℕ)) (bytes : List ℕ) → Some bytes ≡ prepend_known front specified → (rest : List ℕ) × (specified ≡ Some rest)
    × (bytes ≡ front ++ rest)
specified_after front None bytes is = absurd (cc is)
specified_after front (Some rest) bytes is = (rest, refl, cc is)

-- the operation that was given was the first still to be given
gave_first : (op : Op) (old new : FrameReading) (before after : Option (List ℕ)) (bytes : List ℕ) → new.grammar ≡ old.grammar → GivesOperation op old new before after
    → to_give old before ≡ Some bytes
    → GaveFirst op old new after bytes
gave_first op old new before after bytes same (held todo unread offset last left) specified = record {
  front = [];
  rest = bytes;
  split = refl;
  to_give_is = (λ i. prepend_known (unread i) (left i)) ∙ specified;
  first = λ todo_is end p later ends q.
      let both = reads_once old.grammar bytes p.behind q.behind end ends p.reads (subst (λ (g : Grammar). Reads g bytes q.behind ends) same q.reads) in
      (p.todo_is ∙ (λ i. todo i ++ both.0 i) ∙ ap (λ (l : List Op). op ∷ l) (sym q.todo_is), both.1 ∙ raised_none ends);
}
gave_first op old new before after bytes same (read none framed is ops moved offset last) specified =
    let there = specified_after framed.bytes (to_give new after) bytes (sym specified ∙ moved) in
    record {
      front = framed.bytes;
      rest = there.0;
      split = there.2;
      to_give_is = there.1;
      first = λ todo end p later ends q.
          let whole = read_before old.grammar framed there.0 q.behind ends is (subst (λ (g : Grammar). Reads g there.0 q.behind ends) same q.reads) in
          let both = reads_once old.grammar bytes p.behind (framed.ops ++ q.behind) end (raised_end (length framed.bytes) ends) p.reads
          (subst (λ (l : List ℕ). Reads old.grammar l (framed.ops ++ q.behind) (raised_end (length framed.bytes) ends)) (sym there.2) whole) in (
            p.todo_is ∙ ap (λ (l : List Op). l ++ p.behind) none ∙ both.0 ∙ ap (λ (l : List Op). l ++ q.behind) ops ∙ ap (λ (l : List Op). op ∷ l) (sym q.todo_is),
            both.1,
          );
    }

-- the place rises
pub rises : (op : Op) (old new : FrameReading) (before after : Option (List ℕ)) → GivesOperation op old new before after → RisesByThree old new
rises op old new before after (held todo unread offset last left) = omega (arith, ap length todo, offset)
rises op old new before after (read none framed is ops moved offset last) = omega (arith, frame_wide old.grammar framed is, ap length ops, ap length none, offset)

-- the operations given, the rest after them, and how it ends
gave_reads : (specified : Option (List ℕ)) (ops : List Op) (reader : FrameReading) (left : Option (List ℕ)) (so : Gave specified ops reader left) → reader.todo ≡ []
    → (rest : List ℕ) (end : End)
    → EndsSo reader.grammar rest reader.offset end → Reads reader.grammar (bytes_of so.found ++ rest) ops end
gave_reads specified ops reader left so none rest end ends = record {
  found = so.found;
  are_frames = so.are_frames;
  ops_are = sym (append-nil ops) ∙ ap (λ (l : List Op). ops ++ l) (sym none) ∙ so.ops_are;
  rest = rest;
  split = refl;
  ends = subst (λ (n : ℕ). EndsSo reader.grammar rest n end) so.offset ends;
}

-- what was given are the first operations of the whole
gave_are_first : (specified : Option (List ℕ)) (ops : List Op) (reader : FrameReading) (left : Option (List ℕ)) → Gave specified ops reader left
    → IfSome specified (AreFirst reader.grammar ops)
gave_are_first specified ops reader left so = shows (AreFirst reader.grammar ops) (bytes_of so.found) (to_give reader left) specified so.split (λ rest is all end reads.
    let first = starts_first reader.grammar (bytes_of so.found ++ rest) (ops_of so.found) rest all end
    (record { found = so.found; are_frames = so.are_frames; ops_are = refl; split = refl }) reads in
    (reader.todo ++ first.0, first.1 ∙ ap (λ (l : List Op). l ++ first.0) (sym so.ops_are) ∙ append_assoc ops reader.todo first.0))

module _ (specified : Option (List ℕ)) (ops : List Op) (old new : FrameReading) (before after : SourceView) (so : Gave specified ops old before.left) where
  -- where the answer does not move the reader
  gave_on : new.grammar ≡ old.grammar → new.todo ≡ old.todo → new.offset ≡ old.offset → to_give old before.left ≡ to_give new after.left → Gave specified ops new after.left
  gave_on grammar todo at same = record {
    found = so.found;
    are_frames = subst (λ (g : Grammar). All (IsFrame g) so.found) (sym grammar) so.are_frames;
    ops_are = ap (λ (l : List Op). ops ++ l) todo ∙ so.ops_are;
    split = so.split ∙ ap (prepend_known (bytes_of so.found)) same;
    offset = at ∙ so.offset;
  }

  -- what an answer of the reader says of the whole stream
  whole : (result : Result (Option Op) FrameFault) (by : IsReadByBytes result) → old.todo ≡ [] → Nexts old new before after result
      → ((rest : List ℕ) → ReadingAnswerIs old.grammar result old.offset (old.limit - old.offset) rest → EndsBy old.grammar old.limit ops result (bytes_of so.found ++ rest))
      → IfSome specified (EndsBy old.grammar old.limit ops result)
  whole result by none step ends = shows (EndsBy old.grammar old.limit ops result) (bytes_of so.found) (to_give old before.left) specified so.split
      (λ rest is. ends rest (((some_is _ (to_give old before.left) rest (step.answer none) is).exactly by result by).0 refl))

  -- the frames given, with the rest up to the limit
  up_to : (rest : List ℕ) (end : End) → old.offset ≤ old.limit → Reads old.grammar (bytes_of so.found ++ take (old.limit - old.offset) rest) ops end
      → Reads old.grammar (take old.limit (bytes_of so.found ++ rest)) ops end
  up_to rest end inside reads = subst (λ (l : List ℕ). Reads old.grammar l ops end) (sym (take_past (bytes_of so.found) rest old.limit old.offset so.offset inside)) reads

  reads_here : old.todo ≡ [] → (rest : List ℕ) (end : End) → EndsSo old.grammar rest old.offset end → Reads old.grammar (bytes_of so.found ++ rest) ops end
  reads_here none = gave_reads specified ops old before.left so none

  ends_by : (result : Result (Option Op) FrameFault) → Nexts old new before after result → IfSome specified (EndsBy old.grammar old.limit ops result)
  ends_by (Ok (Some op)) step = anything specified
  ends_by (Ok None) step = whole (Ok None) tt step.advances.stays.none_before step (λ rest none. (
    omega (arith, ap length none, length-append (bytes_of so.found) rest, so.offset, step.advances.inside),
    reads_here step.advances.stays.none_before rest Whole none,
  ))
  ends_by (Err (CutShort k)) step = whole (Err (CutShort k)) tt step.advances.stays.none_before step (λ rest cut. (
    omega (arith, cut.2, length-append (bytes_of so.found) rest, so.offset, step.advances.inside),
    reads_here step.advances.stays.none_before rest (EndsCut k) (cut.0, cut.1, cut.3),
  ))
  ends_by (Err (BadFrame k)) step = whole (Err (BadFrame k)) tt step.advances.stays.none_before step (λ rest bad.
      let room : ℕ = old.limit - old.offset in (
        up_to rest (EndsBad k) (omega (arith, step.advances.inside)) (reads_here step.advances.stays.none_before (take room rest) (EndsBad k) bad),
        reads_here step.advances.stays.none_before rest (EndsBad k)
            (bad.0, subst (IsBad old.grammar) (take-append-drop room rest) (bad_goes_on old.grammar (take room rest) (drop room rest) bad.1)),
      ))
  ends_by (Err TooLong) step = whole (Err TooLong) tt step.advances.stays.none_before step (λ rest long.
      let inside : old.offset ≤ old.limit = omega (arith, step.advances.inside) in
      let ends = partial_end old.grammar (take (old.limit - old.offset) rest) old.offset long.1 in (
        omega (arith, long.0, so.offset, inside, length-append (bytes_of so.found) rest),
        (ends.0, up_to rest ends.0 inside (reads_here step.advances.stays.none_before (take (old.limit - old.offset) rest) ends.0 ends.1), ends.2),
      ))
  ends_by (Err ReadFault) step = anything specified
  ends_by (Err NoMemory) step = anything specified

  gave_with : (result : Result (Option Op) FrameFault) → Nexts old new before after result → (IsErrOf result TooLong → ⊥) → Gave specified (given_with ops result) new after.left
  gave_with (Ok (Some op)) step other = gave_more specified ops op old new before.left after.left step.advances.grammar so step.gives
  gave_with (Ok None) step other = let a = step.advances in gave_on a.grammar (a.stays.none_after ∙ sym a.stays.none_before) a.stays.offset step.moves.2
  gave_with (Err (CutShort k)) step other = let a = step.advances in gave_on a.grammar (a.stays.none_after ∙ sym a.stays.none_before) a.stays.offset step.moves.0
  gave_with (Err (BadFrame k)) step other = let a = step.advances in gave_on a.grammar (a.stays.none_after ∙ sym a.stays.none_before) a.stays.offset step.moves
  gave_with (Err TooLong) step other = absurd (other refl)
  gave_with (Err ReadFault) step other = let a = step.advances in gave_on a.grammar (a.stays.none_after ∙ sym a.stays.none_before) a.stays.offset step.moves
  gave_with (Err NoMemory) step other = let a = step.advances in gave_on a.grammar (a.stays.none_after ∙ sym a.stays.none_before) a.stays.offset step.moves

  first_with : (result : Result (Option Op) FrameFault) → Nexts old new before after result → IfSome specified (AreFirst old.grammar (given_with ops result))
  first_with (Ok (Some op)) step =
      subst (λ (g : Grammar). IfSome specified (AreFirst g (ops ++ op ∷ []))) step.advances.grammar
      (gave_are_first specified (ops ++ op ∷ []) new after.left (gave_more specified ops op old new before.left after.left step.advances.grammar so step.gives))
  first_with (Ok None) step = gave_are_first specified ops old before.left so
  first_with (Err e) step = gave_are_first specified ops old before.left so

  pub follows : (result : Result (Option Op) FrameFault) → Nexts old new before after result → Follows specified ops old new after result
  follows result step = record { gave = gave_with result step; first = first_with result step; ends = ends_by result step }

-- the chain of a reader's answers
pub chains : (old new : FrameReading) (before after : SourceView) (result : Result (Option Op) FrameFault) → Nexts old new before after result → Chains old new before after result
chains old new before after result step specified ops so = follows specified ops old new before after so result step

-- what holds of bytes that are specified, wherever they are
if_specified : (specified : Option (List ℕ)) (P : List ℕ → Type 0) → ((bytes : List ℕ) → specified ≡ Some bytes → P bytes) → IfSome specified P
if_specified None P is = tt
if_specified (Some bytes) P is = is bytes refl

module _ (old new : FrameReading) (before after : SourceView) where
  -- where an end stands at once, no operation is read
  none_read : (bytes : List ℕ) (end own : End) (todo : List Op) → old.todo ≡ [] → EndsSo old.grammar bytes 0 own → HasTodo old bytes todo end → (todo ≡ []) × (end ≡ own)
  none_read bytes end own todo none ends h =
      let here : Reads old.grammar bytes [] own = record { found = []; are_frames = All-nil (IsFrame old.grammar); ops_are = refl; rest = bytes; split = refl; ends = ends } in
      let both = reads_once old.grammar bytes h.behind [] end own h.reads here in
      (h.todo_is ∙ (λ i. none i ++ both.0 i), both.1)

  answer_is : (todo : List Op) (end own : End) (result : Result (Option Op) FrameFault) → result ≡ answer_of_rest old.offset [] own → (todo ≡ []) × (end ≡ own)
      → result ≡ answer_of_rest old.offset todo end
  answer_is todo end own result is both = is ∙ λ i. answer_of_rest old.offset (sym both.0 i) (sym both.1 i)

  by_reading : (result : Result (Option Op) FrameFault) → Nexts old new before after result → IsByReading result → (bytes : List ℕ) → to_give old before.left ≡ Some bytes
      → (todo : List Op) (end : End)
      → HasTodo old bytes todo end → result ≡ answer_of_rest old.offset todo end
  by_reading (Ok (Some op)) step by bytes specified todo end h =
      let p = gave_first op old new before.left after.left bytes step.advances.grammar step.gives specified in
      let rest = reads_some new.grammar p.rest in
      let both = p.first todo end h (new.todo ++ rest.0) rest.1 (record { behind = rest.0; reads = rest.2; todo_is = refl }) in
      ap (λ (l : List Op). answer_of_rest old.offset l end) (sym both.0)
  by_reading (Ok None) step by bytes specified todo end h =
      let none = step.advances.stays.none_before in
      let is = ((some_is _ (to_give old before.left) bytes (step.answer none) specified).exactly tt (Ok None) tt).0 refl in
      answer_is todo end Whole (Ok None) refl (none_read bytes end Whole todo none is h)
  by_reading (Err (CutShort k)) step by bytes specified todo end h =
      let none = step.advances.stays.none_before in
      let is = ((some_is _ (to_give old before.left) bytes (step.answer none) specified).exactly tt (Err (CutShort k)) tt).0 refl in
      let at : k ≡ old.offset + 0 = omega (arith, is.0) in
      answer_is todo end (EndsCut 0) (Err (CutShort k)) (ap (λ (n : ℕ). Err (CutShort n)) at) (none_read bytes end (EndsCut 0) todo none (refl, is.1, is.3) h)
  by_reading (Err (BadFrame k)) step by bytes specified todo end h =
      let none = step.advances.stays.none_before in
      let room : ℕ = old.limit - old.offset in
      let is = ((some_is _ (to_give old before.left) bytes (step.answer none) specified).exactly tt (Err (BadFrame k)) tt).0 refl in
      let at : k ≡ old.offset + 0 = omega (arith, is.0) in
      let bad : IsBad old.grammar bytes = subst (IsBad old.grammar) (take-append-drop room bytes) (bad_goes_on old.grammar (take room bytes) (drop room bytes) is.1) in
      answer_is todo end (EndsBad 0) (Err (BadFrame k)) (ap (λ (n : ℕ). Err (BadFrame n)) at) (none_read bytes end (EndsBad 0) todo none (refl, bad) h)
  by_reading (Err TooLong) step by bytes specified todo end h = absurd by
  by_reading (Err ReadFault) step by bytes specified todo end h = absurd by
  by_reading (Err NoMemory) step by bytes specified todo end h = absurd by

  first_of : (result : Result (Option Op) FrameFault) → Nexts old new before after result
      → IfOk result (λ given. IfSome given (λ op. IfSome (to_give old before.left) (GaveFirst op old new after.left)))
  first_of (Ok (Some op)) step =
      if_specified (to_give old before.left) (GaveFirst op old new after.left)
      (λ bytes specified. gave_first op old new before.left after.left bytes step.advances.grammar step.gives specified)
  first_of (Ok None) step = tt
  first_of (Err e) step = tt

  rises_by : (result : Result (Option Op) FrameFault) → Nexts old new before after result → IfOk result (λ given. IfSome given (λ op. RisesByThree old new))
  rises_by (Ok (Some op)) step = rises op old new before.left after.left step.gives
  rises_by (Ok None) step = tt
  rises_by (Err e) step = tt

  -- what a call says of all that is still to be given
  pub in_order : (result : Result (Option Op) FrameFault) → Nexts old new before after result → GivesInOrder old new before after result
  in_order result step = record {
    first = first_of result step;
    rises = rises_by result step;
    exactly = λ by. if_specified (to_give old before.left) _ (λ bytes specified todo end h. by_reading result step by bytes specified todo end h);
    over = λ is. (subst (λ (r : Result (Option Op) FrameFault). Nexts old new before after r) is step).moves.1;
    memory = λ is.
        let wants = subst (λ (r : Result (Option Op) FrameFault). Nexts old new before after r) is step in
        let none = wants.advances.stays.none_before in
        (none, if_specified (to_give old before.left) _ (λ bytes specified. (some_is _ (to_give old before.left) bytes (wants.answer none) specified).memory refl));
  }
