-- Operations that are taken in one after another until their frames are written.
use Rattle.std.proofs.Common.{◌≡◌, ℕ, ◌+◌, ◌-◌, ◌<◌, ◌≤◌, List, [], ◌∷◌, ◌++◌, length, refl, ap, sym, subst, ◌∙◌, arith, append_assoc, append-nil, length-append}
use Rattle.std.specs.Prelude.{All, Bool, Option, Some, None, ◌^◌}
use Rattle.std.proofs.lemmas.List.Elements.{All-append, All-cons, All-nil}
use Rattle.fugue_ids.specs.declared.op.Op.{Op}
use Rattle.fugue_ids.specs.declared.op.Op.TheVariants.{Delete}
use Rattle.fugue_ids.specs.Identifiers.{Identifier}
use Rattle.op_runs.specs.Deletions.{deletes_by}
use Rattle.fugue_ids.specs.declared.run.RunStart.{RunStart}
use Rattle.fugue_ids.specs.Runs.{in_a_row, next_id, run_from, start_after, text_by, text_in}
use Rattle.fugue_ids.proofs.RunLemmas.{none_after}
use Rattle.origin_model.specs.frames.Frames.{HasFrame, frame}
use Rattle.origin_model.specs.frames.Framings.{frames}
use Rattle.op_frame.specs.OpenRuns.{Extends, ContinuesRun, IsCompleteRun, OpenRunFits, MakesRoom, TakesInOps, open_ops}
use Rattle.op_frame.proofs.GatherLemmas.{run-append}
use Rattle.op_frame.proofs.RunFrameLemmas.{deletes_first, deletes_then, done_then, other_then}

pub none_more : (bytes : List ℕ) → Extends bytes bytes
none_more bytes = ([], sym (append-nil bytes))

pub extends_then : (a b c : List ℕ) → Extends a b → Extends b c → Extends a c
extends_then a b c p q = (p.0 ++ q.0, q.1 ∙ ap (λ (l : List ℕ). l ++ q.0) p.1 ∙ append_assoc a p.0 q.0)

pub takes_none : (open_now : List Op) (bytes : List ℕ) → TakesInOps open_now open_now bytes bytes []
takes_none open_now bytes = record { frames_are = λ rest. refl; have_frames = λ rest all. all; extends = none_more bytes }

pub takes_then : (a b c : List Op) (x y z : List ℕ) (ops more : List Op) → TakesInOps a b x y ops → TakesInOps b c y z more → TakesInOps a c x z (ops ++ more)
takes_then a b c x y z ops more p q = record {
  frames_are = λ rest. ap (λ (l : List Op). x ++ frames (a ++ l)) (append_assoc ops more rest) ∙ p.frames_are (more ++ rest) ∙ q.frames_are rest;
  have_frames = λ rest all. subst (λ (l : List Op). All HasFrame (a ++ l)) (sym (append_assoc ops more rest)) (p.have_frames (more ++ rest) (q.have_frames rest all));
  extends = extends_then x y z p.extends q.extends;
}

is_short : (opened : Option RunStart) (text : List ℕ) → OpenRunFits opened text → length text ≤ 1024
is_short None text is = omega (arith, ap length is)
is_short (Some start) text is = is.0

-- nothing goes on with no run
pub none_done : (text : List ℕ) (ops : List Op) → IsCompleteRun None text ops
none_done text ops next ch more is goes = goes

-- an operation that is no Text goes on with none
pub other_done : (opened : Option RunStart) (text : List ℕ) (op : Op) (rest : List Op) → text_in op ≡ None → IsCompleteRun opened text (op ∷ rest)
other_done opened text op rest other next ch more is goes =
    let same : op ≡ text_by next ch = cc is in
    cc (sym other ∙ ap text_in same)

-- the run was closed, and operations after it were written that go on with nothing
pub closes_then : (opened : Option RunStart) (text : List ℕ) (old mid new : List ℕ) (ops : List Op) → OpenRunFits opened text
    → ((rest : List Op) → IsCompleteRun opened text (ops ++ rest))
    → ((rest : List Op) → frames (ops ++ rest) ≡ frames ops ++ frames rest)
    → All HasFrame (open_ops opened text) → mid ≡ old ++ frames (open_ops opened text) → All HasFrame ops → new ≡ mid ++ frames ops
    → TakesInOps (open_ops opened text) [] old new ops
closes_then opened text old mid new ops is done apart has written have more = record {
  frames_are = λ rest.
      ap (λ (l : List ℕ). old ++ l) (done_then opened text (ops ++ rest) (is_short opened text is) (done rest)
      ∙ ap (λ (l : List ℕ). frames (open_ops opened text) ++ l) (apart rest))
      ∙ sym (append_assoc old (frames (open_ops opened text)) (frames ops ++ frames rest))
      ∙ ap (λ (l : List ℕ). l ++ (frames ops ++ frames rest)) (sym written)
      ∙ sym (append_assoc mid (frames ops) (frames rest))
      ∙ ap (λ (l : List ℕ). l ++ frames rest) (sym more);
  have_frames = λ rest all. All-append HasFrame (open_ops opened text) (ops ++ rest) has (All-append HasFrame ops rest have all);
  extends = extends_then old mid new (frames (open_ops opened text), written) (frames ops, more);
}

-- the run is one that the Text goes on with
pub has_room : (opened : Option RunStart) (text : List ℕ) (next : RunStart) (bytes : List ℕ) → OpenRunFits opened text → ContinuesRun opened text next
    → MakesRoom opened text opened text next bytes bytes
has_room opened text next bytes is goes = record { is_open = is; goes_on = goes; frames_are = λ ch rest. refl; have_frames = λ rest all. all; extends = none_more bytes }

-- the run was closed, and another begins
pub begins : (opened : Option RunStart) (text : List ℕ) (next : RunStart) (old new : List ℕ) → OpenRunFits opened text → (ContinuesRun opened text next → ⊥)
    → next.id.counter < 2 ^ 32
    → All HasFrame (open_ops opened text) → new ≡ old ++ frames (open_ops opened text) → MakesRoom opened text (Some next) [] next old new
begins opened text next old new is apart fits has written = record {
  is_open = (omega arith, omega (arith, fits));
  goes_on = (first_is, omega arith);
  frames_are = λ ch rest.
      ap (λ (l : List ℕ). old ++ l) (done_then opened text (text_by next ch ∷ rest) (is_short opened text is) (done ch rest))
      ∙ sym (append_assoc old (frames (open_ops opened text)) (frames (text_by next ch ∷ rest)))
      ∙ ap (λ (l : List ℕ). l ++ frames (text_by next ch ∷ rest)) (sym written);
  have_frames = λ rest all. All-append HasFrame (open_ops opened text) rest has all;
  extends = (frames (open_ops opened text), written);
}
  where
    done : (ch : ℕ) (rest : List Op) → IsCompleteRun opened text (text_by next ch ∷ rest)
    done ch rest other c more same goes = apart (subst (ContinuesRun opened text) (sym (same_start same)) goes)
      where
        same_start : text_by next ch ∷ rest ≡ text_by other c ∷ more → next ≡ other
        same_start same =
            let op : text_by next ch ≡ text_by other c = cc same in
            let e0 : next.id ≡ other.id = cc op in
            let e1 : next.section ≡ other.section = cc op in
            let e2 : next.left ≡ other.left = cc op in
            let e3 : next.right ≡ other.right = cc op in
            λ i. record { id = e0 i; section = e1 i; left = e2 i; right = e3 i }

    first_is : next ≡ start_after next 0
    first_is = λ i. record { id = sym (none_after next.id) i; section = next.section; left = next.left; right = next.right }

-- Texts go to those of the run
pub goes_to : (opened : Option RunStart) (text : List ℕ) (next : RunStart) (more : List ℕ) → ContinuesRun opened text next
    → open_ops opened (text ++ more) ≡ open_ops opened text ++ run_from next more
goes_to None text next more goes = absurd goes
goes_to (Some start) text next more goes = run-append start text more ∙ ap (λ (s : RunStart). run_from start text ++ run_from s more) (sym goes.0)

-- as far as there is room
pub stays_open : (opened : Option RunStart) (text : List ℕ) (next : RunStart) (more : List ℕ) → OpenRunFits opened text → ContinuesRun opened text next
    → length more ≤ 1024 - length text
    → next.id.counter + length more ≤ 2 ^ 32 → OpenRunFits opened (text ++ more)
stays_open None text next more is goes room fits = absurd goes
stays_open (Some start) text next more is goes room fits = (
  omega (arith, is.0, room, length-append text more),
  omega (arith, fits, ap (λ (s : RunStart). s.id.counter) goes.0, length-append text more),
)

pub room_taken : (old_start new_start : Option RunStart) (old_text new_text : List ℕ) (next : RunStart) (old new more : List ℕ)
    → MakesRoom old_start old_text new_start new_text next old new → 0 < length more
    → TakesInOps (open_ops old_start old_text) (open_ops new_start (new_text ++ more)) old new (run_from next more)
room_taken old_start new_start old_text new_text next old new [] m some = absurd (omega (arith, some))
room_taken old_start new_start old_text new_text next old new (ch ∷ more) m some =
    let all : (rest : List Op) → open_ops new_start new_text ++ (run_from next (ch ∷ more) ++ rest) ≡ open_ops new_start (new_text ++ ch ∷ more) ++ rest
    = λ rest. sym (append_assoc (open_ops new_start new_text) (run_from next (ch ∷ more)) rest)
    ∙ ap (λ (l : List Op). l ++ rest) (sym (goes_to new_start new_text next (ch ∷ more) m.goes_on)) in
    record {
      frames_are = λ rest.
          m.frames_are ch (in_a_row (next_id next.id) next.section (Some next.id) next.right more ++ rest) ∙ ap (λ (l : List Op). new ++ frames l) (all rest);
      have_frames = λ rest have. m.have_frames (run_from next (ch ∷ more) ++ rest) (subst (All HasFrame) (sym (all rest)) have);
      extends = m.extends;
    }

-- all is taken in
pub takes_all : (open_now : List Op) (old bytes new : List ℕ) (ops : List Op) → TakesInOps [] open_now old bytes ops → new ≡ bytes ++ frames open_now → new ≡ old ++ frames ops
takes_all open_now old bytes new ops t is =
    is ∙ ap (λ (l : List Op). bytes ++ frames l) (sym (append-nil open_now)) ∙ sym (t.frames_are []) ∙ ap (λ (l : List Op). old ++ frames l) (append-nil ops)

pub all_have : (open_now : List Op) (old bytes : List ℕ) (ops : List Op) → TakesInOps [] open_now old bytes ops → All HasFrame open_now → All HasFrame ops
all_have open_now old bytes ops t have = subst (All HasFrame) (append-nil ops) (t.have_frames [] (subst (All HasFrame) (sym (append-nil open_now)) have))

pub room_there : (opened : Option RunStart) (text : List ℕ) (next : RunStart) → ContinuesRun opened text next → length text < 1024
room_there None text next goes = absurd goes
room_there (Some start) text next goes = goes.1

-- an operation that is no Text, after the run that was closed
pub other_taken : (opened : Option RunStart) (text : List ℕ) (old mid new : List ℕ) (op : Op) → OpenRunFits opened text → text_in op ≡ None
    → All HasFrame (open_ops opened text) → mid ≡ old ++ frames (open_ops opened text) → HasFrame op → new ≡ mid ++ frame op
    → TakesInOps (open_ops opened text) [] old new (op ∷ [])
other_taken opened text old mid new op is other has written have more =
    let alone : frames (op ∷ []) ≡ frame op = other_then op [] other ∙ append-nil (frame op) in
    closes_then opened text old mid new (op ∷ []) is (λ rest. other_done opened text op rest other)
    (λ rest. other_then op rest other ∙ ap (λ (l : List ℕ). l ++ frames rest) (sym alone)) has written (All-cons HasFrame op [] have (All-nil HasFrame))
    (more ∙ ap (λ (l : List ℕ). mid ++ l) (sym alone))

-- so are Deletes of neighbours
pub deletes_taken : (opened : Option RunStart) (text : List ℕ) (old mid new : List ℕ) (down : Bool) (target : Identifier) (n : ℕ) → OpenRunFits opened text → 0 < n
    → All HasFrame (open_ops opened text) → mid ≡ old ++ frames (open_ops opened text) → All HasFrame (deletes_by down target n) → new ≡ mid ++ frames (deletes_by down target n)
    → TakesInOps (open_ops opened text) [] old new (deletes_by down target n)
deletes_taken opened text old mid new down target n is some has written have more =
    closes_then opened text old mid new (deletes_by down target n) is
    (λ rest.
    let first = deletes_first down target n some rest in
    subst (IsCompleteRun opened text) (sym first.1) (other_done opened text (Delete target) first.0 refl))
    (deletes_then down target n) has written have more
