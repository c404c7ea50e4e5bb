-- What a reader's answers say of a piece in memory.
use Rattle.std.proofs.Common.{◌≡◌, inl, inr, ℕ, ◌<◌, List, [], ◌∷◌, ◌++◌, length, drop, refl, ap, sym, subst, ◌∙◌, arith, append_assoc, length-append}
use Rattle.std.specs.Prelude.{All, Option, Some, None, IfSome, Result, Ok, Err, Bool, true, flat_map, ◌-◌}
use Rattle.std.specs.Io.KnownBytes.{prepend_known}
use Rattle.std.proofs.lemmas.List.{append-nil}
use Rattle.std.proofs.lemmas.Option.{same_Some}
use Rattle.std.proofs.Math.Seq.{drop-append_seam}
use Rattle.fugue_ids.specs.declared.op.Op.{Op}
use Rattle.outer_ports.specs.Sources.{SourceView}
use Rattle.origin_model.specs.declared.grammar.Grammar.{Grammar}
use Rattle.origin_model.specs.frames.Frames.{IsFrame, IsPartial, Reads, Whole}
use Rattle.origin_model.proofs.SharedLemmas.{bytes_of, ops_of}
use Rattle.op_frame.specs.NextRuns.{GivesMany}
use Rattle.op_frame.specs.Readers.{AnswersBy, Chains, FrameReading, Gave, Nexts, to_give}
use Rattle.op_frame.specs.declared.fault.FrameFault.TheVariants as frame_fault
use Rattle.origin_model.specs.edits.State.{State}
use Rattle.replica_file.specs.Loading.{Feeds, IsSameButHeld, WantsMemory}
use Rattle.replica_file.specs.Pieces.{AreBad, IsReading, Lacks, LacksAfter, PieceSteps, TakesInPiece}
use Rattle.replica_file.specs.Wanting.{AreWholeFrames, ForContent, ForOperation, ForPiece, IsWanting}
use Rattle.replica_file.proofs.PartLemmas.{starts_none}
use Rattle.replica_file.proofs.LoadingLemmas.{feeds_none, feeds_then, same_then}
use Rattle.replica_file.specs.declared.stop.Stop.{Stop}
use Rattle.replica_file.specs.declared.stop.Stop.TheVariants as stop_is

module _ (bytes : List ℕ) (ops : List Op) (old new : FrameReading) (before after : SourceView) (reading : IsReading bytes ops old before) where
  -- the piece is over
  pub over : Chains old new before after (Ok None) → (len : ℕ) → len ≡ length bytes → AreWholeFrames old.grammar bytes len ops
  over chains len is =
      let follows = chains (Some bytes) ops reading.gave in
      let reads = follows.ends.1 in
      let none : drop len bytes ≡ [] = ap (λ (n : ℕ). drop n bytes) is ∙ drop_all_of bytes in
      record {
        inside = omega (arith, is);
        starts = record {
          found = reads.found;
          are_frames = reads.are_frames;
          ops_are = reads.ops_are;
          split = reads.split ∙ ap (λ (r : List ℕ). bytes_before reads ++ r) (reads.ends ∙ sym none);
        };
        ends = inl none;
      }
    where
      bytes_before : Reads old.grammar bytes ops Whole → List ℕ
      bytes_before r = flat_map (λ framed. framed.bytes) r.found

      drop_all_of : (l : List ℕ) → drop (length l) l ≡ []
      drop_all_of [] = refl
      drop_all_of (x ∷ l) = drop_all_of l

  -- the piece ends inside of a frame
  pub cut : (k : ℕ) → Chains old new before after (Err (frame_fault.CutShort k)) → AreWholeFrames old.grammar bytes k ops
  cut k chains =
      let follows = chains (Some bytes) ops reading.gave in
      let reads = follows.ends.1 in
      let front : List ℕ = flat_map (λ framed. framed.bytes) reads.found in
      let at : k ≡ length front = reads.ends.0 in
      let behind : drop k bytes ≡ reads.rest = (λ i. drop (at i) (reads.split i)) ∙ drop-append_seam front reads.rest in
      record {
        inside = omega (arith, at, ap length reads.split, length-append front reads.rest);
        starts = record { found = reads.found; are_frames = reads.are_frames; ops_are = reads.ops_are; split = reads.split ∙ ap (λ (r : List ℕ). front ++ r) (sym behind) };
        ends = inr (subst (IsPartial old.grammar) (sym behind) reads.ends.2);
      }

  -- no frame stands there
  pub bad : (k : ℕ) → Chains old new before after (Err (frame_fault.BadFrame k)) → AreBad old.grammar bytes
  bad k chains =
      let follows = chains (Some bytes) ops reading.gave in
      let reads = follows.ends.1 in
      record {
        ops = ops;
        rest = reads.rest;
        starts = record { found = reads.found; are_frames = reads.are_frames; ops_are = reads.ops_are; split = reads.split };
        bad = reads.ends.1;
      }

  -- a piece within the limit is not too long
  pub not_long : Chains old new before after (Err frame_fault.TooLong) → AreBad old.grammar bytes
  not_long chains =
      let follows = chains (Some bytes) ops reading.gave in
      let longer : old.limit < length bytes = follows.ends.0 in
      absurd (omega (arith, longer, reading.fits))

  -- some operations more were given
  pub gave_more : (more : List Op) → GivesMany old new before after more → after.sure ≡ before.sure → IsReading bytes (ops ++ more) new after
  gave_more more gives sure = record {
    gave = gives.gave (Some bytes) ops reading.gave;
    no_fault = gives.no_fault;
    fits = reading.fits ∙ sym gives.limit;
    sure = sure ∙ reading.sure;
  }

  -- memory ran out for the title of the next frame
  pub title : (r : State) (was : Bool) → Nexts old new before after (Err frame_fault.NoMemory) → LacksAfter old.grammar bytes ops was r
  title r was nexts = record {
    more = [];
    now = was;
    new = r;
    feeds = feeds_none was r;
    same = refl;
    wants = subst (λ (l : List Op). wants r was l) (sym (append-nil ops)) (by (to_give old before.left) reading.gave.split (nexts.answer none));
  }
    where
      none : old.todo ≡ []
      none = nexts.advances.stays.none_before

      ops_are : ops ≡ ops_of reading.gave.found
      ops_are = sym (append-nil ops) ∙ ap (λ (l : List Op). ops ++ l) (sym none) ∙ reading.gave.ops_are

      wants : State → Bool → List Op → Type 0
      wants r was given = IsWanting old.grammar (λ rest. rest ≡ bytes) bytes given r.hold r.most r.held (was ≡ true)

      by : (left : Option (List ℕ)) → Some bytes ≡ prepend_known (bytes_of reading.gave.found) left
          → IfSome left (AnswersBy old.grammar (Err frame_fault.NoMemory) old.offset (old.limit - old.offset)) → wants r was ops
      by None specified answer = absurd (let no : Some bytes ≡ None = specified in cc no)
      by (Some rest) specified answer =
          ForContent rest (record { found = reading.gave.found; are_frames = reading.gave.are_frames; ops_are = ops_are; split = same_Some _ _ specified }) (answer.memory refl)

  -- memory ran out for one of the operations that were given
  pub operation : (r : State) (was : Bool) (more : List Op) → GivesMany old new before after more → WantsMemory was r more → LacksAfter old.grammar bytes ops was r
  operation r was more gives lacks = record {
    more = lacks.front;
    now = true;
    new = lacks.reached;
    feeds = lacks.feeds;
    same = lacks.same;
    wants = by (to_give new after.left) gave.split;
  }
    where
      gave : Gave (Some bytes) (ops ++ more) new after.left
      gave = gives.gave (Some bytes) ops reading.gave

      -- those before the one, that one, and those after it
      parts : (ops ++ more) ++ new.todo ≡ (ops ++ lacks.front) ++ lacks.op ∷ (lacks.more ++ new.todo)
      parts = ap (λ (l : List Op). (ops ++ l) ++ new.todo) lacks.parts ∙ append_assoc ops (lacks.front ++ lacks.op ∷ lacks.more) new.todo
          ∙ ap (λ (l : List Op). ops ++ l) (append_assoc lacks.front (lacks.op ∷ lacks.more) new.todo)
          ∙ sym (append_assoc ops lacks.front (lacks.op ∷ (lacks.more ++ new.todo)))

      by : (left : Option (List ℕ)) → Some bytes ≡ prepend_known (bytes_of gave.found) left
          → IsWanting old.grammar (λ rest. rest ≡ bytes) bytes (ops ++ lacks.front) lacks.reached.hold lacks.reached.most lacks.reached.held (true ≡ true)
      by None specified = absurd (let no : Some bytes ≡ None = specified in cc no)
      by (Some rest) specified = ForOperation lacks.op (lacks.more ++ new.todo) rest (record {
        found = gave.found;
        are_frames = subst (λ (g : Grammar). All (IsFrame g) gave.found) gives.grammar gave.are_frames;
        ops_are = sym parts ∙ gave.ops_are;
        split = same_Some _ _ specified;
      }) refl lacks.kept

-- memory ran out for a piece, of which nothing was taken in yet
pub lacks_none : (grammar : Grammar) (Begins : List ℕ → Type 0) (bytes : List ℕ) (was : Bool) (old : State) → Begins bytes → Lacks grammar Begins bytes was old
lacks_none grammar Begins bytes was old begins = record {
  ops = [];
  now = was;
  new = old;
  feeds = feeds_none was old;
  same = refl;
  wants = ForPiece bytes (starts_none grammar bytes) begins;
}

module _ (grammar : Grammar) (bytes : List ℕ) (ops : List Op) (was now : Bool) (old new : State) (reader : FrameReading) (source : SourceView) where
  -- a step that answers so
  pub steps_wanting : (result : Result (Option ℕ) Stop) (stop : Stop) → result ≡ Err stop → stop ≡ stop_is.NoMemory
      → LacksAfter grammar bytes ops was old → PieceSteps grammar bytes ops was old now new reader source result
  steps_wanting result stop is same wanting = subst (PieceSteps grammar bytes ops was old now new reader source) (sym (is ∙ ap (λ (s : Stop). Err s) same)) wanting

  -- the same step by a grammar that is the same
  pub steps_by : (other : Grammar) (result : Result (Option ℕ) Stop) → other ≡ grammar → PieceSteps other bytes ops was old now new reader source result
      → PieceSteps grammar bytes ops was old now new reader source result
  steps_by other result same steps = subst (λ (g : Grammar). PieceSteps g bytes ops was old now new reader source result) same steps

  -- a step for which memory ran out
  pub steps_lacks : (first : Bool) (begin : State) (stop : Stop) → Feeds first begin was old ops → IsSameButHeld begin old
      → PieceSteps grammar bytes ops was old now new reader source (Err stop)
      → stop ≡ stop_is.NoMemory → Lacks grammar (λ rest. rest ≡ bytes) bytes first begin
  steps_lacks first begin stop feeds same steps is =
      let lacks : LacksAfter grammar bytes ops was old = subst (λ s. PieceSteps grammar bytes ops was old now new reader source (Err s)) is steps in
      record {
        ops = ops ++ lacks.more;
        now = lacks.now;
        new = lacks.new;
        feeds = feeds_then first was lacks.now begin old lacks.new ops lacks.more feeds lacks.feeds;
        same = same_then begin old lacks.new same lacks.same;
        wants = lacks.wants;
      }

  -- a step that comes to bad bytes
  pub steps_bad : (stop : Stop) → PieceSteps grammar bytes ops was old now new reader source (Err stop) → stop ≡ stop_is.Bad → AreBad grammar bytes
  steps_bad stop steps is = subst (λ s. PieceSteps grammar bytes ops was old now new reader source (Err s)) is steps

-- the last step
pub takes_piece : (grammar : Grammar) (bytes : List ℕ) (ops : List Op) (first was now : Bool) (begin old new : State) (len : ℕ) → Feeds first begin was old ops
    → AreWholeFrames grammar bytes len ops × (now ≡ was) × (new ≡ old) → TakesInPiece grammar bytes len first begin now new
takes_piece grammar bytes ops first was now begin old new len feeds last = record {
  ops = ops;
  whole = last.0;
  feeds = subst (λ (b : Bool). Feeds first begin b new ops) (sym last.1) (subst (λ (s : State). Feeds first begin was s ops) (sym last.2) feeds);
}
