-- What a call of the reader does, by what it holds back and what its window has.
use Rattle.std.proofs.Common.{◌≡◌, ℕ, ◌+◌, ◌-◌, ◌≤◌, List, [], ◌∷◌, ◌++◌, length, refl, ap, sym, ◌∙◌, arith}
use Rattle.std.specs.Prelude.{All, Option, Some, None, Result, Ok, Err, IfSome, IsErrOf, flat_map}
use Rattle.std.specs.Char.{IsScalar}
use Rattle.fugue_ids.specs.declared.op.Op.{Op}
use Rattle.fugue_ids.specs.Runs.{in_a_row}
use Rattle.outer_ports.specs.Sources.{SourceView}
use Rattle.origin_model.specs.declared.grammar.Grammar.{Grammar}
use Rattle.origin_model.specs.frames.Frames.{scalar_bytes}
use Rattle.op_frame.specs.Headers.{GivesHeld, IsHeld, after_held, held_ops, text_scalars}
use Rattle.op_frame.specs.Readers.{Advances, FrameReading, Nexts, StandsStill, StillWith, fault_after, held as held_back, kept_fault, read}
use Rattle.op_frame.specs.Steps.{TakesFrontFrame}
use Rattle.op_frame.specs.declared.fault.FrameFault.{FrameFault}
use Rattle.op_frame.specs.declared.fault.FrameFault.TheVariants.{BadFrame, CutShort, ReadFault, TooLong, NoMemory}
use Rattle.op_frame.specs.declared.header.RunHeader.{RunHeader}
use Rattle.op_frame.specs.declared.step.Taken.{Taken}
use Rattle.op_frame.proofs.HeaderLemmas.{scalars_are}

-- where no operation is held back, nothing is
pub none_held : (held : Option RunHeader) (window : List ℕ) → IfSome held (IsHeld window) → held_ops held window ≡ [] → held ≡ None
none_held None window is none = refl
none_held (Some header) window h none = absurd (by_text h.text h.count h.scalars h.split)
  where
    by_text : (text : List ℕ) → length text ≡ header.count → All IsScalar text → window ≡ flat_map scalar_bytes text ++ h.rest → ⊥
    by_text [] long all split = omega (arith, long, h.some)
    by_text (c ∷ text) long all split =
        let shown : held_ops (Some header) window ≡ in_a_row header.id header.section header.left header.right (c ∷ text)
        = ap (in_a_row header.id header.section header.left header.right) ((λ i. text_scalars (sym long i) (split i)) ∙ scalars_are (c ∷ text) h.rest all) in
        let bad : in_a_row header.id header.section header.left header.right (c ∷ text) ≡ [] = sym shown ∙ none in
        cc bad

-- the fault that is kept is kept on
pub kept_on : (e : FrameFault) → IfSome (kept_fault e) (λ f. kept_fault f ≡ Some f)
kept_on (BadFrame k) = refl
kept_on (CutShort k) = refl
kept_on ReadFault = refl
kept_on TooLong = refl
kept_on NoMemory = tt

-- a reader that stands so
abbrev pub reading_at : Grammar → (limit : ℕ) → Option RunHeader → List ℕ → (offset last : ℕ) → Option FrameFault → FrameReading
reading_at g limit held window offset last fault =
    record { grammar = g; limit = limit; todo = held_ops held window; unread = after_held held window; offset = offset; last = last; fault = fault }

stays_put : (old new : FrameReading) → old.todo ≡ [] → new.todo ≡ [] → new.offset ≡ old.offset → new.last ≡ old.last → StandsStill old new
stays_put old new before after at last = record { none_before = before; none_after = after; offset = at; last = last }

pub advances_by : (old new : FrameReading) (result : Result (Option Op) FrameFault) → new.grammar ≡ old.grammar → new.limit ≡ old.limit → old.offset + length old.unread ≤ old.limit
    → new.offset + length new.unread ≤ new.limit → (IsErrOf result TooLong → new.offset + length new.unread ≡ new.limit) → StillWith result old new → new.fault ≡ fault_after result
    → Advances old new result
advances_by old new result grammar limit inside within full stays fault =
    record { grammar = grammar; limit = limit; inside = inside; within = within; full = full; stays = stays; fault = fault }

module _ (g : Grammar) (limit offset last : ℕ) (fault : Option FrameFault) (window new : List ℕ) (before after : SourceView) where
  -- no operation is given
  pub nexts_none : (held : Option RunHeader) → held ≡ None → offset + length (after_held held window) ≤ limit → fault ≡ None
      → TakesFrontFrame g window new before after offset (limit - offset) (Ok None)
      → Nexts (reading_at g limit held window offset last fault) (reading_at g limit held new offset last fault) before after (Ok None)
  nexts_none (Some header) none inside no_fault t = absurd (cc none)
  nexts_none None none inside no_fault t = record {
    answer = λ same. t.answer;
    at = t.at;
    gives = tt;
    moves = t.moves;
    advances = advances_by _ _ (Ok None) refl refl inside (omega (arith, inside, t.within)) (λ is. cc is) (stays_put _ _ refl refl refl refl) no_fault;
  }

  -- the first operation of a frame is given
  pub nexts_first : (held : Option RunHeader) (taken : Taken) → held ≡ None → offset + length (after_held held window) ≤ limit → fault ≡ None
      → TakesFrontFrame g window new before after offset (limit - offset) (Ok (Some taken))
      → Nexts (reading_at g limit held window offset last fault) (reading_at g limit taken.held new (offset + taken.len) offset fault) before after (Ok (Some taken.op))
  nexts_first (Some header) taken none inside no_fault t = absurd (cc none)
  nexts_first None taken none inside no_fault t = record {
    answer = λ same. t.answer;
    at = t.at;
    gives = read refl t.first.framed t.first.is_frame t.first.ops_are t.first.split (ap (λ (n : ℕ). offset + n) t.first.len) refl;
    moves = tt;
    advances = advances_by _ _ (Ok (Some taken.op)) refl refl inside (omega (arith, inside, t.within)) (λ is. cc is) tt no_fault;
  }

  -- a fault is met
  pub nexts_fault : (held : Option RunHeader) (e : FrameFault) (kept : Option FrameFault) → held ≡ None → offset + length (after_held held window) ≤ limit → kept ≡ kept_fault e
      → TakesFrontFrame g window new before after offset (limit - offset) (Err e)
      → Nexts (reading_at g limit held window offset last fault) (reading_at g limit held new offset last kept) before after (Err e)
  nexts_fault (Some header) e kept none inside is t = absurd (cc none)
  nexts_fault None e kept none inside is t = record {
    answer = λ same. t.answer;
    at = t.at;
    gives = tt;
    moves = t.moves;
    advances = advances_by _ _ (Err e) refl refl inside (omega (arith, inside, t.within)) (λ long. omega (arith, inside, t.full (fault_is e long)))
        (stays_put _ _ refl refl refl refl) is;
  }
    where
      fault_is : (e : FrameFault) → ◌≡◌ {A = Result (Option Op) FrameFault} (Err e) (Err TooLong) → ◌≡◌ {A = Result (Option Taken) FrameFault} (Err e) (Err TooLong)
      fault_is e long = let same : e ≡ TooLong = cc long in ap Err same

-- the first of the operations that are held back is given
pub nexts_held : (g : Grammar) (limit offset last : ℕ) (fault : Option FrameFault) (window new : List ℕ) (source : SourceView) (held : Option RunHeader) (header : RunHeader)
    (op : Op) (next : Option RunHeader) → held ≡ Some header
    → offset + length (after_held held window) ≤ limit → fault ≡ None → GivesHeld header op next window new
    → Nexts (reading_at g limit held window offset last fault) (reading_at g limit next new offset last fault) source source (Ok (Some op))
nexts_held g limit offset last fault window new source held header op next is inside no_fault gives = record {
  answer = λ none. let no : op ∷ held_ops next new ≡ [] = sym first ∙ none in absurd (cc no);
  at = tt;
  gives = held_back first (sym behind) refl refl refl;
  moves = tt;
  advances = advances_by _ _ (Ok (Some op)) refl refl inside (omega (arith, inside, ap length behind)) (λ is. cc is) tt no_fault;
}
  where
    first : held_ops held window ≡ op ∷ held_ops next new
    first = ap (λ (h : Option RunHeader). held_ops h window) is ∙ gives.first

    behind : after_held held window ≡ after_held next new
    behind = ap (λ (h : Option RunHeader). after_held h window) is ∙ gives.behind

-- what is kept of the reader where no operation was held back
pub still_within : (held : Option RunHeader) (limit offset : ℕ) (window new : List ℕ) → held ≡ None → offset + length (after_held held window) ≤ limit
    → length new ≤ limit - offset → (offset + length (after_held held new) ≤ limit) × IfSome held (IsHeld new)
still_within (Some header) limit offset window new none inside within = absurd (cc none)
still_within None limit offset window new none inside within = (omega (arith, inside, within), tt)
