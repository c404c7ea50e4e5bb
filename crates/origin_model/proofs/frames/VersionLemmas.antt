-- Bytes in which version 1 reads no bad frame are read the same by version 2.
use Rattle.origin_model.proofs.Words.{All-weaker, List, Op, refl, ℕ, ◌≢◌}
use Rattle.origin_model.specs.declared.grammar.Grammar.TheVariants.{Version1, Version2}
use Rattle.origin_model.specs.frames.Frames.{BadFrame, CutShort, End, EndsSo, Framed, IsFrame, IsItem, IsPartial, Item, Reads, Single, Typed, Whole}

item_too : (i : Item) → IsItem Version1 i → IsItem Version2 i
item_too (Single op) is = is.0
item_too (Typed run) is = absurd is

frame_too : (f : Framed) → IsFrame Version1 f → IsFrame Version2 f
frame_too f is = record { item = is.item; is_item = item_too is.item is.is_item; bytes_are = is.bytes_are; ops_are = is.ops_are }

partial_too : (b : List ℕ) → IsPartial Version1 b → IsPartial Version2 b
partial_too b p = record { framed = p.framed; is_frame = frame_too p.framed p.is_frame; more = p.more; lacks = p.lacks; front = p.front }

ends_too : (rest : List ℕ) (k : ℕ) (end : End) → ((k : ℕ) → end ≢ BadFrame k) → EndsSo Version1 rest k end → EndsSo Version2 rest k end
ends_too rest k Whole good ends = ends
ends_too rest k (CutShort j) good ends = (ends.0, ends.1, partial_too rest ends.2)
ends_too rest k (BadFrame j) good ends = absurd (good j refl)

pub read_too : (b : List ℕ) (ops : List Op) (end : End) → ((k : ℕ) → end ≢ BadFrame k) → Reads Version1 b ops end → Reads Version2 b ops end
read_too b ops end good r = record {
  found = r.found;
  are_frames = All-weaker (IsFrame Version1) (IsFrame Version2) frame_too r.found r.are_frames;
  ops_are = r.ops_are;
  rest = r.rest;
  split = r.split;
  ends = ends_too r.rest _ end good r.ends;
}
