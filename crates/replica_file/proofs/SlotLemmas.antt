-- One open slot of a file, and what is wrong with one.
use Rattle.std.proofs.Common.{◌≡◌, inl, inr, ℕ, ◌+◌, ◌≤◌, List, [], ◌++◌, length, take, drop, ap, refl, sym, subst, ◌∙◌, arith, length-drop, append_assoc}
use Rattle.std.specs.Prelude.{Bool, Option, Some, None, IfSome, IfOk, Result, Ok, Err}
use Rattle.outer_ports.specs.disk.Moments.{History}
use Rattle.replica_file.specs.declared.stop.Stop.{Stop}
use Rattle.std.proofs.lemmas.List.{length-take, length-take-le, take-append-drop}
use Rattle.origin_model.specs.declared.files.TheConstants.{LONGEST_BATCH}
use Rattle.origin_model.specs.files.Image.{CutShort, IsNoBatch, NoFrames, NoGate, NoTag, NoWord, TooLong}
use Rattle.origin_model.specs.frames.Frames.{Reads, Whole}
use Rattle.origin_model.specs.edits.State.{State}
use Rattle.replica_file.specs.Pieces.{Lacks}
use Rattle.replica_file.specs.Slots.{HasNoFrames, HasNoWord, IsGate, IsWord, LacksInSlot, TakesFrames, TakesSlot}
use Rattle.replica_file.specs.Wanting.{BeginsPiece, ForPiece, file_part}
use Rattle.replica_file.specs.declared.gate.Gate.{Gate}
use Rattle.replica_file.specs.declared.slot.Word.{Word}
use Rattle.replica_file.proofs.PartLemmas.{never_whole, starts_none}
use Rattle.replica_file.proofs.LoadingLemmas.{feeds_none}
use Rattle.replica_file.proofs.ReadingLemmas.{drop_twice}

module _ (bytes : List ℕ) (at : ℕ) where
  -- the bytes after the gate
  abbrev behind : List ℕ
  behind = drop (at + 1) bytes

  frames_after : drop 4 behind ≡ drop (at + 5) bytes
  frames_after = drop_twice 4 (at + 1) bytes ∙ ap (λ (n : ℕ). drop n bytes) {x = at + 1 + 4} {y = at + 5} (omega arith)

  -- the word is not there, or none that a slot has
  pub bad_word : HasNoWord bytes (at + 1) → (slot : ℕ) → IsNoBatch slot behind
  bad_word (inl short) slot = NoWord short
  bad_word (inr (inl none)) slot = NoTag none
  bad_word (inr (inr long)) slot = TooLong long

  module _ (word : Word) (is : IsWord bytes (at + 1) word) where
    -- the frames are not all there, or no frames
    pub bad_frames : HasNoFrames word.grammar bytes (at + 5) word.len → (slot : ℕ) → IsNoBatch slot behind
    bad_frames (inl short) slot = CutShort (omega (arith, ap length frames_after, short, is.len_is))
    bad_frames (inr off) slot = NoFrames word.grammar is.tagged (λ ops reads. never_whole word.grammar (file_part bytes (at + 5) word.len) off ops
        (subst (λ (l : List ℕ). Reads word.grammar l ops Whole) ((λ i. take (sym is.len_is i) (frames_after i))) reads))

    -- memory ran out for the frames
    pub slot_lacks : (was : Bool) (old : State) → word.len ≤ LONGEST_BATCH
        → Lacks word.grammar (BeginsPiece word.grammar bytes (at + 5) word.len) (file_part bytes (at + 5) word.len) was old → LacksInSlot bytes at was old
    slot_lacks was old short lacks = record {
      grammar = word.grammar;
      tagged = is.tagged;
      short = omega (arith, is.len_is, short);
      lacks = subst (λ (n : ℕ). Lacks word.grammar (BeginsPiece word.grammar bytes (at + 5) n) (file_part bytes (at + 5) n) was old) is.len_is lacks;
    }

    -- memory ran out before the first of them was read
    pub slot_begins : (was : Bool) (old : State) → word.len ≤ LONGEST_BATCH → LacksInSlot bytes at was old
    slot_begins was old short = slot_lacks was old short (record {
      ops = [];
      now = was;
      new = old;
      feeds = feeds_none was old;
      same = refl;
      wants = ForPiece (file_part bytes (at + 5) word.len) (starts_none word.grammar (file_part bytes (at + 5) word.len))
          (record { taken = 0; pieces = []; are_pieces = refl; rest_is = refl });
    })

    -- no byte is there after them
    pub bad_gate : length (file_part bytes (at + 5) word.len) ≡ word.len → length bytes ≤ at + 5 + word.len → (slot : ℕ) → IsNoBatch slot behind
    bad_gate long ends slot =
        NoGate (omega (arith, ap length frames_after, is.len_is, long, ends, length-drop (at + 5) bytes, length-take word.len (drop (at + 5) bytes)))

    -- a batch
    pub slot_took : (next : Gate) (was now : Bool) (old new : State) → word.len ≤ LONGEST_BATCH → TakesFrames word.grammar bytes (at + 5) word.len was old now new
        → IsGate bytes next
        → next.at ≡ at + 5 + word.len → TakesSlot bytes at next was old now new
    slot_took next was now old new short took gate next_is =
        let rest : drop word.len (drop (at + 5) bytes) ≡ drop next.at bytes = drop_twice word.len (at + 5) bytes ∙ ap (λ (n : ℕ). drop n bytes) (sym next_is) in
        record {
          batch = record { word = take 4 behind; bytes = file_part bytes (at + 5) word.len; grammar = word.grammar; ops = took.ops };
          is_batch = record {
            four_bytes = length-take-le 4 behind is.there;
            tagged = is.tagged;
            counts = sym is.len_is ∙ sym took.long;
            short = omega (arith, took.long, short);
            reads = took.reads;
          };
          split = sym (take-append-drop 4 behind)
              ∙ ap (λ (l : List ℕ). take 4 behind ++ l)
              (frames_after ∙ sym (take-append-drop word.len (drop (at + 5) bytes)) ∙ ap (λ (l : List ℕ). file_part bytes (at + 5) word.len ++ l) rest)
              ∙ sym (append_assoc (take 4 behind) (file_part bytes (at + 5) word.len) (drop next.at bytes));
          next_at = next_is ∙ ap (λ (n : ℕ). at + 5 + n) (sym took.long);
          gate = gate;
          feeds = took.feeds;
        }

-- the same of a disk that was only looked at
pub slot_ends : (o p q : Option History) (r : Result Gate Stop) (at : ℕ) (word : Word) (was now : Bool) (old new : State) → p ≡ o → q ≡ o
    → IfSome o (λ h. IsWord h.last.seen (at + 1) word)
    → word.len ≤ LONGEST_BATCH → IfSome p (λ h. TakesFrames word.grammar h.last.seen (at + 5) word.len was old now new) → IfOk r (λ gate. IfSome q (λ h. IsGate h.last.seen gate))
    → IfOk r (λ gate. gate.at ≡ at + 5 + word.len) → IfOk r (λ next. IfSome o (λ h. TakesSlot h.last.seen at next was old now new))
slot_ends o p q (Err e) at word was now old new one two specified short took gate is = tt
slot_ends None p q (Ok g) at word was now old new one two specified short took gate is = tt
slot_ends (Some h) p q (Ok g) at word was now old new one two specified short took gate is =
    slot_took h.last.seen at word specified g was now old new short (subst (λ s. IfSome s (λ k. TakesFrames word.grammar k.last.seen (at + 5) word.len was old now new)) one took)
    (subst (λ s. IfSome s (λ k. IsGate k.last.seen g)) two gate) is

pub no_gate : (o p q : Option History) (at : ℕ) (word : Word) (was now : Bool) (old new : State) → p ≡ o → q ≡ o → IfSome o (λ h. IsWord h.last.seen (at + 1) word)
    → IfSome p (λ h. TakesFrames word.grammar h.last.seen (at + 5) word.len was old now new) → IfSome q (λ h. length h.last.seen ≤ at + 5 + word.len)
    → IfSome o (λ h. (slot : ℕ) → IsNoBatch slot (drop (at + 1) h.last.seen))
no_gate None p q at word was now old new one two specified took ends = tt
no_gate (Some h) p q at word was now old new one two specified took ends =
    let frames = subst (λ s. IfSome s (λ k. TakesFrames word.grammar k.last.seen (at + 5) word.len was old now new)) one took in
    bad_gate h.last.seen at word specified frames.long (subst (λ s. IfSome s (λ k. length k.last.seen ≤ at + 5 + word.len)) two ends)
