-- Each list of bytes has one image.
use Rattle.std.proofs.Common.{◌≡◌, ◌⊎◌, inl, inr, ℕ, List}
use Rattle.fugue_ids.specs.declared.op.Op.{Op}
use Rattle.origin_model.specs.declared.grammar.Grammar.{Grammar}
use Rattle.origin_model.specs.frames.Frames.{BadFrame, CutShort, End, Reads, Whole}
use Rattle.origin_model.proofs.SharedLemmas.{ReadSome, image_once, image_some}
use Rattle.op_frame.proofs.ReadingLemmas.{reads_once, reads_some}
use Rattle.replica_file.specs.Laws.{OneImage}
use Rattle.replica_file.proofs.AppendLemmas.{read_once}

-- a reading that ends otherwise is none of whole frames
other_end : (grammar : Grammar) (bytes : List ℕ) (ops : List Op) (end : End) → (Whole ≡ end → ⊥) → Reads grammar bytes ops end → (others : List Op)
    → Reads grammar bytes others Whole → ⊥
other_end grammar bytes ops end differs reads others whole = differs ((reads_once grammar bytes others ops Whole end whole reads).1)

by_end : (grammar : Grammar) (bytes : List ℕ) (ops : List Op) (end : End) → Reads grammar bytes ops end
    → ((found : List Op) × Reads grammar bytes found Whole) ⊎ ((found : List Op) → Reads grammar bytes found Whole → ⊥)
by_end grammar bytes ops Whole reads = inl (ops, reads)
by_end grammar bytes ops (CutShort k) reads = inr (other_end grammar bytes ops (CutShort k) (λ e. cc e) reads)
by_end grammar bytes ops (BadFrame k) reads = inr (other_end grammar bytes ops (BadFrame k) (λ e. cc e) reads)

read_some : ReadSome
read_some grammar bytes = let r = reads_some grammar bytes in by_end grammar bytes r.0 r.1 r.2

pub has_one_image : OneImage
has_one_image = record { one = image_once read_once; some = image_some read_some }
