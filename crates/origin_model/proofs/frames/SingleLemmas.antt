-- Frames that stand for one operation.
use Rattle.origin_model.proofs.Words.{All, All-weaker, List, Op, [], ap, append-nil, flat_map, map, refl, sym, ◌++◌, ◌∙◌, ◌∷◌, ◌≡◌}
use Rattle.std.proofs.lemmas.List.Elements.{All-map}
use Rattle.origin_model.specs.declared.grammar.Grammar.{Grammar}
use Rattle.origin_model.specs.declared.grammar.Grammar.TheVariants.{Version1}
use Rattle.origin_model.specs.frames.Frames.{Framed, HasFrame, IsFrame, IsItem, Item, Reads, Single, Typed, Whole, frame, item_bytes, item_ops, single_frames}

-- an operation with its frame
abbrev pub framed_of : Op → Framed
framed_of op = record { bytes = frame op; ops = op ∷ [] }

pub framed_is : (g : Grammar) (op : Op) → IsItem g (Single op) → IsFrame g (framed_of op)
framed_is g op has = record { item = Single op; is_item = has; bytes_are = refl; ops_are = refl }

-- the frames stand for these operations
framed_ops : (ops : List Op) → ops ≡ flat_map (λ framed. framed.ops) (map framed_of ops)
framed_ops [] = refl
framed_ops (op ∷ ops) = ap (λ z. op ∷ z) (framed_ops ops)

-- and have these bytes
framed_bytes : (ops : List Op) → single_frames ops ≡ flat_map (λ framed. framed.bytes) (map framed_of ops)
framed_bytes [] = refl
framed_bytes (op ∷ ops) = ap (λ z. frame op ++ z) (framed_bytes ops)

-- the operations' own frames are read as these operations, by each grammar
pub singles_read : (g : Grammar) (ops : List Op) → All (λ op. IsItem g (Single op)) ops → Reads g (single_frames ops) ops Whole
singles_read g ops all = record {
  found = map framed_of ops;
  are_frames = All-map (IsFrame g) framed_of ops (All-weaker (λ op. IsItem g (Single op)) (λ op. IsFrame g (framed_of op)) (framed_is g) ops all);
  ops_are = framed_ops ops;
  rest = [];
  split = framed_bytes ops ∙ sym (append-nil (flat_map (λ framed. framed.bytes) (map framed_of ops)));
  ends = refl;
}

-- the operation that a frame of version 1 stands for
pub record IsSingle (framed : Framed) : Type 0 where
  pub op : Op
  pub has_frame : HasFrame op
  pub bytes_are : framed.bytes ≡ frame op
  pub ops_are : framed.ops ≡ op ∷ []

-- it stands for one alone
pub single_of : (framed : Framed) → IsFrame Version1 framed → IsSingle framed
single_of framed f = of_item f.item f.is_item f.bytes_are f.ops_are
  where
    of_item : (item : Item) → IsItem Version1 item → framed.bytes ≡ item_bytes item → framed.ops ≡ item_ops item → IsSingle framed
    of_item (Single op) has bytes ops = record { op = op; has_frame = has.0; bytes_are = bytes; ops_are = ops }
    of_item (Typed run) none bytes ops = absurd none
