use Rattle.std.proofs.Common.{List, [], ap, append_assoc, arith, sym, take, ℕ, ◌+◌, ◌++◌, ◌<◌, ◌∙◌, ◌∷◌, ◌≡◌, get_or, length, add-one}
use Rattle.std.specs.Prelude.{flat_map}
use Rattle.std.proofs.Math.Seq.{take-suc}
use Rattle.std.proofs.lemmas.List.{flat_map_more}
use Rattle.fugue_ids.specs.Identifiers.{Identifier}
use Rattle.origin_model.specs.frames.Frames.{id_bytes}
use Rattle.op_frame.proofs.encoding.put_ids.Goals as goal

-- the bytes of one identifier more
ids_more : (ids : List Identifier) (i : ℕ) (id : Identifier) → i < length ids → id ≡ get_or ids i id
    → flat_map id_bytes (take i ids) ++ id_bytes id ≡ flat_map id_bytes (take (i + 1) ids)
ids_more ids i id below is =
    flat_map_more id_bytes [] (take i ids) id
    ∙ ap (flat_map id_bytes) (ap (λ (x : Identifier). take i ids ++ x ∷ []) is ∙ sym (take-suc ids i id below) ∙ ap (λ (n : ℕ). take n ids) (sym (add-one i)))

pub loop-id-preserved : goal.loop-id-preserved
loop-id-preserved c =
    let before : List ℕ = flat_map id_bytes (take c.loop-id.id-index c.args.ids.now) in
    record {
      items = c.put_id.ensures.items ∙ ap (λ (l : List ℕ). l ++ id_bytes c.id-item.result) c.loop-id.invariant.items
          ∙ append_assoc c.args.out.now.items before (id_bytes c.id-item.result)
          ∙ ap (λ (l : List ℕ). c.args.out.now.items ++ l) (ids_more c.args.ids.now c.loop-id.id-index c.id-item.result c.loop-id-test.true c.id-item.is);
      len = omega (arith, c.put_id.ensures.len, c.loop-id.invariant.len);
      capacity = omega (arith, c.put_id.ensures.capacity, c.loop-id.invariant.capacity);
    }
