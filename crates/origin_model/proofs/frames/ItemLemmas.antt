-- Frames, and what they stand for.
use Rattle.origin_model.proofs.Words.{List, Op, drop, flat_map, length, refl, sym, take, ℕ, ◌++◌, ◌∙◌, ◌≡◌}
use Rattle.std.proofs.Math.Seq.{drop-append_seam, take-append_seam}
use Rattle.origin_model.specs.declared.grammar.Grammar.{Grammar}
use Rattle.origin_model.specs.frames.Frames.{Framed, IsFrame, IsItem, Item, item_bytes, item_ops}

abbrev pub bytes_of : List Framed → List ℕ
bytes_of found = flat_map (λ framed. framed.bytes) found

abbrev pub ops_of : List Framed → List Op
ops_of found = flat_map (λ framed. framed.ops) found

-- an item with its frame
abbrev pub item_framed : Item → Framed
item_framed i = record { bytes = item_bytes i; ops = item_ops i }

pub item_is_framed : (g : Grammar) (i : Item) → IsItem g i → IsFrame g (item_framed i)
item_is_framed g i is = record { item = i; is_item = is; bytes_are = refl; ops_are = refl }

-- lists with prefixes of one length are equal in both parts
pub same_parts : {X : Type 0} (xs ys vs ws : List X) → length xs ≡ length vs → xs ++ ys ≡ vs ++ ws → (xs ≡ vs) × (ys ≡ ws)
same_parts xs ys vs ws long same = (
  sym (take-append_seam xs ys) ∙ (λ i. take (long i) (same i)) ∙ take-append_seam vs ws,
  sym (drop-append_seam xs ys) ∙ (λ i. drop (long i) (same i)) ∙ drop-append_seam vs ws,
)
