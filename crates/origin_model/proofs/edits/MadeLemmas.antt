-- How many operations an edit makes, where they join, and which counter comes next.
use Rattle.origin_model.proofs.Words.{Delete, Identifier, Lawful, List, None, Op, Option, Some, Text, [], accepted, ap, append-nil, append_assoc, arith, catalogue, drop, length}
use Rattle.origin_model.proofs.Words.{length-take-le, refl, reverse, reverse-append, shown, slice_get, suc, sym, take, within, zero, ℕ, ◌++◌, ◌+◌, ◌∙◌, ◌∷◌, ◌≡◌, ◌≤◌}
use Rattle.std.proofs.Math.Seq.{take-nil}
use Rattle.std.proofs.lemmas.List.{length-drop, length-map}
use Rattle.origin_model.specs.edits.Edits.{ReadyInTurn, Cut, DropSection, history_with, Put, cut_in, deletes_of, id_at, left_for, made, next_counter, put_in, right_for}
use Rattle.origin_model.specs.edits.Edits.{typed_texts}

-- the operations stand at the end of the accepted ones
pub join_at_end : (h ops : List Op) → accepted (history_with h ops) ≡ accepted h ++ ops
join_at_end h [] = sym (append-nil (reverse h))
join_at_end h (op ∷ ops) = join_at_end (op ∷ h) ops ∙ ap (λ z. z ++ ops) (reverse-append (op ∷ []) h) ∙ append_assoc (reverse h) (op ∷ []) ops

-- operations that join after others
pub extended-append : (h xs ys : List Op) → history_with h (xs ++ ys) ≡ history_with (history_with h xs) ys
extended-append h [] ys = refl
extended-append h (op ∷ xs) ys = extended-append (op ∷ h) xs ys

-- as many as there were, and those that join
pub extended_length : (h ops : List Op) → length (history_with h ops) ≡ length h + length ops
extended_length h [] = omega arith
extended_length h (op ∷ ops) = let e : length (history_with (op ∷ h) ops) ≡ length (op ∷ h) + length ops = extended_length (op ∷ h) ops in omega (arith, e)

-- operations that are Ready in turn keep a history lawful
pub ready_lawful : (h ops : List Op) → Lawful h → ReadyInTurn h ops → Lawful (history_with h ops)
ready_lawful h [] w r = w
ready_lawful h (op ∷ ops) w r = ready_lawful (op ∷ h) ops (r.0, w) r.1

-- two lists that are Ready in turn, one after the other
pub ready-append : (h xs ys : List Op) → ReadyInTurn h xs → ReadyInTurn (history_with h xs) ys → ReadyInTurn h (xs ++ ys)
ready-append h [] ys a b = b
ready-append h (op ∷ xs) ys a b = (a.0, ready-append (op ∷ h) xs ys a.1 b)

-- the first operations of a list that is Ready in turn are
pub ready_front : (h xs ys : List Op) → ReadyInTurn h (xs ++ ys) → ReadyInTurn h xs
ready_front h [] ys r = tt
ready_front h (op ∷ xs) ys r = (r.0, ready_front (op ∷ h) xs ys r.1)

-- as many texts as scalars
typed_length : (r c : ℕ) (s : Identifier) (l q : Option Identifier) (new : List ℕ) → length (typed_texts r c s l q new) ≡ length new
typed_length r c s l q [] = refl
typed_length r c s l q (ch ∷ chs) = ap suc (typed_length r (suc c) s (Some (id_at r c)) q chs)

-- a part of a list has its length
part_length : (xs : List Identifier) (at n : ℕ) → at + n ≤ length xs → length (take n (drop at xs)) ≡ n
part_length xs at n l = length-take-le n (drop at xs) (omega (arith, length-drop at xs, l))

-- the edit of a section that is there
pub put_made : (r : ℕ) (h w : List Op) (k : ℕ) (s : Identifier) (at : ℕ) (new : List ℕ) → slice_get (shown catalogue h) k ≡ Some s
    → made r h w (Put k at new) ≡ put_in r h w s at new
put_made r h w k s at new e = ap (λ o. elim o [ None ↦ [] | Some s ↦ put_in r h w s at new ]) e

-- a cut of a section that is there
pub cut_made : (r : ℕ) (h w : List Op) (k : ℕ) (s : Identifier) (at n : ℕ) → slice_get (shown catalogue h) k ≡ Some s → made r h w (Cut k at n) ≡ cut_in h s at n
cut_made r h w k s at n e = ap (λ o. elim o [ None ↦ [] | Some s ↦ cut_in h s at n ]) e

-- the drop of a section that is there
pub drop_made : (r : ℕ) (h w : List Op) (k : ℕ) (s : Identifier) → slice_get (shown catalogue h) k ≡ Some s → made r h w (DropSection k) ≡ Delete s ∷ []
drop_made r h w k s e = ap (λ o. elim o [ None ↦ [] | Some s ↦ Delete s ∷ [] ]) e

-- a put makes as many operations as scalars
pub put_counted : (r : ℕ) (h w : List Op) (k : ℕ) (s : Identifier) (at : ℕ) (new : List ℕ) → slice_get (shown catalogue h) k ≡ Some s
    → length (made r h w (Put k at new)) ≡ length new
put_counted r h w k s at new e = ap length (put_made r h w k s at new e) ∙ typed_length r (next_counter r h w) s (left_for (within s) h at) (right_for (within s) h at) new

-- a cut as many as the elements that it asks for, where so many are shown
pub cut_counted : (r : ℕ) (h w : List Op) (k : ℕ) (s : Identifier) (at n : ℕ) → slice_get (shown catalogue h) k ≡ Some s → at + n ≤ length (shown (within s) h)
    → length (made r h w (Cut k at n)) ≡ n
cut_counted r h w k s at n e l =
    ap length (cut_made r h w k s at n e) ∙ length-map (take n (drop at (shown (within s) h))) (λ x. Delete x) ∙ part_length (shown (within s) h) at n l

-- the first texts are those of the first scalars
typed_front : (j r c : ℕ) (s : Identifier) (l q : Option Identifier) (new : List ℕ) → take j (typed_texts r c s l q new) ≡ typed_texts r c s l q (take j new)
typed_front zero r c s l q new = refl
typed_front (suc j) r c s l q [] = refl
typed_front (suc j) r c s l q (ch ∷ chs) = ap (λ z. Text (id_at r c) s l q ch ∷ z) (typed_front j r (suc c) s (Some (id_at r c)) q chs)

-- the first Deletes are those of the first elements
deletes_front : (j n : ℕ) (xs : List Identifier) → j ≤ n → take j (deletes_of (take n xs)) ≡ deletes_of (take j xs)
deletes_front zero n xs l = refl
deletes_front (suc j) zero xs l = absurd (omega (arith, l))
deletes_front (suc j) (suc n) [] l = refl
deletes_front (suc j) (suc n) (x ∷ xs) l = ap (λ z. Delete x ∷ z) (deletes_front j n xs (omega (arith, l)))

-- the first operations of a put are a smaller put
pub put_front : (r : ℕ) (h w : List Op) (k j at : ℕ) (new : List ℕ) → take j (made r h w (Put k at new)) ≡ made r h w (Put k at (take j new))
put_front r h w k j at new =
    elim (slice_get (shown catalogue h) k) as
    (λ o. take j (elim o [ None ↦ [] | Some s ↦ put_in r h w s at new ]) ≡ elim o [ None ↦ [] | Some s ↦ put_in r h w s at (take j new) ]) [
      | None ↦ take-nil j
      | Some s ↦ typed_front j r (next_counter r h w) s (left_for (within s) h at) (right_for (within s) h at) new
    ]

-- those of a cut a smaller cut
pub cut_front : (r : ℕ) (h w : List Op) (k j at n : ℕ) → j ≤ n → take j (made r h w (Cut k at n)) ≡ made r h w (Cut k at j)
cut_front r h w k j at n l =
    elim (slice_get (shown catalogue h) k) as (λ o. take j (elim o [ None ↦ [] | Some s ↦ cut_in h s at n ]) ≡ elim o [ None ↦ [] | Some s ↦ cut_in h s at j ]) [
      | None ↦ take-nil j
      | Some s ↦ deletes_front j n (drop at (shown (within s) h)) l
    ]

-- the history in front of operations is lawful
pub lawful_front : (ops h : List Op) → Lawful (history_with h ops) → Lawful h
lawful_front [] h w = w
lawful_front (op ∷ ops) h w = (lawful_front ops (op ∷ h) w).1
