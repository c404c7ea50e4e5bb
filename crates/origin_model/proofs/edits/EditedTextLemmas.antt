-- What edits do to the texts of sections, by scalars.
use Rattle.origin_model.proofs.Words.{All, All-head, All-tail, Contains, Identifier, IsIn, Lawful, List, Op, Option, Place, Some, Text, [], all_from_contains, ap, catalogue}
use Rattle.origin_model.proofs.Words.{contains_filter_from, drop, element_of, flat_map, holder, id_eq-refl, is_hidden, is_some, length, not, not_some, order, refl, scalar_of}
use Rattle.origin_model.proofs.Words.{shown, slice_get, subst, suc, sym, take, text, within, zero, ℕ, ◌++◌, ◌+◌, ◌∙◌, ◌∷◌, ◌≡◌, ◌≢◌, ◌≤◌}
use Rattle.std.proofs.lemmas.Grind.{flat_map-append}
use Rattle.origin_model.proofs.operations.LookupLemmas.{held_not_own, holder-other, holder-own, when_ready}
use Rattle.origin_model.proofs.order.{order-member}
use Rattle.origin_model.specs.edits.Edits.{Add, Cut, DropSection, IsEdit, Put, ReadyInTurn, history_with, id_at, left_for, made, next_counter, put_in, right_for, splice}
use Rattle.origin_model.specs.edits.Edits.{typed_texts, typed_ids}
use Rattle.origin_model.proofs.edits.PutLemmas.{add_lands, put_lands}
use Rattle.origin_model.proofs.edits.MadeLemmas.{put_made}
use Rattle.origin_model.proofs.edits.CutLemmas.{cut_takes, drop_takes}
use Rattle.std.proofs.lemmas.List.Elements.{All-take, All-drop}

-- an edit of a section's text, by scalars: it replaces n of them from `at` on, and leaves the other texts
pub record IsTextEdit (h ops : List Op) (s : Identifier) (at n : ℕ) (new : List ℕ) : Type 0 where
  pub here : text (history_with h ops) s ≡ splice (text h s) at n new
  pub elsewhere : (t : Identifier) → t ≢ s → text (history_with h ops) t ≡ text h t

-- what was held stays held as operations join
holder_stays : (ops h : List Op) (x : Identifier) (o : Op) → ReadyInTurn h ops → holder h x ≡ Some o → holder (history_with h ops) x ≡ Some o
holder_stays [] h x o r e = e
holder_stays (op ∷ ops) h x o r e = holder_stays ops (op ∷ h) x o r.1 (holder-other op h x (held_not_own op h x (when_ready h op r.0) (ap is_some e)) ∙ e)

-- the scalars of an element
abbrev scalars_at : List Op → Identifier → List ℕ
scalars_at h = λ x. scalar_of (holder h x)

-- functions that agree on the members
flat_agree : (f g : Identifier → List ℕ) (xs : List Identifier) → All (λ x. f x ≡ g x) xs → flat_map f xs ≡ flat_map g xs
flat_agree f g [] e = refl
flat_agree f g (x ∷ xs) e = λ i. All-head (λ y. f y ≡ g y) x xs e i ++ flat_agree f g xs (All-tail (λ y. f y ≡ g y) x xs e) i

-- one scalar
abbrev IsSingle : List ℕ → Type 0
IsSingle l = (ch : ℕ) × (l ≡ ch ∷ [])

-- the scalars of a front
take_flat : (f : Identifier → List ℕ) (n : ℕ) (xs : List Identifier) → All (λ x. IsSingle (f x)) xs → flat_map f (take n xs) ≡ take n (flat_map f xs)
take_flat f zero xs e = refl
take_flat f (suc n) [] e = refl
take_flat f (suc n) (x ∷ xs) e =
    let single = All-head (λ y. IsSingle (f y)) x xs e in
    (λ i. single.1 i ++ take_flat f n xs (All-tail (λ y. IsSingle (f y)) x xs e) i) ∙ ap (λ l. take (suc n) (l ++ flat_map f xs)) (sym single.1)

-- the scalars of a rest
drop_flat : (f : Identifier → List ℕ) (n : ℕ) (xs : List Identifier) → All (λ x. IsSingle (f x)) xs → flat_map f (drop n xs) ≡ drop n (flat_map f xs)
drop_flat f zero xs e = refl
drop_flat f (suc n) [] e = refl
drop_flat f (suc n) (x ∷ xs) e =
    drop_flat f n xs (All-tail (λ y. IsSingle (f y)) x xs e) ∙ ap (λ l. drop (suc n) (l ++ flat_map f xs)) (sym (All-head (λ y. IsSingle (f y)) x xs e).1)

-- as many scalars as members
length_flat : (f : Identifier → List ℕ) (xs : List Identifier) → All (λ x. IsSingle (f x)) xs → length (flat_map f xs) ≡ length xs
length_flat f [] e = refl
length_flat f (x ∷ xs) e =
    ap (λ l. length (l ++ flat_map f xs)) (All-head (λ y. IsSingle (f y)) x xs e).1 ∙ ap suc (length_flat f xs (All-tail (λ y. IsSingle (f y)) x xs e))

-- a text element has one scalar
op_single : (s : Identifier) (op : Op) (x : Identifier) → element_of (within s) op ≡ Some x → IsSingle (scalar_of (Some op))
op_single s (Text i q l r ch) x e = (ch, refl)
op_single s _ x e = absurd (not_some x (sym e))

-- what is shown is an element of the place
member : (p : Place) (h : List Op) (x : Identifier) → Lawful h → Contains (shown p h) x → IsIn p h x
member p h x w m = order-member p h x w (contains_filter_from (λ y. not (is_hidden h y)) (order p h) x m).0

-- each shown element of a section has one scalar
singles : (h : List Op) (s : Identifier) → Lawful h → All (λ x. IsSingle (scalars_at h x)) (shown (within s) h)
singles h s w =
    all_from_contains (λ x. IsSingle (scalars_at h x)) (shown (within s) h)
    (λ x m. let k = member (within s) h x w m in let o = op_single s k.op x k.place in (o.0, ap scalar_of k.held ∙ o.1))

-- shown elements keep their scalars
same_scalars : (p : Place) (h ops : List Op) → Lawful h → ReadyInTurn h ops → All (λ x. scalars_at (history_with h ops) x ≡ scalars_at h x) (shown p h)
same_scalars p h ops w r =
    all_from_contains (λ x. scalars_at (history_with h ops) x ≡ scalars_at h x) (shown p h)
    (λ x m. let k = member p h x w m in ap scalar_of (holder_stays ops h x k.op r k.held ∙ sym k.held))

-- what was shown, spliced, is spliced in the text
text_here : (h ops : List Op) (s : Identifier) (at n : ℕ) (ids : List Identifier) (new : List ℕ) → Lawful h → IsEdit (within s) h ops at n ids
    → flat_map (scalars_at (history_with h ops)) ids ≡ new
    → text (history_with h ops) s ≡ splice (text h s) at n new
text_here h ops s at n ids new w e k =
    let f : Identifier → List ℕ = scalars_at (history_with h ops) in
    let g : Identifier → List ℕ = scalars_at h in
    let xs : List Identifier = shown (within s) h in
    let same = same_scalars (within s) h ops w e.ready in
    let front : flat_map f (take at xs) ≡ take at (text h s) =
    flat_agree f g (take at xs) (All-take (λ x. f x ≡ g x) at xs same) ∙ take_flat g at xs (singles h s w) in
    let back : flat_map f (drop (at + n) xs) ≡ drop (at + n) (text h s) =
    flat_agree f g (drop (at + n) xs) (All-drop (λ x. f x ≡ g x) (at + n) xs same) ∙ drop_flat g (at + n) xs (singles h s w) in
    ap (flat_map f) e.here
    ∙ flat_map-append f (take at xs ++ ids) (drop (at + n) xs)
    ∙ ap (λ l. l ++ flat_map f (drop (at + n) xs)) (flat_map-append f (take at xs) ids)
    ∙ (λ i. front i ++ k i ++ back i)

-- another section keeps its text
text_there : (p : Place) (h ops : List Op) (at n : ℕ) (ids : List Identifier) (t : Identifier) → Lawful h → IsEdit p h ops at n ids → within t ≢ p
    → text (history_with h ops) t ≡ text h t
text_there p h ops at n ids t w e d =
    ap (flat_map (scalars_at (history_with h ops))) (e.elsewhere (within t) d)
    ∙ flat_agree (scalars_at (history_with h ops)) (scalars_at h) (shown (within t) h) (same_scalars (within t) h ops w e.ready)

-- another section is another place
pub other_place : (t s : Identifier) → t ≢ s → within t ≢ within s
other_place t s n e = let d : t ≡ s = cc e in n d

-- no section is the catalogue
not_catalogue : (t : Identifier) → within t ≢ catalogue
not_catalogue t e = cc e

-- an edit of what is shown is one of the text
text_edit : (h ops : List Op) (s : Identifier) (at n : ℕ) (ids : List Identifier) (new : List ℕ) → Lawful h → IsEdit (within s) h ops at n ids
    → flat_map (scalars_at (history_with h ops)) ids ≡ new → IsTextEdit h ops s at n new
text_edit h ops s at n ids new w e k =
    record { here = text_here h ops s at n ids new w e k; elsewhere = λ t d. text_there (within s) h ops at n ids t w e (other_place t s d) }

-- the new elements have the scalars that were typed
typed_scalars : (chs : List ℕ) (r c : ℕ) (s : Identifier) (l q : Option Identifier) (h : List Op) → ReadyInTurn h (typed_texts r c s l q chs)
    → flat_map (scalars_at (history_with h (typed_texts r c s l q chs))) (typed_ids r c chs) ≡ chs
typed_scalars [] r c s l q h ready = refl
typed_scalars (ch ∷ chs) r c s l q h ready =
    let x : Identifier = id_at r c in
    let op : Op = Text x s l q ch in
    let hold = holder_stays (typed_texts r (suc c) s (Some x) q chs) (op ∷ h) x op ready.1 (holder-own op h x (id_eq-refl x)) in
    λ i. scalar_of (hold i) ++ typed_scalars chs r (suc c) s (Some x) q (op ∷ h) ready.1 i

-- a put writes its scalars
pub put_writes : (r : ℕ) (h w : List Op) (k at : ℕ) (new : List ℕ) (s : Identifier) → Lawful h → slice_get (shown catalogue h) k ≡ Some s → at ≤ length (shown (within s) h)
    → IsTextEdit h (made r h w (Put k at new)) s at 0 new
put_writes r h w k at new s v e l =
    let c : ℕ = next_counter r h w in
    let ids : List Identifier = typed_ids r c new in
    let eq = put_made r h w k s at new e in
    let ed : IsEdit (within s) h (put_in r h w s at new) at 0 ids = subst (λ ops. IsEdit (within s) h ops at 0 ids) eq (put_lands r h w k at new s v e l).0 in
    subst (λ ops. IsTextEdit h ops s at 0 new) (sym eq)
    (text_edit h (put_in r h w s at new) s at 0 ids new v ed (typed_scalars new r c s (left_for (within s) h at) (right_for (within s) h at) h ed.ready))

-- a cut erases
pub cut_erases : (r : ℕ) (h w : List Op) (k at n : ℕ) (s : Identifier) → Lawful h → slice_get (shown catalogue h) k ≡ Some s
    → IsTextEdit h (made r h w (Cut k at n)) s at n []
cut_erases r h w k at n s v e = text_edit h (made r h w (Cut k at n)) s at n [] [] v (cut_takes r h w k at n s v e).0 refl

-- a section that is dropped leaves the texts
pub drop_keeps_texts : (r : ℕ) (h w : List Op) (k : ℕ) (s t : Identifier) → Lawful h → slice_get (shown catalogue h) k ≡ Some s
    → text (history_with h (made r h w (DropSection k))) t ≡ text h t
drop_keeps_texts r h w k s t v e = text_there catalogue h (made r h w (DropSection k)) k 1 [] t v (drop_takes r h w k s v e).0 (not_catalogue t)

-- a section that is added leaves the texts
pub add_keeps_texts : (r : ℕ) (h w : List Op) (at : ℕ) (title : List ℕ) (t : Identifier) → Lawful h → at ≤ length (shown catalogue h)
    → text (history_with h (made r h w (Add at title))) t ≡ text h t
add_keeps_texts r h w at title t v l =
    text_there catalogue h (made r h w (Add at title)) at 0 (id_at r (next_counter r h w) ∷ []) t v (add_lands r h w at title v l).0 (not_catalogue t)

-- a text is as long as what is shown
pub text_length : (h : List Op) (s : Identifier) → Lawful h → length (text h s) ≡ length (shown (within s) h)
text_length h s w = length_flat (scalars_at h) (shown (within s) h) (singles h s w)
