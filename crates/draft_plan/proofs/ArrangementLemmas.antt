-- Texts that are written, and elements of texts that are taken away, leave how sections are arranged and headed.
use Rattle.std.proofs.Common.{List, [], ap, arith, drop, false, inl, inr, length, max, not, refl, subst, suc, sym, take, true, ℕ, ◌&&◌, ◌||◌, ◌∙◌, ◌∷◌, ◌≡◌, ◌≢◌, ◌≤◌}
use Rattle.std.specs.Prelude.{None, Option, Some, filter, flat_map, map, slice_get}
use Rattle.std.specs.List.{All, Contains}
use Rattle.std.proofs.lemmas.Bool.{cases_Bool, false≢true}
use Rattle.std.proofs.lemmas.List.Elements.{All-cons, All-drop, All-head, All-nil, All-tail, All-take}
use Rattle.fugue_ids.specs.Identifiers.{Identifier, id_eq}
use Rattle.fugue_ids.specs.Ops.{id_of}
use Rattle.fugue_ids.specs.declared.op.Op.{Op}
use Rattle.fugue_ids.specs.declared.op.Op.TheVariants.{Delete, Note, Section, Text}
use Rattle.fugue_ids.proofs.IdentifierLemmas.{id_eq-true, ne-id_eq}
use Rattle.fugue_ids.proofs.ListLemmas.{all_from_contains, contains_filter_from}
use Rattle.origin_model.specs.declared.operations.Place.TheVariants.{Catalogue as catalogue, Section as within}
use Rattle.origin_model.specs.edits.Edits.{Cut, Put, ReadyInTurn, cut_in, deletes_of, history_with, id_at, left_for, made, next_counter, put_in, right_for, typed_texts}
use Rattle.origin_model.specs.operations.History.{element_of, holder, is_own}
use Rattle.origin_model.specs.operations.Verdict.{Lawful}
use Rattle.origin_model.specs.order.Laws.{IsIn}
use Rattle.origin_model.specs.order.Order.{order}
use Rattle.origin_model.specs.order.Printed.{deletes, is_hidden, shown, title_of}
use Rattle.origin_model.proofs.SharedLemmas.{holder-other, holder-own, order_total}
use Rattle.origin_model.proofs.edits.CutLemmas.{cut_takes}
use Rattle.origin_model.proofs.edits.MadeLemmas.{cut_made, put_made}
use Rattle.origin_model.proofs.edits.PutLemmas.{put_lands}
use Rattle.catalogue_notes.specs.Arranged.{arranged, best, counts, winner}
use Rattle.catalogue_notes.specs.Arranging.{MovesStay}
use Rattle.catalogue_notes.specs.Claims.{Claim, Move, Retitle, move_in, retitle_in}
use Rattle.catalogue_notes.specs.Lift.{greatest, is_valid_title, lift, moves, retitles, stamp}
use Rattle.catalogue_notes.proofs.ArrangedLemmas.{move_found, move_test, position_by}
use Rattle.catalogue_notes.proofs.ArrangerLemmas.{arranges_still}
use Rattle.catalogue_notes.proofs.ClaimLemmas.{claim_found, claims-none}
use Rattle.catalogue_notes.proofs.HolderLemmas.{joins, not_both, same_value}
use Rattle.catalogue_notes.proofs.LiftLemmas.{lift-none, passing_from}
use Rattle.catalogue_notes.proofs.PartLemmas.{filter_same}
use Rattle.catalogue_notes.proofs.RetitleLemmas.{title-kept, title_shape}
use Rattle.draft_plan.specs.Texts.{KeepsArrangement}

-- the operation is a Text or a Delete
abbrev IsOfText : Op → Type 0
IsOfText (Section id left right title) = ⊥
IsOfText (Text id section left right ch) = Unit {0}
IsOfText (Delete target) = Unit {0}
IsOfText (Note id named code body) = ⊥

-- operations of the text of one section: they delete none but elements of that
record AreOfText (s : Identifier) (h ops : List Op) : Type 0 where
  kind : All IsOfText ops
  ready : ReadyInTurn h ops
  spare : (x : Identifier) (f : Op) → holder h x ≡ Some f → element_of (within s) f ≡ None → All (λ op. deletes x op ≡ false) ops

-- one of them changes no claim
one_lift : (h : List Op) (op : Op) → IsOfText op → lift (op ∷ h) ≡ lift h
one_lift h (Section id left right title) k = absurd k
one_lift h (Text id section left right ch) k = lift-none (Text id section left right ch) h refl
one_lift h (Delete target) k = lift-none (Delete target) h refl
one_lift h (Note id named code body) k = absurd k

one_moves : (h : List Op) (op : Op) → IsOfText op → moves (op ∷ h) ≡ moves h
one_moves h (Section id left right title) k = absurd k
one_moves h (Text id section left right ch) k = claims-none move_in move_test (Text id section left right ch) h refl
one_moves h (Delete target) k = claims-none move_in move_test (Delete target) h refl
one_moves h (Note id named code body) k = absurd k

one_retitles : (h : List Op) (op : Op) → IsOfText op → retitles (op ∷ h) ≡ retitles h
one_retitles h (Section id left right title) k = absurd k
one_retitles h (Text id section left right ch) k = claims-none retitle_in is_valid_title (Text id section left right ch) h refl
one_retitles h (Delete target) k = claims-none retitle_in is_valid_title (Delete target) h refl
one_retitles h (Note id named code body) k = absurd k

-- nor a title
untitled : (op : Op) → IsOfText op → title_of (Some op) ≡ []
untitled (Section id left right title) k = absurd k
untitled (Text id section left right ch) k = refl
untitled (Delete target) k = refl
untitled (Note id named code body) k = absurd k

same_lift : (ops h : List Op) → All IsOfText ops → lift (history_with h ops) ≡ lift h
same_lift [] h k = refl
same_lift (op ∷ ops) h k = same_lift ops (op ∷ h) (All-tail IsOfText op ops k) ∙ one_lift h op (All-head IsOfText op ops k)

same_moves : (ops h : List Op) → All IsOfText ops → moves (history_with h ops) ≡ moves h
same_moves [] h k = refl
same_moves (op ∷ ops) h k = same_moves ops (op ∷ h) (All-tail IsOfText op ops k) ∙ one_moves h op (All-head IsOfText op ops k)

same_retitles : (ops h : List Op) → All IsOfText ops → retitles (history_with h ops) ≡ retitles h
same_retitles [] h k = refl
same_retitles (op ∷ ops) h k = same_retitles ops (op ∷ h) (All-tail IsOfText op ops k) ∙ one_retitles h op (All-head IsOfText op ops k)

own_id : (op : Op) (t : Identifier) → is_own t op ≡ true → (x : Identifier) × (id_of op ≡ Some x) × (x ≡ t)
own_id (Section id left right title) t k = (id, refl, id_eq-true id t k)
own_id (Text id section left right ch) t k = (id, refl, id_eq-true id t k)
own_id (Delete target) t k = absurd (false≢true k)
own_id (Note id named code body) t k = (id, refl, id_eq-true id t k)

same_titles : (ops h : List Op) (t : Identifier) → All IsOfText ops → ReadyInTurn h ops → title_of (holder (history_with h ops) t) ≡ title_of (holder h t)
same_titles [] h t k r = refl
same_titles (op ∷ ops) h t k r =
    same_titles ops (op ∷ h) t (All-tail IsOfText op ops k) r.1
    ∙ elim (cases_Bool (is_own t op)) [
      | inl own ↦
          let new = own_id op t own in
          ap title_of (holder-own op h t own) ∙ untitled op (All-head IsOfText op ops k)
          ∙ sym (ap title_of (ap (holder h) (sym new.2) ∙ (joins h op r.0).fresh new.0 new.1))
      | inr other ↦ ap title_of (holder-other op h t other)
    ]

same_hidden : (ops h : List Op) (x : Identifier) → All (λ op. deletes x op ≡ false) ops → is_hidden (history_with h ops) x ≡ is_hidden h x
same_hidden [] h x k = refl
same_hidden (op ∷ ops) h x k =
    same_hidden ops (op ∷ h) x (All-tail (λ op. deletes x op ≡ false) op ops k) ∙ ap (λ b. b || is_hidden h x) (All-head (λ op. deletes x op ≡ false) op ops k)

longer : (ops h : List Op) → length h ≤ length (history_with h ops)
longer [] h = omega arith
longer (op ∷ ops) h = omega (arith, longer ops (op ∷ h))

-- an operation that says something is no element of a text
no_text-move : (s : Identifier) (f : Op) (m : Move) → move_in f ≡ Some m → element_of (within s) f ≡ None
no_text-move s (Section id left right title) m k = absurd (not_both None m refl k)
no_text-move s (Text id section left right ch) m k = absurd (not_both None m refl k)
no_text-move s (Delete target) m k = absurd (not_both None m refl k)
no_text-move s (Note id named code body) m k = refl

no_text-title : (s : Identifier) (f : Op) (r : Retitle) → retitle_in f ≡ Some r → element_of (within s) f ≡ None
no_text-title s (Section id left right title) r k = absurd (not_both None r refl k)
no_text-title s (Text id section left right ch) r k = absurd (not_both None r refl k)
no_text-title s (Delete target) r k = absurd (not_both None r refl k)
no_text-title s (Note id named code body) r k = refl

module _ (s : Identifier) (h ops : List Op) (w : Lawful h) (a : AreOfText s h ops) where
  -- the same claims count, where none of them is deleted
  same_winner : {V : Type 0} (cs : List (Claim V)) (t : Identifier) → ((c : Claim V) → Contains cs c → is_hidden (history_with h ops) c.id ≡ is_hidden h c.id)
      → winner (history_with h ops) t cs ≡ winner h t cs
  same_winner cs t stays =
      ap best (filter_same (counts (history_with h ops) t) (counts h t) cs (λ c m. ap (λ b. id_eq c.section t && not b) (stays c m)))

  move_stays : (c : Move) → Contains (moves h) c → is_hidden (history_with h ops) c.id ≡ is_hidden h c.id
  move_stays c m =
      let f = move_found h c w m in
      same_hidden ops h c.id (a.spare c.id f.0 f.1 (no_text-move s f.0 c (passing_from (move_test h) (move_in f.0) c f.2).0))

  title_stays : (c : Retitle) → Contains (retitles h) c → is_hidden (history_with h ops) c.id ≡ is_hidden h c.id
  title_stays c m =
      let f = claim_found retitle_in is_valid_title (λ e r k. (title_shape e r k).own) title-kept h c w m in
      same_hidden ops h c.id (a.spare c.id f.0 f.1 (no_text-title s f.0 c (passing_from (is_valid_title h) (retitle_in f.0) c f.2).0))

  same_mover : (t : Identifier) → winner (history_with h ops) t (moves (history_with h ops)) ≡ winner h t (moves h)
  same_mover t = ap (winner (history_with h ops) t) (same_moves ops h a.kind) ∙ same_winner (moves h) t move_stays

  same_titler : (t : Identifier) → winner (history_with h ops) t (retitles (history_with h ops)) ≡ winner h t (retitles h)
  same_titler t = ap (winner (history_with h ops) t) (same_retitles ops h a.kind) ∙ same_winner (retitles h) t title_stays

  same_stamp : stamp (history_with h ops) ≡ stamp h
  same_stamp i = max (greatest (map (λ (m : Move). m.stamp) (same_moves ops h a.kind i))) (greatest (map (λ (r : Retitle). r.stamp) (same_retitles ops h a.kind i)))

  same_arranged : shown catalogue (history_with h ops) ≡ shown catalogue h → arranged (history_with h ops) ≡ arranged h
  same_arranged same i = flat_map (λ x. filter (λ t. id_eq (position_by t (same_mover t i)) x) (same i)) (order catalogue (same_lift ops h a.kind i))

  moves_stay : arranged (history_with h ops) ≡ arranged h → MovesStay h (history_with h ops)
  moves_stay same = record {
    grew = longer ops h;
    lifted = same_lift ops h a.kind;
    moved = same_moves ops h a.kind;
    stamps = same_stamp;
    arranged_as = same;
    withdrawn = move_stays;
  }

  keeps : shown catalogue (history_with h ops) ≡ shown catalogue h → KeepsArrangement h (history_with h ops)
  keeps same = record {
    sections = same;
    arranged_as = same_arranged same;
    headings = λ t i. elim (same_titler t i) [ None ↦ same_titles ops h t a.kind a.ready i | Some r ↦ r.value ];
    retitled = same_retitles ops h a.kind;
    stamps = same_stamp;
    moved = same_moves ops h a.kind;
    arranges = arranges_still h (history_with h ops) (moves_stay (same_arranged same));
  }

-- texts that are typed
typed_kind : (chs : List ℕ) (r c : ℕ) (s : Identifier) (left right : Option Identifier) → All IsOfText (typed_texts r c s left right chs)
typed_kind [] r c s left right = All-nil IsOfText
typed_kind (ch ∷ chs) r c s left right =
    All-cons IsOfText (Text (id_at r c) s left right ch) (typed_texts r (suc c) s (Some (id_at r c)) right chs) tt (typed_kind chs r (suc c) s (Some (id_at r c)) right)

typed_spare : (chs : List ℕ) (r c : ℕ) (s x : Identifier) (left right : Option Identifier) → All (λ op. deletes x op ≡ false) (typed_texts r c s left right chs)
typed_spare [] r c s x left right = All-nil (λ op. deletes x op ≡ false)
typed_spare (ch ∷ chs) r c s x left right =
    All-cons (λ op. deletes x op ≡ false) (Text (id_at r c) s left right ch) (typed_texts r (suc c) s (Some (id_at r c)) right chs) refl
    (typed_spare chs r (suc c) s x (Some (id_at r c)) right)

-- Deletes
deletes_kind : (xs : List Identifier) → All IsOfText (deletes_of xs)
deletes_kind [] = All-nil IsOfText
deletes_kind (x ∷ xs) = All-cons IsOfText (Delete x) (deletes_of xs) tt (deletes_kind xs)

deletes_spare : (x : Identifier) (xs : List Identifier) → All (λ y. y ≢ x) xs → All (λ op. deletes x op ≡ false) (deletes_of xs)
deletes_spare x [] k = All-nil (λ op. deletes x op ≡ false)
deletes_spare x (y ∷ xs) k =
    All-cons (λ op. deletes x op ≡ false) (Delete y) (deletes_of xs) (ne-id_eq y x (All-head (λ y. y ≢ x) y xs k)) (deletes_spare x xs (All-tail (λ y. y ≢ x) y xs k))

-- what is shown of a section is a Text
shown_other : (h : List Op) (s x : Identifier) (f : Op) → Lawful h → holder h x ≡ Some f → element_of (within s) f ≡ None → All (λ y. y ≢ x) (shown (within s) h)
shown_other h s x f w held none =
    all_from_contains (λ y. y ≢ x) (shown (within s) h)
    (λ y m e.
    let k : IsIn (within s) h y = ((order_total (within s) h w).lists y).1 (contains_filter_from (λ z. not (is_hidden h z)) (order (within s) h) y m).0 in
    let same : k.op ≡ f = same_value (holder h y) k.op f k.held (ap (holder h) e ∙ held) in
    not_both (element_of (within s) f) y none (ap (element_of (within s)) (sym same) ∙ k.place))

pub put_keeps : (r : ℕ) (h w : List Op) (k at : ℕ) (new : List ℕ) (s : Identifier) → Lawful h → slice_get (shown catalogue h) k ≡ Some s → at ≤ length (shown (within s) h)
    → KeepsArrangement h (history_with h (made r h w (Put k at new)))
put_keeps r h w k at new s v e l =
    let ops : List Op = made r h w (Put k at new) in
    let is : ops ≡ put_in r h w s at new = put_made r h w k s at new e in
    let c : ℕ = next_counter r h w in
    let left : Option Identifier = left_for (within s) h at in
    let right : Option Identifier = right_for (within s) h at in
    let edit = (put_lands r h w k at new s v e l).0 in
    keeps s h ops v (record {
      kind = subst (All IsOfText) (sym is) (typed_kind new r c s left right);
      ready = edit.ready;
      spare = λ x f held none. subst (All (λ op. deletes x op ≡ false)) (sym is) (typed_spare new r c s x left right);
    }) (edit.elsewhere catalogue (λ d. cc d))

pub cut_keeps : (r : ℕ) (h w : List Op) (k at n : ℕ) (s : Identifier) → Lawful h → slice_get (shown catalogue h) k ≡ Some s
    → KeepsArrangement h (history_with h (made r h w (Cut k at n)))
cut_keeps r h w k at n s v e =
    let ops : List Op = made r h w (Cut k at n) in
    let xs : List Identifier = shown (within s) h in
    let is : ops ≡ cut_in h s at n = cut_made r h w k s at n e in
    let edit = (cut_takes r h w k at n s v e).0 in
    keeps s h ops v (record {
      kind = subst (All IsOfText) (sym is) (deletes_kind (take n (drop at xs)));
      ready = edit.ready;
      spare = λ x f held none. subst (All (λ op. deletes x op ≡ false)) (sym is)
          (deletes_spare x (take n (drop at xs)) (All-take (λ y. y ≢ x) n (drop at xs) (All-drop (λ y. y ≢ x) at xs (shown_other h s x f v held none))));
    }) (edit.elsewhere catalogue (λ d. cc d))
