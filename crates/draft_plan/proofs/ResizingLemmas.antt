-- Sections dropped and added: which are shown.
use Rattle.std.proofs.Common.{List, [], ap, arith, drop, get_or, inl, inr, length, not, refl, subst, suc, sym, take, ℕ, ◌+◌, ◌++◌, ◌<◌, ◌≤◌, ◌∙◌, ◌∷◌, ◌≡◌, ◌≢◌, ◌⊎◌, true, false}
use Rattle.std.proofs.Common.{zero}
use Rattle.std.specs.Prelude.{IsSome, None, Some, filter, option_map, slice_get}
use Rattle.std.specs.List.{Contains}
use Rattle.std.proofs.lemmas.Bool.{cases_eq, false≢true}
use Rattle.std.proofs.lemmas.List.{append-nil}
use Rattle.std.proofs.lemmas.List.Elements.{All-contains}
use Rattle.std.proofs.lemmas.Option.{slice_get-map, slice_get_read}
use Rattle.fugue_ids.specs.Identifiers.{Identifier, id_eq}
use Rattle.fugue_ids.specs.declared.op.Op.{Op}
use Rattle.fugue_ids.proofs.IdentifierLemmas.{eq-id_eq, ne-id_eq}
use Rattle.fugue_ids.proofs.ListLemmas.{all_pairs_head, all_pairs_tail, contains_filter, contains_filter_from}
use Rattle.origin_model.specs.declared.operations.Place.TheVariants.{Catalogue as catalogue}
use Rattle.origin_model.specs.edits.Edits.{splice}
use Rattle.origin_model.specs.operations.Verdict.{Lawful}
use Rattle.origin_model.specs.order.Printed.{shown}
use Rattle.origin_model.proofs.edits.SplitLemmas.{get_in}
use Rattle.catalogue_notes.specs.Arranged.{arranged}
use Rattle.catalogue_notes.specs.Outlining.{IsOutline, entry_sections}
use Rattle.catalogue_notes.specs.declared.entry.Entry.{Entry}
use Rattle.catalogue_notes.proofs.ArrangedLemmas.{arranged_once, arranged_shown, shown_arranged}
use Rattle.catalogue_notes.proofs.PartLemmas.{Distinct, filter_out, is_other}
use Rattle.section_plan.specs.Matching.{part_of}
use Rattle.section_plan.specs.declared.pairs.Pairs.{Pairs}
use Rattle.draft_plan.specs.Resizing.{AreDistinct, AreLeft, IsWithout}
use Rattle.draft_plan.proofs.RevisionLemmas.{stands_at}

-- distinct members stand at one place each
pub places_once : (xs : List Identifier) → Distinct xs → AreDistinct xs
places_once [] d j k s e f = cc
places_once (x ∷ xs) d zero zero s e f = refl
places_once (x ∷ xs) d zero (suc k) s e f = let same : x ≡ s = cc in absurd (All-contains (λ y. x ≢ y) xs s (all_pairs_head (λ a b. a ≢ b) x xs d) (get_in xs k s f) same)
places_once (x ∷ xs) d (suc j) zero s e f = let same : x ≡ s = cc in absurd (All-contains (λ y. x ≢ y) xs s (all_pairs_head (λ a b. a ≢ b) x xs d) (get_in xs j s e) same)
places_once (x ∷ xs) d (suc j) (suc k) s e f = ap suc (places_once xs (all_pairs_tail (λ a b. a ≢ b) x xs d) j k s e f)

-- one of distinct members goes
pub without_one : (xs : List Identifier) (k : ℕ) (s : Identifier) → Distinct xs → slice_get xs k ≡ Some s → IsWithout s xs (splice xs k 1 [])
without_one xs k s d e t =
    (λ m. from t (subst (λ l. Contains l t) same m), λ both. subst (λ l. Contains l t) (sym same) (contains_filter (is_other s) xs t both.0 (ap not (ne-id_eq t s both.1))))
  where
    same : splice xs k 1 [] ≡ filter (is_other s) xs
    same = let one : suc k ≡ k + 1 =
        omega arith in sym (filter_out xs k s d e ∙ ap (λ n. take k xs ++ drop n xs) one ∙ ap (λ l. l ++ drop (k + 1) xs) (sym (append-nil (take k xs))))

    from : (t : Identifier) → Contains (filter (is_other s) xs) t → Contains xs t × t ≢ s
    from t m = let both = contains_filter_from (is_other s) xs t m in (both.0, λ same. let e : not (id_eq t s) ≡ false = ap not (eq-id_eq t s same) in false≢true (sym e ∙ both.1))

-- the section of an entry
pub entry_section : (es : List Entry) (k : ℕ) (e : Entry) → k < length es → e ≡ get_or es k e → slice_get (entry_sections es) k ≡ Some e.section
entry_section es k e l is = slice_get-map (λ (x : Entry). x.section) es k ∙ ap (option_map (λ (x : Entry). x.section)) (slice_get_read es (length es) k e refl l is)

-- none was dropped yet
pub left_start : (h : List Op) (es : List Entry) (pairs : Pairs) → Lawful h → IsOutline h es → AreLeft (entry_sections es) pairs 0 (shown catalogue h)
left_start h es pairs w o = record {
  kept = λ i s e side. arranged_shown h s (subst (λ l. Contains l s) o.listed (get_in (entry_sections es) i s e));
  only = λ s m. let at = stands_at (entry_sections es) s (subst (λ l. Contains l s) (sym o.listed) (shown_arranged h s w m)) in (at.0, at.1, inl (omega arith));
}

-- what is left was shown
pub left_shown : (h : List Op) (es : List Entry) (pairs : Pairs) (place : ℕ) (left : List Identifier) → IsOutline h es → AreLeft (entry_sections es) pairs place left
    → (s : Identifier) → Contains left s → Contains (shown catalogue h) s
left_shown h es pairs place left o l s m = let at = l.only s m in arranged_shown h s (subst (λ xs. Contains xs s) o.listed (get_in (entry_sections es) at.0 s at.1))

-- a section that has a part is left
pub left_stays : (ys : List Identifier) (p : Pairs) (k : ℕ) (xs : List Identifier) → AreLeft ys p k xs → IsSome (part_of p k) → AreLeft ys p (k + 1) xs
left_stays ys p k xs was some = record {
  kept = λ i s e side. elim side [ inl l ↦ was.kept i s e (inl (omega arith)) | inr t ↦ was.kept i s e (inr t) ];
  only = λ s m. let at = was.only s m in (at.0, at.1, next at.0 at.2);
}
  where
    next : (i : ℕ) → (k ≤ i) ⊎ IsSome (part_of p i) → (k + 1 ≤ i) ⊎ IsSome (part_of p i)
    next i (inr t) = inr t
    next i (inl l) = elim (cases_eq i k) [ inl e ↦ inr (subst (λ n. IsSome (part_of p n)) (sym e) some) | inr ne ↦ inl (omega arith) ]

-- and one that has none goes
pub left_goes : (ys : List Identifier) (p : Pairs) (k : ℕ) (xs zs : List Identifier) (s : Identifier) → AreDistinct ys → AreLeft ys p k xs → slice_get ys k ≡ Some s
    → part_of p k ≡ None → IsWithout s xs zs
    → AreLeft ys p (k + 1) zs
left_goes ys p k xs zs s once was at none without = record {
  kept = λ i t e side. (without t).1 (was.kept i t e (earlier i side), λ same. other i t e same side);
  only = λ t m. let both = (without t).0 m in let place = was.only t both.0 in (place.0, place.1, next place.0 t place.1 both.1 place.2);
}
  where
    earlier : (i : ℕ) → (k + 1 ≤ i) ⊎ IsSome (part_of p i) → (k ≤ i) ⊎ IsSome (part_of p i)
    earlier i (inl l) = inl (omega arith)
    earlier i (inr t) = inr t

    no_part : (i : ℕ) → i ≡ k → IsSome (part_of p i) → ⊥
    no_part i e some = let f : false ≡ true = subst IsSome (ap (part_of p) e ∙ none) some in cc

    other : (i : ℕ) (t : Identifier) → slice_get ys i ≡ Some t → t ≡ s → (k + 1 ≤ i) ⊎ IsSome (part_of p i) → ⊥
    other i t e same (inl l) = let f = once i k s (e ∙ ap Some same) at in omega arith
    other i t e same (inr some) = no_part i (once i k s (e ∙ ap Some same) at) some

    next : (i : ℕ) (t : Identifier) → slice_get ys i ≡ Some t → t ≢ s → (k ≤ i) ⊎ IsSome (part_of p i) → (k + 1 ≤ i) ⊎ IsSome (part_of p i)
    next i t e ne (inr some) = inr some
    next i t e ne (inl l) = elim (cases_eq i k) [ inl same ↦ let f = ap (slice_get ys) same in absurd (ne (cc (e, f, at))) | inr apart ↦ inl (omega arith) ]

-- the sections of an outline are distinct
pub entries_once : (h : List Op) (es : List Entry) → Lawful h → IsOutline h es → AreDistinct (entry_sections es)
entries_once h es w o = subst AreDistinct (sym o.listed) (places_once (arranged h) (arranged_once h w))
