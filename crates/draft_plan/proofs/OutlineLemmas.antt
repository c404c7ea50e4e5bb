-- The sections by their entries.
use Rattle.std.proofs.Common.{List, [], ap, arith, get_or, length, map, refl, subst, suc, sym, zero, ℕ, ◌<◌, ◌∙◌, ◌∷◌, ◌≡◌}
use Rattle.std.specs.Prelude.{Some, slice_get, slice_index_or, string_bytes}
use Rattle.std.specs.List.{All}
use Rattle.std.proofs.lemmas.List.{get_or-map, length-map}
use Rattle.std.proofs.lemmas.List.Elements.{All-get_or, All-head, All-tail}
use Rattle.fugue_ids.specs.declared.op.Op.{Op}
use Rattle.origin_model.specs.declared.operations.Place.TheVariants.{Catalogue as catalogue}
use Rattle.origin_model.specs.operations.Verdict.{Lawful}
use Rattle.origin_model.specs.order.Printed.{shown}
use Rattle.catalogue_notes.specs.Arranged.{arranged}
use Rattle.catalogue_notes.specs.Outlining.{IsEntry, IsOutline}
use Rattle.catalogue_notes.specs.declared.entry.Entry.{Entry}
use Rattle.catalogue_notes.proofs.ArrangedLemmas.{arranged_length}
use Rattle.draft_plan.specs.Drafts.{Part}
use Rattle.draft_plan.specs.Plain.{arranged_part, arranged_parts}
use Rattle.draft_plan.specs.Readings.{seen_part}
use Rattle.section_plan.specs.declared.part.Part.{Part as ReadPart}

pub outline_long : (h : List Op) (es : List Entry) → IsOutline h es → length es ≡ length (arranged h)
outline_long h es o = sym (length-map es (λ (e : Entry). e.section)) ∙ ap length o.listed

pub outline_count : (h : List Op) (es : List Entry) → Lawful h → IsOutline h es → length es ≡ length (shown catalogue h)
outline_count h es w o = outline_long h es o ∙ arranged_length h w

mapped_at : (es : List Entry) (k : ℕ) (e : Entry) → k < length es → e ≡ get_or es k e → slice_get (map (λ (e : Entry). e.section) es) k ≡ Some e.section
mapped_at [] k e l q = absurd (omega (arith, l))
mapped_at (d ∷ es) zero e l q = ap (λ (z : Entry). Some z.section) (sym q)
mapped_at (d ∷ es) (suc k) e l q = mapped_at es k e (omega (arith, l)) q

-- an entry of the arrangement
pub record IsEntryAt (h : List Op) (k : ℕ) (e : Entry) : Type 0 where
  pub placed : slice_get (arranged h) k ≡ Some e.section
  pub entry : IsEntry h e

pub entry_at : (h : List Op) (es : List Entry) (k : ℕ) (e : Entry) → IsOutline h es → k < length es → e ≡ get_or es k e → IsEntryAt h k e
entry_at h es k e o l q = record {
  placed = ap (λ xs. slice_get xs k) (sym o.listed) ∙ mapped_at es k e l q;
  entry = subst (IsEntry h) (sym q) (All-get_or (IsEntry h) es k e l o.each);
}

-- the headings of the entries are those of the sections
headings_are : (h : List Op) (es : List Entry) → All (IsEntry h) es
    → map (λ (e : Entry). string_bytes e.heading) es ≡ map (λ (p : Part). p.title) (map (arranged_part h) (map (λ (e : Entry). e.section) es))
headings_are h [] a = refl
headings_are h (e ∷ es) a = λ i. (All-head (IsEntry h) e es a).headed i ∷ headings_are h es (All-tail (IsEntry h) e es a) i

titles_are : (ps : List ReadPart) → map (λ (p : Part). p.title) (map seen_part ps) ≡ map (λ (p : ReadPart). p.title.now) ps
titles_are [] = refl
titles_are (p ∷ ps) = ap (λ l. p.title.now ∷ l) (titles_are ps)

-- where what is arranged are the parts, the headings are their titles
pub same_titles : (h : List Op) (es : List Entry) (ps : List ReadPart) → IsOutline h es → arranged_parts h ≡ map seen_part ps
    → map (λ (e : Entry). string_bytes e.heading) es ≡ map (λ (p : ReadPart). p.title.now) ps
same_titles h es ps o e =
    headings_are h es o.each ∙ ap (λ xs. map (λ (p : Part). p.title) (map (arranged_part h) xs)) o.listed ∙ ap (map (λ (p : Part). p.title)) e ∙ titles_are ps

-- a part among those that were read
pub part_is : (ps : List ReadPart) (k : ℕ) (p : ReadPart) → k < length ps → (d : Part) → seen_part (get_or ps k p) ≡ slice_index_or (map seen_part ps) k d
part_is ps k p l d = sym (get_or-map seen_part ps k p d l)

-- so each heading is the title of its part
pub titles_at : (es : List Entry) (ps : List ReadPart) (k : ℕ) (e : Entry) (p : ReadPart) → k < length es → k < length ps → e ≡ get_or es k e
    → map (λ (e : Entry). string_bytes e.heading) es ≡ map (λ (p : ReadPart). p.title.now) ps → string_bytes e.heading ≡ (get_or ps k p).title.now
titles_at es ps k e p l m q same =
    let f : Entry → List ℕ = λ z. string_bytes z.heading in
    let g : ReadPart → List ℕ = λ z. z.title.now in
    ap f q ∙ sym (get_or-map f es k e [] l) ∙ ap (λ xs. get_or xs k []) same ∙ get_or-map g ps k p [] m
