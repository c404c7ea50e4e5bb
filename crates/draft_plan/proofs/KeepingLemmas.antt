-- What a revision keeps, by the matching of sections and parts.
use Rattle.std.proofs.Common.{List, [], ap, arith, false, inl, inr, length, not, refl, sym, true, ℕ, ◌<◌, ◌∙◌, ◌∷◌, ◌≡◌, ◌≢◌, ◌⊎◌}
use Rattle.std.specs.Prelude.{None, Option, Some, map, option_map, slice_get}
use Rattle.std.specs.List.{Contains}
use Rattle.std.specs.Str.{chars}
use Rattle.std.proofs.lemmas.List.{length-map}
use Rattle.std.proofs.lemmas.Option.{same_Some, slice_get-get_or, slice_get-map}
use Rattle.fugue_ids.specs.Identifiers.{Identifier}
use Rattle.fugue_ids.specs.declared.op.Op.{Op}
use Rattle.origin_model.specs.operations.Verdict.{Lawful}
use Rattle.origin_model.proofs.edits.SplitLemmas.{get_in}
use Rattle.catalogue_notes.specs.Arranged.{arranged}
use Rattle.catalogue_notes.proofs.PartLemmas.{get_some}
use Rattle.section_plan.specs.Matching.{is_keyed, is_nothing, key_at, no_part, part_at, part_of, section_of, text_at_place}
use Rattle.section_plan.specs.Likeness.{alike}
use Rattle.section_plan.specs.declared.keys.Key.TheVariants.{Text, Title}
use Rattle.section_plan.specs.declared.pairs.Pairs.{Pairs}
use Rattle.section_plan.specs.declared.part.Part.{Part as ReadPart}
use Rattle.draft_plan.specs.Drafts.{Part}
use Rattle.draft_plan.specs.Keeping.{IsAddedBy, IsDropped, KeepsSections, KeepsText, MovesFew}
use Rattle.draft_plan.specs.Matching.{IsMatched}
use Rattle.draft_plan.specs.Plain.{arranged_part, arranged_parts}
use Rattle.draft_plan.specs.Readings.{seen_part}
use Rattle.draft_plan.specs.Shaping.{AreSectionsOf}
use Rattle.draft_plan.proofs.FewMovesLemmas.{few_none}
use Rattle.draft_plan.proofs.RevisionLemmas.{stands_at}
use Rattle.draft_plan.proofs.ShapeLemmas.{got}
use Rattle.draft_plan.proofs.TargetLemmas.{matched_within}

-- nothing was changed
pub keeps_same : (o : List Op) → KeepsSections o o
keeps_same o = record { texts = λ s t a b e some. inl ((a, a), refl); headings = λ s t d a. absurd (d.1 d.0); alike = λ s t d a. absurd (d.1 d.0); moves = few_none o }

-- the part that a section is seen as
record IsSeen (ps : List ReadPart) (h : List Op) (k : ℕ) (s : Identifier) : Type 0 where
  within : k < length ps
  seen : seen_part (part_at ps k) ≡ arranged_part h s

seen_at : (ps : List ReadPart) (h : List Op) (k : ℕ) (s : Identifier) → map seen_part ps ≡ arranged_parts h → slice_get (arranged h) k ≡ Some s → IsSeen ps h k s
seen_at ps h k s same e =
    let xs = arranged h in
    let l = (got xs k s e).0 in
    let long : length ps ≡ length xs = sym (length-map ps seen_part) ∙ (ap length same ∙ length-map xs (arranged_part h)) in
    let within : k < length ps = omega arith in
    let left = slice_get-map seen_part ps k ∙ ap (option_map seen_part) (slice_get-get_or ps k no_part within) in
    let right = slice_get-map (arranged_part h) xs k ∙ ap (option_map (arranged_part h)) e in
    record {
      within = within;
      seen = same_Some (seen_part (part_at ps k)) (arranged_part h s) (sym left ∙ (ap (λ l. slice_get l k) same ∙ right));
    }

-- a text that is not empty is a key
keyed : (p : ReadPart) (text : List ℕ) → p.text.now ≡ text → text ≢ [] → is_keyed Text p ≡ true
keyed p [] e some = absurd (some refl)
keyed p (b ∷ bs) e some = ap (λ t. not (is_nothing t)) e

module _ (o n : List Op) (parts : List ReadPart) (p : Pairs) (is : IsMatched o parts p) (stand : AreSectionsOf o p (length parts) (arranged n))
    (now : map seen_part parts ≡ arranged_parts n) (w : Lawful o) where
  -- a section that has a part stands at its place
  paired : (i j : ℕ) (s : Identifier) → section_of p j ≡ Some i → slice_get (arranged o) i ≡ Some s → slice_get (arranged n) j ≡ Some s
  paired i j s e f = stand.kept j i s e f

  -- and what stands at the place of a part is its section
  section_there : (i j : ℕ) (t : Identifier) → section_of p j ≡ Some i → slice_get (arranged n) j ≡ Some t → slice_get (arranged o) i ≡ Some t
  section_there i j t e f =
      let within = matched_within (length is.sections) (length parts) p j i is.matching e in
      let long : length is.sections ≡ length (arranged o) = sym (length-map is.sections seen_part) ∙ (ap length is.sections_are ∙ length-map (arranged o) (arranged_part o)) in
      let s = get_some (arranged o) i (omega arith) in
      let same : s.0 ≡ t = same_Some s.0 t (sym (stand.kept j i s.0 e s.1) ∙ f) in
      s.1 ∙ ap Some same

  texts : (s t : Identifier) → Contains (arranged o) s → Contains (arranged n) t → (arranged_part o s).text ≡ (arranged_part n t).text → (arranged_part n t).text ≢ []
      → KeepsText o n s ⊎ KeepsText o n t
  texts s t a b e some =
      let i = stands_at (arranged o) s a in
      let j = stands_at (arranged n) t b in
      let x = seen_at is.sections o i.0 s is.sections_are i.1 in
      let y = seen_at parts n j.0 t now j.1 in
      let x_text = ap (λ (q : Part). q.text) x.seen in
      let y_text = ap (λ (q : Part). q.text) y.seen in
      let key : key_at Text is.sections i.0 ≡ key_at Text parts j.0 = x_text ∙ (e ∙ sym y_text) in
      elim (is.texts i.0 j.0 x.within y.within key (keyed (part_at parts j.0) (arranged_part n t).text y_text some)) [
        | inl k ↦
            let back = (is.matching.inverse i.0 k.0).1 k.1 in
            let there = paired i.0 k.0 s back i.1 in
            let z = seen_at parts n k.0 s now there in
            inl ((a, get_in (arranged n) k.0 s there), sym x_text ∙ (sym k.2 ∙ ap (λ (q : Part). q.text) z.seen))
        | inr k ↦
            let was = section_there k.0 j.0 t k.1 j.1 in
            let z = seen_at is.sections o k.0 t is.sections_are was in
            inr ((get_in (arranged o) k.0 t was, b), sym (ap (λ (q : Part). q.text) z.seen) ∙ (k.2 ∙ y_text))
      ]

  -- a dropped section is free, and so is the part of an added one
  free_section : (i : ℕ) (s : Identifier) → IsDropped o n s → slice_get (arranged o) i ≡ Some s → (q : Option ℕ) → part_of p i ≡ q → part_of p i ≡ None
  free_section i s gone at None f = f
  free_section i s gone at (Some k) f = absurd (gone.1 (get_in (arranged n) k s (paired i k s ((is.matching.inverse i k).1 f) at)))

  free_part : (j : ℕ) (t : Identifier) → IsAddedBy o n t → slice_get (arranged n) j ≡ Some t → (q : Option ℕ) → section_of p j ≡ q → section_of p j ≡ None
  free_part j t came at None f = f
  free_part j t came at (Some k) f = absurd (came.1 (get_in (arranged o) k t (section_there k j t f at)))

  headings : (s t : Identifier) → IsDropped o n s → IsAddedBy o n t → (arranged_part o s).title ≢ (arranged_part n t).title
  headings s t gone came e =
      let i = stands_at (arranged o) s gone.0 in
      let j = stands_at (arranged n) t came.0 in
      let x = seen_at is.sections o i.0 s is.sections_are i.1 in
      let y = seen_at parts n j.0 t now j.1 in
      let key : key_at Title is.sections i.0 ≡ key_at Title parts j.0 = ap (λ (q : Part). q.title) x.seen ∙ (e ∙ sym (ap (λ (q : Part). q.title) y.seen)) in
      is.titles i.0 j.0 x.within y.within (free_section i.0 s gone i.1 (part_of p i.0) refl) (free_part j.0 t came j.1 (section_of p j.0) refl) refl key

  differ : (s t : Identifier) → IsDropped o n s → IsAddedBy o n t → alike (chars (arranged_part o s).text) (chars (arranged_part n t).text) ≡ false
  differ s t gone came =
      let i = stands_at (arranged o) s gone.0 in
      let j = stands_at (arranged n) t came.0 in
      let x = seen_at is.sections o i.0 s is.sections_are i.1 in
      let y = seen_at parts n j.0 t now j.1 in
      let none = is.alike i.0 j.0 x.within y.within (free_section i.0 s gone i.1 (part_of p i.0) refl) (free_part j.0 t came j.1 (section_of p j.0) refl) in
      ap (λ (q : Part). alike (chars q.text) (chars (arranged_part n t).text)) (sym x.seen)
      ∙ ap (λ (q : Part). alike (text_at_place is.sections i.0) (chars q.text)) (sym y.seen)
      ∙ none

  pub kept_sections : MovesFew o n → KeepsSections o n
  kept_sections few = record { texts = texts; headings = headings; alike = differ; moves = few }
