-- The entries of sections, one after another.
use Rattle.std.proofs.Common.{Bool, List, [], ap, get_or, inl, inr, length, not, subst, suc, sym, take, ℕ, ◌+◌, ◌++◌, ◌<◌, ◌∙◌, ◌∷◌, ◌≡◌, ◌≢◌}
use Rattle.std.specs.Prelude.{Some, slice_get, string_bytes}
use Rattle.std.specs.List.{All, AllPairs, Contains}
use Rattle.std.specs.Str.{encode_utf8_all}
use Rattle.std.proofs.lemmas.Bool.{cases_Bool}
use Rattle.std.proofs.lemmas.List.{map-append, take_more}
use Rattle.std.proofs.lemmas.List.Elements.{All-contains, All-push}
use Rattle.fugue_ids.specs.Identifiers.{Identifier}
use Rattle.fugue_ids.specs.Listed.{index_of}
use Rattle.fugue_ids.specs.declared.op.Op.{Op}
use Rattle.fugue_ids.proofs.IdentifierLemmas.{cases_id, index_of-here, index_of-there}
use Rattle.fugue_ids.proofs.ListLemmas.{all_pairs_head, all_pairs_tail, contains_cases, contains_none}
use Rattle.origin_model.specs.declared.operations.Place.TheVariants.{Catalogue as catalogue}
use Rattle.origin_model.specs.operations.Verdict.{Lawful}
use Rattle.origin_model.specs.order.Printed.{shown}
use Rattle.run_store.specs.Cells.{cell_ids, cells_shown, shown_before}
use Rattle.run_store.specs.declared.cell.Cell.{Cell}
use Rattle.catalogue_notes.specs.Arranged.{arranged, heading}
use Rattle.catalogue_notes.specs.Outlining.{AreEntries, IsEntry, entry_sections}
use Rattle.catalogue_notes.specs.declared.entry.Entry.{Entry}
use Rattle.catalogue_notes.specs.Printing.{IsLayout, title_source, title_of_op}
use Rattle.catalogue_notes.specs.declared.layout.Layout.{Layout}
use Rattle.catalogue_notes.proofs.PartLemmas.{filter_no, filter_yes}
use Rattle.catalogue_notes.proofs.PrintingLemmas.{heading_found}
use Rattle.catalogue_notes.proofs.RetitlingLemmas.{arranged_section as arranged_held}
use Rattle.section_list.proofs.ShownLemmas.{visible_listed}

abbrev visible : Cell → Bool
visible c = not c.hidden

-- a visible element stands among the visible ones where as many as stand before it say
pub visible_place : (cells : List Cell) (x : Identifier) → AllPairs (λ a b. a ≢ b) (cell_ids cells) → Contains (cell_ids (cells_shown cells)) x
    → slice_get (cell_ids (cells_shown cells)) (shown_before cells x) ≡ Some x
visible_place [] x d m = absurd (contains_none x m)
visible_place (c ∷ cs) x d m =
    let i : ℕ = index_of (cell_ids cs) x in
    let others : Contains (cell_ids cs) x → c.id ≢ x = λ k. All-contains (λ y. c.id ≢ y) (cell_ids cs) x (all_pairs_head (λ a b. a ≢ b) c.id (cell_ids cs) d) k in
    let rest : Contains (cell_ids (cells_shown cs)) x → slice_get (cell_ids (cells_shown cs)) (shown_before cs x) ≡ Some x =
    λ k. visible_place cs x (all_pairs_tail (λ a b. a ≢ b) c.id (cell_ids cs) d) k in
    elim (cases_id x c.id) [
      | inl e ↦
          let none : shown_before (c ∷ cs) x ≡ 0 = ap (λ k. length (cells_shown (take k (c ∷ cs)))) (index_of-here c.id (cell_ids cs) x e) in
          elim (cases_Bool c.hidden) [
            | inl k ↦
                let passed : cells_shown (c ∷ cs) ≡ cells_shown cs = filter_no visible c cs (ap not k) in
                absurd (others (visible_listed cs x (subst (λ z. Contains (cell_ids z) x) passed m)) (sym e))
            | inr k ↦
                let first : cells_shown (c ∷ cs) ≡ c ∷ cells_shown cs = filter_yes visible c cs (ap not k) in
                (λ j. slice_get (cell_ids (first j)) (none j)) ∙ ap Some (sym e)
          ]
      | inr n ↦
          let later : shown_before (c ∷ cs) x ≡ length (cells_shown (c ∷ take i cs)) = ap (λ k. length (cells_shown (take k (c ∷ cs)))) (index_of-there c.id (cell_ids cs) x n) in
          elim (cases_Bool c.hidden) [
            | inl k ↦
                let passed : cells_shown (c ∷ cs) ≡ cells_shown cs = filter_no visible c cs (ap not k) in
                let before : shown_before (c ∷ cs) x ≡ shown_before cs x = later ∙ ap length (filter_no visible c (take i cs) (ap not k)) in
                (λ j. slice_get (cell_ids (passed j)) (before j)) ∙ rest (subst (λ z. Contains (cell_ids z) x) passed m)
            | inr k ↦
                let first : cells_shown (c ∷ cs) ≡ c ∷ cells_shown cs = filter_yes visible c cs (ap not k) in
                let before : shown_before (c ∷ cs) x ≡ suc (shown_before cs x) = later ∙ ap length (filter_yes visible c (take i cs) (ap not k)) in
                let member : Contains (cell_ids (cells_shown cs)) x =
                elim (contains_cases c.id (cell_ids (cells_shown cs)) x (subst (λ z. Contains (cell_ids z) x) first m)) [ inl e ↦ absurd (n (sym e)) | inr t ↦ t ] in
                (λ j. slice_get (cell_ids (first j)) (before j)) ∙ rest member
          ]
    ]

-- one entry more
pub entries_more : (h : List Op) (sections : List Identifier) (i : ℕ) (s : Identifier) (old new : List Entry) (e : Entry) → i < length sections → s ≡ get_or sections i s
    → new ≡ old ++ e ∷ [] → e.section ≡ s
    → IsEntry h e → AreEntries h (take i sections) old → AreEntries h (take (i + 1) sections) new
entries_more h sections i s old new e below at is same one f = record {
  listed =
      ap entry_sections is
      ∙ map-append (λ (z : Entry). z.section) old (e ∷ [])
      ∙ (λ j. f.listed j ++ (same ∙ at) j ∷ [])
      ∙ sym (take_more sections i s below);
  each = subst (All (IsEntry h)) (sym is) (All-push (IsEntry h) old e f.each one);
}

-- what stands at a place of a list is a member of it
pub member_at : (xs : List Identifier) (i : ℕ) (x : Identifier) → i < length xs → x ≡ get_or xs i x → Contains xs x
member_at xs i x below is = (i, below, sym is)

-- the entry of an arranged section, by the number and the title that were found
pub section_entry : (h : List Op) (l : Layout) (e : Entry) (s : Identifier) → Lawful h → IsLayout h l → Contains l.arrangement.sections.items s → e.section ≡ s
    → slice_get (shown catalogue h) e.number ≡ Some s → string_bytes e.heading ≡ title_of_op (title_source h l s) → IsEntry h e
section_entry h l e s w f m is number heading_is =
    let arranged_here : Contains (arranged h) s = subst (λ z. Contains z s) f.arranged.sections m in
    record {
      numbered = number ∙ ap Some (sym is);
      headed =
          heading_is
          ∙ heading_found h l s w f (arranged_held h s w arranged_here)
          ∙ ap (λ z. encode_utf8_all (heading h z)) (sym is);
    }
