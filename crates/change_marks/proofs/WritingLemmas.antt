-- Texts that are gathered part by part, and what they are of a section.
use Rattle.std.proofs.Common.{List, [], ap, false, refl, subst, sym, true, ◌++◌, ◌∙◌, ◌∷◌, ◌≡◌, ℕ}
use Rattle.std.specs.Prelude.{Bool, Result, cond, filter, flat_map, if◌then◌else◌, not}
use Rattle.std.specs.List.{list_any}
use Rattle.fugue_ids.specs.Gathers.{GathersText}
use Rattle.fugue_ids.specs.Identifiers.{Identifier}
use Rattle.fugue_ids.specs.Outs.{OutView}
use Rattle.fugue_ids.specs.declared.op.Op.{Op}
use Rattle.fugue_ids.specs.declared.out.Failed.{Failed}
use Rattle.fugue_ids.proofs.GatherLemmas.{gathers_join}
use Rattle.origin_model.specs.declared.operations.Place.TheVariants.{Section as within}
use Rattle.origin_model.specs.operations.Verdict.{Lawful}
use Rattle.origin_model.specs.order.Order.{order}
use Rattle.section_catalogue.proofs.PrintingLemmas.{IsUnderWay}
use Rattle.catalogue_notes.specs.Arranged.{arranged}
use Rattle.catalogue_notes.proofs.PartLemmas.{parts_same}
use Rattle.change_marks.specs.Changes.{IsLater, arranges, changes_text, dropped_sections, dropped_changes, is_marked, section_changes}
use Rattle.change_marks.specs.Marks.{mark_eq, mark_of, text_with_marks, runs, printed_mark}
use Rattle.change_marks.specs.Steps.{dropped_part}
use Rattle.change_marks.specs.Stretches.{stretches}
use Rattle.change_marks.proofs.LaterLemmas.{dropped_is_hidden}

-- the rest was gathered, or was not
pub under_way_last : (result : Result (Unit {0}) Failed) (u v w : OutView) (p q r whole rest last : List ℕ) → IsUnderWay u v p q whole rest → rest ≡ last
    → GathersText {T = Unit {0}} v w q r result last
    → GathersText {T = Unit {0}} u w p r result whole
under_way_last result u v w p q r whole rest last s e t =
    subst (GathersText {T = Unit {0}} u w p r result) (ap (λ l. s.front ++ l) (sym e) ∙ s.parts)
    (gathers_join {T = Unit {0}} {S = Unit {0}} tt result u v w p q r s.front last s.gathered t)

-- the runs of the elements that a list has
pub runs_found : (is_dropped : Bool) (f f_is h h_is : List Op) (s : Identifier) (ids : List Identifier) → f_is ≡ f → h_is ≡ h → ids ≡ order (within s) h_is
    → text_with_marks h_is (stretches mark_eq (printed_mark is_dropped f_is h_is) ids) ≡ text_with_marks h (runs is_dropped f h s)
runs_found d f f_is h h_is s ids a b e = ap (λ l. text_with_marks h_is (stretches mark_eq (printed_mark d f_is h_is) l)) e ∙ (λ i. text_with_marks (b i) (runs d (a i) (b i) s))

-- and whether one of them has marks around it
pub marks_found : (f f_is h h_is : List Op) (s : Identifier) (ids : List Identifier) → f_is ≡ f → h_is ≡ h → ids ≡ order (within s) h_is
    → list_any is_marked (stretches mark_eq (mark_of f_is h_is) ids) ≡ list_any is_marked (runs false f h s)
marks_found f f_is h h_is s ids a b e = ap (λ l. list_any is_marked (stretches mark_eq (mark_of f_is h_is) l)) e ∙ (λ i. list_any is_marked (runs false (a i) (b i) s))

-- what is reported of the sections that were dropped, by which of those that were arranged are hidden now
dropped_each : (f h : List Op) (xs : List Identifier)
    → flat_map (dropped_changes f h) (filter (λ s. not (arranges h s)) xs) ≡ flat_map (λ s. if not (arranges h s) then dropped_changes f h s else []) xs
dropped_each f h [] = refl
dropped_each f h (x ∷ xs) =
    elim (not (arranges h x)) as
    (λ (b : Bool). flat_map (dropped_changes f h)
    (cond b (x ∷ filter (λ s. not (arranges h s)) xs) (filter (λ s. not (arranges h s)) xs)) ≡ (if b then dropped_changes f h x else [])
    ++ flat_map (λ s. if not (arranges h s) then dropped_changes f h s else []) xs) [
      | true ↦ ap (λ l. dropped_changes f h x ++ l) (dropped_each f h xs)
      | false ↦ dropped_each f h xs
    ]

pub dropped_found : (f h : List Op) → Lawful h → IsLater f h → flat_map (dropped_part f h) (arranged f) ≡ flat_map (dropped_changes f h) (dropped_sections f h)
dropped_found f h w l =
    sym
    (dropped_each f h (arranged f)
    ∙ parts_same (λ s. if not (arranges h s) then dropped_changes f h s else []) (dropped_part f h) (arranged f)
    (λ s m. ap (λ b. if b then dropped_changes f h s else []) (dropped_is_hidden f h s w l m)))

-- both of these are all that changed
pub changes_found : (f h : List Op) → Lawful h → IsLater f h → flat_map (section_changes f h) (arranged h) ++ flat_map (dropped_part f h) (arranged f) ≡ changes_text f h
unfolding changes_text
changes_found f h w l = ap (λ t. flat_map (section_changes f h) (arranged h) ++ t) (dropped_found f h w l)
