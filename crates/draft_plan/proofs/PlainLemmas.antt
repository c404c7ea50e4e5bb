-- What is arranged, as a draft.
use Rattle.std.proofs.Common.{List, [], ap, sym, true, false, ◌∙◌, ◌∷◌, ◌≡◌}
use Rattle.std.specs.Prelude.{All}
use Rattle.std.specs.List.{list_any}
use Rattle.std.specs.Str.{is_utf8}
use Rattle.std.proofs.lemmas.Bool.{not-true, or_parts}
use Rattle.std.proofs.lemmas.List.Elements.{All-cons, All-head, All-nil, All-tail}
use Rattle.std.proofs.lemmas.List.Folds.{flat_map-map}
use Rattle.fugue_ids.specs.declared.op.Op.{Op}
use Rattle.catalogue_notes.specs.Arranged.{arranged, arranged_text}
use Rattle.catalogue_notes.specs.Claims.{is_title}
use Rattle.draft_plan.specs.Drafts.{Part, form, has_heading, part_form, parts}
use Rattle.draft_plan.specs.Laws.{IsPart}
use Rattle.draft_plan.specs.Plain.{ArrangedReads, arranged_part, arranged_parts}
use Rattle.draft_plan.proofs.FormLemmas.{parts_of_form}

pub arranged_form : (h : List Op) → arranged_text h ≡ form (arranged_parts h)
unfolding arranged_text
arranged_form h = sym (flat_map-map part_form (arranged_part h) (arranged h))

all_parts : (ps : List Part) → All (λ (p : Part). (is_title p.title ≡ true) × (is_utf8 p.text ≡ true)) ps → list_any (λ p. has_heading p.text) ps ≡ false → All IsPart ps
all_parts [] t e = All-nil IsPart
all_parts (p ∷ ps) t e =
    let both = or_parts (has_heading p.text) (list_any (λ q. has_heading q.text) ps) e in
    let parts_are = All-head (λ (p : Part). (is_title p.title ≡ true) × (is_utf8 p.text ≡ true)) p ps t in
    All-cons IsPart p ps (record { title = parts_are.0; text = parts_are.1; no_heading = both.0 })
    (all_parts ps (All-tail (λ (p : Part). (is_title p.title ≡ true) × (is_utf8 p.text ≡ true)) p ps t) both.1)

pub arranged_reads : ArrangedReads
arranged_reads h = record {
  form_is = arranged_form h;
  reads = λ t e.
      ap parts (arranged_form h)
      ∙ parts_of_form (arranged_parts h) (all_parts (arranged_parts h) t (not-true (list_any (λ p. has_heading p.text) (arranged_parts h)) e));
}
