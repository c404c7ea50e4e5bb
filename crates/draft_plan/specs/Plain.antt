-- The shown sections of a history as they are arranged, as the parts of a draft.
use Rattle.std.specs.Prelude.{◌≡◌, true, Bool, not, Ok, List, All, map}
use Rattle.std.specs.List.{list_any}
use Rattle.std.specs.Str.{encode_utf8_all, is_utf8}
use Rattle.fugue_ids.specs.Identifiers.{Identifier}
use Rattle.fugue_ids.specs.declared.op.Op.{Op}
use Rattle.origin_model.specs.order.Printed.{text}
use Rattle.catalogue_notes.specs.Arranged.{arranged, arranged_text, heading}
use Rattle.catalogue_notes.specs.Claims.{is_title}
use Rattle.draft_plan.specs.Drafts.{Part, form, has_heading, parts}

-- a section's heading, and its shown text
abbrev pub arranged_part : List Op → Identifier → Part
arranged_part h s = record { title = encode_utf8_all (heading h s); text = encode_utf8_all (text h s) }

-- the headings and shown texts, as they are arranged
abbrev pub arranged_parts : List Op → List Part
arranged_parts h = map (arranged_part h) (arranged h)

-- no shown text has a line that begins with a hash sign and a space
abbrev pub plain : List Op → Bool
plain h = not (list_any (λ p. has_heading p.text) (arranged_parts h))

-- each heading is a title, and each text is one of Unicode scalar values
abbrev pub HasTexts : List Op → Type 0
HasTexts h = All (λ (p : Part). (is_title p.title ≡ true) × (is_utf8 p.text ≡ true)) (arranged_parts h)

-- what is arranged is a draft, which reads as the headings and shown texts where it is plain
pub record IsDraft (h : List Op) : Type 0 where
  pub form_is : arranged_text h ≡ form (arranged_parts h)
  pub reads : HasTexts h → plain h ≡ true → parts (arranged_text h) ≡ Ok (arranged_parts h)

-- what is arranged reads as a draft of itself, where it is plain
abbrev pub ArrangedReads : Type 0
ArrangedReads = (h : List Op) → IsDraft h
