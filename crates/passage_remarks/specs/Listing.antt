-- The entries of remarks: which remark each one is, and the texts of the sections that they are in.
use Rattle.std.specs.Prelude.{◌≡◌, ◌≤◌, ◌-◌, ℕ, Some, List, map, slice_get}
use Rattle.std.specs.Str.{encode_utf8_all}
use Rattle.fugue_ids.specs.declared.op.Op.{Op}
use Rattle.origin_model.specs.order.Printed.{text}
use Rattle.catalogue_notes.specs.Arranged.{arranged}
use Rattle.margin_notes.specs.Listing.{body_of}
use Rattle.passage_remarks.specs.Remarks.{Remark}
use Rattle.passage_remarks.specs.declared.entry.Entry.{Entry}

-- the remark that an entry stands for: the text stands in the operation at its position
abbrev pub entry_remark : List Op → Entry → Remark
entry_remark ops e = record {
  place = e.place;
  section = e.section;
  from = e.from;
  to = e.to;
  id = e.id;
  text = body_of (slice_get ops e.at);
}

-- the texts of the arranged sections
abbrev pub section_texts : List Op → List (List ℕ)
section_texts h = map (λ s. encode_utf8_all (text h s)) (arranged h)

-- a remark stands at the place of its section
pub record IsRemarkPlaced (h : List Op) (r : Remark) : Type 0 where
  pub first : 1 ≤ r.place
  pub there : slice_get (arranged h) (r.place - 1) ≡ Some r.section
