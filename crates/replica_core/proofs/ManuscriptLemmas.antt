-- What a Delete that is Ready does to a manuscript, and what the place of an element tells.
use Rattle.std.proofs.Common.{ap, subst, sym, Bool, List, ◌∙◌, ◌∷◌, ◌≡◌}
use Rattle.std.specs.Prelude.{if◌then◌else◌, option_map, Some}
use Rattle.fugue_ids.specs.Identifiers.{Identifier}
use Rattle.fugue_ids.specs.declared.op.Op.{Op}
use Rattle.fugue_ids.specs.declared.op.Op.TheVariants.{Delete}
use Rattle.origin_model.specs.operations.History.{holder, place}
use Rattle.origin_model.specs.operations.Verdict.{fits}
use Rattle.origin_model.specs.declared.operations.Place.{Place}
use Rattle.origin_model.specs.declared.operations.Role.{Role}
use Rattle.origin_model.proofs.SharedLemmas.{target_is_shown}
use Rattle.section_catalogue.proofs.HolderLemmas.{has_holder}
use Rattle.section_catalogue.specs.Contents.{Contents, place_at}
use Rattle.section_catalogue.specs.Manuscript.{GrowsBy, Hides, Represents}

-- hiding an element takes in a Delete of it that is Ready
pub hides_grows : (old new : Contents) (x : Identifier) → Hides old new x → GrowsBy old new (Delete x)
hides_grows old new x hides h s ready = subst (Represents new) (ap (λ b. if b then h else Delete x ∷ h) (target_is_shown h x ready).1) (hides h s)

-- where an identifier has a place, its holder fits where the operations of that place do
pub fits_by_place : (m : Contents) (h : List Op) (x : Identifier) (p : Place) (role : Role) (fit : Bool) → Represents m h → place_at m x ≡ Some p
    → ((op : Op) → place op ≡ Some p → fit ≡ fits role op)
    → Some fit ≡ option_map (fits role) (holder h x)
fits_by_place m h x p role fit represents at told =
    let o = has_holder p (holder h x) (sym (represents.places x) ∙ at) in
    ap Some (told o.0 o.2) ∙ sym (ap (option_map (fits role)) o.1)
