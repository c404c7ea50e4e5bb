-- A manuscript whose look-ups are as before stands for the same histories.
use Rattle.std.proofs.Common.{List, ap, subst, sym, ◌∙◌}
use Rattle.std.specs.Prelude.{Err, IfSome, Ok, OnErr, OnOk, Result, option_map}
use Rattle.fugue_ids.specs.declared.op.Op.{Op}
use Rattle.origin_model.specs.declared.operations.Place.TheVariants.{Catalogue as catalogue, Section as within}
use Rattle.section_catalogue.specs.declared.tables.Section.{Section as Titled}
use Rattle.section_catalogue.specs.Changes.{IsUnchanged}
use Rattle.section_catalogue.specs.Contents.{Contents}
use Rattle.section_catalogue.specs.Place.{Lists}
use Rattle.section_catalogue.specs.Manuscript.{Represents, RepresentsSame}

-- look-ups that are as before, the other way
back : (old new : Contents) → IsUnchanged old new → IsUnchanged new old
back old new u = record { listed = sym u.listed; sections = λ y. sym (u.sections y); places = λ y. sym (u.places y) }

-- it stands for what it stood for
pub still : (old new : Contents) → IsUnchanged old new → (h : List Op) → Represents old h → Represents new h
still old new u h s =
    record {
      lawful = s.lawful;
      sections = subst (Lists catalogue h) (sym u.listed) s.sections;
      titles = λ y. ap (option_map (λ (t : Titled). t.title)) (u.sections y) ∙ s.titles y;
      texts = λ y. subst (λ o. IfSome o (λ (t : Titled). Lists (within y) h t.text)) (sym (u.sections y)) (s.texts y);
      places = λ y. u.places y ∙ s.places y;
    }

pub stays : (old new : Contents) → IsUnchanged old new → RepresentsSame old new
stays old new u h = (still old new u h, still new old (back old new u) h)

-- what follows from a call, whether it went well or not
pub either : {T E : Type 0} (r : Result T E) (P Q R : Type 0) → OnOk r P → OnErr r Q → (P → R) → (Q → R) → R
either (Ok x) P Q R p q f g = f p
either (Err e) P Q R p q f g = g q
