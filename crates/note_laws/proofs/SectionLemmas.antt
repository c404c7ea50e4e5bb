-- A comment stands in one section.
use Rattle.std.proofs.Common.{ap, sym, ◌∙◌, ◌≡◌}
use Rattle.std.specs.Prelude.{Some}
use Rattle.origin_model.specs.operations.History.{holder}
use Rattle.origin_model.proofs.SharedLemmas.{has-holder, has_member, is_own-id}
use Rattle.catalogue_notes.proofs.HolderLemmas.{same_value}
use Rattle.catalogue_notes.proofs.LiftLemmas.{some_inj}
use Rattle.margin_notes.specs.Comments.{comment_in}
use Rattle.margin_notes.specs.Listing.{commented_section}
use Rattle.margin_notes.proofs.MemberLemmas.{comment_says, from_comments, has_section, section_is}
use Rattle.note_laws.specs.CommentLaws.{ListedOnce, OneSection, SectionLookedUp}

pub looked_up : SectionLookedUp
looked_up h s c = (section_is h c s, has_section h c s)

pub one_section : OneSection
one_section h s c e = record { section = s; has = e; only = λ t k. some_inj t s (sym (has_section h c t k) ∙ has_section h c s e) }

pub listed_once : ListedOnce
listed_once h s t c d w m n k =
    let a = from_comments h s c m in
    let b = from_comments h t d n in
    let at_c : holder h c.id ≡ Some a.op = has-holder h c.id a.op w (has_member h a.op a.member) (is_own-id a.op c.id (comment_says a.op c a.says).own) in
    let at_d : holder h d.id ≡ Some b.op = has-holder h d.id b.op w (has_member h b.op b.member) (is_own-id b.op d.id (comment_says b.op d b.says).own) in
    let one : a.op ≡ b.op = same_value (holder h d.id) a.op b.op (ap (holder h) (sym k) ∙ at_c) at_d in
    let same : c ≡ d = same_value (comment_in b.op) c d (ap comment_in (sym one) ∙ a.says) b.says in
    (some_inj s t (sym (has_section h c s a.in_section) ∙ ap (commented_section h) same ∙ has_section h d t b.in_section), same)
