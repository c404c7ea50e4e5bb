-- What a comment on the one place of a passage is as a note.
use Rattle.std.proofs.Common.{List, [], ap, inl, inr, refl, subst, sym, ℕ, ◌++◌, ◌∙◌, ◌∷◌, ◌≡◌}
use Rattle.std.specs.Prelude.{Err, IfSome, None, Ok, Option, Result, Some, option_map, option_to_list, ◌⊎◌}
use Rattle.std.proofs.lemmas.Option.{same_Some}
use Rattle.fugue_ids.specs.Identifiers.{Identifier}
use Rattle.fugue_ids.specs.declared.op.Op.{Op}
use Rattle.origin_model.specs.declared.edit_fault.EditFault.{EditFault}
use Rattle.origin_model.specs.edits.Noting.{note_by, note_refusal}
use Rattle.origin_model.specs.edits.State.{State as Replica}
use Rattle.origin_model.specs.operations.Verdict.{Lawful}
use Rattle.margin_notes.specs.Commenting.{range_of}
use Rattle.margin_notes.specs.declared.limits.TheConstants.{COMMENT_CODE}
use Rattle.passage_remarks.specs.Finding.{passage_span}
use Rattle.passage_remarks.specs.Remarking.{IsRemarked, as_remark_fault, refusal_at, remark_refusal}
use Rattle.passage_remarks.specs.Remarking.{Refuses as RefusesFor}
use Rattle.passage_remarks.specs.declared.remarking.RemarkFault.{RemarkFault}
use Rattle.passage_remarks.specs.declared.remarking.RemarkFault.TheVariants as fault
use Rattle.command_kinds.specs.Findings.{Does}
use Rattle.command_kinds.specs.Notes.{MadeNote, unless_refused}
use Rattle.manuscript_cli.specs.Margins.{ends_of}
use Rattle.manuscript_cli.specs.Remark.{place_names, remark_on, remark_refused}

-- where nothing was refused, there is no refusal
none_refused : (o : Option RemarkFault) → IfSome o
    (λ (f : RemarkFault). ◌⊎◌ (◌≡◌ {A = Result (Unit {0}) RemarkFault} (Ok tt) (Err f)) (◌≡◌ {A = Result (Unit {0}) RemarkFault} (Ok tt) (Err fault.NoMemory))) → o ≡ None
none_refused None h = refl
none_refused (Some f) h = elim h [ inl e ↦ cc | inr e ↦ cc ]

not_refused : (o : Option EditFault) → option_map as_remark_fault o ≡ None → o ≡ None
not_refused None e = refl
not_refused (Some f) e = cc

module _ (old new : Replica) (passage body : List ℕ) (did : IsRemarked old new passage body) where
  abbrev first : ℕ
  first = (passage_span old.held.history passage did.place).first

  abbrev count : ℕ
  count = (passage_span old.held.history passage did.place).count

  abbrev named : List Identifier
  named = did.made.first ∷ did.made.last ∷ []

  ends : ends_of old did.made.section (range_of old.held.history did.made.section first count) ≡ named
  ends = λ i. option_to_list (did.made.passage.first_is i) ++ option_to_list (did.made.passage.last_is i)

  -- the comment names the first and the last scalar of the clusters
  names : place_names old passage (did.place ∷ []) ≡ named
  names =
      let same : did.made.section ≡ did.place.0 = same_Some did.made.section did.place.0 (sym did.made.passage.shown_at ∙ did.numbered) in
      subst (λ s. ends_of old s (range_of old.held.history s first count) ≡ named) same ends

  pub remarked : RefusesFor (remark_refusal old passage) (Ok tt) → Lawful new.held.history → MadeNote (remark_on passage body old) old new
  remarked refuses lawful =
      let none : remark_refusal old passage ≡ None = none_refused (remark_refusal old passage) refuses.always in
      let note : Op = note_by old named COMMENT_CODE body in
      record {
        named = named;
        code = COMMENT_CODE;
        body = body;
        found_is = (λ i. unless_refused (option_map remark_refused (none i)) (note_by old (place_names old passage (did.once i)) COMMENT_CODE body))
            ∙ ap (λ (l : List Identifier). Does (note_by old l COMMENT_CODE body)) names;
        ready = (subst (λ (s : Replica). Lawful s.held.history) did.made.noted.gained.others lawful).0;
        allowed = not_refused (note_refusal old) (sym (ap (refusal_at old) did.once) ∙ none);
        gained = did.made.noted.gained;
      }
