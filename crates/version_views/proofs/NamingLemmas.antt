-- A version that is named counts at once; and it is refused exactly where its note is.
use Rattle.version_views.proofs.Words.{List, None, Note, Op, Some, [], ap, eq-eqb, false, if◌then◌else◌, is_hidden, Lawful, length, nat_eq, pointwise, refl, subst, sym, true}
use Rattle.version_views.proofs.Words.{Identifier, ℕ, ◌&&◌, ◌∙◌, ◌∷◌, ◌≡◌}
use Rattle.std.specs.Prelude.{◌≢◌, Err, Ok, Result}
use Rattle.std.proofs.lemmas.Cmp.{nat_list_eq_equiv}
use Rattle.origin_model.specs.declared.edit_fault.EditFault.{EditFault}
use Rattle.origin_model.specs.declared.edit_fault.EditFault.TheVariants.{IdsSpent as NoteIdsSpent, NoMemory as NoteNoMemory, NoSection, OutOfRange, TooMany as NoteTooMany}
use Rattle.origin_model.specs.edits.Effect.{with_ops}
use Rattle.origin_model.specs.edits.Noting.{RefusesNote, note_by}
use Rattle.origin_model.specs.edits.State.{IsSound, State}
use Rattle.origin_model.proofs.SharedLemmas.{not_hidden_before, when_ready}
use Rattle.version_views.specs.declared.limits.TheConstants.{VERSION_CODE}
use Rattle.version_views.specs.declared.naming.VersionFault.{VersionFault}
use Rattle.version_views.specs.declared.naming.VersionFault.TheVariants.{IdsSpent, NoMemory, TooMany}
use Rattle.version_views.specs.Naming.{RefusesVersion, as_note_fault, without_position}
use Rattle.version_views.specs.Versions.{is_name, is_version, name_given, version_with}
use Rattle.version_views.proofs.VersionLemmas.{last_is_newest, newest}

-- the newest note that names a version is the version with its name
counts : (h : List Op) (id : Identifier) (name : List ℕ) → is_name name ≡ true → Lawful (Note id [] VERSION_CODE name ∷ h)
    → version_with (Note id [] VERSION_CODE name ∷ h) id.replica name ≡ Some (length h)
counts h id name good w =
    let op : Op = Note id [] VERSION_CODE name in
    let visible : is_hidden h id ≡ false = not_hidden_before h id w.1 (when_ready h op w.0).fresh in
    let given : name_given id.replica op ≡ Some name = λ i. if nat_eq VERSION_CODE VERSION_CODE && eq-eqb id.replica id.replica refl i && good i then Some name else None in
    let is_it : is_version id.replica (op ∷ h) name op ≡ true =
    ap (λ b. elim (if b then None else name_given id.replica op) [ None ↦ false | Some body ↦ pointwise nat_eq body name ]) visible
    ∙ ap (λ o. elim o [ None ↦ false | Some body ↦ pointwise nat_eq body name ]) given ∙ nat_list_eq_equiv.refl name in
    last_is_newest id.replica (op ∷ h) name (op ∷ h) ∙ ap (λ b. if b then Some (length h) else newest id.replica (op ∷ h) name h) is_it

pub named_counts : (old new : State) (name : List ℕ) → is_name name ≡ true → new ≡ with_ops old (note_by old [] VERSION_CODE name ∷ []) → IsSound new
    → version_with new.held.history new.number name ≡ Some (length old.held.history)
named_counts old new name good is sound =
    let after : IsSound (with_ops old (note_by old [] VERSION_CODE name ∷ [])) = subst IsSound is sound in
    subst (λ s. version_with s.held.history s.number name ≡ Some (length old.held.history)) (sym is) (counts old.held.history _ name good after.lawful)

not_memory : (fault : VersionFault) → fault ≢ NoMemory → as_note_fault fault ≢ NoteNoMemory
not_memory (IdsSpent n) d e = cc e
not_memory (TooMany n) d e = cc e
not_memory NoMemory d e = absurd (d refl)

back : (fault : VersionFault) → without_position (as_note_fault fault) ≡ fault
back (IdsSpent n) = refl
back (TooMany n) = refl
back NoMemory = refl

there : (fault : EditFault) → fault ≢ NoSection → fault ≢ OutOfRange → as_note_fault (without_position fault) ≡ fault
there (NoteIdsSpent n) a b = refl
there (NoteTooMany n) a b = refl
there NoteNoMemory a b = refl
there NoSection a b = absurd (a refl)
there OutOfRange a b = absurd (b refl)

pub refuses_made : (s : State) (n : ℕ) → RefusesNote s (Ok n) → RefusesVersion s (Ok n)
refuses_made s n r fault d = ((λ e. cc e), (λ e. cc ((r (as_note_fault fault) (not_memory fault d)).1 e)))

same_err : (a b : EditFault) → ◌≡◌ {A = Result ℕ EditFault} (Err a) (Err b) → a ≡ b
same_err a b e = cc e

same_fault : (a b : VersionFault) → ◌≡◌ {A = Result ℕ VersionFault} (Err a) (Err b) → a ≡ b
same_fault a b e = cc e

pub refuses_fault : (s : State) (f : EditFault) → f ≢ NoSection → f ≢ OutOfRange → RefusesNote s (Err f) → RefusesVersion s (Err (without_position f))
refuses_fault s f a b r fault d =
    let k = r (as_note_fault fault) (not_memory fault d) in (
      (λ e. k.0 (ap Err (sym (there f a b) ∙ ap as_note_fault (same_fault (without_position f) fault e)))),
      (λ e. ap Err (ap without_position (same_err f (as_note_fault fault) (k.1 e)) ∙ back fault)),
    )
