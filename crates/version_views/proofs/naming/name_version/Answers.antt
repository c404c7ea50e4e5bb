use Rattle.std.proofs.Common.{[], ap, subst, sym, ◌∷◌, ◌≡◌}
use Rattle.std.specs.Prelude.{Err, IfSome}
use Rattle.origin_model.specs.edits.Effect.{with_ops}
use Rattle.origin_model.specs.edits.Noting.{note_by}
use Rattle.version_views.specs.declared.limits.TheConstants.{VERSION_CODE}
use Rattle.version_views.specs.Naming.{RefusesVersion}
use Rattle.version_views.proofs.NamingLemmas.{named_counts, refuses_fault, refuses_made}
use Rattle.version_views.proofs.naming.name_version.Goals as goal

pub returns-in-Ok-clause-named : goal.returns-in-Ok-clause-named
returns-in-Ok-clause-named c =
    let empty : c.unwrap-names.result ≡ [] = subst (λ o. IfSome o (λ ns. ns ≡ [])) c.unwrap-names.ensures c.read.ensures.some in
    named_counts c.args.replica.now c.note.new.self c.args.name c.requires.name
    (subst (λ ns. c.note.new.self ≡ with_ops c.args.replica.now (note_by c.args.replica.now ns VERSION_CODE c.args.name ∷ [])) empty c.in-Ok.ensures.made.gained.others)
    c.in-Ok.ensures.sound

pub returns-in-Ok-clause-refused : goal.returns-in-Ok-clause-refused
returns-in-Ok-clause-refused c = refuses_made c.args.replica.now c.in-Ok.made c.in-Ok.ensures.refused

pub returns-in-Err-clause-refused : goal.returns-in-Err-clause-refused
returns-in-Err-clause-refused c =
    subst (λ f. RefusesVersion c.args.replica.now (Err f)) (sym c.version_fault.ensures)
    (refuses_fault c.args.replica.now c.in-Err.fault (λ e. c.in-Err.ensures.no_section (ap Err e)) (λ e. c.in-Err.ensures.no_position (ap Err e)) c.in-Err.ensures.refused)
