use Rattle.std.proofs.Common.{subst, sym, Err}
use Rattle.manuscript_cli.specs.NamedVersions.{version_on}
use Rattle.command_kinds.specs.Notes.{MadeNote, NoteComes}
use Rattle.manuscript_cli.proofs.NamedVersionLemmas.{version_comes, version_stops}
use Rattle.manuscript_cli.proofs.versions.NewVersionMakesNote.make.Goals as goal

pub returns-in-Ok-clause-comes : goal.returns-in-Ok-clause-comes
returns-in-Ok-clause-comes c =
    let old = c.args.replica.now in
    subst (λ name. MadeNote (version_on name old) old c.name_version.new.replica) c.in-Some.ensures.0
    (version_comes c.in-Some.name old c.name_version.new.replica c.in-Ok.field-0 c.requires.sound.lawful c.in-Ok.ensures.made c.in-Ok.ensures.refused)

pub returns-in-Err-clause-comes : goal.returns-in-Err-clause-comes
returns-in-Err-clause-comes c =
    let old = c.args.replica.now in
    subst (λ why. NoteComes (version_on c.args.self.now.name.now old) old c.name_version.new.replica (Err why)) (sym c.refusal_of.ensures)
    (version_stops c.args.self.now.name.now old c.name_version.new.replica c.in-Err.fault c.in-Err.ensures.refused)
