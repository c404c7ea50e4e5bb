use Rattle.std.proofs.lemmas.Option.{none-some}
use Rattle.edit_script.specs.Forms.{form_word}
use Rattle.edit_script.proofs.WordLemmas.{form_spaceless}
use Rattle.edit_script.proofs.LineLemmas.{begins_with_word, form_of}
use Rattle.edit_script.proofs.edit.read_edit.Goals as goal

pub returns-in_default-clause-every : goal.returns-in_default-clause-every
returns-in_default-clause-every c command asks =
    let begins = begins_with_word c.args.line.now command asks in
    absurd (c.in_default.ensures.every (form_word (form_of command)) begins.0 (form_spaceless (form_of command)) begins.1)

pub returns-in-None-clause-every : goal.returns-in-None-clause-every
returns-in-None-clause-every c command asks =
    let begins = begins_with_word c.args.line.now command asks in
    let parts = c.in-Some.ensures.every (form_word (form_of command)) begins.0 (form_spaceless (form_of command)) begins.1 in
    absurd (none-some (form_of command) (c.in-None.ensures.every (form_of command) parts.0))
