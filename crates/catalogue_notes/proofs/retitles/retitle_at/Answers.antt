use Rattle.std.proofs.Common.{ap, reverse, ◌∙◌}
use Rattle.std.specs.Prelude.{option_and_then}
use Rattle.replica_core.proofs.WalkLemmas.{read_at}
use Rattle.catalogue_notes.specs.Lift.{is_section}
use Rattle.catalogue_notes.specs.Readings.{known_retitle}
use Rattle.catalogue_notes.proofs.RetitledLemmas.{not_retitled}
use Rattle.catalogue_notes.proofs.retitles.retitle_at.Goals as goal

pub returns-in-Some : goal.returns-in-Some
returns-in-Some c =
    let h = c.args.replica.now.held.history in
    c.valid_retitle.ensures ∙ ap (option_and_then (known_retitle (is_section h))) c.in-Some.ensures.found
    ∙ read_at (known_retitle (is_section h)) (not_retitled (is_section h)) (reverse h) c.args.at

pub returns-in-None : goal.returns-in-None
returns-in-None c =
    let h = c.args.replica.now.held.history in
    ap (option_and_then (known_retitle (is_section h))) c.in-None.ensures.found ∙ read_at (known_retitle (is_section h)) (not_retitled (is_section h)) (reverse h) c.args.at
