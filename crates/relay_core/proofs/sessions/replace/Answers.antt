use Rattle.std.proofs.Common.{ap, sym, ◌∙◌}
use Rattle.std.specs.Prelude.{is_some}
use Rattle.std.specs.Option.{option_copied_mut}
use Rattle.std.proofs.lemmas.Bool.{true≢false}
use Rattle.relay_core.proofs.SessionLemmas.{contains-sessions, sessions-set}
use Rattle.relay_core.proofs.sessions.replace.Goals as goal

pub returns-in-Some : goal.returns-in-Some
returns-in-Some c =
    let there = sym (contains-sessions c.args.sessions.now c.args.n) ∙ c.requires in
    sessions-set c.args.sessions.now (c.get_mut.follows.lender c.args.session) c.args.n c.args.session ((c.get_mut.follows.holds c.args.session).3 there)

pub returns-in_default : goal.returns-in_default
returns-in_default c =
    let there = sym (contains-sessions c.args.sessions.now c.args.n) ∙ c.requires in
    absurd (true≢false (sym there ∙ ap is_some (sym c.get_mut.ensures.value ∙ ap option_copied_mut c.in_default.is)))
