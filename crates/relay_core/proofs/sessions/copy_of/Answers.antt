use Rattle.std.proofs.Common.{ap, sym, ◌∙◌}
use Rattle.std.specs.Prelude.{Some, option_map}
use Rattle.std.specs.Option.{option_copied}
use Rattle.relay_core.specs.Sessions.{reading_of}
use Rattle.relay_core.proofs.SessionLemmas.{get-sessions}
use Rattle.relay_core.proofs.sessions.copy_of.Goals as goal

pub returns-in_err-session : goal.returns-in_err-session
returns-in_err-session c =
    ap (option_map reading_of) c.from_residual.ensures
    ∙ sym (get-sessions c.args.sessions.now c.args.n ∙ ap (option_map reading_of) (sym c.get.ensures.value ∙ ap option_copied c.in_err-session.was))

pub returns : goal.returns
returns c =
    ap Some c.copied.ensures
    ∙ sym (get-sessions c.args.sessions.now c.args.n ∙ ap (option_map reading_of) (sym c.get.ensures.value ∙ ap option_copied c.in_ok-session.was))
