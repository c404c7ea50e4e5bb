use Rattle.std.proofs.Common.{ap, sym, ◌∙◌, Bool, ℕ}
use Rattle.std.specs.Prelude.{if◌then◌else◌}
use Rattle.std.specs.FinMap as finite
use Rattle.origin_model.specs.relay.Relay.{Sessions}
use Rattle.origin_model.specs.relay.Session.{unread}
use Rattle.relay_core.specs.Sessions.{sessions_in}
use Rattle.relay_core.proofs.SessionLemmas.{contains-sessions, sessions-set}
use Rattle.relay_core.proofs.sessions.open.Goals as goal

-- the sessions with one more, by whether it is open
abbrev by_test : ℕ → Sessions → Bool → Sessions
by_test n s b = if b then s else finite.insert s n unread

pub returns-then-contains_key-clause-ok : goal.returns-then-contains_key-clause-ok
returns-then-contains_key-clause-ok c =
    let m = c.args.sessions.now in
    sym (ap (by_test c.args.n (sessions_in m)) (contains-sessions m c.args.n ∙ sym c.contains_key.ensures ∙ c.if-contains_key.true))

pub returns-clause-ok : goal.returns-clause-ok
returns-clause-ok c =
    let m = c.args.sessions.now in
    sessions-set m c.insert.new.self c.args.n _ c.in-Ok.ensures.updates ∙ ap (finite.insert (sessions_in m) c.args.n) c.new.ensures
    ∙ sym (ap (by_test c.args.n (sessions_in m)) (contains-sessions m c.args.n ∙ sym c.contains_key.ensures ∙ c.if-contains_key.false))
