use Rattle.std.proofs.Common.{◌≡◌, nat_eq, ap, sym, ◌∙◌}
use Rattle.std.specs.Prelude.{Some, position}
use Rattle.memory_ports.proofs.dock.TranscriptsLemmas.{sent_in, log_found, none_found}
use Rattle.memory_ports.proofs.dock.transcripts.Transcripts.sent.Goals as goal

pub returns-in-Some : goal.returns-in-Some
returns-in-Some c =
    let found : position (λ transcript. nat_eq transcript.session c.args.session) c.self.inside.transcripts.items ≡ Some c.in-Some.at
    = ap (position (λ transcript. nat_eq transcript.session c.args.session)) c.self.view_is ∙ sym c.position_of.ensures ∙ c.in-Some.is in
    rw (sym c.self.view_is) (c.bytes.ensures ∙ ap sent_in (sym (log_found _ _ _ _ found c.index.ensures)))

pub returns-in-None : goal.returns-in-None
returns-in-None c = ap sent_in (sym (none_found c.args.self.now c.args.session (sym c.position_of.ensures ∙ c.in-None.is)))
