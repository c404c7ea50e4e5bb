use Rattle.std.proofs.Common.{◌≡◌, nat_eq, ap, sym, ◌∙◌}
use Rattle.std.specs.Prelude.{Result, Ok, Err, OnOk, Some, None, position}
use Rattle.memory_ports.specs.dock.Transcripts.{log_of}
use Rattle.memory_ports.proofs.dock.TranscriptsLemmas.{sent_kept, sent_more, room_in, log_set, others_set, none_found, log_more, others_more}
use Rattle.memory_ports.proofs.dock.transcripts.Transcripts.prepare.Goals as goal

on_ok : {T E : Type 0} {P Q : Type 0} (r : Result T E) → (P → Q) → OnOk r P → OnOk r Q
on_ok (Ok x) f p = f p
on_ok (Err e) f p = tt

pub returns-in-Some-clause-sent : goal.returns-in-Some-clause-sent
returns-in-Some-clause-sent c s =
    let found : position (λ transcript. nat_eq transcript.session c.args.session) c.self.inside.transcripts.items ≡ Some c.in-Some.at
    = ap (position (λ transcript. nat_eq transcript.session c.args.session)) c.self.view_is ∙ sym c.position_of.ensures ∙ c.in-Some.is in
    rw (sym c.self.view_is)
    (sent_kept _ _ _ _ found c.index_mut.ensures.value c.prepare.new.self (ap (λ l. l.session) c.prepare.ensures.kept) (ap (λ l. l.bytes) c.prepare.ensures.kept) s)

pub returns-in-Some-clause-others : goal.returns-in-Some-clause-others
returns-in-Some-clause-others c s differs =
    let found : position (λ transcript. nat_eq transcript.session c.args.session) c.self.inside.transcripts.items ≡ Some c.in-Some.at
    = ap (position (λ transcript. nat_eq transcript.session c.args.session)) c.self.view_is ∙ sym c.position_of.ensures ∙ c.in-Some.is in
    rw (sym c.self.view_is) (ap room_in (others_set _ _ _ _ found c.index_mut.ensures.value c.prepare.new.self (ap (λ l. l.session) c.prepare.ensures.kept) s differs))

pub returns-in-Some-clause-ok : goal.returns-in-Some-clause-ok
returns-in-Some-clause-ok c =
    let found : position (λ transcript. nat_eq transcript.session c.args.session) c.self.inside.transcripts.items ≡ Some c.in-Some.at
    = ap (position (λ transcript. nat_eq transcript.session c.args.session)) c.self.view_is ∙ sym c.position_of.ensures ∙ c.in-Some.is in
    on_ok c.prepare.result (λ is. ap room_in (log_set _ _ _ _ found c.index_mut.ensures.value c.prepare.new.self (ap (λ l. l.session) c.prepare.ensures.kept)) ∙ is)
    c.prepare.ensures.ok

pub returns-clause-sent : goal.returns-clause-sent
returns-clause-sent c s =
    let none : log_of c.self.inside.transcripts.items c.args.session ≡ None
    = none_found c.self.inside.transcripts.items c.args.session
    (ap (position (λ transcript. nat_eq transcript.session c.args.session)) c.self.view_is ∙ sym c.position_of.ensures ∙ c.in_default.is) in
    rw (sym c.self.view_is, c.in_ok-push.ensures.items)
    (sent_more c.self.inside.transcripts.items c.args.session c.in_ok-transcript.transcript none (ap (λ l. l.session) c.in_ok-transcript.ensures)
    (ap (λ l. l.bytes) c.in_ok-transcript.ensures) s)

pub returns-clause-others : goal.returns-clause-others
returns-clause-others c s differs =
    rw (sym c.self.view_is, c.in_ok-push.ensures.items)
    (ap room_in (others_more c.self.inside.transcripts.items c.args.session c.in_ok-transcript.transcript s (ap (λ l. l.session) c.in_ok-transcript.ensures) differs))

pub returns-clause-ok : goal.returns-clause-ok
returns-clause-ok c =
    let none : log_of c.self.inside.transcripts.items c.args.session ≡ None
    = none_found c.self.inside.transcripts.items c.args.session
    (ap (position (λ transcript. nat_eq transcript.session c.args.session)) c.self.view_is ∙ sym c.position_of.ensures ∙ c.in_default.is) in
    rw c.in_ok-push.ensures.items
    (ap room_in (log_more c.self.inside.transcripts.items c.args.session c.in_ok-transcript.transcript none (ap (λ l. l.session) c.in_ok-transcript.ensures))
    ∙ ap (λ l. l.room) c.in_ok-transcript.ensures)
