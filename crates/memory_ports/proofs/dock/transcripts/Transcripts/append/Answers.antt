use Rattle.std.proofs.Common.{◌≡◌, ◌≤◌, ◌-◌, ◌++◌, ℕ, List, [], ◌∷◌, length, nat_eq, ap, sym, refl, ◌∙◌, arith}
use Rattle.std.proofs.lemmas.List.{append-nil}
use Rattle.std.specs.Prelude.{Option, Some, position}
use Rattle.memory_ports.specs.dock.Transcripts.{TranscriptView, sent_by, room_by}
use Rattle.memory_ports.proofs.dock.TranscriptsLemmas.{sent_in, room_in, log_found, log_set, others_set, none_found}
use Rattle.memory_ports.proofs.dock.transcripts.Transcripts.append.Goals as goal

take_nothing : (bytes : List ℕ) → length bytes ≤ 0 → bytes ≡ []
take_nothing [] none = refl
take_nothing (byte ∷ bytes) none = absurd (omega (arith, none))

pub append-requires : goal.append-requires
append-requires c =
    let found : position (λ transcript. nat_eq transcript.session c.args.session) c.self.inside.transcripts.items ≡ Some c.in-Some.at
    = ap (position (λ transcript. nat_eq transcript.session c.args.session)) c.self.view_is ∙ sym c.position_of.ensures ∙ c.in-Some.is in
    let room : room_by c.args.self.now c.args.session ≡ c.index_mut.result.now.room = rw (sym c.self.view_is) (ap room_in (log_found _ _ _ _ found c.index_mut.ensures.value)) in
    omega (arith, room, c.requires)

pub returns-in-Some-clause-sent : goal.returns-in-Some-clause-sent
returns-in-Some-clause-sent c =
    let found : position (λ transcript. nat_eq transcript.session c.args.session) c.self.inside.transcripts.items ≡ Some c.in-Some.at
    = ap (position (λ transcript. nat_eq transcript.session c.args.session)) c.self.view_is ∙ sym c.position_of.ensures ∙ c.in-Some.is in
    let is = log_found _ _ _ _ found c.index_mut.ensures.value in
    rw (sym c.self.view_is) (ap sent_in (log_set _ _ _ _ found c.index_mut.ensures.value c.append.new.self (ap (λ l. l.session) c.append.ensures))
    ∙ ap (λ l. l.bytes) c.append.ensures ∙ ap (λ (o : Option TranscriptView). sent_in o ++ c.args.bytes.now) (sym is))

pub returns-in-Some-clause-room : goal.returns-in-Some-clause-room
returns-in-Some-clause-room c =
    let found : position (λ transcript. nat_eq transcript.session c.args.session) c.self.inside.transcripts.items ≡ Some c.in-Some.at
    = ap (position (λ transcript. nat_eq transcript.session c.args.session)) c.self.view_is ∙ sym c.position_of.ensures ∙ c.in-Some.is in
    let is = log_found _ _ _ _ found c.index_mut.ensures.value in
    rw (sym c.self.view_is) (ap room_in (log_set _ _ _ _ found c.index_mut.ensures.value c.append.new.self (ap (λ l. l.session) c.append.ensures))
    ∙ ap (λ l. l.room) c.append.ensures ∙ ap (λ (o : Option TranscriptView). room_in o - length c.args.bytes.now) (sym is))

pub returns-in-Some-clause-others : goal.returns-in-Some-clause-others
returns-in-Some-clause-others c s differs =
    let found : position (λ transcript. nat_eq transcript.session c.args.session) c.self.inside.transcripts.items ≡ Some c.in-Some.at
    = ap (position (λ transcript. nat_eq transcript.session c.args.session)) c.self.view_is ∙ sym c.position_of.ensures ∙ c.in-Some.is in
    let is = others_set _ _ _ _ found c.index_mut.ensures.value c.append.new.self (ap (λ l. l.session) c.append.ensures) s differs in
    rw (sym c.self.view_is) (ap sent_in is, ap room_in is)

pub returns-in_default-clause-sent : goal.returns-in_default-clause-sent
returns-in_default-clause-sent c =
    let none : room_by c.args.self.now c.args.session ≡ 0 = ap room_in (none_found c.args.self.now c.args.session (sym c.position_of.ensures ∙ c.in_default.is)) in
    let empty : c.args.bytes.now ≡ [] = take_nothing c.args.bytes.now (omega (arith, none, c.requires)) in
    rw empty (sym (append-nil (sent_by c.args.self.now c.args.session)))

pub returns-in_default-clause-room : goal.returns-in_default-clause-room
returns-in_default-clause-room c =
    let none : room_by c.args.self.now c.args.session ≡ 0 = ap room_in (none_found c.args.self.now c.args.session (sym c.position_of.ensures ∙ c.in_default.is)) in
    omega (arith, none)
