-- An object that tells goes on telling, whatever a call on it answers.
use Rattle.std.proofs.Common.{◌≡◌, inl, inr, ℕ, List, refl, sym, subst}
use Rattle.std.specs.Prelude.{Option, Some, None, IsSome, Result, Ok, Err, option_map}
use Rattle.std.specs.Io.KnownBytes.{append_known}
use Rattle.outer_ports.specs.Sources.{SourceView, SourceIsSpecified, ReadsSome}
use Rattle.outer_ports.specs.disk.States.{DiskState}
use Rattle.outer_ports.specs.disk.Moments.{History, past_after_step, MayHaveWritten}
use Rattle.outer_ports.specs.disk.Disks.{DiskView, DiskIsSpecified, Looks, WritesAt, Syncs}
use Rattle.outer_ports.specs.wire.Wires.{WireView, WireIsSpecified, out_of, Dials, WireReads, WireWrites}
use Rattle.outer_ports.specs.dock.Steps.{GivesSome}
use Rattle.outer_ports.specs.dock.Docks.{DockView, DockIsSpecified, ended_after, out_to, Listens, Takes, Sends, EndsSession}
use Rattle.outer_ports.specs.declared.dock.DockStep.{DockStep}
use Rattle.outer_ports.specs.declared.dock.MemStep.{MemStep}
use Rattle.std.proofs.lemmas.Bool.{cases_eq}
use Rattle.fugue_ids.proofs.JoinLemmas.{tells_more, write_tells}

-- what is the same is specified too
pub same_tells : {X : Type 0} {old new : Option X} → new ≡ old → IsSome old → IsSome new
same_tells {X} same tells = subst (λ (o : Option X). IsSome o) (sym same) tells

map_tells : {X : Type 0} (f : X → X) (old new : Option X) → new ≡ option_map f old → IsSome old → IsSome new
map_tells f None new is tells = absurd (cc tells)
map_tells f (Some x) new is tells = same_tells is refl

-- a source
pub read_tells : {E : Type 0} (result : Result ℕ E) (old new : SourceView) (buf : List ℕ) → ReadsSome {E = E} old new result buf → SourceIsSpecified old → SourceIsSpecified new
read_tells result old new buf r = r.count.tells

-- a disk
pub look_tells : {E T : Type 0} (result : Result T E) (old new : DiskView) → Looks {E = E} {T = T} old new result → DiskIsSpecified old → DiskIsSpecified new
look_tells result old new l = same_tells l.past

after_tells : (f : DiskState → DiskState) (old new : Option History) → new ≡ past_after_step f old → IsSome old → IsSome new
after_tells f None new is tells = absurd (cc tells)
after_tells f (Some h) new is tells = same_tells is refl

torn_tells : (at n : ℕ) (old new : Option History) → MayHaveWritten at n old new → IsSome old → IsSome new
torn_tells at n old new (inl same) = same_tells same
torn_tells at n old new (inr torn) = after_tells _ old new torn.1

pub write_at_tells : {E T : Type 0} (result : Result T E) (old new : DiskView) (at : ℕ) (bytes : List ℕ) → WritesAt {E = E} {T = T} old new result at bytes → DiskIsSpecified old
    → DiskIsSpecified new
write_at_tells (Ok x) old new at bytes w = after_tells _ old.past new.past w.wrote
write_at_tells (Err e) old new at bytes w = torn_tells _ _ old.past new.past w.torn

pub sync_tells : {E T : Type 0} (result : Result T E) (old new : DiskView) → Syncs {E = E} {T = T} old new result → DiskIsSpecified old → DiskIsSpecified new
sync_tells (Ok x) old new s = after_tells _ old.past new.past s.settled
sync_tells (Err e) old new s = same_tells s.past

-- a wire
pub dial_tells : {E T : Type 0} (result : Result T E) (old new : WireView) (port : ℕ) → Dials {E = E} {T = T} old new result port → WireIsSpecified old → WireIsSpecified new
dial_tells (Ok x) old new port d tells = (map_tells _ old.dials new.dials d.dialled tells.0, same_tells d.left tells.1, same_tells d.said tells.2)
dial_tells (Err e) old new port d tells = (same_tells d.kept tells.0, same_tells d.left tells.1, same_tells d.said tells.2)

pub wire_read_tells : {E : Type 0} (result : Result ℕ E) (old new : WireView) (buf : List ℕ) → WireReads {E = E} old new result buf → WireIsSpecified old → WireIsSpecified new
wire_read_tells result old new buf r tells = (same_tells r.dials tells.0, r.reads.count.tells tells.1, same_tells r.said tells.2)

pub wire_write_tells : {E : Type 0} (result : Result ℕ E) (old new : WireView) (piece : List ℕ) → WireWrites {E = E} old new result piece → WireIsSpecified old
    → WireIsSpecified new
wire_write_tells result old new piece w tells =
    (same_tells w.dials tells.0, same_tells w.left tells.1, write_tells result (out_of old) (out_of new) piece w.writes tells.2)

-- a dock
pub listen_tells : {E T : Type 0} (result : Result T E) (old new : DockView) (port : ℕ) → Listens {E = E} {T = T} old new result port → DockIsSpecified old → DockIsSpecified new
listen_tells {E} {T} result old new port l tells = record {
  listens = listens_tell result l;
  taken = same_tells l.nothing_taken.taken tells.taken;
  coming = same_tells l.nothing_taken.coming tells.coming;
  sent = λ session. same_tells (l.nothing_sent.sent session) (tells.sent session);
  ended = same_tells l.ended tells.ended;
  ended_at = same_tells l.ended_at tells.ended_at;
}
  where
    listens_tell : (r : Result T E) → Listens {E = E} {T = T} old new r port → IsSome new.listens
    listens_tell (Ok x) l = map_tells _ old.listens new.listens l.listened tells.listens
    listens_tell (Err e) l = same_tells l.kept tells.listens

gives_tells : (old new : Option (List MemStep)) (step : MemStep) → GivesSome old new step → IsSome old → IsSome new
gives_tells None new step gives tells = absurd (cc tells)
gives_tells (Some old) None step gives tells = absurd gives
gives_tells (Some old) (Some new) step gives tells = refl

pub take_tells : {E : Type 0} (result : Result DockStep E) (old new : DockView) (buf : List ℕ) → Takes {E = E} old new result buf → DockIsSpecified old → DockIsSpecified new
take_tells (Ok step) old new buf t tells = record {
  listens = same_tells t.listens tells.listens;
  taken = map_tells _ old.taken new.taken t.taken tells.taken;
  coming = gives_tells old.coming new.coming _ t.came tells.coming;
  sent = λ session. same_tells (t.nothing_sent.sent session) (tells.sent session);
  ended = same_tells t.ended tells.ended;
  ended_at = same_tells t.ended_at tells.ended_at;
}
take_tells (Err e) old new buf t tells = record {
  listens = same_tells t.listens tells.listens;
  taken = same_tells t.kept.taken tells.taken;
  coming = same_tells t.kept.coming tells.coming;
  sent = λ session. same_tells (t.nothing_sent.sent session) (tells.sent session);
  ended = same_tells t.ended tells.ended;
  ended_at = same_tells t.ended_at tells.ended_at;
}

behind_tells : (old new sent : Option (List ℕ)) → new ≡ ended_after old sent → IsSome old → IsSome sent → IsSome new
behind_tells None new sent is tells sends = absurd (cc tells)
behind_tells (Some counts) new None is tells sends = absurd (cc sends)
behind_tells (Some counts) new (Some sent) is tells sends = same_tells is refl

pub end_tells : {E T : Type 0} (result : Result T E) (old new : DockView) (session : ℕ) → EndsSession {E = E} {T = T} old new result session → DockIsSpecified old
    → DockIsSpecified new
end_tells {E} {T} result old new session e tells = record {
  listens = same_tells e.listens tells.listens;
  taken = same_tells e.nothing_taken.taken tells.taken;
  coming = same_tells e.nothing_taken.coming tells.coming;
  sent = λ other. same_tells (e.nothing_sent.sent other) (tells.sent other);
  ended = ended_tells result e;
  ended_at = at_tells result e;
}
  where
    ended_tells : (r : Result T E) → EndsSession {E = E} {T = T} old new r session → IsSome new.ended
    ended_tells (Ok x) e = tells_more old.ended new.ended _ e.ended tells.ended
    ended_tells (Err f) e = same_tells e.kept tells.ended

    at_tells : (r : Result T E) → EndsSession {E = E} {T = T} old new r session → IsSome new.ended_at
    at_tells (Ok x) e = behind_tells old.ended_at new.ended_at (old.sent session) e.ended_at tells.ended_at (tells.sent session)
    at_tells (Err f) e = same_tells e.kept_at tells.ended_at

pub send_reports : {E : Type 0} (result : Result ℕ E) (old new : DockView) (session : ℕ) (piece : List ℕ) → Sends {E = E} old new result session piece → DockIsSpecified old
    → DockIsSpecified new
send_reports result old new session piece s tells = record {
  listens = same_tells s.listens tells.listens;
  taken = same_tells s.nothing_taken.taken tells.taken;
  coming = same_tells s.nothing_taken.coming tells.coming;
  sent = λ other. elim (cases_eq other session) [
    | inl it ↦ subst (λ k. IsSome (new.sent k)) (sym it) (write_tells result (out_to session old) (out_to session new) piece s.writes (tells.sent session))
    | inr differs ↦ same_tells (s.others other differs).0 (tells.sent other)
  ];
  ended = same_tells s.ended tells.ended;
  ended_at = same_tells s.ended_at tells.ended_at;
}
