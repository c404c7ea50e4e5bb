-- Sending a reply, whole and up to a fault.
use Rattle.std.proofs.Common.{[], List, ap, arith, drop, false, length, nat_eq, refl, subst, sym, take, true, ℕ, Bool, ◌+◌, ◌++◌, ◌-◌, ◌∙◌, ◌∷◌, ◌≤◌, ◌≡◌, ◌≢◌}
use Rattle.std.specs.Prelude.{Err, IfSome, None, Ok, Option, Some, if◌then◌else◌, option_map}
use Rattle.std.proofs.lemmas.Bool.{eqb-true, eq-eqb, true≢false}
use Rattle.std.proofs.lemmas.List.{append-nil, take_all}
use Rattle.fugue_ids.specs.Outs.{IsSure, OutView, Took, TookFront}
use Rattle.fugue_ids.proofs.JoinLemmas.{call_grows, took_none}
use Rattle.origin_model.specs.declared.relay.Reply.{Reply}
use Rattle.outer_ports.specs.declared.dock.DockStep.{DockStep}
use Rattle.outer_ports.specs.declared.dock.MemStep.{MemStep}
use Rattle.outer_ports.specs.dock.Docks.{DockView, EndsSession, Sends, Takes, ended_after, out_to}
use Rattle.outer_ports.specs.dock.Steps.{with_bytes}
use Rattle.relay_sync.specs.Sending.{GivesSteps, LastsFor, Replied, RepliedPartly, SendsText}
use Rattle.relay_sync.specs.Serving.{bytes_to, closed_by, ends_after, Spends}
use Rattle.relay_sync.specs.declared.serving.ServeFault.TheVariants.{DockFault, NoMemory}

-- a step that was taken
pub takes_gives : {E : Type 0} (old new : DockView) (step : DockStep) (buf : List ℕ) → Takes {E = E} old new (Ok step) buf → GivesSteps old new (with_bytes step buf ∷ [])
takes_gives old new step buf h =
    record {
      gave = record { taken = h.taken; comes = (new.coming, h.came, refl) };
      nothing_sent = h.nothing_sent;
      ended = h.ended;
      ended_at = h.ended_at;
      ends = h.ends;
      listens = h.listens;
      later = h.count.cause.later;
    }

-- one call more
pub sends_grow : {E T : Type 0} (x : T) (u v w : DockView) (session : ℕ) (piece : List ℕ) (at n : ℕ) → SendsText {E = E} {T = T} u v (Ok x) session (take at piece)
    → Sends {E = E} v w (Ok n) session (take (length piece - at) (drop at piece)) → SendsText {E = E} {T = T} u w (Ok x) session (take (at + n) piece)
sends_grow {E} {T} x u v w session piece at n s t = record {
  writes = call_grows {E = E} {T = T} x (out_to session u) (out_to session v) (out_to session w) piece at n s.writes t.writes;
  others = λ other apart. ((t.others other apart).0 ∙ (s.others other apart).0, (t.others other apart).1 ∙ (s.others other apart).1);
  nothing_taken = record { taken = t.nothing_taken.taken ∙ s.nothing_taken.taken; coming = t.nothing_taken.coming ∙ s.nothing_taken.coming };
  listens = t.listens ∙ s.listens;
  ended = t.ended ∙ s.ended;
  ended_at = t.ended_at ∙ s.ended_at;
  ends = t.ends ∙ s.ends;
}

-- what is so of a number that is specified
pub sure_is : (P : ℕ → Type 0) (specified : Option ℕ) (n : ℕ) → specified ≡ Some n → IfSome specified P → P n
sure_is P specified n is holds = subst (λ (o : Option ℕ). IfSome o P) is holds

pub ends_none : (ends : Option ℕ) → ends ≡ ends_after [] ends
ends_none None = refl
ends_none (Some n) = ap Some (omega arith)

-- a text that fits goes out, and the count of faults stays
text_room : (u : DockView) (reply : Reply) → LastsFor u (Some reply) → (room : ℕ) × (u.room reply.session ≡ Some room) × (length reply.bytes ≤ room)
text_room u reply h =
    let r = h.room reply.session in
    (r.0, r.1, subst (λ (b : Bool). length (if b then reply.bytes else []) ≤ r.0) (eq-eqb reply.session reply.session refl) r.2)

text_no_fault : {E T : Type 0} (x : T) (u v : DockView) (reply : Reply) → SendsText {E = E} {T = T} u v (Ok x) reply.session reply.bytes
    → LastsFor u (Some reply) → v.faults ≡ u.faults
text_no_fault {E} {T} x u v reply s h =
    let r = text_room u reply h in
    (sure_is (λ (room : ℕ). IsSure {E = E} {T = T} room (length reply.bytes) u.faults v.faults (Ok x)) (u.room reply.session) r.0 r.1 s.writes.sure).counts_no_fault

text_fits : {E T : Type 0} (e : E) (u v : DockView) (reply : Reply) → SendsText {E = E} {T = T} u v (Err e) reply.session reply.bytes → LastsFor u (Some reply) → ⊥
text_fits {E} {T} e u v reply s h =
    let r = text_room u reply h in
    (sure_is (λ (room : ℕ). IsSure {E = E} {T = T} room (length reply.bytes) u.faults v.faults (Err e)) (u.room reply.session) r.0 r.1 s.writes.sure).fits r.2

-- what one session got is what each got
module _ (P : OutView → OutView → List ℕ → Type 0) (u v : DockView) (reply : Reply) where
  each : P (out_to reply.session u) (out_to reply.session v) reply.bytes → ((other : ℕ) → other ≢ reply.session → P (out_to other u) (out_to other v) [])
      → (session : ℕ) → P (out_to session u) (out_to session v) (bytes_to session (Some reply))
  each own others session = by_test (nat_eq session reply.session) refl
    where
      by_test : (b : Bool) → nat_eq session reply.session ≡ b → P (out_to session u) (out_to session v) (if b then reply.bytes else [])
      by_test true e = subst (λ n. P (out_to n u) (out_to n v) reply.bytes) (sym (eqb-true session reply.session e)) own
      by_test false e = others session (λ same. true≢false (sym (eq-eqb session reply.session same) ∙ e))

front_none : (v w : OutView) → Took v w [] → TookFront v w []
front_none v w t = record { count = 0; within = omega arith; took = t }

front_whole : (v w : OutView) (bytes : List ℕ) → Took v w bytes → TookFront v w bytes
front_whole v w bytes t = record { count = length bytes; within = omega arith; took = subst (Took v w) (sym (take_all (length bytes) bytes (omega arith))) t }

pub grows_none : {T : Type 0} (known : Option (List T)) → known ≡ option_map (λ xs. xs ++ []) known
grows_none None = refl
grows_none (Some xs) = ap Some (sym (append-nil xs))

-- the reply went out, and its session goes on
pub replied_on : {E T : Type 0} (x : T) (u v : DockView) (reply : Reply) → reply.closes ≡ false → SendsText {E = E} {T = T} u v (Ok x) reply.session reply.bytes
    → Replied u v (Some reply)
replied_on {E} {T} x u v reply on s = record {
  sent = each Took u v reply s.writes.ok (λ other apart. took_none (out_to other u) (out_to other v) (s.others other apart).0 (s.others other apart).1);
  ended = rw on (s.ended ∙ grows_none u.ended);
  ended_at = s.ended_at ∙ ap (λ (b : Bool). if b then ended_after u.ended_at (v.sent reply.session) else u.ended_at) (sym on);
  ends = rw on (s.ends ∙ ends_none u.ends);
  nothing_taken = s.nothing_taken;
  listens = s.listens;
  later = s.writes.cause.later;
  counts_no_fault = λ h. text_no_fault {E = E} {T = T} x u v reply s h;
}

-- or is ended
pub replied_ended : {E T F S : Type 0} (x : T) (y : S) (u v w : DockView) (reply : Reply) → reply.closes ≡ true → SendsText {E = E} {T = T} u v (Ok x) reply.session reply.bytes
    → EndsSession {E = F} {T = S} v w (Ok y) reply.session → Replied u w (Some reply)
replied_ended {E} {T} {F} {S} x y u v w reply closes s t = record {
  sent = each Took u w reply
      (record { written = t.nothing_sent.sent reply.session ∙ s.writes.ok.written; room = t.nothing_sent.room reply.session ∙ s.writes.ok.room })
      (λ other apart. took_none (out_to other u) (out_to other w) (t.nothing_sent.sent other ∙ (s.others other apart).0) (t.nothing_sent.room other ∙ (s.others other apart).1));
  ended = rw closes (t.ended ∙ ap (option_map (λ ended. ended ++ reply.session ∷ [])) s.ended);
  ended_at = t.ended_at ∙ (λ i. ended_after (s.ended_at i) (sym (t.nothing_sent.sent reply.session) i))
      ∙ ap (λ (b : Bool). if b then ended_after u.ended_at (w.sent reply.session) else u.ended_at) (sym closes);
  ends = rw closes (t.ends ∙ ap (option_map (λ ends. ends - 1)) s.ends);
  nothing_taken = record { taken = t.nothing_taken.taken ∙ s.nothing_taken.taken; coming = t.nothing_taken.coming ∙ s.nothing_taken.coming };
  listens = t.listens ∙ s.listens;
  later = omega (arith, s.writes.cause.later, t.count.cause.later);
  counts_no_fault = λ h. sure_is (λ n. w.faults ≡ v.faults) v.ends h.ends.0 (s.ends ∙ h.ends.1) t.count.counts_no_fault ∙ text_no_fault {E = E} {T = T} x u v reply s h;
}

-- a fault while it went out
pub replied_front : {E T : Type 0} (e : E) (u v : DockView) (reply : Reply) → SendsText {E = E} {T = T} u v (Err e) reply.session reply.bytes
    → RepliedPartly DockFault u v (Some reply)
replied_front {E} {T} e u v reply s = record {
  sent = each TookFront u v reply s.writes.err
      (λ other apart. front_none (out_to other u) (out_to other v) (took_none (out_to other u) (out_to other v) (s.others other apart).0 (s.others other apart).1));
  ended = record { count = 0; ended = s.ended ∙ grows_none u.ended };
  nothing_taken = s.nothing_taken;
  listens = s.listens;
  later = s.writes.cause.later;
  sure = λ h. absurd (text_fits {E = E} {T = T} e u v reply s h);
  counts_no_fault = λ h. absurd (text_fits {E = E} {T = T} e u v reply s h);
}

-- or as its session was to be ended
pub replied_open : {E T F S : Type 0} (x : T) (f : F) (u v w : DockView) (reply : Reply) → SendsText {E = E} {T = T} u v (Ok x) reply.session reply.bytes
    → EndsSession {E = F} {T = S} v w (Err f) reply.session → reply.closes ≡ true → RepliedPartly DockFault u w (Some reply)
replied_open {E} {T} {F} {S} x f u v w reply s t closes = record {
  sent = each TookFront u w reply
      (front_whole (out_to reply.session u) (out_to reply.session w) reply.bytes
      (record { written = t.nothing_sent.sent reply.session ∙ s.writes.ok.written; room = t.nothing_sent.room reply.session ∙ s.writes.ok.room }))
      (λ other apart.
      front_none (out_to other u) (out_to other w)
      (took_none (out_to other u) (out_to other w) (t.nothing_sent.sent other ∙ (s.others other apart).0) (t.nothing_sent.room other ∙ (s.others other apart).1)));
  ended = record { count = 0; ended = t.kept ∙ s.ended ∙ grows_none u.ended };
  nothing_taken = record { taken = t.nothing_taken.taken ∙ s.nothing_taken.taken; coming = t.nothing_taken.coming ∙ s.nothing_taken.coming };
  listens = t.listens ∙ s.listens;
  later = omega (arith, s.writes.cause.later, t.count.cause.later);
  sure = λ h. absurd (never h);
  counts_no_fault = λ h. absurd (never h);
}
  where
    never : LastsFor u (Some reply) → ⊥
    never h =
        let none : h.ends.0 ≡ 0 = sure_is (λ (n : ℕ). n ≡ 0) v.ends h.ends.0 (s.ends ∙ h.ends.1) t.count.excused in
        let one : 1 ≤ h.ends.0 = subst (λ (b : Bool). length (if b then reply.session ∷ [] else []) ≤ h.ends.0) closes h.ends.2 in
        omega (arith, none, one)

-- a reply that was sent whole, seen as up to a fault
pub replied_partly : (u v : DockView) (reply : Option Reply) → Replied u v reply → RepliedPartly NoMemory u v reply
replied_partly u v reply r = record {
  sent = λ session. front_whole (out_to session u) (out_to session v) (bytes_to session reply) (r.sent session);
  ended = record { count = length (closed_by reply); ended = rw (take_all (length (closed_by reply)) (closed_by reply) (omega arith)) r.ended };
  nothing_taken = r.nothing_taken;
  listens = r.listens;
  later = r.later;
  sure = λ h is. cc is;
  counts_no_fault = r.counts_no_fault;
}

-- a step that was taken, or not, from a sure dock
pub takes_no_fault : {E : Type 0} (old new : DockView) (step : DockStep) (buf : List ℕ) → Takes {E = E} old new (Ok step) buf → IfSome old.ends (λ ends. new.faults ≡ old.faults)
takes_no_fault old new step buf h = h.count.counts_no_fault

pub takes_none : {E : Type 0} (e : E) (old new : DockView) (buf : List ℕ) → Takes {E = E} old new (Err e) buf
    → (steps : List MemStep) × GivesSteps old new steps × (length steps ≤ 1) × IfSome old.ends (λ ends. Spends DockFault steps old new)
takes_none e old new buf h = (
  [],
  record {
    gave = record { taken = h.kept.taken ∙ grows_none old.taken; comes = h.kept.coming };
    nothing_sent = h.nothing_sent;
    ended = h.ended;
    ended_at = h.ended_at;
    ends = h.ends;
    listens = h.listens;
    later = h.count.cause.later;
  },
  omega arith,
  none_left old.ends h.count.excused,
)
  where
    none_left : (ends : Option ℕ) → IfSome ends (λ ends. IfSome old.coming (λ steps. steps ≡ [])) → IfSome ends (λ ends. Spends DockFault [] old new)
    none_left None excused = tt
    none_left (Some n) excused = (refl, subst (λ (coming : Option (List MemStep)). IfSome coming (λ steps. steps ≡ [])) (sym h.kept.coming) excused)
