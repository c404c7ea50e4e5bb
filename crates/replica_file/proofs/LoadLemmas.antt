-- What loading does to a disk: it is synced, and then read.
use Rattle.std.proofs.Common.{◌≡◌, ℕ, ◌+◌, ◌≤◌, List, ◌∷◌, ◌++◌, inl, inr, length, take, ap, refl, sym, subst, ◌∙◌, arith, length-append}
use Rattle.std.specs.Prelude.{Option, Some, None, IfSome, IfOk, IsSome, Result, Ok, Err}
use Rattle.outer_ports.specs.disk.Disks.{DiskView, IsSureStep, RoomView, Syncs, room_after_write}
use Rattle.outer_ports.specs.disk.States.{IsHonest, IsCrashImage, DiskState, durable}
use Rattle.outer_ports.specs.disk.Moments.{History, LeavesOnlyTo, MayLeave, past_after_step}
use Rattle.outer_ports.proofs.SharedLemmas.{image_at_rest, leaves_more, leaves_none}
use Rattle.origin_model.specs.files.Image.{Content, HasImage, Holds, open_slots}
use Rattle.origin_model.proofs.SharedLemmas.{to_parts}
use Rattle.origin_model.specs.edits.State.{State}
use Rattle.replica_file.specs.declared.load_file.End.{End}
use Rattle.replica_file.specs.declared.load_file.LoadFault.{LoadFault}
use Rattle.replica_file.specs.declared.load_file.LoadFault.TheVariants.{DiskFault}
use Rattle.replica_file.specs.Ends.{EndsAtGate, IsWithinReach}
use Rattle.replica_file.specs.Faults.{AccountsForFaults}
use Rattle.replica_file.specs.Load.{LastsToLoad, LoadAnswerIs, LoadAnswersBy, Loads}
use Rattle.replica_file.specs.Loaded.{IsLoaded, LoadMeets}
use Rattle.replica_file.specs.Loading.{CanTake}
use Rattle.replica_file.specs.Looks.{LooksOnly, ReachesTo, ReadsNoFurther}
use Rattle.replica_file.specs.Moments.{loaded_of}
use Rattle.replica_file.proofs.OnceLemmas.{exact}
use Rattle.replica_file.proofs.PartLemmas.{specified_all, specified_one}

-- a sync changes nothing of what a read gives
pub seen_stays : (P : List ℕ → Type 0) (o p : Option History) → p ≡ past_after_step durable o → IfSome p (λ h. P h.last.seen) → IfSome o (λ h. P h.last.seen)
seen_stays P None p is specified = tt
seen_stays P (Some h) p is specified = subst (λ q. IfSome q (λ k. P k.last.seen)) is specified

-- the gate that ends the meaning is there
gate_inside : (bytes : List ℕ) (content : Content) → HasImage bytes (Holds content) → content.at + 1 ≤ length bytes
gate_inside bytes content h =
    let p = to_parts bytes content h in
    omega (
      arith,
      ap length p.split,
      length-append p.head (open_slots p.batches ++ p.gate ∷ p.rest),
      length-append (open_slots p.batches) (p.gate ∷ p.rest),
      p.long,
      ap (λ (c : Content). c.at) p.content_is,
    )

ends_at : (s : DiskState) (most : ℕ) (r : State) (end : End) → Loads most s.seen r end → EndsAtGate (durable s) end
ends_at s most r end l = record {
  content = l.content;
  means = l.holds;
  at = ap (λ (e : End). e.at) (sym l.end_is);
  slots = ap (λ (e : End). e.slots) (sym l.end_is);
  agrees = record {
    inside = omega (arith, gate_inside s.seen l.content l.holds, ap (λ (e : End). e.at) l.end_is);
    each = λ image is. ap (take (end.at + 1)) (image_at_rest s.seen image is);
  };
}

ends_settled : (most : ℕ) (o q : Option History) (r : State) (end : End) → q ≡ past_after_step durable o → IfSome o (λ h. Loads most h.last.seen r end)
    → IfSome q (λ h. EndsAtGate h.last end)
ends_settled most None q r end is loads = subst (λ t. IfSome t (λ h. EndsAtGate h.last end)) (sym is) tt
ends_settled most (Some h) q r end is loads = subst (λ t. IfSome t (λ k. EndsAtGate k.last end)) (sym is) (ends_at h.last most r end loads)

-- each image of a sync could be left before it
settled_leaves : (o q : Option History) → IfSome o (λ h. IsHonest h.last) → q ≡ past_after_step durable o → IfSome o (λ h. LeavesOnlyTo h q (MayLeave h))
settled_leaves None q honest is = tt
settled_leaves (Some h) q honest is =
    subst (λ t. LeavesOnlyTo h t (MayLeave h)) (sym is)
    (leaves_more (MayLeave h) h h durable (leaves_none (MayLeave h) h) (λ image left. subst (IsCrashImage h.last) (sym (image_at_rest h.last.seen image left)) honest))

still_leaves : (o q : Option History) → q ≡ o → IfSome o (λ h. LeavesOnlyTo h q (MayLeave h))
still_leaves o q same = subst (λ t. IfSome o (λ h. LeavesOnlyTo h t (MayLeave h))) (sym same) (stays o)
  where
    stays : (o : Option History) → IfSome o (λ h. LeavesOnlyTo h o (MayLeave h))
    stays None = tt
    stays (Some h) = leaves_none (MayLeave h) h

-- a disk that is specified is so after a sync
pub tells_settled : (o q : Option History) → q ≡ past_after_step durable o → IsSome o → IsSome q
tells_settled None q is tells = subst IsSome (sym is) tells
tells_settled (Some h) q is tells = subst IsSome (sym is) refl

-- the sync failed
pub sync_fails : {E T : Type 0} (most : ℕ) (old new : DiskView) (e : E) → Syncs {E = E} {T = T} old new (Err e) → LoadMeets most old new (Err DiskFault)
sync_fails {E} {T} most old new e sync = record {
  cause = specified_all {P = λ h. Unit {0}} old.past (λ h. tt);
  exactly = specified_all {P = λ h. LoadAnswersBy (Err DiskFault) most h.last.seen} old.past (λ h by. absurd by);
  loaded = tt;
  synced = inr (refl, sync.past, sync.same_room);
  moments = still_leaves old.past new.past sync.past;
  no_size = sync.unread.sizes;
  faults = record {
    later = sync.cause.later;
    faulted = λ failed. sync.cause.failed;
    sure = never (◌≡◌ {A = Result (State × End) LoadFault} (Err DiskFault) (Err DiskFault) → ⊥) old.room sync.sure;
    counts_no_fault = never (new.faults ≡ old.faults) old.room sync.sure;
    specified_no_fault = λ tells not. absurd (not refl);
  };
}
  where
    never : (P : Type 0) (o : Option RoomView) → IfSome o (λ room. IsSureStep {E = E} {T = T} room 0 old new (Err e)) → IfSome o (λ room. LastsToLoad room → P)
    never P None sure = tt
    never P (Some room) sure = λ lasts. absurd (sure.fits (omega arith) lasts)

-- the file was settled, and then read
module _ {E T M : Type 0} (most : ℕ) (old synced new : DiskView) (done : T) (sync : Syncs {E = E} {T = T} old synced (Ok done)) (result : Result (State × End × M) LoadFault)
    (looks : LooksOnly synced new (result ≡ Err DiskFault)) where
  alone : (r : Result (State × End × M) LoadFault) → loaded_of r ≡ Err DiskFault → r ≡ Err DiskFault
  alone (Ok loaded) is = cc is
  alone (Err fault) is = let same : fault ≡ DiskFault = cc is in ap Err same

  faults : AccountsForFaults old new LastsToLoad (loaded_of result ≡ Err DiskFault)
  faults = record {
    later = omega (arith, sync.cause.later, looks.later);
    faulted = λ failed. omega (arith, sync.cause.later, looks.faulted (alone result failed));
    sure = sure old.room synced.room sync.room looks.sure;
    counts_no_fault = counts_no_fault old.room synced.room sync.room sync.sure looks.counts_no_fault;
    specified_no_fault = λ tells not. looks.specified_no_fault (tells_settled old.past synced.past sync.settled tells) (λ failed. not (ap loaded_of failed))
        ∙ sync.specified_no_fault tells;
  }
    where
      sure : (o p : Option RoomView) → p ≡ room_after_write 0 o → IfSome p (λ room. result ≡ Err DiskFault → ⊥)
          → IfSome o (λ room. LastsToLoad room → loaded_of result ≡ Err DiskFault → ⊥)
      sure None p is none = tt
      sure (Some room) p is none = λ lasts failed. subst (λ q. IfSome q (λ room. result ≡ Err DiskFault → ⊥)) is none (alone result failed)

      counts_no_fault : (o p : Option RoomView) → p ≡ room_after_write 0 o → IfSome o (λ room. IsSureStep {E = E} {T = T} room 0 old synced (Ok done))
          → IfSome p (λ room. new.faults ≡ synced.faults)
          → IfSome o (λ room. LastsToLoad room → new.faults ≡ old.faults)
      counts_no_fault None p is first then = tt
      counts_no_fault (Some room) p is first then = λ lasts. subst (λ q. IfSome q (λ room. new.faults ≡ synced.faults)) is then ∙ first.counts_no_fault

  pub settled_past : new.past ≡ past_after_step durable old.past
  settled_past = looks.past ∙ sync.settled

  pub loads_settled : IfSome synced.past (λ h. LoadAnswerIs most h.last.seen (loaded_of result)) → IfOk result (λ loaded. CanTake loaded.0)
      → IfOk result (λ loaded. IsWithinReach loaded.1)
      → IfOk result (λ loaded. ReadsNoFurther (loaded.1.at + 1) synced new) → LoadMeets most old new (loaded_of result)
  loads_settled cause ready reaches reach =
      let caused = seen_stays (λ bytes. LoadAnswerIs most bytes (loaded_of result)) old.past synced.past sync.settled cause in
      record {
        cause = caused;
        exactly = specified_one old.past (λ h is. exact most h.last.seen (loaded_of result) is) caused;
        loaded = by_answer result caused ready reaches reach;
        synced = inl (settled_past, looks.room ∙ sync.room);
        moments = settled_leaves old.past new.past sync.honest settled_past;
        no_size = looks.sizes ∙ sync.unread.sizes;
        faults = faults;
      }
    where
      by_answer : (r : Result (State × End × M) LoadFault) → IfSome old.past (λ h. LoadAnswerIs most h.last.seen (loaded_of r)) → IfOk r (λ loaded. CanTake loaded.0)
          → IfOk r (λ loaded. IsWithinReach loaded.1)
          → IfOk r (λ loaded. ReadsNoFurther (loaded.1.at + 1) synced new) → IfOk (loaded_of r) (λ loaded. IsLoaded old new loaded.0 loaded.1)
      by_answer (Err fault) cause ready reaches reach = tt
      by_answer (Ok loaded) cause ready reaches reach = record {
        ready = ready;
        ends = ends_settled most old.past new.past loaded.0 loaded.1 settled_past cause;
        reaches = reaches;
        reach = subst (λ before. ReachesTo (loaded.1.at + 1) before new.reach) sync.unread.reach reach;
      }

-- what was loaded was settled
pub loaded_synced : (most : ℕ) (old new : DiskView) (loaded : State × End) → LoadMeets most old new (Ok loaded)
    → (new.past ≡ past_after_step durable old.past) × (new.room ≡ room_after_write 0 old.room)
loaded_synced most old new loaded meets = elim meets.synced [ inl is ↦ is | inr not ↦ let failed = not.0 in cc failed ]
