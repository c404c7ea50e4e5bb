-- What a file holds once a batch was appended to it after a load, or while it was.
use Rattle.std.proofs.Common.{◌≡◌, ◌≢◌, inl, inr, ℕ, ◌+◌, List, [], ◌∷◌, ◌++◌, length, refl, ap, sym, subst, ◌∙◌, arith, length-append}
use Rattle.std.specs.Prelude.{Option, Some, None, IfSome}
use Rattle.std.proofs.lemmas.List.{append-nil}
use Rattle.fugue_ids.specs.declared.limits.TheConstants.{MOST_OPERATIONS}
use Rattle.fugue_ids.specs.declared.op.Op.{Op}
use Rattle.outer_ports.specs.disk.Disks.{DiskView, RoomView, room_after_write}
use Rattle.outer_ports.specs.disk.Moments.{History, LeavesOnlyTo, MayLeave, past_after_step, history_after_step}
use Rattle.outer_ports.specs.disk.States.{IsHonest, at_rest, durable}
use Rattle.outer_ports.proofs.SharedLemmas.{honest_at_rest, leaves_weaker}
use Rattle.origin_model.specs.files.Image.{Content, HasImage, Holds, state}
use Rattle.origin_model.specs.frames.Framings.{frames}
use Rattle.origin_model.specs.taking.Taking.{MeetsNoLimit, held, nothing_held}
use Rattle.origin_model.proofs.SharedLemmas.{held-append, places-append}
use Rattle.origin_model.specs.edits.State.{State as Replica}
use Rattle.replica_file.specs.Append.{HasBatch, HoldsEither, after_gate, content_with_ops}
use Rattle.replica_file.specs.declared.load_file.End.{End}
use Rattle.replica_file.specs.Ends.{Means}
use Rattle.replica_file.specs.Gates.{LastsForCalls, gate_opened}
use Rattle.replica_file.specs.Load.{Loads, content_replica}
use Rattle.command_kinds.specs.Files.{GainsAllOrNone, HasOps, HasOpsOr, AreSavedOps, new_file_header}
use Rattle.command_kinds.specs.Saving.{Outcome, Suffices, room_to_save}
use Rattle.command_kinds.specs.Changes.{DiskCountsNoFault, HasDiskRoom, change}

-- an image that holds a content has its operations
has_ops : (content : Content) (bytes : List ℕ) → HasImage bytes (Holds content) → HasOps (new_file_header content) content.ops bytes
has_ops content bytes holds = record { content = content; holds = holds; header_is = refl; ops_are = refl }

has_more : (content : Content) (ops : List Op) (bytes : List ℕ) → HasImage bytes (Holds (content_with_ops content ops))
    → HasOps (new_file_header content) (content.ops ++ ops) bytes
has_more content ops bytes holds = record { content = content_with_ops content ops; holds = holds; header_is = refl; ops_are = refl }

has_either : (content : Content) (ops : List Op) (bytes : List ℕ) → HoldsEither content ops bytes → HasOpsOr (new_file_header content) content.ops ops bytes
has_either content ops bytes (inl holds) = inl (has_ops content bytes holds)
has_either content ops bytes (inr holds) = inr (has_more content ops bytes holds)

-- a crash leaves the file, or that with one more batch
abbrev pub Leaves : List Op → Option History → Option History → Type 0
Leaves ops old new = IfSome old (λ h. (content : Content) → Means h.last content → LeavesOnlyTo h new (HoldsEither content ops))

abbrev pub Gains : List Op → Option History → Option History → Type 0
Gains ops old new = IfSome old (λ h. GainsAllOrNone ops h new)

weaker_to : (P Q : List ℕ → Type 0) → ((image : List ℕ) → P image → Q image) → (h : History) (new : Option History) → LeavesOnlyTo h new P → LeavesOnlyTo h new Q
weaker_to P Q more h None leaves = leaves
weaker_to P Q more h (Some k) leaves = leaves_weaker P Q more h k leaves

module _ (replica : Replica) (end : End) (ops : List Op) where
  abbrev Loaded : Option History → Type 0
  Loaded past = IfSome past (λ h. Loads MOST_OPERATIONS h.last.seen replica end)

  -- all of them or none, from the load on
  pub gains_so : (old mid new : Option History) → Loaded old → mid ≡ past_after_step durable old → IfSome old (λ h. LeavesOnlyTo h mid (MayLeave h)) → Leaves ops mid new
      → IfSome new (λ k. IsHonest k.last) → Gains ops old new
  gains_so None mid new loads synced moments leaves honest = tt
  gains_so (Some h) mid new loads synced moments leaves honest = record {
    content = loads.content;
    holds = loads.holds;
    loads = subst (λ m. LeavesOnlyTo h m (MayLeave h)) synced moments;
    gains = weaker_to (HoldsEither loads.content ops) (HasOpsOr (new_file_header loads.content) loads.content.ops ops) (has_either loads.content ops)
        (history_after_step durable h) new
        (subst (λ m. Leaves ops m new) synced leaves loads.content loads.holds);
    honest = honest;
  }

  -- a state at rest
  abbrev Rests : Option History → Type 0
  Rests new = IfSome new (λ k. k.last ≡ at_rest k.last.seen)

  rests_honest : (new : Option History) → Rests new → IfSome new (λ k. IsHonest k.last)
  rests_honest None rests = tt
  rests_honest (Some k) rests = subst IsHonest (sym rests) (honest_at_rest k.last.seen)

-- what stands at the end, where no operations were saved and where some were
abbrev AtEnd : List Op → Content → Option History → Type 0
AtEnd ops content new = IfSome new (λ k. HasOps (new_file_header content) (content.ops ++ ops) k.last.seen) × IfSome new (λ k. k.last ≡ at_rest k.last.seen)

still_at_end : (h : History) (content : Content) (new : Option History) → HasImage h.last.seen (Holds content) → new ≡ Some (history_after_step durable h) → AtEnd [] content new
still_at_end h content new holds is =
    subst (AtEnd [] content) (sym is) (record { content = content; holds = holds; header_is = refl; ops_are = sym (append-nil content.ops) }, refl)

batch_at_end : (content : Content) (end : End) (ops : List Op) (new : Option History) → IfSome new (λ k. HasBatch content end ops k.last) → AtEnd ops content new
batch_at_end content end ops None has = (tt, tt)
batch_at_end content end ops (Some k) has = (has_more content ops k.last.seen has.means, has.settled)

abbrev Batched : List Op → End → Option History → Option History → Type 0
Batched ops end mid new = IfSome mid (λ h. (content : Content) → Means h.last content → IfSome new (λ k. HasBatch content end ops k.last))

at_end : (replica : Replica) (end : End) (ops : List Op) (h : History) (mid new : Option History) (loads : Loads MOST_OPERATIONS h.last.seen replica end)
    → mid ≡ Some (history_after_step durable h)
    → (ops ≡ [] → new ≡ mid) → (ops ≢ [] → Batched ops end mid new) → AtEnd ops loads.content new
at_end replica end [] h mid new loads synced none appended = still_at_end h loads.content new loads.holds (none refl ∙ synced)
at_end replica end (op ∷ ops) h mid new loads synced none appended =
    batch_at_end loads.content end (op ∷ ops) new (subst (λ m. Batched (op ∷ ops) end m new) synced (appended (λ e. cc e)) loads.content loads.holds)

-- the operations were saved
pub saved_so : (replica : Replica) (end : End) (ops : List Op) (old mid new : Option History) → IfSome old (λ h. Loads MOST_OPERATIONS h.last.seen replica end)
    → mid ≡ past_after_step durable old
    → IfSome old (λ h. LeavesOnlyTo h mid (MayLeave h)) → Leaves ops mid new → (ops ≡ [] → new ≡ mid) → (ops ≢ [] → Batched ops end mid new)
    → IfSome old (λ h. AreSavedOps ops h new)
unfolding gains_so
saved_so replica end ops None mid new loads synced moments leaves none appended = tt
saved_so replica end ops (Some h) mid new loads synced moments leaves none appended =
    let last = at_end replica end ops h mid new loads synced none appended in
    record {
      moments = gains_so replica end ops (Some h) mid new loads synced moments leaves (rests_honest replica end ops new last.1);
      has = last.0;
      rests = last.1;
    }

module _ (bytes bytes' : List ℕ) (replica : Replica) (end : End) (outcome : Outcome) (loads : Loads MOST_OPERATIONS bytes replica end) (suffices : Suffices replica outcome)
    (content' : Content)
    (holds : HasImage bytes' (Holds content')) (number : content'.replica ≡ loads.content.replica) (hold : content'.hold ≡ loads.content.hold)
    (ops : content'.ops ≡ loads.content.ops ++ outcome.saved) where
  abbrev content : Content
  content = loads.content

  enough : Suffices (content_replica content MOST_OPERATIONS) outcome
  enough = subst (λ r. Suffices r outcome) loads.replica_is suffices

  same_state : state content' ≡ outcome.held
  same_state = (λ i. held (hold i) MOST_OPERATIONS (ops i)) ∙ sym (held-append content.hold MOST_OPERATIONS nothing_held content.ops outcome.saved) ∙ enough.same_state

  -- a file with the outcome's operations is loaded as its state
  loads_more : Loads MOST_OPERATIONS bytes' (record replica { held = outcome.held }) (record { at = content'.at; slots = content'.slots })
  loads_more = record {
    content = content';
    holds = holds;
    place = subst (λ n. MeetsNoLimit n MOST_OPERATIONS nothing_held content'.ops) (sym hold) (subst (MeetsNoLimit content.hold MOST_OPERATIONS nothing_held) (sym ops)
        (places-append content.hold MOST_OPERATIONS nothing_held content.ops outcome.saved loads.place enough.place));
    replica_is = ap (λ (r : Replica). record r { held = outcome.held }) loads.replica_is
        ∙ (λ i. record { number = sym number i; hold = sym hold i; most = MOST_OPERATIONS; held = sym same_state i });
    end_is = refl;
  }

abbrev LoadsAs : Replica → Option History → Type 0
LoadsAs replica new = (last : End) × IfSome new (λ k. Loads MOST_OPERATIONS k.last.seen replica last)

batch_loads : (bytes : List ℕ) (replica : Replica) (end : End) (outcome : Outcome) (loads : Loads MOST_OPERATIONS bytes replica end) → Suffices replica outcome
    → (new : Option History)
    → IfSome new (λ k. HasBatch loads.content end outcome.saved k.last) → LoadsAs (record replica { held = outcome.held }) new
batch_loads bytes replica end outcome loads suffices None has = (end, tt)
batch_loads bytes replica end outcome loads suffices (Some k) has =
    let more : Content = content_with_ops loads.content outcome.saved in
    (record { at = more.at; slots = more.slots }, loads_more bytes k.last.seen replica end outcome loads suffices more has.means refl refl refl)

still_loads : (replica : Replica) (end : End) (outcome : Outcome) (h : History) (new : Option History) → Loads MOST_OPERATIONS h.last.seen replica end → Suffices replica outcome
    → [] ≡ outcome.saved
    → new ≡ Some (history_after_step durable h) → LoadsAs (record replica { held = outcome.held }) new
still_loads replica end outcome h new loads suffices nothing_held is =
    subst (LoadsAs (record replica { held = outcome.held })) (sym is) (
      record { at = loads.content.at; slots = loads.content.slots },
      loads_more h.last.seen h.last.seen replica end outcome loads suffices loads.content loads.holds refl refl
          (sym (append-nil loads.content.ops) ∙ ap (λ l. loads.content.ops ++ l) nothing_held),
    )

-- where nothing is specified at first, nothing is specified then
untold : (end : End) (ops : List Op) (mid new : Option History) → mid ≡ None → (ops ≡ [] → new ≡ mid) → (ops ≢ [] → new ≡ gate_opened end.at (after_gate ops) mid) → new ≡ None
untold end [] mid new is none calls = none refl ∙ is
untold end (op ∷ ops) mid new is none calls = calls (λ e. cc e) ∙ ap (gate_opened end.at (after_gate (op ∷ ops))) is

-- a later load comes to the outcome's state
pub later_so : (replica : Replica) (end : End) (outcome : Outcome) (old mid new : Option History) → IfSome old (λ h. Loads MOST_OPERATIONS h.last.seen replica end)
    → Suffices replica outcome
    → mid ≡ past_after_step durable old → (outcome.saved ≡ [] → new ≡ mid) → (outcome.saved ≢ [] → new ≡ gate_opened end.at (after_gate outcome.saved) mid)
    → (outcome.saved ≢ [] → Batched outcome.saved end mid new)
    → LoadsAs (record replica { held = outcome.held }) new
later_so replica end outcome None mid new loads suffices synced none calls appended =
    (end, subst (λ o. IfSome o (λ k. Loads MOST_OPERATIONS k.last.seen (record replica { held = outcome.held }) end)) (sym (untold end outcome.saved mid new synced none calls)) tt)
later_so replica end outcome (Some h) mid new loads suffices synced none calls appended = by_ops outcome.saved refl
  where
    by_ops : (ops : List Op) → ops ≡ outcome.saved → LoadsAs (record replica { held = outcome.held }) new
    by_ops [] is = still_loads replica end outcome h new loads suffices is (none (sym is) ∙ synced)
    by_ops (op ∷ ops) is = batch_loads h.last.seen replica end outcome loads suffices new
        (subst (λ m. Batched outcome.saved end m new) synced (appended (λ e. let not = is ∙ e in cc not)) loads.content loads.holds)

-- a slot's bytes after its gate
gate_long : (ops : List Op) → length (after_gate ops) ≡ length (frames ops) + 5
gate_long ops = omega (arith, length-append (frames ops) (0 ∷ []))

-- what needs the room that is left behind the sync comes
pub with_room : (P : Type 0) (ops : List Op) (a b : DiskView) → ops ≢ [] → b.room ≡ room_after_write 0 a.room → HasDiskRoom (room_to_save ops) a
    → IfSome b.room (λ room. LastsForCalls (after_gate ops) room → P) → P
with_room P [] a b some room_is has if = absurd (some refl)
with_room P (op ∷ ops) a b some room_is has if =
    let now = subst (λ o. IfSome o (λ (room : RoomView). LastsForCalls (after_gate (op ∷ ops)) room → P)) (room_is ∙ ap (room_after_write 0) has.is) if in
    now (record { bytes_fit = omega (arith, has.bytes_fit, gate_long (op ∷ ops)); calls_fit = omega (arith, has.calls_fit) })

-- room to save is room for a call
pub some_room : (ops : List Op) (disk : DiskView) → HasDiskRoom (room_to_save ops) disk → HasDiskRoom 1 disk
some_room [] disk has = has
some_room (op ∷ ops) disk has = record { room = has.room; is = has.is; bytes_fit = omega (arith, has.bytes_fit); calls_fit = omega (arith, has.calls_fit) }

-- no fault is counted where there was room to save
pub no_fault_so : (ops : List Op) (a b c : DiskView) → DiskCountsNoFault 1 (change a b) → b.room ≡ room_after_write 0 a.room → (ops ≡ [] → c ≡ b)
    → IfSome b.room (λ room. LastsForCalls (after_gate ops) room → c.faults ≡ b.faults) → DiskCountsNoFault (room_to_save ops) (change a c)
no_fault_so [] a b c counts_no_fault room_is none without_fault has = ap (λ (d : DiskView). d.faults) (none refl) ∙ counts_no_fault has
no_fault_so (op ∷ ops) a b c counts_no_fault room_is none without_fault has =
    with_room (c.faults ≡ b.faults) (op ∷ ops) a b (λ e. cc e) room_is has without_fault ∙ counts_no_fault (some_room (op ∷ ops) a has)
