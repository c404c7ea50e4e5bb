-- What `new` does, from what making a file does.
use Rattle.std.proofs.Common.{◌≡◌, ◌≢◌, ℕ, List, [], ◌∷◌, refl, ap, sym, subst, ◌∙◌, inl, inr, arith}
use Rattle.std.specs.Prelude.{◌↔◌, Option, Some, None, Result, Ok, Err, IfSome, option_map}
use Rattle.fugue_ids.specs.Outs.{OutView}
use Rattle.origin_model.specs.files.Image.{HasImage, Holds, new_file}
use Rattle.outer_ports.proofs.SharedLemmas.{image_at_rest, leaves_none}
use Rattle.outer_ports.specs.disk.Disks.{DiskView}
use Rattle.outer_ports.specs.disk.Moments.{History, LeavesOnlyTo, MayLeave, past_after_step}
use Rattle.outer_ports.specs.disk.States.{DiskState, at_rest, durable, wrote}
use Rattle.replica_file.specs.Create.{CreateMeets, LastsToCreate, nothing_yet}
use Rattle.replica_file.specs.declared.creating.CreateFault.{CreateFault}
use Rattle.replica_file.specs.declared.creating.CreateFault.TheVariants.{NotEmpty, DiskFault}
use Rattle.command_kinds.proofs.CrashLemmas.{empty_never_torn, still_never_torn}
use Rattle.command_kinds.specs.Crashes.{IsSafe}
use Rattle.command_kinds.specs.Files.{bytes_of}
use Rattle.command_kinds.specs.New.{Creates, KeepsFilled, creating}
use Rattle.command_kinds.specs.Refusal.{create_refusal, refusal_line, status_of, Reported}
use Rattle.command_kinds.specs.Changes.{HasDiskRoom, change}
use Rattle.command_kinds.specs.declared.refusal.Refusal.TheVariants as refusal
use Rattle.command_kinds.specs.declared.status.Status.TheVariants as status
use Rattle.command_kinds.proofs.ActLemmas.{reported_performs}

-- what was found: a file is not empty exactly where that is answered, but for a fault
abbrev Finds : Result (Unit {0}) CreateFault → Option History → Type 0
Finds answer past = IfSome past (λ h. answer ≢ Err DiskFault → (answer ≡ Err NotEmpty) ↔ (h.last.seen ≢ []))

empty_of : (bytes : List ℕ) → ((bytes ≢ []) → ⊥) → bytes ≡ []
empty_of [] filled = refl
empty_of (byte ∷ bytes) filled = absurd (filled (λ is. cc is))

found_empty : (x : Unit {0}) (past : Option History) → Finds (Ok x) past → IfSome past (λ h. h.last.seen ≡ [])
found_empty x None found = found
found_empty x (Some h) found = empty_of h.last.seen (λ filled. cc ((found (λ is. cc is)).1 filled))

found_filled : (past : Option History) → Finds (Err NotEmpty) past → IfSome past (λ h. h.last.seen ≢ [])
found_filled None found = found
found_filled (Some h) found = (found (λ is. cc is)).0 refl

same_bytes : (P : List ℕ → Type 0) (past : Option History) (bytes : List ℕ) → IfSome past (λ h. P h.last.seen) → bytes_of past ≡ Some bytes → P bytes
same_bytes P None bytes has is = cc is
same_bytes P (Some h) bytes has is = subst P (cc is) has

new_bytes : (replica hold : ℕ) (old new : Option History) → new ≡ past_after_step durable (past_after_step (wrote 0 (new_file replica hold)) old)
    → IfSome new (λ k. k.last ≡ at_rest (new_file replica hold))
    → bytes_of new ≡ option_map (λ bytes. new_file replica hold) (bytes_of old)
new_bytes replica hold None new calls made = ap bytes_of calls
new_bytes replica hold (Some h) new calls made =
    ap bytes_of calls ∙ ap (λ (s : DiskState). Some s.seen) (subst (λ past. IfSome past (λ k. k.last ≡ at_rest (new_file replica hold))) calls made)

-- a new file is safe: whatever a crash leaves, it holds no operation
new_is_safe : (replica hold : ℕ) → HasImage (new_file replica hold) (Holds (nothing_yet replica hold))
    → IsSafe (record { replica = replica; hold = hold }) [] [] (at_rest (new_file replica hold))
new_is_safe replica hold holds = record {
  honest = record { no_shorter = omega arith; no_longer = omega arith; same = λ i below free. refl };
  leaves = λ image is. inl (record {
    content = nothing_yet replica hold;
    holds = subst (λ bytes. HasImage bytes (Holds (nothing_yet replica hold))) (sym (image_at_rest (new_file replica hold) image is)) holds;
    header_is = refl;
    ops_are = refl;
  });
}

safe_where : (replica hold : ℕ) (past : Option History) → HasImage (new_file replica hold) (Holds (nothing_yet replica hold))
    → IfSome past (λ k. k.last ≡ at_rest (new_file replica hold))
    → IfSome past (λ k. IsSafe (record { replica = replica; hold = hold }) [] [] k.last)
safe_where replica hold None holds made = made
safe_where replica hold (Some k) holds made = subst (IsSafe _ [] []) (sym made) (new_is_safe replica hold holds)

-- the room of a new file lasts to make it
by_room : (P : Type 0) (old : DiskView) → IfSome old.room (λ room. LastsToCreate room → P) → HasDiskRoom 14 old → P
by_room P old lasts has = subst (λ room. IfSome room (λ r. LastsToCreate r → P)) has.is lasts (record { bytes_fit = has.bytes_fit; calls_fit = omega (arith, has.calls_fit) })

empty_only : (old : DiskView) → IfSome old.past (λ h. h.last.seen ≡ []) → (bytes : List ℕ) → bytes_of old.past ≡ Some bytes → bytes ≢ [] → ⊥
empty_only old empty bytes is filled = filled (same_bytes (λ b. b ≡ []) old.past bytes empty is)

-- a file that had bytes, and is as it was
abbrev Stays : (old new : Option History) → Type 0
Stays old new = IfSome old (λ h. h.last.seen ≢ [] → new ≡ old)

still_leaves : (old new : Option History) → Stays old new → IfSome old (λ h. h.last.seen ≢ [] → LeavesOnlyTo h new (MayLeave h))
still_leaves None new stays = tt
still_leaves (Some h) new stays = λ filled. subst (λ past. LeavesOnlyTo h past (MayLeave h)) (sym (stays filled)) (leaves_none (MayLeave h) h)

keeps_filled : (old new : DiskView) → Stays old.past new.past → KeepsFilled (change old new)
keeps_filled old new stays = record { past = stays; moments = still_leaves old.past new.past stays }

pub created : (replica hold : ℕ) (old new : DiskView) (notes : OutView) (x : Unit {0}) → CreateMeets replica hold old new (Ok x)
    → Creates replica hold (change old new) (change notes notes) status.Done
created replica hold old new notes x meets =
    let empty = found_empty x old.past meets.not_empty in
    record {
      performs = record {
        result = Ok tt;
        did = record {
          empty = empty;
          made = new_bytes replica hold old.past new.past meets.made.calls meets.made.at_rest;
          at_rest = meets.made.at_rest;
          safe = safe_where replica hold new.past meets.made.holds meets.made.at_rest;
        };
        reported = record { noted = (refl, refl); counts_no_fault = λ has. refl; blameless = λ tells not. inl refl };
      };
      decided = record { empty = λ is. inl refl; not_empty = λ bytes is filled. absurd (empty_only old empty bytes is filled) };
      filled = keeps_filled old new meets.overwrites_none;
      crash = empty_never_torn (λ gave. gave ≡ []) (change old new) status.Done empty;
      counts_no_fault = by_room (new.faults ≡ old.faults) old meets.faults.counts_no_fault;
      never_outside = λ has is. cc is;
      blameless = λ tells not. meets.faults.specified_no_fault tells (λ is. cc is);
    }

abbrev failed : Result (Unit {0}) CreateFault
failed = Err DiskFault

-- a file was not made, and why was reported
pub not_created : (replica hold : ℕ) (old new : DiskView) (notes notes' : OutView) (fault : CreateFault) → CreateMeets replica hold old new (Err fault)
    → Reported notes notes' (refusal_line (create_refusal fault)) → Creates replica hold (change old new) (change notes notes') (status_of (create_refusal fault))
not_created replica hold old new notes notes' NotEmpty meets reported =
    let filled = found_filled old.past meets.not_empty in
    record {
      performs = reported_performs (creating replica hold (change old new)) (change notes notes') refusal.NotEmpty
          (record { found = filled; kept = (meets.kept refl).0 }) reported;
      decided = record { empty = λ is. absurd (same_bytes (λ b. b ≢ []) old.past [] filled is refl); not_empty = λ bytes is some. inl refl };
      filled = keeps_filled old new meets.overwrites_none;
      crash = still_never_torn (change old new) status.BadFile (λ done. elim done [ inl is ↦ cc is | inr is ↦ cc is ]) meets.overwrites_none;
      counts_no_fault = by_room (new.faults ≡ old.faults) old meets.faults.counts_no_fault;
      never_outside = λ has is. cc is;
      blameless = λ tells not. meets.faults.specified_no_fault tells (λ is. cc is);
    }
not_created replica hold old new notes notes' DiskFault meets reported =
    let no_room : HasDiskRoom 14 old → ⊥ = λ has. by_room (failed ≡ failed → ⊥) old meets.faults.sure has refl in
    record {
      performs = reported_performs (creating replica hold (change old new)) (change notes notes') refusal.Outside
          (record { torn = meets.torn; faulted = meets.faults.faulted refl; no_room = no_room }) reported;
      decided = record { empty = λ is. inr (refl, meets.faults.faulted refl); not_empty = λ bytes is filled. inr (refl, meets.faults.faulted refl) };
      filled = keeps_filled old new meets.overwrites_none;
      crash = still_never_torn (change old new) status.OutsideFault (λ done. elim done [ inl is ↦ cc is | inr is ↦ cc is ]) meets.overwrites_none;
      counts_no_fault = by_room (new.faults ≡ old.faults) old meets.faults.counts_no_fault;
      never_outside = λ has is. no_room has;
      blameless = λ tells not. absurd (not refl);
    }
