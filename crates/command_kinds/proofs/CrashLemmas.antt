-- What a crash leaves of a replica's file at the ends of a command.
use Rattle.std.proofs.Common.{◌≡◌, ◌≢◌, inl, inr, ℕ, List, [], ◌++◌, true, refl, ap, sym, subst, ◌∙◌}
use Rattle.std.specs.Prelude.{◌⊎◌, Option, Some, None, IfSome}
use Rattle.std.proofs.lemmas.List.{append-nil}
use Rattle.fugue_ids.specs.declared.op.Op.{Op}
use Rattle.origin_model.specs.files.Image.{has_header}
use Rattle.outer_ports.specs.disk.Disks.{DiskView}
use Rattle.outer_ports.specs.disk.Moments.{History, LeavesOnly, LeavesOnlyTo, past_after_step, moments, history_after_step}
use Rattle.outer_ports.specs.disk.States.{IsHonest, at_rest, durable}
use Rattle.outer_ports.proofs.SharedLemmas.{honest_at_rest, image_at_rest, last_leaves, leaves_more, leaves_none}
use Rattle.replica_file.proofs.AppendLemmas.{same_content}
use Rattle.command_kinds.specs.Crashes.{IsFinished, IsSafe, NeverTorn, StaysSafe}
use Rattle.command_kinds.specs.Files.{GainsAllOrNone, HasOps, HasOpsOr, Header, AreSavedOps, KeepsFile, new_file_header}
use Rattle.command_kinds.specs.Changes.{Change}
use Rattle.command_kinds.specs.declared.status.Status.{Status}

-- at rest, a file with some operations has these alone
pub safe_at_rest : (header : Header) (ops more : List Op) (bytes : List ℕ) → HasOpsOr header ops more bytes → IsSafe header ops more (at_rest bytes)
safe_at_rest header ops more bytes has = record {
  honest = honest_at_rest bytes;
  leaves = λ image is. subst (HasOpsOr header ops more) (sym (image_at_rest bytes image is)) has;
}

module _ (header : Header) (ops more : List Op) (h : History) (safe : IsSafe header ops more h.last) where
  -- what the file had at entry
  pub has_one : (had : List Op) × HasOps header had h.last.seen
  has_one = elim (safe.leaves h.last.seen safe.honest) [ inl first ↦ (ops, first) | inr both ↦ (ops ++ more, both) ]

  -- which is never empty
  pub safe_filled : h.last.seen ≢ []
  safe_filled none = let header_there = subst (λ bytes. has_header bytes ≡ true) none has_one.1.holds.0 in cc header_there

  pub settling_leaves : LeavesOnly h (history_after_step durable h) (HasOpsOr header ops more)
  settling_leaves = leaves_more (HasOpsOr header ops more) h h durable (leaves_none (HasOpsOr header ops more) h)
      (λ image is. subst (HasOpsOr header ops more) (sym (image_at_rest h.last.seen image is)) (safe.leaves h.last.seen safe.honest))

  -- the file alone, at rest
  settled_safe : IsSafe header (has_one.0 ++ []) [] (at_rest h.last.seen)
  settled_safe = subst (λ l. IsSafe header l [] (at_rest h.last.seen)) (sym (append-nil has_one.0)) (safe_at_rest header has_one.0 [] h.last.seen (inl has_one.1))

  -- nothing was given to be saved, and the file was loaded
  kept_settled : (end : Status) → StaysSafe header ops more [] h (Some (history_after_step durable h)) end
  kept_settled end = record {
    had = has_one.0;
    has = has_one.1;
    loaded = history_after_step durable h;
    loads = settling_leaves;
    saves = leaves_none (HasOpsOr header has_one.0 []) (history_after_step durable h);
    finished = λ done. settled_safe;
    again = (has_one.0, [], safe_at_rest header has_one.0 [] h.last.seen (inl has_one.1));
  }

  -- it was not loaded
  kept_still : (end : Status) → (IsFinished end → Some h ≡ Some (history_after_step durable h)) → StaysSafe header ops more [] h (Some h) end
  kept_still end settled_so = record {
    had = has_one.0;
    has = has_one.1;
    loaded = h;
    loads = leaves_none (HasOpsOr header ops more) h;
    saves = leaves_none (HasOpsOr header has_one.0 []) h;
    finished = λ done. subst (λ p. IfSome p (λ (k : History). IsSafe header (has_one.0 ++ []) [] k.last)) (sym (settled_so done)) settled_safe;
    again = (ops, more, safe);
  }

  kept_safe : (past : Option History) (end : Status) → (past ≡ Some (history_after_step durable h)) ⊎ (past ≡ Some h)
      → (IsFinished end → past ≡ Some (history_after_step durable h))
      → StaysSafe header ops more [] h past end
  kept_safe past end (inl is) settled_so = subst (λ p. StaysSafe header ops more [] h p end) (sym is) (kept_settled end)
  kept_safe past end (inr is) settled_so = subst (λ p. StaysSafe header ops more [] h p end) (sym is) (kept_still end (λ done. sym is ∙ settled_so done))

-- a file that is kept is not torn: where the command did all, it was loaded
pub kept_never_torn : (file : Change DiskView) (end : Status) → KeepsFile file → (IsFinished end → file.new.past ≡ past_after_step durable file.old.past)
    → NeverTorn (λ gave. gave ≡ []) file end
kept_never_torn file end keeps settled_so header ops more h is safe =
    let loaded : past_after_step durable file.old.past ≡ Some (history_after_step durable h) = ap (past_after_step durable) is in (
      [],
      refl,
      kept_safe header ops more h safe file.new.past end
          (elim keeps.past [ inl synced ↦ inl (synced ∙ loaded) | inr same ↦ inr (same ∙ is) ]) (λ done. settled_so done ∙ loaded),
    )

-- nor is one that was not touched, by a command that did not do all
pub still_never_torn : (file : Change DiskView) (end : Status) → (IsFinished end → ⊥) → IfSome file.old.past (λ h. h.last.seen ≢ [] → file.new.past ≡ file.old.past)
    → NeverTorn (λ gave. gave ≡ []) file end
still_never_torn file end not_done still header ops more h is safe =
    let same = subst (λ o. IfSome o (λ (k : History). k.last.seen ≢ [] → file.new.past ≡ file.old.past)) is still in
    ([], refl, kept_safe header ops more h safe file.new.past end (inr (same (safe_filled header ops more h safe) ∙ is)) (λ done. absurd (not_done done)))

-- and an empty file is not safe
pub empty_never_torn : (Gave : List Op → Type 0) (file : Change DiskView) (end : Status) → IfSome file.old.past (λ h. h.last.seen ≡ []) → NeverTorn Gave file end
empty_never_torn Gave file end empty header ops more h is safe =
    absurd (safe_filled header ops more h safe (subst (λ o. IfSome o (λ (k : History). k.last.seen ≡ [])) is empty))

module _ (header : Header) (ops more : List Op) (h : History) (safe : IsSafe header ops more h.last) (gave : List Op) (new : Option History)
    (gains : GainsAllOrNone gave h new) where
  abbrev had : List Op
  had = gains.content.ops

  -- the content is the one that the file had
  same_header : new_file_header gains.content ≡ header
  same_header =
      let one = (has_one header ops more h safe).1 in
      ap new_file_header (same_content h.last.seen gains.content one.content gains.holds one.holds) ∙ one.header_is

  has_had : HasOps header had h.last.seen
  has_had = record { content = gains.content; holds = gains.holds; header_is = same_header; ops_are = refl }

  safe_last : (past : Option History) → LeavesOnlyTo (history_after_step durable h) past (HasOpsOr header had gave) → IfSome past (λ k. IsHonest k.last)
      → IfSome past (λ k. (first : List Op) × (second : List Op) × IsSafe header first second k.last)
  safe_last None leaves honest = tt
  safe_last (Some k) leaves honest = (
    had,
    gave,
    record {
      honest = honest;
      leaves = last_leaves (HasOpsOr header had gave) (history_after_step durable h) k leaves
          (λ image is. inl (subst (HasOps header had) (sym (image_at_rest h.last.seen image is)) has_had));
    },
  )

  -- all of what was given, or none
  gains_safe : (end : Status) → (IsFinished end → IfSome new (λ k. IsSafe header (had ++ gave) [] k.last)) → StaysSafe header ops more gave h new end
  gains_safe end finished =
      let leaves = subst (λ f. LeavesOnlyTo (history_after_step durable h) new (HasOpsOr f had gave)) same_header gains.gains in
      record {
        had = had;
        has = has_had;
        loaded = history_after_step durable h;
        loads = settling_leaves header ops more h safe;
        saves = leaves;
        finished = finished;
        again = safe_last new leaves gains.honest;
      }

  -- and all of it, once it is saved
  all_safe : IfSome new (λ k. HasOps (new_file_header gains.content) (had ++ gave) k.last.seen) → IfSome new (λ k. k.last ≡ at_rest k.last.seen)
      → IfSome new (λ k. IsSafe header (had ++ gave) [] k.last)
  all_safe has rests = by_past new has rests
    where
      by_past : (past : Option History) → IfSome past (λ k. HasOps (new_file_header gains.content) (had ++ gave) k.last.seen) → IfSome past (λ k. k.last ≡ at_rest k.last.seen)
          → IfSome past (λ k. IsSafe header (had ++ gave) [] k.last)
      by_past None has rests = tt
      by_past (Some k) has rests =
          subst (IsSafe header (had ++ gave) []) (sym rests)
          (safe_at_rest header (had ++ gave) [] k.last.seen (inl (subst (λ f. HasOps f (had ++ gave) k.last.seen) same_header has)))

module _ (Gave : List Op → Type 0) (file : Change DiskView) (end : Status) where
  -- a file to which all was saved that was given
  pub saved_never_torn : (gave : List Op) → Gave gave → IfSome file.old.past (λ h. AreSavedOps gave h file.new.past) → NeverTorn Gave file end
  saved_never_torn gave given saves header ops more h is safe =
      let saved = subst (λ o. IfSome o (λ (h : History). AreSavedOps gave h file.new.past)) is saves in (
        gave,
        given,
        gains_safe header ops more h safe gave file.new.past saved.moments end
            (λ done. all_safe header ops more h safe gave file.new.past saved.moments saved.has saved.rests),
      )

  -- one to which it was saved, or not, by a command that did not do all
  pub failed_never_torn : (gave : List Op) → Gave gave → (IsFinished end → ⊥) → IfSome file.old.past (λ h. GainsAllOrNone gave h file.new.past) → NeverTorn Gave file end
  failed_never_torn gave given not_done moments header ops more h is safe =
      let gains = subst (λ o. IfSome o (λ (h : History). GainsAllOrNone gave h file.new.past)) is moments in
      (gave, given, gains_safe header ops more h safe gave file.new.past gains end (λ done. absurd (not_done done)))

  -- one that was kept by such a command
  pub stopped_never_torn : Gave [] → (IsFinished end → ⊥) → KeepsFile file → NeverTorn Gave file end
  stopped_never_torn none not_done keeps header ops more h is safe =
      let kept = kept_never_torn file end keeps (λ done. absurd (not_done done)) header ops more h is safe in
      (kept.0, subst Gave (sym kept.1) none, kept.2)
