-- The moments of a file that is specified, and of one that is not.
use Rattle.std.proofs.Common.{◌≡◌, ℕ, ◌≤◌, List, [], ◌∷◌, ◌++◌, ap, arith, append_assoc, inl, inr, length, length-append, subst, sym, ◌∙◌}
use Rattle.std.specs.Prelude.{Bool, IfSome, None, Option, Some, if◌then◌else◌}
use Rattle.std.proofs.lemmas.Bool.{cases_lt, le-ltb, lt-ltb}
use Rattle.std.proofs.lemmas.Grind.{flat_map-append}
use Rattle.std.proofs.lemmas.List.{append-nil, length-reverse}
use Rattle.fugue_ids.specs.declared.op.Op.{Op}
use Rattle.origin_model.specs.files.Image.{Batch, Content, batch_ops}
use Rattle.origin_model.specs.operations.History.{accepted}
use Rattle.origin_model.specs.taking.Taking.{held}
use Rattle.replica_file.proofs.AppendLemmas.{same_content}
use Rattle.version_views.specs.Fronts.{GrowsHistory}
use Rattle.version_views.proofs.FrontMakingLemmas.{files_grow}
use Rattle.batch_moments.specs.Lines.{RiseTo}
use Rattle.batch_moments.proofs.LawLemmas.{tell_all}
use Rattle.fugue_ids.specs.declared.limits.TheConstants.{MOST_OPERATIONS}
use Rattle.origin_model.specs.edits.State.{State as Replica}
use Rattle.outer_ports.specs.disk.Disks.{DiskView}
use Rattle.outer_ports.specs.disk.Moments.{History}
use Rattle.replica_file.specs.Load.{Loads}
use Rattle.replica_file.specs.Moments.{HasMoments, accepted_by, new_moment, moments_after, moments_of}
use Rattle.replica_file.specs.declared.load_file.End.{End}
use Rattle.replica_file.proofs.MomentLemmas.{some_moments}
use Rattle.command_kinds.proofs.ReportLemmas.{ReportsOnce}
use Rattle.manuscript_cli.specs.Moments.{AreMomentsOf, MomentsTellFile, moments_reports}

pub moments_reported_once : (moments : List ℕ) → ReportsOnce (moments_reports moments)
moments_reported_once moments replica lawful a b one two = one ∙ sym two

-- some moments are those of a file, whatever it is
pub moments_of_some : (file : DiskView) → (moments : List ℕ) × AreMomentsOf file moments
moments_of_some file = by_past file.past
  where
    by_past : (past : Option History) → (moments : List ℕ)
        × ((replica : Replica) (end : End) → IfSome past (λ h. Loads MOST_OPERATIONS h.last.seen replica end) → IfSome past (λ h. HasMoments h.last.seen moments))
    by_past None = ([], λ replica end holds. tt)
    by_past (Some h) = let some = some_moments h.last.seen in (some.0, λ replica end holds. some.1 holds.content holds.holds)

-- one batch more takes none away
batch_grows : (hold : ℕ) (earlier : List Batch) (batch : Batch) → accepted_by hold earlier ≤ accepted_by hold (earlier ++ batch ∷ [])
batch_grows hold earlier batch =
    let grows : GrowsHistory (held hold MOST_OPERATIONS (batch_ops earlier)).history (held hold MOST_OPERATIONS (batch_ops earlier ++ batch_ops (batch ∷ []))).history =
    files_grow hold MOST_OPERATIONS (batch_ops earlier) (batch_ops (batch ∷ [])) in
    let ops : batch_ops (earlier ++ batch ∷ []) ≡ batch_ops earlier ++ batch_ops (batch ∷ []) = flat_map-append (λ (b : Batch). b.ops) earlier (batch ∷ []) in
    omega (
      arith,
      ap (λ (l : List Op). length (held hold MOST_OPERATIONS l).history) ops,
      ap length grows.grown,
      length-append grows.newer (held hold MOST_OPERATIONS (batch_ops earlier)).history,
    )

-- a moment, and those after it
rise_more : (before now to : ℕ) (moments : List ℕ) → before ≤ now → RiseTo now moments to → RiseTo before (new_moment before now ++ moments) to
rise_more before now to moments grows rise = elim (cases_lt before now) [
  | inl less ↦ subst (λ (b : Bool). RiseTo before ((if b then now ∷ [] else []) ++ moments) to) (sym (lt-ltb before now less)) (less, rise)
  | inr not_less ↦
      let same : now ≡ before = omega (arith, grows, not_less) in
      subst (λ (b : Bool). RiseTo before ((if b then now ∷ [] else []) ++ moments) to) (sym (le-ltb before now not_less)) (subst (λ (n : ℕ). RiseTo n moments to) same rise)
]

moments_rise : (hold : ℕ) (earlier batches : List Batch) → RiseTo (accepted_by hold earlier) (moments_after hold earlier batches) (accepted_by hold (earlier ++ batches))
moments_rise hold earlier [] = ap (accepted_by hold) (sym (append-nil earlier))
moments_rise hold earlier (batch ∷ batches) =
    rise_more (accepted_by hold earlier) (accepted_by hold (earlier ++ batch ∷ [])) (accepted_by hold (earlier ++ batch ∷ batches))
    (moments_after hold (earlier ++ batch ∷ []) batches) (batch_grows hold earlier batch)
    (subst (λ (l : List Batch). RiseTo (accepted_by hold (earlier ++ batch ∷ [])) (moments_after hold (earlier ++ batch ∷ []) batches) (accepted_by hold l))
    (append_assoc earlier (batch ∷ []) batches)
    (moments_rise hold (earlier ++ batch ∷ []) batches))

pub tell_file : MomentsTellFile
tell_file bytes moments replica end loads has =
    let history : List Op = replica.held.history in
    let same : loads.content ≡ has.content = same_content bytes loads.content has.content loads.holds (has.header, has.ends) in
    let state_is : history ≡ (held has.content.hold MOST_OPERATIONS (batch_ops has.ends.batches)).history =
    ap (λ (r : Replica). r.held.history) loads.replica_is ∙ ap (λ (c : Content). (held c.hold MOST_OPERATIONS c.ops).history) same
    ∙ ap (λ (l : List Op). (held has.content.hold MOST_OPERATIONS l).history) (ap (λ (c : Content). c.ops) has.ends.content_is) in
    let long : accepted_by has.content.hold has.ends.batches ≡ length (accepted history) = sym (ap length state_is) ∙ sym (length-reverse history) in
    let rise : RiseTo 0 moments (length (accepted history)) = subst (λ (l : List ℕ). RiseTo 0 l (length (accepted history))) (sym has.are)
    (subst (λ (n : ℕ). RiseTo 0 (moments_of has.content.hold has.ends.batches) n) long (moments_rise has.content.hold [] has.ends.batches)) in
    record { rise = rise; tell = tell_all moments (accepted history) rise }
