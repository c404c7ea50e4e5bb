-- What `why` printed passes `check`.
use Rattle.std.proofs.Common.{List, [], ap, append-nil, inl, inr, subst, sym, true, ℕ, ◌-◌, ◌++◌, ◌∙◌, ◌∷◌, ◌≡◌}
use Rattle.std.specs.Prelude.{IfSome, None, Ok, Option, Some, codes}
use Rattle.std.specs.Io.KnownBytes.{prepend_known}
use Rattle.std.proofs.lemmas.Bool.{false≢true, or_right}
use Rattle.fugue_ids.specs.Identifiers.{Identifier}
use Rattle.fugue_ids.specs.Outs.{OutView, Took}
use Rattle.fugue_ids.specs.Ops.{id_of}
use Rattle.fugue_ids.specs.declared.limits.TheConstants.{MOST_OPERATIONS}
use Rattle.fugue_ids.specs.declared.op.Op.{Op}
use Rattle.origin_model.specs.edits.State.{State as Replica}
use Rattle.origin_model.specs.frames.Frames.{IsIdentifier}
use Rattle.origin_model.specs.operations.History.{has_op}
use Rattle.origin_model.specs.order.Laws.{IsPartOf}
use Rattle.origin_model.specs.taking.Taking.{Held, nothing_held}
use Rattle.origin_model.proofs.SharedLemmas.{has-append}
use Rattle.order_proof.specs.Readings.{IsValidText}
use Rattle.order_proof.proofs.StayLemmas.{certificates_of_parts}
use Rattle.replica_file.specs.Load.{Loads}
use Rattle.replica_file.specs.declared.load_file.End.{End}
use Rattle.version_views.proofs.FrontMakingLemmas.{intakes_grow}
use Rattle.command_kinds.specs.Changes.{Change, change}
use Rattle.command_kinds.specs.Crashes.{IsFinished}
use Rattle.command_kinds.specs.Files.{FileHolds}
use Rattle.command_kinds.proofs.ActLemmas.{did_all, refusal_unfinished}
use Rattle.command_kinds.specs.Acts.{NotesLine, Performs}
use Rattle.command_kinds.specs.Report.{reporting}
use Rattle.command_kinds.specs.TextOut.{ReportGoesOut, WritesReport, writing_found}
use Rattle.command_kinds.specs.declared.status.Status.{Status}
use Rattle.command_kinds.specs.declared.status.Status.TheVariants as status
use Rattle.outer_ports.specs.Sources.{SourceView}
use Rattle.outer_ports.specs.disk.Disks.{DiskView}
use Rattle.manuscript_cli.specs.Check.{ChecksText, IsTextRead, check_reports, nothing_said}
use Rattle.manuscript_cli.specs.Run.{Checking, MeetsAs, family}
use Rattle.manuscript_cli.specs.Why.{why_reports}
use Rattle.kept_promises.specs.Certificates.{CertificatesPass, FileCertificatesStay, WhyPassesCheck}
use Rattle.kept_promises.specs.Keeping.{IsFileOf}
use Rattle.kept_promises.proofs.CameLemmas.{Came, came}
use Rattle.kept_promises.proofs.FrameIdLemmas.{HasPossibleId, file_has}
use Rattle.kept_promises.proofs.KeepingLemmas.{became, loaded_held, loaded_lawful, read_between}
use Rattle.kept_promises.proofs.PossibleLemmas.{text_valid}
use Rattle.kept_promises.proofs.ViewLemmas.{Reported, reported}

-- ---- the identifiers of a file's operations are such as there are
possible_in : (replica : Replica) (bytes : List ℕ) → IsFileOf replica bytes → (op : Op) → has_op replica.held.history op ≡ true → (i : Identifier) → id_of op ≡ Some i
    → IsIdentifier i
possible_in replica bytes of op m =
    let loads : Loads MOST_OPERATIONS bytes replica of.0 = of.1 in
    let begun : Came HasPossibleId [] nothing_held = record { lawful = tt; part = λ x k. k; each = λ x k. inl k; waiting = λ x k. absurd (false≢true k) } in
    let c = came HasPossibleId [] loads.content.hold MOST_OPERATIONS nothing_held loads.content.ops begun (file_has bytes loads.content loads.holds) in
    elim (c.each op (subst (λ (s : Held). has_op s.history op ≡ true) (loaded_held replica bytes of.0 loads) m)) [
      | inl none ↦ absurd (false≢true none)
      | inr has ↦ has
    ]

pub certificates_pass : CertificatesPass
certificates_pass mine other first second of other_of part x y text is =
    let v = loaded_lawful mine first of.0 of.1 in
    let w = loaded_lawful other second other_of.0 other_of.1 in
    let valid = certificates_of_parts mine.held.history other.held.history v w part is.proof is.valid in
    subst (IsValidText other.held.history) (sym is.text_is) (text_valid other.held.history w (possible_in other second other_of) is.proof valid)

pub certificates_stay : FileCertificatesStay
certificates_stay was now runs b x y text is =
    let grew = became was now runs b in
    let g = intakes_grow was.hold MOST_OPERATIONS was.held grew.0 in
    let whole = ap (λ (s : Held). s.history) grew.2.taken ∙ g.grown in
    let part : IsPartOf was.held.history now.held.history = λ op m.
    ap (λ h. has_op h op) whole ∙ has-append g.newer was.held.history op ∙ or_right (has_op g.newer op) (has_op was.held.history op) m in
    certificates_pass was now b.image b.left b.began b.ended part x y text is

-- ---- a command that did all
wrote_yes : (replica : Replica) (text : List ℕ) (output notes : Change OutView) (end : Status) → IsValidText replica.held.history text → IsFinished end
    → WritesReport (check_reports text replica) output notes end → Took output.old output.new (codes "yes" ++ 10 ∷ [])
wrote_yes replica text output notes end valid done wrote = all (did_all (writing_found (check_reports text replica) output) notes end wrote done)
  where
    all : (d : Unit {0}) × ReportGoesOut (check_reports text replica) output (Ok d) × NotesLine None status.Done notes end → Took output.old output.new (codes "yes" ++ 10 ∷ [])
    all (d, inl out, noted) = subst (Took output.old output.new) (elim out.1 [ inl is ↦ is.1 | inr is ↦ absurd (is.0 valid) ]) out.2.comes
    all (d, inr none, noted) = cc none.1

nothing_reported : (file : Change DiskView) (output notes : Change OutView) (end : Status) → IsFinished end
    → Performs (reporting nothing_said file output) notes end → ⊥
nothing_reported file output notes end done performs = (did_all (reporting nothing_said file output) notes end performs done).1.found.3

-- the text that was read is what the input had
read_whole : (input : Change SourceView) (text read : List ℕ) → input.old.left ≡ Some text → IsTextRead input read → read ≡ text
read_whole input text read is r = by input.new.left r.ended (sym is ∙ r.split)
  where
    by : (o : Option (List ℕ)) → IfSome o (λ left. left ≡ []) → Some text ≡ prepend_known read o → read ≡ text
    by None none e = cc e
    by (Some left) none e =
        let all : text ≡ read ++ left = cc e in
        sym (append-nil read) ∙ ap (λ l. read ++ l) (sym none) ∙ sym all

-- ---- from `why` to `check`
pub why_passes_check : WhyPassesCheck
why_passes_check why check between s t k p q text follow of printed check_of given done = by meets.does
  where
    a : Reported (why_reports (k - 1) p q) why text
    a = reported (why_reports (k - 1) p q) why text (ap (family why.words) of) printed

    meets : MeetsAs Checking check.old check.new check.end
    meets = subst (λ f. MeetsAs f check.old check.new check.end) (ap (family check.words) check_of) check.meets

    valid : (now : Replica) (end : End) → FileHolds check.old.home now end → IsValidText now.held.history text
    valid now end holds =
        certificates_stay a.replica now between
        (read_between why check between s t follow printed.no_crash a.synced a.replica now a.end end a.holds holds) a.gives.0 a.gives.1 text
        a.gives.3

    by : ChecksText (change check.old.streams.input check.new.streams.input) (change check.old.home check.new.home) (change check.old.streams.output check.new.streams.output)
        (change check.old.streams.notes check.new.streams.notes) check.end → Took check.old.streams.output check.new.streams.output (codes "yes" ++ 10 ∷ [])
    by (inl checked) =
        let l = checked.loaded in
        let same : checked.text ≡ text = read_whole (change check.old.streams.input check.new.streams.input) text checked.text given checked.read in
        wrote_yes l.0 text (change check.old.streams.output check.new.streams.output) (change check.old.streams.notes check.new.streams.notes) check.end (valid l.0 l.1 l.2) done.1
        (subst (λ z. WritesReport (check_reports z l.0) (change check.old.streams.output check.new.streams.output)
        (change check.old.streams.notes check.new.streams.notes) check.end) same l.3)
    by (inr (inl unread)) = absurd (refusal_unfinished unread.none.why (subst IsFinished unread.none.end_is done.1))
    by (inr (inr unloaded)) =
        absurd (nothing_reported (change check.old.home check.new.home) (change check.old.streams.output check.new.streams.output)
        (change check.old.streams.notes check.new.streams.notes) check.end done.1 unloaded.reports.performs)
