-- What `view` prints stays.
use Rattle.std.proofs.Common.{List, ap, inl, refl, subst, sym, ℕ, ◌∙◌, ◌≡◌}
use Rattle.std.specs.Prelude.{All, IsSome, None, Option, Some}
use Rattle.std.specs.Io.KnownBytes.{append_known}
use Rattle.std.proofs.lemmas.List.{append_cancel_left}
use Rattle.std.proofs.lemmas.List.Elements.{All-weaker}
use Rattle.fugue_ids.specs.Outs.{OutIsSpecified, OutView, Took}
use Rattle.fugue_ids.specs.declared.limits.TheConstants.{MOST_OPERATIONS}
use Rattle.origin_model.specs.edits.State.{State as Replica}
use Rattle.outer_ports.specs.disk.Moments.{past_after_step}
use Rattle.outer_ports.specs.disk.States.{durable}
use Rattle.replica_file.specs.declared.load_file.End.{End}
use Rattle.version_views.specs.Laws.{view_named}
use Rattle.version_views.specs.Versions.{version_with}
use Rattle.version_views.specs.Views.{view}
use Rattle.command_kinds.specs.Changes.{change}
use Rattle.command_kinds.specs.Files.{FileHolds}
use Rattle.command_kinds.specs.Findings.{Does}
use Rattle.command_kinds.proofs.ActLemmas.{did_all}
use Rattle.command_kinds.specs.Report.{Reports, ReportText, reporting}
use Rattle.manuscript_cli.specs.NamedVersions.{view_reports, version_text}
use Rattle.manuscript_cli.specs.Run.{MeetsAs, Reporting, family}
use Rattle.manuscript_cli.specs.Runs.{CommandRun}
use Rattle.kept_promises.specs.Keeping.{PrintedBytes}
use Rattle.kept_promises.specs.Views.{IsViewRun, LeavesName, ViewsPrintTheSame, ViewsStay, written_for}
use Rattle.kept_promises.proofs.KeepingLemmas.{became, read_between}
use Rattle.kept_promises.proofs.NamedLemmas.{Leaves, written_stays}

pub views_stay : ViewsStay
views_stay was now runs b =
    let grew = became was now runs b in (
      grew.0,
      grew.1,
      λ name leaves.
          let g = grew.2 in
          let each : All (Leaves was.held.history was.number name) grew.0 =
          All-weaker (LeavesName was name) (Leaves was.held.history was.number name) (λ op is. (is.gives_not, is.withdraws_not)) grew.0 leaves in
          (λ i. view_named ((g.taken i).history) (g.same_number i) name)
          ∙ written_stays was.held.history was.number name was.hold MOST_OPERATIONS was.held.waiting grew.0 g.lawful g.settled each,
    )

-- ---- what a run printed
-- what was reported of its file
pub record Reported (tells : ReportText) (run : CommandRun) (text : List ℕ) : Type 0 where
  pub replica : Replica
  pub end : End
  pub holds : FileHolds run.old.home replica end
  pub gives : tells replica (Does text)
  pub synced : run.new.home.past ≡ past_after_step durable run.old.home.past

same_written : (old : Option (List ℕ)) (a b : List ℕ) → IsSome old → append_known old a ≡ append_known old b → a ≡ b
same_written None a b specified e = cc specified
same_written (Some written) a b specified e = append_cancel_left written a b (cc e)

took_once : (old new : OutView) (a b : List ℕ) → OutIsSpecified old → Took old new a → Took old new b → a ≡ b
took_once old new a b specified one two = same_written old.written a b specified (sym one.written ∙ two.written)

pub reported : (tells : ReportText) (run : CommandRun) (text : List ℕ) → family run.words run.command ≡ Reporting tells → PrintedBytes run text → Reported tells run text
reported tells run text of printed =
    let meets = subst (λ f. MeetsAs f run.old run.new run.end) of run.meets in
    let reports : Reports tells (change run.old.home run.new.home) (change run.old.streams.output run.new.streams.output)
    (change run.old.streams.notes run.new.streams.notes) run.end = meets.does in
    let did = did_all (reporting tells (change run.old.home run.new.home) (change run.old.streams.output run.new.streams.output)) _ _ reports.performs (inl printed.done) in
    let wrote = did.1 in
    let same : did.0 ≡ text = took_once run.old.streams.output run.new.streams.output did.0 text printed.specified wrote.came printed.took in
    let found = wrote.found in
    record { replica = found.0; end = found.1; holds = found.2; gives = subst (λ bytes. tells found.0 (Does bytes)) same found.3; synced = wrote.synced }

is_written : (name : List ℕ) (replica : Replica) (text : List ℕ) → view_reports name replica (Does text) → written_for name replica ≡ Some text
is_written name replica text gives = by (version_with replica.held.history replica.number name) refl
  where
    by : (o : Option ℕ) → version_with replica.held.history replica.number name ≡ o → written_for name replica ≡ Some text
    by None e = cc (gives ∙ ap (version_text name replica) e)
    by (Some n) e =
        let is : Does text ≡ Does (view replica.held.history n) = gives ∙ ap (version_text name replica) e in
        let same : text ≡ view replica.held.history n = cc is in
        ap (λ (o : Option ℕ). elim o [ None ↦ None | Some m ↦ Some (view replica.held.history m) ]) e ∙ ap Some (sym same)

view_family : (run : CommandRun) (name : List ℕ) → IsViewRun run name → family run.words run.command ≡ Reporting (view_reports name)
view_family run name is = ap (family run.words) is.command ∙ ap (λ n. Reporting (view_reports n)) is.named

pub views_print_the_same : ViewsPrintTheSame
views_print_the_same first later between s t name one other follow of printed later_of later_printed =
    let a = reported (view_reports name) first one (view_family first name of) printed in
    let b = reported (view_reports name) later other (view_family later name later_of) later_printed in
    let stays = views_stay a.replica b.replica between (read_between first later between s t follow printed.no_crash a.synced a.replica b.replica a.end b.end a.holds b.holds) in (
      a.replica,
      a.end,
      a.holds,
      stays.0,
      stays.1,
      λ leaves.
          let same : Some other ≡ Some one = sym (is_written name b.replica other b.gives) ∙ stays.2 name leaves ∙ is_written name a.replica one a.gives in
          cc same,
    )
