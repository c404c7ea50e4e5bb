-- What a file keeps, from one command that reads it to a later one.
use Rattle.std.proofs.Common.{List, [], ap, append-nil, arith, inl, inr, refl, subst, sym, ℕ, ◌++◌, ◌∙◌, ◌∷◌, ◌≡◌, ◌≤◌}
use Rattle.std.specs.Prelude.{IfSome, None, Some}
use Rattle.fugue_ids.specs.declared.limits.TheConstants.{MOST_OPERATIONS}
use Rattle.fugue_ids.specs.declared.op.Op.{Op}
use Rattle.outer_ports.specs.disk.Disks.{DiskView}
use Rattle.outer_ports.specs.disk.Moments.{History, past_after_step}
use Rattle.outer_ports.specs.disk.States.{DiskState, IsCrashImage, IsHonest, at_rest, durable}
use Rattle.origin_model.specs.edits.State.{State as Replica}
use Rattle.origin_model.specs.files.Image.{Content}
use Rattle.origin_model.specs.operations.Verdict.{Lawful}
use Rattle.origin_model.specs.taking.Taking.{Held, IsSettled, held, held_from, nothing_held}
use Rattle.origin_model.proofs.SharedLemmas.{held-append, nothing_settled, stays_settled}
use Rattle.replica_file.proofs.AppendLemmas.{same_content}
use Rattle.replica_file.specs.Load.{Loads}
use Rattle.replica_file.specs.declared.load_file.End.{End}
use Rattle.command_kinds.proofs.CrashLemmas.{safe_at_rest}
use Rattle.command_kinds.proofs.LawfulLemmas.{held_lawful}
use Rattle.command_kinds.specs.Files.{FileHolds, HasOps, Header, new_file_header}
use Rattle.manuscript_cli.specs.Runs.{AllBrought, CommandRun, FollowEachOther, IsMeanwhile, LeadsFrom, StandsAfterRun}
use Rattle.manuscript_cli.proofs.RunsLemmas.{EachHasAll, all_in}
use Rattle.kept_promises.specs.Keeping.{Became, FilesKeepOperations}
use Rattle.kept_promises.proofs.FewLemmas.{count, few_held}

pub files_keep_operations : FilesKeepOperations
files_keep_operations header ops image runs last has follow =
    let all : EachHasAll header runs ops [] last = all_in header runs ops [] (at_rest image) last (safe_at_rest header ops [] image (inl has)) follow in (
      all.honest,
      λ left is.
          let one = all.leaves left is in
          let base : one.base ≡ ops = elim one.one [ inl same ↦ same | inr same ↦ same ∙ append-nil ops ] in
          (one.brought, one.all, subst (λ l. HasOps header l left) (ap (λ (l : List Op). l ++ one.brought) base) one.has),
    )

-- ---- what a loaded replica is
module _ (replica : Replica) (bytes : List ℕ) (end : End) (loads : Loads MOST_OPERATIONS bytes replica end) where
  pub loaded_has : HasOps (new_file_header loads.content) loads.content.ops bytes
  loaded_has = record { content = loads.content; holds = loads.holds; header_is = refl; ops_are = refl }

  loaded_number : replica.number ≡ loads.content.replica
  loaded_number = ap (λ (r : Replica). r.number) loads.replica_is

  loaded_hold : replica.hold ≡ loads.content.hold
  loaded_hold = ap (λ (r : Replica). r.hold) loads.replica_is

  pub loaded_most : replica.most ≡ MOST_OPERATIONS
  loaded_most = ap (λ (r : Replica). r.most) loads.replica_is

  pub loaded_held : replica.held ≡ held loads.content.hold MOST_OPERATIONS loads.content.ops
  loaded_held = ap (λ (r : Replica). r.held) loads.replica_is

  pub loaded_lawful : Lawful replica.held.history
  loaded_lawful = subst (λ (s : Held). Lawful s.history) (sym loaded_held) (held_lawful loads.content.hold MOST_OPERATIONS nothing_held loads.content.ops tt)

  pub loaded_settled : IsSettled replica.held
  loaded_settled = subst IsSettled (sym loaded_held) (stays_settled loads.content.hold MOST_OPERATIONS nothing_held loads.content.ops nothing_settled)

  pub loaded_few : count replica.held ≤ replica.most
  loaded_few =
      subst (λ m. count replica.held ≤ m) (sym loaded_most)
      (subst (λ s. count s ≤ MOST_OPERATIONS) (sym loaded_held) (few_held loads.content.hold MOST_OPERATIONS nothing_held loads.content.ops (omega arith)))

-- ---- what it became
pub record Grew (was now : Replica) (brought : List Op) : Type 0 where
  pub same_number : now.number ≡ was.number
  pub lawful : Lawful was.held.history
  pub settled : IsSettled was.held
  pub taken : now.held ≡ held_from was.hold MOST_OPERATIONS was.held brought

pub became : (was now : Replica) (runs : List CommandRun) → Became was runs now → (brought : List Op) × AllBrought runs brought × Grew was now brought
became was now runs b =
    let first : Loads MOST_OPERATIONS b.image was b.began.0 = b.began.1 in
    let second : Loads MOST_OPERATIONS b.left now b.ended.0 = b.ended.1 in
    let header : Header = new_file_header first.content in
    let keeps = files_keep_operations header first.content.ops b.image runs b.last (loaded_has was b.image b.began.0 first) b.follow in
    let has = keeps.1 b.left b.may_be in
    let same : has.2.content ≡ second.content = same_content b.left has.2.content second.content has.2.holds second.holds in
    let ops : second.content.ops ≡ first.content.ops ++ has.0 = ap (λ (c : Content). c.ops) (sym same) ∙ has.2.ops_are in
    let says : new_file_header second.content ≡ header = ap new_file_header (sym same) ∙ has.2.header_is in
    let hold : second.content.hold ≡ first.content.hold = ap (λ (x : Header). x.hold) says in
    let first_held : was.held ≡ held first.content.hold MOST_OPERATIONS first.content.ops = loaded_held was b.image b.began.0 first in (
      has.0,
      has.1,
      record {
        same_number = loaded_number now b.left b.ended.0 second ∙ ap (λ (x : Header). x.replica) says ∙ sym (loaded_number was b.image b.began.0 first);
        lawful = loaded_lawful was b.image b.began.0 first;
        settled = loaded_settled was b.image b.began.0 first;
        taken =
            loaded_held now b.left b.ended.0 second
            ∙ (λ i. held (hold i) MOST_OPERATIONS (ops i))
            ∙ sym (held-append first.content.hold MOST_OPERATIONS nothing_held first.content.ops has.0)
            ∙ (λ i. held_from (sym (loaded_hold was b.image b.began.0 first) i) MOST_OPERATIONS (sym first_held i) has.0);
      },
    )

-- ---- from one run to a later one
parted : (runs more : List CommandRun) (s t : DiskState) → FollowEachOther (runs ++ more) s t → (m : DiskState) × FollowEachOther runs s m × FollowEachOther more m t
parted [] more s t follow = (s, refl, follow)
parted (run ∷ runs) more s t follow =
    let rest = parted runs more follow.1 t follow.4 in
    (rest.0, (follow.0, follow.1, follow.2, follow.3, rest.1), rest.2)

-- what a file that is specified holds, by its bytes
pub holds_reported : (disk : DiskView) (h : History) (replica : Replica) (end : End) → disk.past ≡ Some h → FileHolds disk replica end
    → Loads MOST_OPERATIONS h.last.seen replica end
holds_reported disk h replica end specified holds = subst (λ o. IfSome o (λ (k : History). Loads MOST_OPERATIONS k.last.seen replica end)) specified holds

read_meanwhile : (m found : DiskState) → IsHonest m → IsMeanwhile m found → IsCrashImage m found.seen
read_meanwhile m found honest (inl same) = subst (λ (s : DiskState). IsCrashImage m s.seen) (sym same) honest
read_meanwhile m found honest (inr crash) = subst (λ (s : DiskState). IsCrashImage m s.seen) (sym crash.2) crash.1

module _ (first later : CommandRun) (between : List CommandRun) (s t : DiskState) (follow : FollowEachOther (first ∷ between ++ later ∷ []) s t) where
  -- the first one is specified, and settled the file; the later one reads what it became
  pub read_between : first.crash ≡ None → first.new.home.past ≡ past_after_step durable first.old.home.past → (was now : Replica) (at end : End)
      → FileHolds first.old.home was at → FileHolds later.old.home now end → Became was between now
  read_between ended synced was now at end had has =
      let leads : LeadsFrom first follow.0 follow.1 = follow.3 in
      let rest = parted between (later ∷ []) follow.1 t follow.4 in
      let image : List ℕ = leads.began.last.seen in
      let stands : follow.1 ≡ leads.stood.last = subst (λ o. StandsAfterRun o leads.began leads.stood follow.1) ended leads.behind in
      let settled : Some leads.stood ≡ past_after_step durable (Some leads.began) = sym leads.stood_is ∙ synced ∙ ap (past_after_step durable) leads.began_is in
      let lies : follow.1 ≡ at_rest image = stands ∙ last_settled leads.stood leads.began settled in
      let began : Loads MOST_OPERATIONS image was at = holds_reported first.old.home leads.began was at leads.began_is had in
      let runs : FollowEachOther between (at_rest image) rest.0 = subst (λ z. FollowEachOther between z rest.0) lies rest.1 in
      let keeps = files_keep_operations (new_file_header began.content) began.content.ops image between rest.0 (loaded_has was image at began) runs in
      let last = rest.2 in
      let read : LeadsFrom later last.0 last.1 = last.3 in
      let seen : read.began.last.seen ≡ last.0.seen = ap (λ (z : DiskState). z.seen) read.begins in
      record {
        image = image;
        began = (at, began);
        last = rest.0;
        follow = runs;
        left = last.0.seen;
        may_be = read_meanwhile rest.0 last.0 keeps.0 last.2;
        ended = (end, subst (λ bytes. Loads MOST_OPERATIONS bytes now end) seen (holds_reported later.old.home read.began now end read.began_is has));
      }
    where
      last_settled : (stood began : History) → Some stood ≡ past_after_step durable (Some began) → stood.last ≡ at_rest began.last.seen
      last_settled stood began e = cc e
