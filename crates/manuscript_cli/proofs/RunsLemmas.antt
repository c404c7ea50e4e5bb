-- Commands on one safe file, one after another: what each of them leaves, and so what all of them do.
use Rattle.std.proofs.Common.{◌≡◌, inl, inr, ℕ, ◌+◌, ◌-◌, List, [], ◌∷◌, ◌++◌, length, get_or, refl, ap, sym, subst, ◌∙◌, arith, append_assoc, length-append}
use Rattle.std.specs.Prelude.{◌⊎◌, All, Option, Some, None, IfSome}
use Rattle.std.proofs.lemmas.Bool.{cases_lt}
use Rattle.std.proofs.lemmas.List.{append-nil, get_or_append_left, get_or-append_right}
use Rattle.std.proofs.lemmas.List.Elements.{All-head}
use Rattle.fugue_ids.specs.declared.op.Op.{Op}
use Rattle.origin_model.specs.files.Image.{Content}
use Rattle.outer_ports.specs.disk.Disks.{DiskView}
use Rattle.outer_ports.specs.disk.Moments.{History, LeavesOnly, LeftSince, moment_number, moments}
use Rattle.outer_ports.specs.disk.States.{DiskState, IsHonest, IsCrashImage}
use Rattle.outer_ports.proofs.SharedLemmas.{last_leaves, leaves_joins, leaves_none, leaves_weaker}
use Rattle.replica_file.proofs.AppendLemmas.{same_content}
use Rattle.command_kinds.proofs.CrashLemmas.{has_one, safe_at_rest}
use Rattle.command_kinds.specs.Crashes.{IsFinished, IsSafe, NeverTorn, StaysSafe}
use Rattle.command_kinds.specs.Files.{HasOps, HasOpsOr, Header}
use Rattle.manuscript_cli.specs.Run.{Alone, Checking, Choosing, Family, Making, MeetsAs, NoCommand, Reporting, Saving, Serving, Showing, TellingMoments, family}
use Rattle.manuscript_cli.specs.Runs.{AllBrought, Brought, CommandRun, DidAll, EachFinishedIsIn, FollowEachOther, GaveAs, GaveBy, IsMeanwhile, LeadsFrom, StandsAfterRun}
use Rattle.manuscript_cli.specs.Touched.{Touched}
use Rattle.command_kinds.specs.declared.status.Status.{Status}
use Rattle.command_kinds.specs.declared.status.Status.TheVariants as status
use Rattle.command_kinds.proofs.ActLemmas.{did_all}
use Rattle.command_kinds.specs.New.{creating}

-- what was left since a moment was left then, or by a state that came since
left_since : (old new : History) (P : List ℕ → Type 0) → LeavesOnly old new P → ((image : List ℕ) → IsCrashImage old.last image → P image) → (image : List ℕ)
    → LeftSince new (moment_number old) image → P image
left_since old new P leaves first image left =
    let long : length (moments new) ≡ length leaves.recent + length (moments old) = ap length leaves.grows ∙ length-append leaves.recent (moments old) in
    let grown = ap (λ (l : List DiskState). get_or l (moment_number new - left.m) new.last) leaves.grows in
    elim (cases_lt (moment_number new - left.m) (length leaves.recent)) [
      | inl below ↦
          let is = grown ∙ get_or_append_left leaves.recent (moments old) new.last (moment_number new - left.m) below in
          leaves.each (moment_number new - left.m) new.last below image (subst (λ s. IsCrashImage s image) is left.left)
      | inr at ↦
          let none : moment_number new - left.m - length leaves.recent ≡ 0 = omega (arith, long, left.since, left.until) in
          let is = grown ∙ get_or-append_right leaves.recent (moments old) (length leaves.recent) (moment_number new - left.m) new.last refl at
          ∙ ap (λ (k : ℕ). get_or (moments old) k new.last) none in
          first image (subst (λ s. IsCrashImage s image) is left.left)
    ]

-- one of the lists that a safe file may have
abbrev pub IsOneOf : (ops more : List Op) → List Op → Type 0
IsOneOf ops more had = (had ≡ ops) ⊎ (had ≡ ops ++ more)

same_ops : (header : Header) (a b : List Op) (bytes : List ℕ) → HasOps header a bytes → HasOps header b bytes → a ≡ b
same_ops header a b bytes x y = sym x.ops_are ∙ ap (λ (c : Content). c.ops) (same_content bytes x.content y.content x.holds y.holds) ∙ y.ops_are

one_of : (header : Header) (ops more had : List Op) (bytes : List ℕ) → HasOps header had bytes → HasOpsOr header ops more bytes → IsOneOf ops more had
one_of header ops more had bytes has (inl first) = inl (same_ops header had ops bytes has first)
one_of header ops more had bytes has (inr both) = inr (same_ops header had (ops ++ more) bytes has both)

-- what a run did to a safe file that had one of these lists
record Went (header : Header) (ops more gave : List Op) (began stood : History) (Finished : Type 0) : Type 0 where
  had : List Op
  one : IsOneOf ops more had
  each : (image : List ℕ) → LeftSince stood (moment_number began) image → HasOpsOr header ops more image ⊎ HasOpsOr header had gave image
  last : IsSafe header ops more stood.last ⊎ IsSafe header had gave stood.last
  finished : Finished → IsSafe header (had ++ gave) [] stood.last ⊎ ((gave ≡ []) × IsSafe header ops more stood.last)

module _ (header : Header) (ops more gave : List Op) (h k : History) (end : Status) (safe : IsSafe header ops more h.last)
    (stays : StaysSafe header ops more gave h (Some k) end) where
  abbrev Left : List ℕ → Type 0
  Left image = HasOpsOr header ops more image ⊎ HasOpsOr header stays.had gave image

  all_left : LeavesOnly h k Left
  all_left =
      leaves_joins Left h stays.loaded k (leaves_weaker (HasOpsOr header ops more) Left (λ image has. inl has) h stays.loaded stays.loads)
      (leaves_weaker (HasOpsOr header stays.had gave) Left (λ image has. inr has) stays.loaded k stays.saves)

  honest : IsHonest k.last
  honest = stays.again.2.honest

  last_safe : IsSafe header ops more k.last ⊎ IsSafe header stays.had gave k.last
  last_safe = by_recent stays.saves.recent stays.saves.grows stays.saves.each
    where
      HasOnly : List Op → List Op → DiskState → Type 0
      HasOnly first second s = (image : List ℕ) → IsCrashImage s image → HasOpsOr header first second image

      by_recent : (recent : List DiskState) → moments k ≡ recent ++ moments stays.loaded → All (HasOnly stays.had gave) recent
          → IsSafe header ops more k.last ⊎ IsSafe header stays.had gave k.last
      by_recent [] grows each =
          let same : k.last ≡ stays.loaded.last = cc grows in
          inl (record { honest = honest; leaves = subst (HasOnly ops more) (sym same) (last_leaves (HasOpsOr header ops more) h stays.loaded stays.loads safe.leaves) })
      by_recent (s ∷ recent) grows each =
          let same : k.last ≡ s = cc grows in
          inr (record { honest = honest; leaves = subst (HasOnly stays.had gave) (sym same) (All-head (HasOnly stays.had gave) s recent each) })

  safe_went : Went header ops more gave h k (IsFinished end)
  safe_went = record {
    had = stays.had;
    one = one_of header ops more stays.had h.last.seen stays.has (safe.leaves h.last.seen safe.honest);
    each = left_since h k Left all_left (λ image is. inl (safe.leaves image is));
    last = last_safe;
    finished = λ done. inl (stays.finished done);
  }

module _ (header : Header) (ops more : List Op) (began stood : History) (safe : IsSafe header ops more began.last) (Finished : Type 0) where
  -- a file that no call touched
  still_went : stood ≡ began → Went header ops more [] began stood Finished
  still_went same = subst (λ k. Went header ops more [] began k Finished) (sym same) (record {
    had = (has_one header ops more began safe).0;
    one = one_of header ops more _ began.last.seen (has_one header ops more began safe).1 (safe.leaves began.last.seen safe.honest);
    each = λ image left. inl (left_since began began (HasOpsOr header ops more) (leaves_none (HasOpsOr header ops more) began) safe.leaves image left);
    last = inl safe;
    finished = λ done. inr (refl, safe);
  })

-- a run on a file that is specified, and safe at entry
module _ (old new : Touched) (end : Status) (began stood : History) (began_is : old.home.past ≡ Some began) (stood_is : new.home.past ≡ Some stood) (header : Header)
    (ops more : List Op)
    (safe : IsSafe header ops more began.last) where
  abbrev Goes : (List Op → Type 0) → Type 0
  Goes Gave = (gave : List Op) × Gave gave × Went header ops more gave began stood (IsFinished end)

  -- the command used it
  used : (Gave : List Op → Type 0) → NeverTorn Gave (record { old = old.home; new = new.home }) end → Goes Gave
  used Gave never =
      let stays = never header ops more began began_is safe in
      (stays.0, stays.1, safe_went header ops more stays.0 began stood end safe (subst (λ o. StaysSafe header ops more stays.0 began o end) stood_is stays.2))

  -- or did not
  unused : new.home ≡ old.home → Goes (λ gave. gave ≡ [])
  unused same =
      let stands : Some stood ≡ Some began = sym stood_is ∙ ap (λ (d : DiskView). d.past) same ∙ began_is in
      ([], refl, still_went header ops more began stood safe (IsFinished end) (cc stands))

  goes : (family : Family) → MeetsAs family old new end → Goes (GaveAs family old new end)
  goes NoCommand meets = unused (ap (λ (t : Touched). t.home) meets.others)
  goes (Showing hold) meets = unused (ap (λ (t : Touched). t.home) meets.others)
  goes (Making replica hold) meets = used (λ gave. gave ≡ []) meets.does.crash
  goes (Saving saver) meets = used _ meets.does.crash
  goes (Choosing saver) meets =
      let one = used _ meets.1.does.crash in
      (one.0, (meets.0, meets.1, one.1), one.2)
  goes (Reporting tells) meets = used (λ gave. gave ≡ []) meets.does.crash
  goes (Serving port sessions) meets = unused (ap (λ (t : Touched). t.home) meets.others)
  goes (Alone text) meets = unused (ap (λ (t : Touched). t.home) meets.others)
  goes TellingMoments meets = used (λ gave. gave ≡ []) meets.does.reports.crash
  goes Checking meets =
      elim meets.does [
        | inl k ↦ used (λ gave. gave ≡ []) k.reports.crash
        | inr (inl k) ↦ used (λ gave. gave ≡ []) k.crash
        | inr (inr k) ↦ used (λ gave. gave ≡ []) k.reports.crash
      ]

-- the file after a run is safe, and each list that it may have is one that it might have had with what the run brought
record Next (header : Header) (run : CommandRun) (ops more : List Op) (s : DiskState) : Type 0 where
  first : List Op
  second : List Op
  safe : IsSafe header first second s
  brings : (base : List Op) → IsOneOf first second base → (had : List Op) × IsOneOf ops more had × (mine : List Op) × Brought run mine × (base ≡ had ++ mine)

finished_or_not : (end : Status) → IsFinished end ⊎ (IsFinished end → ⊥)
finished_or_not status.Done = inl (inl refl)
finished_or_not status.Partial = inl (inr refl)
finished_or_not _ = inr (λ done. elim done [ inl is ↦ cc is | inr is ↦ cc is ])

module _ (header : Header) (run : CommandRun) (ops more gave : List Op) (given : GaveBy run.words run.command run.old run.new run.end gave) (s : DiskState) where
  -- nothing was saved
  next_none : IsSafe header ops more s → (DidAll run → gave ≡ []) → Next header run ops more s
  next_none safe none = record {
    first = ops;
    second = more;
    safe = safe;
    brings = λ base one. (base, one, [], brought, sym (append-nil base));
  }
    where
      Share : List Op → Type 0
      Share mine = (mine ≡ gave) ⊎ ((DidAll run → ⊥) × (mine ≡ []))

      by_end : (crash : Option (List ℕ)) → run.crash ≡ crash → IsFinished run.end ⊎ (IsFinished run.end → ⊥) → Share []
      by_end None is (inl done) = inl (sym (none (is, done)))
      by_end None is (inr not_done) = inr (λ all. not_done all.1, refl)
      by_end (Some image) is done = inr (λ all. (let crashed = sym is ∙ all.0 in cc crashed), refl)

      brought : Brought run []
      brought = record { gave = gave; given = given; all_or_none = by_end run.crash refl (finished_or_not run.end) }

  -- all or none, by a run that did not do all
  next_some : (had : List Op) → IsOneOf ops more had → (DidAll run → ⊥) → IsSafe header had gave s → Next header run ops more s
  next_some had one not_done safe = record {
    first = had;
    second = gave;
    safe = safe;
    brings = λ base which. elim which [
      | inl is ↦ (had, one, [], record { gave = gave; given = given; all_or_none = inr (not_done, refl) }, is ∙ sym (append-nil had))
      | inr is ↦ (had, one, gave, record { gave = gave; given = given; all_or_none = inl refl }, is)
    ];
  }

  -- all
  next_all : (had : List Op) → IsOneOf ops more had → IsSafe header (had ++ gave) [] s → Next header run ops more s
  next_all had one safe = record {
    first = had ++ gave;
    second = [];
    safe = safe;
    brings = λ base which. (had, one, gave, record { gave = gave; given = given; all_or_none = inl refl }, elim which [ inl is ↦ is | inr is ↦ is ∙ append-nil (had ++ gave) ]);
  }

  next : (began stood : History) → Went header ops more gave began stood (IsFinished run.end) → (crash : Option (List ℕ)) → run.crash ≡ crash → StandsAfterRun crash began stood s
      → Next header run ops more s
  next began stood went None is behind = by_end (finished_or_not run.end)
    where
      by_end : IsFinished run.end ⊎ (IsFinished run.end → ⊥) → Next header run ops more s
      by_end (inl done) = elim (went.finished done) [
        | inl safe ↦ next_all went.had went.one (subst (IsSafe header (went.had ++ gave) []) (sym behind) safe)
        | inr safe ↦ next_none (subst (IsSafe header ops more) (sym behind) safe.1) (λ all. safe.0)
      ]
      by_end (inr not_done) = elim went.last [
        | inl safe ↦ next_none (subst (IsSafe header ops more) (sym behind) safe) (λ all. absurd (not_done all.1))
        | inr safe ↦ next_some went.had went.one (λ all. not_done all.1) (subst (IsSafe header went.had gave) (sym behind) safe)
      ]
  next began stood went (Some image) is behind =
      let not_done : DidAll run → ⊥ = λ all. let crashed = sym is ∙ all.0 in cc crashed in
      elim (went.each image behind.0) [
        | inl has ↦ next_none (subst (IsSafe header ops more) (sym behind.1) (safe_at_rest header ops more image has)) (λ all. absurd (not_done all))
        | inr has ↦ next_some went.had went.one not_done (subst (IsSafe header went.had gave) (sym behind.1) (safe_at_rest header went.had gave image has))
      ]

meanwhile_safe : (header : Header) (ops more : List Op) (s t : DiskState) → IsMeanwhile s t → IsSafe header ops more s → IsSafe header ops more t
meanwhile_safe header ops more s t (inl same) safe = subst (IsSafe header ops more) (sym same) safe
meanwhile_safe header ops more s t (inr crash) safe = subst (IsSafe header ops more) (sym crash.2) (safe_at_rest header ops more crash.0 (safe.leaves crash.0 crash.1))

run_next : (header : Header) (ops more : List Op) (run : CommandRun) (s t : DiskState) → IsSafe header ops more s → LeadsFrom run s t → Next header run ops more t
run_next header ops more run s t safe leads =
    let went = goes run.old run.new run.end leads.began leads.stood leads.began_is leads.stood_is header ops more (subst (IsSafe header ops more) (sym leads.begins) safe)
    (family run.words run.command) run.meets in
    next header run ops more went.0 went.1 t leads.began leads.stood went.2 run.crash refl leads.behind

-- whatever is left of a safe file after some runs has one of its lists, and then what they brought
pub record HasAll (header : Header) (runs : List CommandRun) (ops more : List Op) (image : List ℕ) : Type 0 where
  pub base : List Op
  pub one : IsOneOf ops more base
  pub brought : List Op
  pub all : AllBrought runs brought
  pub has : HasOps header (base ++ brought) image

pub record EachHasAll (header : Header) (runs : List CommandRun) (ops more : List Op) (s : DiskState) : Type 0 where
  pub honest : IsHonest s
  pub leaves : (image : List ℕ) → IsCrashImage s image → HasAll header runs ops more image

no_more_runs : (header : Header) (ops more : List Op) (image : List ℕ) → HasOpsOr header ops more image → HasAll header [] ops more image
no_more_runs header ops more image (inl has) = record { base = ops; one = inl refl; brought = []; all = refl; has = subst (λ l. HasOps header l image) (sym (append-nil ops)) has }
no_more_runs header ops more image (inr has) =
    record { base = ops ++ more; one = inr refl; brought = []; all = refl; has = subst (λ l. HasOps header l image) (sym (append-nil (ops ++ more))) has }

one_run_more : (header : Header) (run : CommandRun) (runs : List CommandRun) (ops more : List Op) (s : DiskState) (next : Next header run ops more s) (image : List ℕ)
    → HasAll header runs next.first next.second image → HasAll header (run ∷ runs) ops more image
one_run_more header run runs ops more s next image rest =
    let brings = next.brings rest.base rest.one in
    record {
      base = brings.0;
      one = brings.1;
      brought = brings.2 ++ rest.brought;
      all = (brings.2, rest.brought, brings.3, rest.all, refl);
      has = subst (λ l. HasOps header l image) (ap (λ (l : List Op). l ++ rest.brought) brings.4 ∙ append_assoc brings.0 brings.2 rest.brought) rest.has;
    }

pub all_in : (header : Header) (runs : List CommandRun) (ops more : List Op) (s t : DiskState) → IsSafe header ops more s → FollowEachOther runs s t
    → EachHasAll header runs ops more t
all_in header [] ops more s t safe same =
    let stays = subst (IsSafe header ops more) (sym same) safe in
    record { honest = stays.honest; leaves = λ image is. no_more_runs header ops more image (stays.leaves image is) }
all_in header (run ∷ runs) ops more s t safe follow =
    let next = run_next header ops more run follow.0 follow.1 (meanwhile_safe header ops more s follow.0 follow.2 safe) follow.3 in
    let rest = all_in header runs next.first next.second follow.1 t next.safe follow.4 in
    record { honest = rest.honest; leaves = λ image is. one_run_more header run runs ops more follow.1 next image (rest.leaves image is) }

-- from a new file on, what runs brought is all
pub each_finished_is_in : EachFinishedIsIn
each_finished_is_in words replica hold old new made runs last meets made_is follow =
    let header : Header = record { replica = replica; hold = hold } in
    let created = (did_all (creating replica hold _) _ _ meets.does.performs (inl refl)).1 in
    let safe : IsSafe header [] [] made.last = subst (λ o. IfSome o (λ (k : History). IsSafe header [] [] k.last)) made_is created.safe in
    let all = all_in header runs [] [] made.last last safe follow in (
      all.honest,
      λ image is.
          let has = all.leaves image is in
          let none : has.base ≡ [] = elim has.one [ inl none ↦ none | inr none ↦ none ] in
          (has.brought, has.all, subst (λ l. HasOps header l image) (ap (λ (l : List Op). l ++ has.brought) none) has.has),
    )
