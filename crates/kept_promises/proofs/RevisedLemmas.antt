-- A revision of the replica as it was, after which the rest is taken in, comes to what the whole holds.
use Rattle.std.proofs.Common.{Bool, List, [], ap, append-nil, arith, drop, false, inl, inr, length, refl, reverse, subst, sym, take, true, ℕ, ◌-◌, ◌++◌, ◌||◌, ◌∙◌, ◌∷◌, ◌≡◌, ◌≤◌}
use Rattle.std.proofs.Common.{◌⊎◌}
use Rattle.std.specs.Prelude.{All, None, Option, Some, if◌then◌else◌, not}
use Rattle.std.proofs.lemmas.Bool.{cases_Bool, false≢true, or_cases, or_left, or_right}
use Rattle.std.proofs.lemmas.List.{reverse-reverse, take-append-drop}
use Rattle.std.proofs.lemmas.List.Elements.{All-head, All-nil, All-tail, All-weaker}
use Rattle.fugue_ids.specs.Ops.{op_eq}
use Rattle.fugue_ids.specs.declared.op.Op.{Op}
use Rattle.fugue_ids.proofs.OpLemmas.{op_eq-true}
use Rattle.origin_model.specs.edits.Edits.{ReadyInTurn, history_with}
use Rattle.origin_model.specs.edits.Effect.{with_ops}
use Rattle.origin_model.specs.edits.State.{State as Replica}
use Rattle.origin_model.specs.operations.History.{accepted, has_op}
use Rattle.origin_model.specs.operations.Verdict.{Lawful}
use Rattle.origin_model.specs.order.Laws.{IsPartOf, SameOps}
use Rattle.origin_model.specs.taking.Taking.{MeetsNoLimit, Held, IsSettled, decided_on, held_from, is_decided}
use Rattle.origin_model.proofs.SharedLemmas.{has-append, has-reverse, held-append, Lawful-append, order_by_set, part_at_end, places-append, stays_settled}
use Rattle.origin_model.proofs.edits.EditIntakeLemmas.{state_of}
use Rattle.origin_model.proofs.edits.MadeLemmas.{join_at_end}
use Rattle.origin_model.proofs.edits.UndecidedLemmas.{Undecided}
use Rattle.outer_ports.specs.Sources.{SourceView}
use Rattle.outer_ports.specs.disk.Disks.{DiskView}
use Rattle.catalogue_notes.proofs.SetLemmas.{arranged_by_set}
use Rattle.draft_plan.specs.Changes.{all_made}
use Rattle.version_views.specs.Fronts.{replica_at}
use Rattle.version_views.specs.Views.{first_ops}
use Rattle.version_views.proofs.FrontMakingLemmas.{first_taken}
use Rattle.version_views.proofs.ViewLemmas.{parts}
use Rattle.command_kinds.specs.Findings.{Finding, Does, Refuses}
use Rattle.command_kinds.specs.Saving.{Outcome}
use Rattle.command_kinds.specs.Take.{all_held_ops}
use Rattle.command_kinds.specs.declared.refusal.Refusal.{Refusal}
use Rattle.command_kinds.proofs.LawfulLemmas.{held_lawful}
use Rattle.manuscript_cli.specs.Revising.{IsHandedBack, RevisionGives, Revises}
use Rattle.manuscript_cli.specs.RevisingSince.{ComesAfterAccepted, ComesInWhole, GivesSince, SinceGives, lacking_ops, moment_refusal}
use Rattle.manuscript_cli.proofs.RevisionTakenLemmas.{in_turn}
use Rattle.kept_promises.specs.Revisions.{AreAlike, ComesTo, IsRevisedThenMerged, SinceIsReviseThenMerge, after_first}
use Rattle.kept_promises.proofs.FewLemmas.{count, few_held}
use Rattle.kept_promises.proofs.ReadyLemmas.{changes_lawful}
use Rattle.kept_promises.proofs.WithinLemmas.{Leaves, all_stay, all_taken, part_short, same_verdict}
use Rattle.std.specs.Cmp.{both_ways}

-- the same operations fix the rest
pub are_alike : (a b : List Op) → Lawful a → Lawful b → SameOps a b → AreAlike a b
are_alike a b v w same = record { same_ops = same; same_text = order_by_set a b v w same; same_arrangement = arranged_by_set a b v w same }

-- a look-up in the accepted operations
either : (a b : Bool) → (a || (b || false)) ≡ (b || a)
either true true = refl
either true false = refl
either false true = refl
either false false = refl

in_accepted : (h : List Op) (x : Op) → has_op (accepted h) x ≡ has_op h x
in_accepted h x = has-reverse h x

lacked_has : (h ops : List Op) (x : Op) → has_op (lacking_ops h ops) x ≡ true → has_op ops x ≡ true
lacked_has h [] x m = m
lacked_has h (op ∷ ops) x m =
    let kept : Bool → List Op = λ b. if not b then op ∷ lacking_ops h ops else lacking_ops h ops in
    elim (cases_Bool (has_op h op)) [
      | inl e ↦ or_right (op_eq op x) (has_op ops x) (lacked_has h ops x (subst (λ l. has_op l x ≡ true) (ap kept e) m))
      | inr e ↦ elim (or_cases (op_eq op x) (has_op (lacking_ops h ops) x) (subst (λ l. has_op l x ≡ true) (ap kept e) m)) [
        | inl q ↦ or_left (op_eq op x) (has_op ops x) q
        | inr j ↦ or_right (op_eq op x) (has_op ops x) (lacked_has h ops x j)
      ]
    ]

all_has : (h ops : List Op) → All (λ op. has_op h op ≡ true) ops → (x : Op) → has_op ops x ≡ true → has_op h x ≡ true
all_has h [] all x m = absurd (false≢true m)
all_has h (op ∷ ops) all x m =
    elim (or_cases (op_eq op x) (has_op ops x) m) [
      | inl q ↦ subst (λ y. has_op h y ≡ true) (op_eq-true op x q) (All-head (λ o. has_op h o ≡ true) op ops all)
      | inr j ↦ all_has h ops (All-tail (λ o. has_op h o ≡ true) op ops all) x j
    ]

-- the operations after the first n join these
after_joins : (n : ℕ) (h : List Op) → history_with (first_ops n h) (drop n (accepted h)) ≡ h
after_joins n h =
    let xs : List Op = accepted h in
    let first : accepted (first_ops n h) ≡ take n xs = ap reverse (sym (first_taken n h)) ∙ reverse-reverse (take n xs) in
    let whole : accepted (history_with (first_ops n h) (drop n xs)) ≡ xs = join_at_end (first_ops n h) (drop n xs) ∙ ap (λ l. l ++ drop n xs) first ∙ take-append-drop n xs in
    sym (reverse-reverse (history_with (first_ops n h) (drop n xs))) ∙ ap reverse whole ∙ reverse-reverse h

all_join : (h : List Op) → history_with [] (accepted h) ≡ h
all_join h = sym (reverse-reverse (history_with [] (accepted h))) ∙ ap reverse (join_at_end [] (accepted h)) ∙ reverse-reverse h

-- what a revision of the replica as it was came to
pub record Reached (past : Replica) (revised : Outcome) : Type 0 where
  pub last : List Op
  pub held_is : revised.held ≡ state_of last []
  pub lawful : Lawful last
  pub joined : accepted last ≡ accepted past.held.history ++ revised.saved

came_back : (past : Replica) (draft : List ℕ) (revised : Outcome) → past.held.waiting ≡ [] → Lawful past.held.history → IsHandedBack past draft revised → Reached past revised
came_back past draft revised quiet w back = record {
  last = past.held.history;
  held_is = ap (λ (o : Outcome). o.held) back.outcome_is ∙ ap (state_of past.held.history) quiet;
  lawful = w;
  joined = sym (append-nil (accepted past.held.history)) ∙ ap (λ (o : Outcome). accepted past.held.history ++ o.saved) (sym back.outcome_is);
}

came_revised : (past : Replica) (draft : List ℕ) (revised : Outcome) → past.held.waiting ≡ [] → Lawful past.held.history → Revises past draft revised → Reached past revised
came_revised past draft revised quiet w revises =
    let makes = revises.revised.makes in
    let is : revises.last ≡ with_ops past (all_made past makes.changes) = makes.changed.gained.others in
    let history : revises.last.held.history ≡ history_with past.held.history (all_made past makes.changes) = ap (λ (s : Replica). s.held.history) is in
    record {
      last = revises.last.held.history;
      held_is =
          ap (λ (o : Outcome). o.held) revises.outcome_is
          ∙ ap (state_of revises.last.held.history) (ap (λ (s : Replica). s.held.waiting) is ∙ quiet);
      lawful = subst Lawful (sym history) (changes_lawful past makes.changes w makes.changed.allowed);
      joined = revises.made_are ∙ ap (λ (o : Outcome). accepted past.held.history ++ o.saved) (sym revises.outcome_is);
    }

module _ (n : ℕ) (was : Replica) (revised : Outcome) (w : Lawful was.held.history) (settled : IsSettled was.held) (few : count was.held ≤ was.most)
    (came : Reached (replica_at n was) revised) (whole : Held) (whole_is : whole ≡ held_from was.hold was.most was.held revised.saved)
    (behind : ComesAfterAccepted was.held revised.saved whole) where
  abbrev h : List Op
  h = was.held.history

  abbrev first : List Op
  first = first_ops n h

  lawful : Lawful whole.history
  lawful = subst (λ (s : Held). Lawful s.history) (sym whole_is) (held_lawful was.hold was.most was.held revised.saved w)

  fits : count whole ≤ was.most
  fits = subst (λ s. count s ≤ was.most) (sym whole_is) (few_held was.hold was.most was.held revised.saved few)

  -- ---- who has what
  whole_has : (x : Op) → has_op whole.history x ≡ (has_op h x || has_op (lacking_ops h revised.saved) x)
  whole_has x =
      sym (in_accepted whole.history x) ∙ ap (λ l. has_op l x) behind.behind
      ∙ has-append (accepted h) (lacking_ops h revised.saved) x ∙ ap (λ b. b || has_op (lacking_ops h revised.saved) x) (in_accepted h x)

  last_has : (x : Op) → has_op came.last x ≡ (has_op first x || has_op revised.saved x)
  last_has x =
      sym (in_accepted came.last x) ∙ ap (λ l. has_op l x) came.joined
      ∙ has-append (accepted first) revised.saved x ∙ ap (λ b. b || has_op revised.saved x) (in_accepted first x)

  first_part : IsPartOf first h
  first_part = subst (IsPartOf first) (parts n h) (part_at_end (take (length h - n) h) first)

  old_part : IsPartOf h whole.history
  old_part x m = whole_has x ∙ or_left (has_op h x) (has_op (lacking_ops h revised.saved) x) m

  last_part : IsPartOf came.last whole.history
  last_part x m =
      elim (or_cases (has_op first x) (has_op revised.saved x) (sym (last_has x) ∙ m)) [
        | inl j ↦ old_part x (first_part x j)
        | inr j ↦ all_has whole.history revised.saved behind.each x j
      ]

  -- what is in the old history or in the revision is all
  same_whole : (ops : List Op) → ((x : Op) → has_op ops x ≡ true → has_op h x ≡ true) → ((x : Op) → has_op h x ≡ true → (has_op first x ≡ true) ⊎ (has_op ops x ≡ true))
      → (x : Op) → (has_op came.last x || has_op ops x) ≡ has_op whole.history x
  same_whole ops within all x = both_ways (has_op came.last x || has_op ops x) (has_op whole.history x) to from
    where
      to : (has_op came.last x || has_op ops x) ≡ true → has_op whole.history x ≡ true
      to m = elim (or_cases (has_op came.last x) (has_op ops x) m) [ inl j ↦ last_part x j | inr j ↦ old_part x (within x j) ]

      from : has_op whole.history x ≡ true → (has_op came.last x || has_op ops x) ≡ true
      from m =
          elim (or_cases (has_op h x) (has_op (lacking_ops h revised.saved) x) (sym (whole_has x) ∙ m)) [
            | inl j ↦ elim (all x j) [
              | inl f ↦ or_left (has_op came.last x) (has_op ops x) (last_has x ∙ or_left (has_op first x) (has_op revised.saved x) f)
              | inr o ↦ or_right (has_op came.last x) (has_op ops x) o
            ]
            | inr j ↦ or_left (has_op came.last x) (has_op ops x) (last_has x ∙ or_right (has_op first x) (has_op revised.saved x) (lacked_has h revised.saved x j))
          ]

  short : length whole.history ≤ was.most
  short = omega (arith, fits)

  -- ---- the rest alone
  abbrev rest : List Op
  rest = after_first n was.held

  rest_within : (x : Op) → has_op rest x ≡ true → has_op h x ≡ true
  rest_within x m =
      sym (in_accepted h x) ∙ ap (λ l. has_op l x) (sym (take-append-drop n (accepted h)))
      ∙ has-append (take n (accepted h)) rest x ∙ or_right (has_op (take n (accepted h)) x) (has_op rest x) m

  rest_all : (x : Op) → has_op h x ≡ true → (has_op first x ≡ true) ⊎ (has_op rest x ≡ true)
  rest_all x m =
      let all : (has_op (take n (accepted h)) x || has_op rest x) ≡ true =
      sym (has-append (take n (accepted h)) rest x) ∙ ap (λ l. has_op l x) (take-append-drop n (accepted h)) ∙ in_accepted h x ∙ m in
      elim (or_cases (has_op (take n (accepted h)) x) (has_op rest x) all) [
        | inl j ↦ inl (ap (λ l. has_op l x) (sym (first_taken n h)) ∙ has-reverse (take n (accepted h)) x ∙ j)
        | inr j ↦ inr j
      ]

  pub rest_comes : ComesTo was revised.held rest whole.history
  rest_comes =
      let turn : ReadyInTurn first rest = in_turn rest first (subst Lawful (sym (after_joins n h)) w) in
      let first_in : IsPartOf first came.last = λ x m. last_has x ∙ or_left (has_op first x) (has_op revised.saved x) m in
      let t = all_taken was.hold was.most whole.history lawful short rest first came.last came.lawful last_part first_in turn (λ x m. old_part x (rest_within x m)) in
      record {
        place = subst (λ s. MeetsNoLimit was.hold was.most s rest) (sym came.held_is) t.place;
        alike = subst (λ s. AreAlike (held_from was.hold was.most s rest).history whole.history) (sym came.held_is)
            (subst (λ (s : Held). AreAlike s.history whole.history) (sym t.state)
            (are_alike t.last whole.history t.lawful lawful (λ x. t.same x ∙ same_whole rest rest_within rest_all x)));
      }

  -- ---- all that the file holds
  pub merged_comes : ComesTo was revised.held (all_held_ops was.held) whole.history
  merged_comes =
      let ops : List Op = accepted h in
      let waiting : List Op = was.held.waiting in
      let turn : ReadyInTurn [] ops = in_turn ops [] (subst Lawful (sym (all_join h)) w) in
      let within : (x : Op) → has_op ops x ≡ true → has_op h x ≡ true = λ x m. sym (in_accepted h x) ∙ m in
      let t = all_taken was.hold was.most whole.history lawful short ops [] came.last came.lawful last_part (λ x m. absurd (false≢true m)) turn (λ x m. old_part x (within x m)) in
      let same : SameOps t.last whole.history = λ x. t.same x ∙ same_whole ops within (λ x m. inr (in_accepted h x ∙ m)) x in
      let whole_settled : IsSettled whole = subst IsSettled (sym whole_is) (stays_settled was.hold was.most was.held revised.saved settled) in
      let undecided : Undecided t.last waiting =
      All-weaker (λ op. decided_on whole.history op ≡ false) (λ op. decided_on t.last op ≡ false)
      (λ op e. ap is_decided (same_verdict t.last whole.history t.lawful lawful same op) ∙ e) waiting
      (subst (Undecided whole.history) behind.waiting whole_settled) in
      let small : length t.last ≤ length whole.history = part_short t.last whole.history t.lawful (λ x m. sym (same x) ∙ m) in
      let long : length whole.waiting ≡ length waiting = ap length behind.waiting in
      let leaves : Leaves was.hold was.most t.last [] waiting =
      all_stay was.hold was.most t.last waiting [] (All-nil (λ op. decided_on t.last op ≡ false)) undecided (omega (arith, small, fits, long)) in
      let together : held_from was.hold was.most (state_of came.last []) (ops ++ waiting) ≡ held_from was.hold was.most (state_of t.last []) waiting =
      sym (held-append was.hold was.most (state_of came.last []) ops waiting) ∙ ap (λ s. held_from was.hold was.most s waiting) t.state in
      record {
        place = subst (λ s. MeetsNoLimit was.hold was.most s (all_held_ops was.held)) (sym came.held_is)
            (places-append was.hold was.most (state_of came.last []) ops waiting t.place (subst (λ s. MeetsNoLimit was.hold was.most s waiting) (sym t.state) leaves.place));
        alike = subst (λ s. AreAlike (held_from was.hold was.most s (all_held_ops was.held)).history whole.history) (sym came.held_is)
            (subst (λ (s : Held). AreAlike s.history whole.history) (sym together)
            (subst (λ l. AreAlike l whole.history) (sym leaves.same) (are_alike t.last whole.history t.lawful lawful same)));
      }

-- ---- what a draft with a number gives
pub since_is : (n : ℕ) (guest : DiskView) (input : SourceView) (finding : Finding Outcome) (was : Replica) (whole : Outcome)
    → Lawful was.held.history → IsSettled was.held → count was.held ≤ was.most → SinceGives n guest input finding was (Does whole)
    → IsRevisedThenMerged n guest input finding was whole.held
since_is n guest input finding was whole w settled few gives = by_moment (moment_refusal n was) gives
  where
    past : Replica
    past = replica_at n was

    past_lawful : Lawful (first_ops n was.held.history)
    past_lawful = Lawful-append (take (length was.held.history - n) was.held.history) (first_ops n was.held.history) (subst Lawful (sym (parts n was.held.history)) w)

    came_by : (draft : List ℕ) (revised : Outcome) → IsHandedBack (replica_at n was) draft revised ⊎ Revises (replica_at n was) draft revised → Reached (replica_at n was) revised
    came_by draft revised (inl back) = came_back (replica_at n was) draft revised refl past_lawful back
    came_by draft revised (inr revises) = came_revised (replica_at n was) draft revised refl past_lawful revises

    by_given : (given : Finding Outcome) → RevisionGives guest input finding (replica_at n was) given → ComesInWhole was given (Does whole)
        → IsRevisedThenMerged n guest input finding was whole.held
    by_given (Refuses why) gives comes = no_outcome comes
      where
        no_outcome : {why : Refusal} → Does whole ≡ Refuses why → IsRevisedThenMerged n guest input finding was whole.held
        no_outcome e = cc e
    by_given (Does revised) gives comes =
        let came : Reached (replica_at n was) revised = came_by gives.2 revised gives.4.2 in
        let is : whole.held ≡ held_from was.hold was.most was.held revised.saved = ap (λ (o : Outcome). o.held) comes.1 in
        record {
          revised = revised;
          gives = gives;
          rest = rest_comes n was revised w settled few came whole.held is comes.2;
          merged = merged_comes n was revised w settled few came whole.held is comes.2;
        }

    by_moment : (m : Option Refusal) → GivesSince m n guest input finding was (Does whole) → IsRevisedThenMerged n guest input finding was whole.held
    by_moment (Some why) e = cc e
    by_moment None g = by_given g.0 g.1 g.2

pub since_is_revise_then_merge : SinceIsReviseThenMerge
since_is_revise_then_merge n guest input finding was whole ready gives = since_is n guest input finding was whole ready.sound.lawful ready.settled ready.sound.few gives
