-- Who hears a relay's log from the start, after all have sent, accepts the closure of the union of what all of them kept.
use Rattle.std.proofs.Common.{List, [], ap, append-nil, arith, false, inl, inr, length, nat_eq, refl, subst, sym, true, ℕ, ◌++◌, ◌∙◌, ◌∷◌, ◌≡◌, ◌≢◌, ◌≤◌}
use Rattle.std.specs.Prelude.{All, map, reverse}
use Rattle.std.specs.List.{filter}
use Rattle.std.specs.Cmp.Lexicographic.{pointwise}
use Rattle.std.proofs.lemmas.Bool.{false≢true, or_cases, or_left, or_right}
use Rattle.std.proofs.lemmas.Bool.Decides.{Decides-eqb}
use Rattle.std.proofs.lemmas.List.{reverse-append}
use Rattle.std.proofs.lemmas.List.Elements.{All-append, All-cons, All-filter, All-head, All-nil, All-tail, All-weaker}
use Rattle.std.proofs.lemmas.Slice.Eq.{slice_eq-Decides}
use Rattle.fugue_ids.specs.Ops.{op_eq}
use Rattle.fugue_ids.specs.declared.op.Op.{Op}
use Rattle.fugue_ids.proofs.ListLemmas.{all_from_map, all_weaker_at, contains_filter_from}
use Rattle.fugue_ids.proofs.OpLemmas.{op_eq-refl, op_eq-true}
use Rattle.origin_model.specs.declared.grammar.Grammar.TheVariants.{Version2}
use Rattle.origin_model.specs.declared.taking.Tally.{Tally}
use Rattle.origin_model.specs.frames.Frames.{Framed, HasFrame, Single, frame}
use Rattle.origin_model.specs.operations.History.{accepted, has_op}
use Rattle.origin_model.specs.operations.Verdict.{Lawful}
use Rattle.origin_model.specs.order.Laws.{IsPartOf, OrderBySet, SameOps}
use Rattle.origin_model.specs.relay.Relay.{IsRelayState, Relay}
use Rattle.origin_model.specs.relay.Session.{is_logged, reply_from}
use Rattle.origin_model.specs.taking.Closure.{ClosureBySet, ClosureOfUnion, Consistent, Taker, WithinLimits, given_by, given_by_all, kept_by, kept_by_all, taker_state}
use Rattle.origin_model.specs.taking.Taking.{Accepted, Again, Answer, Conflict, Full, Held, Stray, TooMany, Waits, answer, answer_counted, answers_from, closure, held, held_from}
use Rattle.origin_model.specs.taking.Taking.{intake, intake_counted, no_counts, nothing_held, tally_from}
use Rattle.origin_model.proofs.SharedLemmas.{consistent_part, Covers, fold_covers, has-append, kept_suffice, nothing_covers, nothing_settled, part_at_end, part_in_front}
use Rattle.origin_model.proofs.SharedLemmas.{parts_join}
use Rattle.op_frame.proofs.ReadingLemmas.{common_prefix}
use Rattle.relay_core.specs.OpLogs.{IsLogOf}
use Rattle.relay_core.proofs.OpLogLemmas.{logs_are_of_operations}
use Rattle.replica_core.specs.Keeping.{TakesIn}
use Rattle.relay_sync.specs.Exchanges.{AllAreSent, HearersConverge, HearersHaveTheClosure, HearsLog, IsHonestRequest, IsSentTo, LogsAreWhatWasSent, Sending, beginners, is_whole}
use Rattle.relay_sync.specs.Exchanges.{senders}
use Rattle.relay_sync.specs.Outcomes.{Ended, ReadsReply}
use Rattle.relay_sync.proofs.OutcomeLemmas.{reads_once}
use Rattle.relay_sync.proofs.SentLemmas.{IsGathered, IsLogged, IsOfSent, IsTaken, gathered}
use Rattle.relay_sync.proofs.TwoEndsLemmas.{reply_reads}
use Rattle.std.specs.Cmp.{both_ways}

-- what is so of each operation of a list is so of one that the list has
of_each : (P : Op → Type 0) (ops : List Op) (x : Op) → All P ops → has_op ops x ≡ true → P x
of_each P [] x all m = absurd (false≢true m)
of_each P (op ∷ ops) x all m = elim (or_cases (op_eq op x) (has_op ops x) m) [
  | inl e ↦ subst P (op_eq-true op x e) (All-head P op ops all)
  | inr j ↦ of_each P ops x (All-tail P op ops all) j
]

-- operations with one frame are the same
same_op : (a b : Op) → HasFrame a → HasFrame b → frame a ≡ frame b → a ≡ b
same_op a b p q e =
    let own : Op → Framed = λ op. record { bytes = frame op; ops = op ∷ [] } in
    let one = common_prefix Version2 (own a) (own b) [] [] (record { item = Single a; is_item = p; bytes_are = refl; ops_are = refl })
    (record { item = Single b; is_item = q; bytes_are = refl; ops_are = refl })
    (ap (λ (l : List ℕ). l ++ []) e) in
    let ops : a ∷ [] ≡ b ∷ [] = one.ops in
    cc ops

-- an operation whose frame is logged is one of the log's
logged_has : (ops : List Op) (x : Op) → HasFrame x → All HasFrame ops → is_logged (map frame ops) (frame x) ≡ true → has_op ops x ≡ true
logged_has [] x has have m = absurd (false≢true m)
logged_has (op ∷ ops) x has have m = elim (or_cases (pointwise nat_eq (frame x) (frame op)) (is_logged (map frame ops) (frame x)) m) [
  | inl e ↦
      let same : frame x ≡ frame op = (slice_eq-Decides Decides-eqb (frame x) (frame op) (pointwise nat_eq (frame x) (frame op)) refl).0 e in
      or_left (op_eq op x) (has_op ops x) (subst (λ o. op_eq o x ≡ true) (same_op x op has (All-head HasFrame op ops have) same) (op_eq-refl x))
  | inr j ↦ or_right (op_eq op x) (has_op ops x) (logged_has ops x has (All-tail HasFrame op ops have) j)
]

-- what is so of all that each sender gave is so of all that was given
all_given : (P : Op → Type 0) (sendings : List Sending) → All (λ (s : Sending). All P (given_by s.replica)) sendings → All P (given_by_all (beginners sendings))
all_given P [] all = All-nil P
all_given P (s ∷ sendings) all =
    All-append P (given_by s.replica) (given_by_all (beginners sendings)) (All-head (λ (x : Sending). All P (given_by x.replica)) s sendings all)
    (all_given P sendings (All-tail (λ (x : Sending). All P (given_by x.replica)) s sendings all))

module _ (limit : ℕ) (sendings : List Sending) (relay : Relay) (sent : IsSentTo limit sendings relay) where
  abbrev begun : List Op
  begun = given_by_all (beginners sendings)

  abbrev given : List Op
  given = given_by_all (senders sendings)

  state : IsRelayState limit sent.events relay
  state = record { replies = sent.replies; runs = sent.runs }

  log_ops : ((ops : List Op) × IsLogOf relay.log ops) × (length relay.log ≤ limit)
  log_ops = logs_are_of_operations limit sent.events relay state

  in_log : IsGathered sendings sent.honest relay.log
  in_log = gathered sendings sent.honest limit sent.events relay sent.replies sent.interleaved sent.runs sent.none_refused

  abbrev GaveFramed : Sending → Type 0
  GaveFramed s = All HasFrame (given_by s.replica)

  framed : All GaveFramed sendings
  framed = All-weaker IsHonestRequest GaveFramed (λ s h. h.have_frames) sendings sent.honest

  -- what the log has, was sent
  none_else : IsPartOf log_ops.0.0 begun
  none_else x m =
      let ops : List Op = log_ops.0.0 in
      let is : IsLogOf relay.log ops = log_ops.0.1 in
      let of_sent : All (λ o. IsOfSent begun (frame o)) ops = all_from_map frame (IsOfSent begun) ops (subst (All (IsOfSent begun)) is.frames_are in_log.within) in
      let one = of_each (λ o. IsOfSent begun (frame o)) ops x of_sent m in
      let same : x ≡ one.op =
      same_op x one.op (of_each HasFrame ops x is.have_frames m) (of_each HasFrame begun one.op (all_given HasFrame sendings framed) one.is_sent) one.own_is in
      subst (λ o. has_op begun o ≡ true) (sym same) one.is_sent

  -- and what was sent in a whole session, the log has
  all_there : IsPartOf given log_ops.0.0
  all_there x m =
      let ops : List Op = log_ops.0.0 in
      let is : IsLogOf relay.log ops = log_ops.0.1 in
      let whole : List Sending = filter is_whole sendings in
      let Logged : Sending → Type 0 = λ s. All (IsLogged relay.log) (given_by s.replica) in
      let taken : All Logged whole =
      all_weaker_at (IsTaken relay.log) Logged whole (λ s c t. t (contains_filter_from is_whole sendings s c).1) (All-filter is_whole (IsTaken relay.log) sendings in_log.taken) in
      let logged : IsLogged relay.log x = of_each (IsLogged relay.log) given x (all_given (IsLogged relay.log) whole taken) m in
      let has : HasFrame x = of_each HasFrame given x (all_given HasFrame whole (All-filter is_whole GaveFramed sendings framed)) m in
      logged_has ops x has is.have_frames (subst (λ l. is_logged l (frame x) ≡ true) is.frames_are logged)

-- the log has what was sent in whole sessions, and nothing but what the sessions sent
pub logs_are_what_was_sent : LogsAreWhatWasSent
logs_are_what_was_sent limit sendings relay sent =
    let l = log_ops limit sendings relay sent in (l.0.0, l.0.1, all_there limit sendings relay sent, none_else limit sendings relay sent)

-- no answer that is counted as Full is lost, so where none was counted, none was Full
counts_grow : (a : Answer) (t : Tally) → t.full ≤ (answer_counted a t).full
counts_grow Full t = omega arith
counts_grow Again t = omega arith
counts_grow Conflict t = omega arith
counts_grow (Stray i) t = omega arith
counts_grow TooMany t = omega arith
counts_grow Accepted t = omega arith
counts_grow Waits t = omega arith

tally_grows : (hold most : ℕ) (s : Held) (ops : List Op) (t : Tally) → t.full ≤ (tally_from hold most s ops t).full
tally_grows hold most s [] t = omega arith
tally_grows hold most s (op ∷ ops) t =
    omega (arith, counts_grow (answer hold most s op) t, tally_grows hold most (intake hold most s op) ops (intake_counted hold most s op t))

not_full : (a : Answer) (t : Tally) → (answer_counted a t).full ≡ 0 → a ≢ Full
not_full a t none e = let more : (answer_counted Full t).full ≡ 0 = subst (λ x. (answer_counted x t).full ≡ 0) e none in omega (arith, more)

none_full : (hold most : ℕ) (s : Held) (ops : List Op) (t : Tally) → (tally_from hold most s ops t).full ≡ 0 → All (λ a. a ≢ Full) (answers_from hold most s ops)
none_full hold most s [] t none = All-nil (λ a. a ≢ Full)
none_full hold most s (op ∷ ops) t none =
    let next : Held = intake hold most s op in
    let now : Tally = intake_counted hold most s op t in
    All-cons (λ a. a ≢ Full) (answer hold most s op) (answers_from hold most next ops)
    (not_full (answer hold most s op) t (omega (arith, none, tally_grows hold most next ops now))) (none_full hold most next ops now none)

-- answers of neither kind
neither : (answers : List Answer) → All (λ a. a ≢ Full) answers → All (λ a. a ≢ TooMany) answers → WithinLimits answers
neither [] p q = All-nil (λ a. (a ≢ Full) × (a ≢ TooMany))
neither (a ∷ answers) p q =
    All-cons (λ x. (x ≢ Full) × (x ≢ TooMany)) a answers (All-head (λ x. x ≢ Full) a answers p, All-head (λ x. x ≢ TooMany) a answers q)
    (neither answers (All-tail (λ x. x ≢ Full) a answers p) (All-tail (λ x. x ≢ TooMany) a answers q))

-- what a replica kept covers its state, so it gives nothing else
taker_covers : (r : Taker) → Consistent (kept_by r) → Covers (kept_by r) (taker_state r)
taker_covers r k =
    let mine : List Op = kept_by r in
    let alone = kept_suffice r.hold r.most nothing_held r.ops nothing_settled in
    subst (Covers mine) alone.same_state
    (subst (λ l. Covers l (held r.hold r.most mine)) (append-nil mine)
    (fold_covers r.hold r.most mine mine [] nothing_held k (λ x m. subst (λ l. has_op l x ≡ true) (append-nil mine) m) nothing_covers alone.within_limits))

-- what a list has that was turned round, it had before
has_back : (ops : List Op) (x : Op) → has_op (reverse ops) x ≡ true → has_op ops x ≡ true
has_back [] x m = m
has_back (op ∷ ops) x m =
    elim (or_cases (has_op (reverse ops) x) (has_op (op ∷ []) x) (sym (has-append (reverse ops) (op ∷ []) x) ∙ ap (λ l. has_op l x) (sym (reverse-append (op ∷ []) ops)) ∙ m)) [
      | inl j ↦ or_right (op_eq op x) (has_op ops x) (has_back ops x j)
      | inr j ↦ elim (or_cases (op_eq op x) false j) [ inl e ↦ or_left (op_eq op x) (has_op ops x) e | inr none ↦ absurd (false≢true none) ]
    ]

given_is_kept : (replicas : List Taker) → Consistent (kept_by_all replicas) → IsPartOf (given_by_all replicas) (kept_by_all replicas)
given_is_kept [] k x m = m
given_is_kept (r ∷ replicas) k x m =
    let mine : List Op = kept_by r in
    let rest : List Op = kept_by_all replicas in
    let s : Held = taker_state r in
    let c : Covers mine s = taker_covers r (consistent_part mine (mine ++ rest) (part_in_front mine rest) k) in
    let own : IsPartOf (given_by r) mine = parts_join (accepted s.history) s.waiting mine (λ x m. c.history_part x (has_back s.history x m)) c.waiting_part in
    parts_join (given_by r) (given_by_all replicas) (mine ++ rest) (λ y n. part_in_front mine rest y (own y n))
    (λ y n. part_at_end mine rest y (given_is_kept replicas (consistent_part rest (mine ++ rest) (part_at_end mine rest) k) y n)) x m

-- what a hearer took in is what was sent, and met no limit
record Heard (sent begun : List Op) (r : Taker) (after : Held) : Type 0 where
  ops : List Op
  all_sent : IsPartOf sent ops
  no_other : IsPartOf ops begun
  within_limits : WithinLimits (answers_from r.hold r.most (taker_state r) ops)
  after_is : after ≡ held_from r.hold r.most (taker_state r) ops

module _ (limit : ℕ) (sendings : List Sending) (relay : Relay) (sent : IsSentTo limit sendings relay) (again : AllAreSent sendings) where
  abbrev all : List Op
  all = kept_by_all (senders sendings)

  heard : (r : Taker) (after : Held) → HearsLog relay.log r after → Heard (given_by_all (senders sendings)) (given_by_all (beginners sendings)) r after
  heard r after h =
      let l = log_ops limit sendings relay sent in
      let ops : List Op = l.0.0 in
      let took : List Op = h.hears.ops in
      let start : Held = taker_state r in
      let reads : ReadsReply (reply_from relay.log 0) ops (Ended (length relay.log)) = reply_reads relay.log ops 0 l.0.1 (omega (arith, l.1, sent.within)) in
      let same : ops ≡ took = (reads_once (reply_from relay.log 0) ops took (Ended (length relay.log)) (Ended h.count) reads h.hears.comes.ends).0 in
      let takes : TakesIn _ h.ended took = h.hears.takes in
      record {
        ops = took;
        all_sent = subst (IsPartOf (given_by_all (senders sendings))) same (all_there limit sendings relay sent);
        no_other = subst (λ o. IsPartOf o (given_by_all (beginners sendings))) same (none_else limit sendings relay sent);
        within_limits = neither (answers_from r.hold r.most start took)
            (none_full r.hold r.most start took no_counts (ap (λ (t : Tally). t.full) (sym takes.counts) ∙ h.none_full)) h.hears.comes.has_place;
        after_is = h.after_is ∙ ap (λ s. s.held) takes.replica;
      }

  -- what was begun to be sent, the senders kept
  begun_kept : Consistent all → IsPartOf (given_by_all (beginners sendings)) all
  begun_kept k x m = again x (given_is_kept (beginners sendings) (consistent_part (kept_by_all (beginners sendings)) all again k) x m)

  -- it has accepted the closure
  accepts : ClosureOfUnion → (r : Taker) (after : Held) → Consistent (kept_by r ++ all) → HearsLog relay.log r after → SameOps after.history (closure (kept_by r ++ all))
  accepts union r after k h =
      let t = heard r after h in
      let kept : IsPartOf (given_by_all (beginners sendings)) all = begun_kept (consistent_part all (kept_by r ++ all) (part_at_end (kept_by r) all) k) in
      subst (λ (s : Held). SameOps s.history (closure (kept_by r ++ all))) (sym t.after_is)
      (union r (senders sendings) t.ops t.all_sent (λ x m. kept x (t.no_other x m)) k t.within_limits)

  -- and what it accepted is lawful
  accepts_lawful : (r : Taker) (after : Held) → Consistent (kept_by r ++ all) → HearsLog relay.log r after → Lawful after.history
  accepts_lawful r after k h =
      let t = heard r after h in
      let kept : IsPartOf (given_by_all (beginners sendings)) all = begun_kept (consistent_part all (kept_by r ++ all) (part_at_end (kept_by r) all) k) in
      let part : IsPartOf (t.ops ++ kept_by r) (kept_by r ++ all) =
      parts_join t.ops (kept_by r) (kept_by r ++ all) (λ x m. part_at_end (kept_by r) all x (kept x (t.no_other x m))) (part_in_front (kept_by r) all) in
      let c = fold_covers r.hold r.most (kept_by r ++ all) t.ops (kept_by r) (taker_state r) k part
      (taker_covers r (consistent_part (kept_by r) (kept_by r ++ all) (part_in_front (kept_by r) all) k)) t.within_limits in
      subst (λ (s : Held). Lawful s.history) (sym t.after_is) c.lawful

  -- one that kept nothing else than the senders accepted the closure of what these kept
  module _ (union : ClosureOfUnion) (by_set : ClosureBySet) (k : Consistent all) (r : Taker) (part : IsPartOf (kept_by r) all) where
    both_consistent : Consistent (kept_by r ++ all)
    both_consistent = consistent_part (kept_by r ++ all) all (parts_join (kept_by r) all all part (λ x m. m)) k

    accepts_all : (after : Held) → HearsLog relay.log r after → SameOps after.history (closure all)
    accepts_all after h x =
        accepts union r after both_consistent h x
        ∙ by_set (kept_by r ++ all) all both_consistent
        (λ y. both_ways (has_op (kept_by r ++ all) y) (has_op all y) (parts_join (kept_by r) all all part (λ z m. m) y) (part_at_end (kept_by r) all y)) x

pub hearers_have_the_closure : ClosureOfUnion → HearersHaveTheClosure
hearers_have_the_closure union limit sendings relay r after sent again k h = accepts limit sendings relay sent again union r after k h

pub hearers_converge : ClosureOfUnion → ClosureBySet → OrderBySet → HearersConverge
hearers_converge union by_set by_order limit sendings relay a b after_a after_b sent again k part_a part_b h i =
    let same : SameOps after_a.history after_b.history =
    λ x. accepts_all limit sendings relay sent again union by_set k a part_a after_a h x ∙ sym (accepts_all limit sendings relay sent again union by_set k b part_b after_b i x) in
    record {
      same_ops = same;
      same_text = by_order after_a.history after_b.history
          (accepts_lawful limit sendings relay sent again a after_a (both_consistent limit sendings relay sent again union by_set k a part_a) h)
          (accepts_lawful limit sendings relay sent again b after_b (both_consistent limit sendings relay sent again union by_set k b part_b) i) same;
    }
