-- A run goes in whole: each of its Texts is Ready in its turn, decides nothing that waits, and lands after the one before.
use Rattle.origin_model.proofs.Words.{All, All-append, All-cons, All-head, All-nil, All-tail, All-weaker, Contains, Identifier, Lawful, List, Op, Option, Place, Ready, Role}
use Rattle.origin_model.proofs.Words.{SectionRole, Some, Text, TextOf, [], all_before, all_after, all_from_contains, ap, append_assoc, arith, false, false_from_ne_true, flat_map}
use Rattle.origin_model.proofs.Words.{given_as, holder, holds, id_eq, id_eq-refl, is_own, is_some, left_of, length, map, names, nat_eq, ne-id_eq, ne_eqb, option_to_list, order}
use Rattle.origin_model.proofs.Words.{refl, right_of, subst, suc, sym, true, true≢false, verdict, within, zero, ℕ, ◌++◌, ◌+◌, ◌-◌, ◌<◌, ◌∙◌, ◌∷◌, ◌≡◌, ◌≢◌, ◌≤◌}
use Rattle.fugue_ids.specs.Runs.{id_after, ids_in_a_row, in_a_row, left_after, next_id, run_from, text_by}
use Rattle.fugue_ids.specs.declared.run.RunStart.{RunStart}
use Rattle.fugue_ids.proofs.RunLemmas.{left_one, length-typed, none_after, one_after}
use Rattle.origin_model.specs.declared.taking.Tally.{Tally}
use Rattle.origin_model.specs.edits.Edits.{ReadyInTurn, history_with, id_at}
use Rattle.origin_model.specs.edits.RunLaws.{RunLands, RunsGoInWhole, TypedIsRun}
use Rattle.origin_model.specs.operations.Counters.{mentioned_ids}
use Rattle.origin_model.specs.sides.Keys.{depth_above, depth_of, forest_of, new_key, search_key_of}
use Rattle.origin_model.specs.taking.Taking.{Accepted, Held, IsSettled, answer, answer_counted, intake, settle, settling_counted, held_after, tally_from}
use Rattle.origin_model.proofs.operations.CauseLemmas.{becomes_ready}
use Rattle.origin_model.proofs.operations.ElementLemmas.{none_elsewhere}
use Rattle.origin_model.proofs.operations.LookupLemmas.{ElementFits, Fits, all_fit, element_ready, holder-own, holds-other, own_id, when_ready}
use Rattle.origin_model.proofs.order.{Within, order-none}
use Rattle.origin_model.proofs.order.PartLemmas.{lefts-within, rights-within, within-older}
use Rattle.origin_model.proofs.sides.NewKeyLemmas.{newest_key, run_key}
use Rattle.origin_model.proofs.taking.SettlingLemmas.{settle-settled}
use Rattle.origin_model.proofs.edits.EditIntakeLemmas.{Comes, accepts, comes, state_of, takes}
use Rattle.origin_model.proofs.edits.FreshIdLemmas.{IsUnknown}
use Rattle.origin_model.proofs.edits.LandsBehindLeafLemmas.{lands_behind_newest}
use Rattle.origin_model.proofs.edits.MadeLemmas.{lawful_front, ready_lawful}
use Rattle.origin_model.proofs.edits.PutLemmas.{new_op, text_here}
use Rattle.origin_model.proofs.edits.UndecidedLemmas.{Undecided, all_stay}

-- Longer histories

within_extended : (h ops : List Op) → Lawful (history_with h ops) → Within h (history_with h ops)
within_extended h [] w = λ i op e. e
within_extended h (op ∷ ops) w = within-older op h (history_with (op ∷ h) ops) (when_ready h op (lawful_front ops (op ∷ h) w).0) (within_extended (op ∷ h) ops w)

-- Where the elements stand

row_lands : (id s : Identifier) (l r : Option Identifier) (ch : ℕ) (text : List ℕ) (h : List Op) (front back : List Identifier)
    → Lawful (history_with h (in_a_row id s l r (ch ∷ text)))
    → order (within s) (Text id s l r ch ∷ h) ≡ front ++ id ∷ back
    → order (within s) (history_with h (in_a_row id s l r (ch ∷ text))) ≡ front ++ ids_in_a_row id (ch ∷ text) ++ back
row_lands id s l r ch [] h front back w whole = whole ∙ sym (append_assoc front (id ∷ []) back)
row_lands id s l r ch (next ∷ text) h front back w whole =
    let first : Op = Text id s l r ch in
    let second : Op = Text (next_id id) s (Some id) r next in
    let lawful = lawful_front (in_a_row (next_id (next_id id)) s (Some (next_id id)) r text) (second ∷ first ∷ h) w in
    let behind : order (within s) (second ∷ first ∷ h) ≡ front ++ id ∷ next_id id ∷ back =
    lands_behind_newest (within s) second first h (next_id id) id front back lawful (text_here id s l r ch) (text_here (next_id id) s (Some id) r next) refl whole in
    row_lands (next_id id) s (Some id) r next text (first ∷ h) (front ++ id ∷ []) back w (behind ∙ sym (append_assoc front (id ∷ []) (next_id id ∷ back)))
    ∙ ap (λ z. z ++ back) (append_assoc front (id ∷ []) (ids_in_a_row (next_id id) (next ∷ text)))

pub run_lands : RunLands
run_lands start ch text h front back w whole = row_lands start.id start.section start.left start.right ch text h front back w whole

row_elsewhere : (id s : Identifier) (l r : Option Identifier) (text : List ℕ) (h : List Op) (p : Place) → p ≢ within s
    → order p (history_with h (in_a_row id s l r text)) ≡ order p h
row_elsewhere id s l r [] h p n = refl
row_elsewhere id s l r (ch ∷ text) h p n =
    let first : Op = Text id s l r ch in
    row_elsewhere (next_id id) s (Some id) r text (first ∷ h) p n ∙ order-none p first h (none_elsewhere (within s) p first id (text_here id s l r ch) n)

-- Each is Ready

-- a Text after one that was just accepted
next_ready : (id s : Identifier) (l r : Option Identifier) (ch next : ℕ) (h : List Op) → Lawful (Text id s l r ch ∷ h) → holds (Text id s l r ch ∷ h) (next_id id) ≡ false
    → verdict (Text id s l r ch ∷ h) (Text (next_id id) s (Some id) r next) ≡ Ready
next_ready id s l r ch next h w free =
    let first : Op = Text id s l r ch in
    let second : Op = Text (next_id id) s (Some id) r next in
    let g : List Op = first ∷ h in
    let ready = when_ready h first w.0 in
    let older : (n : Identifier × Role) → Fits h n → Fits g n = λ n f. (f.0, within-older first h g ready (λ i op e. e) n.0 f.0 f.1, f.2) in
    let e : ElementFits h (within s, record { id = id; left = l; right = r }) = element_ready h first (within s, record { id = id; left = l; right = r }) ready refl in
    let home : All (Fits g) ((s, SectionRole) ∷ []) = All-weaker (Fits h) (Fits g) older ((s, SectionRole) ∷ []) e.home in
    let left : All (Fits g) (given_as (TextOf s) (Some id)) = All-cons (Fits g) (id, TextOf s) [] (first, holder-own first h id (id_eq-refl id), id_eq-refl s) (All-nil (Fits g)) in
    let right : All (Fits g) (given_as (TextOf s) r) = All-weaker (Fits h) (Fits g) older (given_as (TextOf s) r) e.right in
    let f = all_fit g (names second)
    (All-append (Fits g) ((s, SectionRole) ∷ given_as (TextOf s) (Some id)) (given_as (TextOf s) r)
    (All-append (Fits g) ((s, SectionRole) ∷ []) (given_as (TextOf s) (Some id)) home left) right) in
    becomes_ready g second (new_op g second (next_id id) w refl (id_eq-refl (next_id id)) free) free f.0 f.1

-- identifiers after another are free once that is held
free_after : (id s : Identifier) (l r : Option Identifier) (ch : ℕ) (at : Identifier) (text : List ℕ) (h : List Op) → id.counter < at.counter
    → All (λ x. holds h x ≡ false) (ids_in_a_row at text)
    → All (λ x. holds (Text id s l r ch ∷ h) x ≡ false) (ids_in_a_row at text)
free_after id s l r ch at [] h less f = All-nil (λ x. holds (Text id s l r ch ∷ h) x ≡ false)
free_after id s l r ch at (c ∷ text) h less f =
    let apart : id ≢ at = λ d. omega (arith, less, ap (λ z. z.counter) d) in
    All-cons (λ x. holds (Text id s l r ch ∷ h) x ≡ false) at (ids_in_a_row (next_id at) text)
    (holds-other (Text id s l r ch) h at (ne-id_eq id at apart) ∙ All-head (λ x. holds h x ≡ false) at (ids_in_a_row (next_id at) text) f)
    (free_after id s l r ch (next_id at) text h (omega (arith, less)) (All-tail (λ x. holds h x ≡ false) at (ids_in_a_row (next_id at) text) f))

row_ready : (id s : Identifier) (l r : Option Identifier) (ch : ℕ) (text : List ℕ) (h : List Op) → Lawful h → verdict h (Text id s l r ch) ≡ Ready
    → All (λ x. holds h x ≡ false) (ids_in_a_row (next_id id) text)
    → ReadyInTurn h (in_a_row id s l r (ch ∷ text))
row_ready id s l r ch [] h w ready f = (ready, tt)
row_ready id s l r ch (next ∷ text) h w ready f =
    let first : Op = Text id s l r ch in
    let g = free_after id s l r ch (next_id id) (next ∷ text) h (omega arith) f in
    let P : Identifier → Type 0 = λ x. holds (first ∷ h) x ≡ false in (
      ready,
      row_ready (next_id id) s (Some id) r next text (first ∷ h) (ready, w)
          (next_ready id s l r ch next h (ready, w) (All-head P (next_id id) (ids_in_a_row (next_id (next_id id)) text) g))
          (All-tail P (next_id id) (ids_in_a_row (next_id (next_id id)) text) g),
    )

-- Nothing that waits is decided

-- what operations neither have nor name is not held among them
unheld : (w : List Op) (x : Identifier) → All (λ i. id_eq x i ≡ false) (flat_map mentioned_ids w) → holds w x ≡ false
unheld [] x a = refl
unheld (o ∷ w) x a =
    let P : Identifier → Type 0 = λ i. id_eq x i ≡ false in
    let named : List Identifier = map (λ named. named.0) (names o) in
    let own : is_own x o ≡ false = false_from_ne_true _ (λ t. true≢false (sym (id_eq-refl x) ∙
    All-head P x named (subst (λ z. All P (option_to_list z ++ named)) (own_id o x t) (all_before P (mentioned_ids o) (flat_map mentioned_ids w) a)))) in
    holds-other o w x own ∙ unheld w x (all_after P (mentioned_ids o) (flat_map mentioned_ids w) a)

row_unknown : (id s : Identifier) (l r : Option Identifier) (text : List ℕ) (w : List Op) → All (λ x. Contains (flat_map mentioned_ids w) x → ⊥) (ids_in_a_row id text)
    → All (IsUnknown w) (in_a_row id s l r text)
row_unknown id s l r [] w a = All-nil (IsUnknown w)
row_unknown id s l r (ch ∷ text) w a =
    let P : Identifier → Type 0 = λ x. Contains (flat_map mentioned_ids w) x → ⊥ in
    let none : P id = All-head P id (ids_in_a_row (next_id id) text) a in
    let apart : All (λ i. id_eq id i ≡ false) (flat_map mentioned_ids w) =
    all_from_contains (λ i. id_eq id i ≡ false) (flat_map mentioned_ids w) (λ i m. ne-id_eq id i (λ e. none (subst (Contains (flat_map mentioned_ids w)) (sym e) m))) in
    All-cons (IsUnknown w) (Text id s l r ch) (in_a_row (next_id id) s (Some id) r text) (unheld w id apart, apart)
    (row_unknown (next_id id) s (Some id) r text w (All-tail P id (ids_in_a_row (next_id id) text) a))

-- operations that come in turn are counted as accepted
counts : (hold most : ℕ) (ops h w : List Op) (t : Tally) → Undecided h w → Comes w h ops → length h + length w + length ops ≤ most
    → tally_from hold most (state_of h w) ops t ≡ record t { accepted = t.accepted + length ops }
counts hold most [] h w t a c l = let e : t.accepted ≡ t.accepted + 0 = omega arith in λ i. record t { accepted = e i }
counts hold most (op ∷ ops) h w t a c l =
    let s : Held = state_of h w in
    let after : Held = state_of (op ∷ h) w in
    let room : nat_eq (length h + length w) most ≡ false = ne_eqb (length h + length w) most (λ e. omega (arith, e, l)) in
    let ok : answer hold most s op ≡ Accepted = accepts hold most h w op a c.0 c.1 room in
    let next : intake hold most s op ≡ after = ap (λ z. settle (held_after z s op)) ok ∙ settle-settled after c.2 in
    let now : Tally = settling_counted after after (answer_counted Accepted t) in
    let one : now.accepted ≡ t.accepted + 1 = omega arith in
    let none : now.stray ≡ t.stray = omega arith in
    let more : t.accepted + 1 + length ops ≡ t.accepted + suc (length ops) = omega arith in
    (λ i. tally_from hold most (next i) ops (settling_counted (held_after (ok i) s op) (next i) (answer_counted (ok i) t)))
    ∙ counts hold most ops (op ∷ h) w now c.2 c.3 (omega (arith, l))
    ∙ (λ i. record t { accepted = one i + length ops; stray = none i })
    ∙ (λ i. record t { accepted = more i })

-- Their keys

-- what is held at an identifier of the run
record IsText (h : List Op) (x : Identifier) (left right : Option Identifier) : Type 0 where
  op : Op
  held : holder h x ≡ Some op
  left_is : left_of op ≡ left
  right_is : right_of op ≡ right

row_has : (id s : Identifier) (l r : Option Identifier) (text : List ℕ) (h : List Op) (k : ℕ) → Lawful (history_with h (in_a_row id s l r text)) → k < length text
    → IsText (history_with h (in_a_row id s l r text)) (id_after id k) (left_after l id k) r
row_has id s l r [] h k w less = absurd (omega (arith, less))
row_has id s l r (ch ∷ text) h zero w less =
    let first : Op = Text id s l r ch in
    let rest : List Op = in_a_row (next_id id) s (Some id) r text in
    record {
      op = first;
      held = ap (holder (history_with (first ∷ h) rest)) (none_after id) ∙ within_extended (first ∷ h) rest w id first (holder-own first h id (id_eq-refl id));
      left_is = refl;
      right_is = refl;
    }
row_has id s l r (ch ∷ text) h (suc k) w less =
    let first : Op = Text id s l r ch in
    let g : List Op = history_with (first ∷ h) (in_a_row (next_id id) s (Some id) r text) in
    let there = row_has (next_id id) s (Some id) r text (first ∷ h) k w (omega (arith, less)) in
    record { op = there.op; held = ap (holder g) (sym (one_after id k)) ∙ there.held; left_is = there.left_is ∙ left_one id k; right_is = there.right_is }

module _ (start : RunStart) (ch : ℕ) (text : List ℕ) (h : List Op) (w : Lawful (history_with h (run_from start (ch ∷ text)))) where
  abbrev g : List Op
  g = history_with h (run_from start (ch ∷ text))

  abbrev first : Op
  first = text_by start ch

  abbrev rest : List Op
  rest = in_a_row (next_id start.id) start.section (Some start.id) start.right text

  before : Lawful (first ∷ h)
  before = lawful_front rest (first ∷ h) w

  first_held : holds (first ∷ h) start.id ≡ true
  first_held = ap is_some (holder-own first h start.id (id_eq-refl start.id))

  pub first_key : search_key_of g start.id ≡ new_key h start.left start.right
  first_key =
      let f : Within (first ∷ h) g = within_extended (first ∷ h) rest w in
      let l = lefts-within (first ∷ h) g start.id before w f first_held in
      let r = rights-within (first ∷ h) g start.id before w f first_held in
      (λ i. record { depth = length (sym l i); forest = length (sym r i) - 1 })
      ∙ newest_key first h start.id (id_eq-refl start.id)

  deeper : (k : ℕ) → k < length text → (depth_of g (id_after start.id (suc k)) ≡ suc (depth_of g (id_after start.id k))) × (forest_of g (id_after start.id (suc k)) ≡ 0)
  deeper k less =
      let a = row_has start.id start.section start.left start.right (ch ∷ text) h k w (omega (arith, less)) in
      let b = row_has start.id start.section start.left start.right (ch ∷ text) h (suc k) w (omega (arith, less)) in
      run_key g (id_after start.id k) (id_after start.id (suc k)) a.op b.op w a.held b.held b.left_is (b.right_is ∙ sym a.right_is)

  depth_after : (k : ℕ) → k ≤ length text → depth_of g (id_after start.id k) ≡ depth_of g start.id + k
  depth_after zero less = let e : depth_of g start.id ≡ depth_of g start.id + 0 = omega arith in ap (depth_of g) (none_after start.id) ∙ e
  depth_after (suc k) less = let d = (deeper k (omega (arith, less))).0 in let e = depth_after k (omega (arith, less)) in omega (arith, d, e)

  pub later_keys : (k : ℕ) → k < length text → search_key_of g (id_after start.id (suc k)) ≡ record { depth = suc (depth_above h start.left) + suc k; forest = 0 }
  later_keys k less =
      let d = depth_after (suc k) (omega (arith, less)) in
      let e : depth_of g start.id ≡ suc (depth_above h start.left) = ap (λ z. z.depth) first_key in
      let f = (deeper k less).1 in
      λ i. record { depth = (d ∙ ap (λ z. z + suc k) e) i; forest = f i }

-- the law
pub runs_go_in_whole : RunsGoInWhole
runs_go_in_whole hold most s start ch text can =
    let run : List Op = run_from start (ch ∷ text) in
    let free : All (λ x. holds s.history x ≡ false) (ids_in_a_row (next_id start.id) text) =
    All-tail (λ x. holds s.history x ≡ false) start.id (ids_in_a_row (next_id start.id) text) can.free in
    let ready : ReadyInTurn s.history run = row_ready start.id start.section start.left start.right ch text s.history can.lawful can.ready free in
    let unknown : All (IsUnknown s.waiting) run = row_unknown start.id start.section start.left start.right (ch ∷ text) s.waiting can.unnamed in
    let lawful : Lawful (history_with s.history run) = ready_lawful s.history run can.lawful ready in
    let comes_so = comes run s.history s.waiting can.settled ready unknown in
    let len : length run ≡ suc (length text) = length-typed start.id start.section start.left start.right (ch ∷ text) in
    let room : length s.history + length s.waiting + length run ≤ most = omega (arith, len, can.room) in
    let took = takes hold most run s.history s.waiting can.settled comes_so room in
    record {
      ready = ready;
      held = took.state;
      settled = subst IsSettled (sym took.state) (all_stay run s.history s.waiting unknown can.settled);
      kept = took.all_kept;
      counted = λ t. counts hold most run s.history s.waiting t can.settled comes_so room ∙ (λ i. record t { accepted = t.accepted + len i });
      lands = λ front back whole. run_lands start ch text s.history front back lawful whole;
      elsewhere = λ p n. row_elsewhere start.id start.section start.left start.right (ch ∷ text) s.history p n;
      first_key = first_key start ch text s.history lawful;
      later_keys = later_keys start ch text s.history lawful;
    }

-- what an edit types is a run
pub typed_is_run : TypedIsRun
typed_is_run r c s l q [] = refl
typed_is_run r c s l q (ch ∷ text) =
    let step : suc c ≡ c + 1 = omega arith in
    ap (λ z. Text (id_at r c) s l q ch ∷ z) (typed_is_run r (suc c) s (Some (id_at r c)) q text ∙ ap (λ n. in_a_row (id_at r n) s (Some (id_at r c)) q text) step)
