-- The boundary between two runs of one passage, at any place of it.
use Rattle.std.proofs.Common.{◌≡◌, ◌≢◌, ◌⊎◌, ℕ, suc, ◌+◌, ◌-◌, ◌<◌, ◌≤◌, true, false, List, [], ◌∷◌, ◌++◌, ap, append_assoc, arith, inl, inr, length, length-drop, refl, subst, sym}
use Rattle.std.proofs.Common.{take, drop, ◌∙◌}
use Rattle.std.specs.Prelude.{None, Some, cond, slice_index_or}
use Rattle.std.specs.List.{All}
use Rattle.std.proofs.lemmas.Bool.{and_parts, eqb-true}
use Rattle.std.proofs.lemmas.List.{length-map, length-take-le}
use Rattle.std.proofs.lemmas.List.Elements.{All-append, All-cons, All-head, All-tail}
use Rattle.fugue_ids.specs.Identifiers.{Identifier, id_eq}
use Rattle.fugue_ids.proofs.IdentifierLemmas.{ne-id_eq}
use Rattle.fugue_ids.proofs.ListLemmas.{all_before, all_after}
use Rattle.fugue_ids.specs.Runs.{id_after}
use Rattle.node_rope.specs.Beside.{put_under, items_rekeyed}
use Rattle.node_rope.specs.Items.{value_under}
use Rattle.node_rope.specs.Places.{StandsAt}
use Rattle.run_store.specs.Boundaries.{IsBoundary, IsHiding, IsMove, IsTakenFirst, IsTakenLast, run_continues, last_shown, boundary_shifted, together}
use Rattle.run_store.specs.Cells.{cells_hiding}
use Rattle.run_store.specs.Heads.{head_after, typed_cells}
use Rattle.run_store.specs.Runs.{AreRuns, IsRun, RunsView, all_cells, cells_in, first_of, run_after, run_to}
use Rattle.run_store.specs.declared.cell.Cell.{Cell}
use Rattle.run_store.specs.declared.run.Run.{Run}
use Rattle.run_store.proofs.ContinueLemmas.{continued-is}
use Rattle.run_store.proofs.CutLemmas.{back-part, front-part, rest-fresh}
use Rattle.run_store.proofs.HeadLemmas.{behind-behind, behind-depth, behind-id, behind-marked, behind-other, behind-right, typed-append}
use Rattle.run_store.proofs.HideLemmas.{hides-typed, marked-run, marked-sound}
use Rattle.run_store.proofs.PartLemmas.{part-parts}
use Rattle.run_store.proofs.PlaceLemmas.{at-split, drop-there, stands-run}
use Rattle.run_store.proofs.RopeLemmas.{OtherKeys, put-at, rekeyed-at, value-at}
use Rattle.run_store.proofs.RunsLemmas.{Item, cells-append, kept-run, keys-apart}

-- a run that goes on from another one is the rest of both
passage-is : (a b : Run) → 0 < a.len → run_continues a b ≡ true → b ≡ run_after a.len (together a b)
passage-is a b some t =
    let k = a.len - 1 in
    let n : suc k ≡ a.len = omega (arith, some) in
    let h = head_after k (first_of a) in
    let p = and_parts _ _ t in
    let q = and_parts _ _ p.1 in
    let u = and_parts _ _ q.1 in
    let v = and_parts _ _ u.1 in
    let next = continued-is (last_shown a) (first_of b) 0 p.0 in
    let depth : b.key.depth ≡ h.key.depth + 1 = eqb-true _ _ q.0 in
    let forest : b.key.forest ≡ 0 = eqb-true _ _ u.0 in
    let stretch : b.stretch ≡ a.stretch = eqb-true _ _ v.0 in
    let start : b.start ≡ a.start + a.len = eqb-true _ _ v.1 in
    let e : h.id ≡ id_after a.id k = behind-id k (first_of a) in
    let c : (a.id.counter + k) + 1 ≡ a.id.counter + suc k = omega arith in
    let id : b.id ≡ id_after a.id (suc k) = next.id ∙ ap (λ x. id_after x 1) e ∙ (λ i. record { replica = a.id.replica; counter = c i }) in
    let left : b.left ≡ Some (id_after a.id k) = next.left ∙ ap Some e in
    let right : b.right ≡ a.right = next.right ∙ behind-right k (first_of a) in
    let d : b.key.depth ≡ a.key.depth + suc k = omega (arith, depth, behind-depth k (first_of a)) in
    let from : b.start ≡ a.start + suc k = omega (arith, start, n) in
    let len : b.len ≡ (a.len + b.len) - suc k = omega (arith, n) in
    (λ i. record {
      id = id i;
      left = left i;
      right = right i;
      hidden = b.hidden;
      key = record { depth = d i; forest = forest i };
      stretch = stretch i;
      start = from i;
      len = len i;
    })
    ∙ ap (λ m. run_after m (together a b)) n

-- the next run of a rope, where it goes on from the one before it
pub boundary-found : (r : RunsView) → AreRuns r → (a b : Run) (k : Identifier) → value_under a.id r.rope ≡ Some a → (i : ℕ) × StandsAt r.rope i a.id × StandsAt r.rope (i + 1) k
    → value_under k r.rope ≡ Some b → run_continues a b ≡ true → IsBoundary r.rope a b
boundary-found r s a b k held next v t =
    let i = next.0 in
    let n : i + 1 ≡ suc i = omega arith in
    let named : k ≡ b.id = (kept-run r s k b v).named in
    let first = stands-run r s i a next.1 held in
    let second = stands-run r s (suc i) b (subst (λ j. StandsAt r.rope j b.id) n (subst (StandsAt r.rope (i + 1)) named next.2)) (ap (λ j. value_under j r.rope) (sym named) ∙ v) in
    record {
      before = take i r.rope;
      behind = drop (suc (suc i)) r.rope;
      is = at-split r.rope i (a.id, a) first ∙ ap (λ xs. take i r.rope ++ (a.id, a) ∷ xs) (drop-there r.rope (suc i) (b.id, b) second);
      passage = passage-is a b (kept-run r s a.id a held).some t;
    }

module _ (r : RunsView) (s : AreRuns r) (a b : Run) (boundary : IsBoundary r.rope a b) where
  abbrev whole : Run
  whole = together a b

  abbrev P : Item → Type 0
  P = IsRun r.letters r.count

  runs : All P (boundary.before ++ (a.id, a) ∷ (b.id, b) ∷ boundary.behind)
  runs = subst (All P) boundary.is s.each

  both : All P ((a.id, a) ∷ (b.id, b) ∷ boundary.behind)
  both = all_after P boundary.before ((a.id, a) ∷ (b.id, b) ∷ boundary.behind) runs

  pub front-is : IsRun r.letters r.count (a.id, a)
  front-is = All-head P (a.id, a) ((b.id, b) ∷ boundary.behind) both

  pub back-is : IsRun r.letters r.count (b.id, b)
  back-is = All-head P (b.id, b) boundary.behind (All-tail P (a.id, a) ((b.id, b) ∷ boundary.behind) both)

  rest-are : All P boundary.behind
  rest-are = All-tail P (b.id, b) boundary.behind (All-tail P (a.id, a) ((b.id, b) ∷ boundary.behind) both)

  -- the whole passage has the numbers of a run
  pub whole-is : IsRun r.letters r.count (a.id, whole)
  whole-is =
      let e = boundary.passage in
      let c : b.id.counter ≡ a.id.counter + a.len = ap (λ (z : Run). z.id.counter) e ∙ ap (λ (x : Identifier). x.counter) (behind-id a.len (first_of whole)) in
      let d : b.key.depth ≡ a.key.depth + a.len = ap (λ (z : Run). z.key.depth) e ∙ behind-depth a.len (first_of whole) in
      let t : b.start ≡ a.start + a.len = ap (λ (z : Run). z.start) e in
      let n = ap (λ (z : Run). length (slice_index_or r.letters z.stretch [])) e in
      record {
        named = refl;
        some = omega (arith, front-is.some);
        within = omega (arith, back-is.within, t, n);
        counters = omega (arith, back-is.counters, c);
        ends = omega (arith, back-is.ends, t);
        deep = front-is.deep;
        depths = omega (arith, back-is.depths, d);
        forests = front-is.forests;
      }

  around : r.rope ≡ (boundary.before ++ (a.id, a) ∷ []) ++ (b.id, b) ∷ boundary.behind
  around = boundary.is ∙ sym (append_assoc boundary.before ((a.id, a) ∷ []) ((b.id, b) ∷ boundary.behind))

  front-apart : OtherKeys a.id boundary.before × OtherKeys a.id ((b.id, b) ∷ boundary.behind)
  front-apart = keys-apart r s boundary.before a 0 ((b.id, b) ∷ boundary.behind) boundary.is front-is.some

  back-apart : OtherKeys b.id (boundary.before ++ (a.id, a) ∷ []) × OtherKeys b.id boundary.behind
  back-apart = keys-apart r s (boundary.before ++ (a.id, a) ∷ []) b 0 boundary.behind around back-is.some

  front-held : value_under a.id r.rope ≡ Some a
  front-held = ap (value_under a.id) boundary.is ∙ value-at a.id a boundary.before ((b.id, b) ∷ boundary.behind) front-apart.0

  pub back-held : value_under b.id r.rope ≡ Some b
  back-held = ap (value_under b.id) around ∙ value-at b.id b (boundary.before ++ (a.id, a) ∷ []) boundary.behind back-apart.0

  -- the second run with the boundary at the place n, and all items
  abbrev pub rest : ℕ → Run
  rest n = run_after n (together a b)

  abbrev pub items : ℕ → List Item
  items n = boundary.before ++ (a.id, run_to n a) ∷ ((rest n).id, rest n) ∷ boundary.behind

  -- with the boundary where it is
  items-now : r.rope ≡ items a.len
  items-now = boundary.is ∙ ap (λ (z : Run). boundary.before ++ (a.id, a) ∷ (z.id, z) ∷ boundary.behind) boundary.passage

  -- the identifiers of the passage, counted from its second run
  rest-behind : (n k : ℕ) → n ≡ a.len + k → (rest n).id ≡ (head_after k (first_of b)).id
  rest-behind n k e =
      let f : b.id ≡ id_after a.id a.len = ap (λ (z : Run). z.id) boundary.passage ∙ behind-id a.len (first_of whole) in
      let c : a.id.counter + n ≡ (a.id.counter + a.len) + k = omega (arith, e) in
      behind-id n (first_of whole)
      ∙ (λ i. record { replica = a.id.replica; counter = c i })
      ∙ ap (λ x. id_after x k) (sym f)
      ∙ sym (behind-id k (first_of b))

  module _ (n : ℕ) (move : IsMove a b n) where
    rest-other : id_eq (rest n).id a.id ≡ false
    rest-other = ne-id_eq (rest n).id a.id (behind-other n (first_of whole) move.some)

    -- its identifier is no key yet
    pub rest-new : value_under (rest n).id r.rope ≡ None
    rest-new = elim (sides n a.len move.other) [
      | inl less ↦ ap (λ k. value_under k r.rope) (behind-id n (first_of whole) ∙ sym (behind-id n (first_of a))) ∙ rest-fresh r s a n front-held move.some less
      | inr more ↦
          let e : n ≡ a.len + (n - a.len) = omega (arith, more) in
          ap (λ k. value_under k r.rope) (rest-behind n (n - a.len) e) ∙ rest-fresh r s b (n - a.len) back-held (omega (arith, more)) (omega (arith, more, move.rest))
    ]
      where
        sides : (k m : ℕ) → k ≢ m → (k < m) ⊎ (m < k)
        sides k m o = grind (arith, o)

    rekeyed-is : items_rekeyed b.id ((rest n).id, rest n) r.rope ≡ boundary.before ++ (a.id, a) ∷ ((rest n).id, rest n) ∷ boundary.behind
    rekeyed-is =
        ap (items_rekeyed b.id ((rest n).id, rest n)) around
        ∙ rekeyed-at b.id b ((rest n).id, rest n) (boundary.before ++ (a.id, a) ∷ []) boundary.behind back-apart.0 back-apart.1
        ∙ append_assoc boundary.before ((a.id, a) ∷ []) (((rest n).id, rest n) ∷ boundary.behind)

    -- the first run is held still
    pub still-held : value_under a.id (items_rekeyed b.id ((rest n).id, rest n) r.rope) ≡ Some a
    still-held = ap (value_under a.id) rekeyed-is ∙ value-at a.id a boundary.before (((rest n).id, rest n) ∷ boundary.behind) front-apart.0

    shifted-is : boundary_shifted n a b r.rope ≡ items n
    shifted-is =
        ap (put_under a.id (run_to n a)) rekeyed-is
        ∙ put-at a.id a (run_to n a) boundary.before (((rest n).id, rest n) ∷ boundary.behind) front-apart.0 (rest-other, front-apart.1.1)

    abbrev pub shifted_runs : RunsView
    shifted_runs = record { rope = boundary_shifted n a b r.rope; letters = r.letters; count = r.count }

    shifted-each : All P (boundary_shifted n a b r.rope)
    shifted-each =
        let front = marked-run r.letters r.count a.id (run_to n whole) a.hidden (front-part r.letters r.count whole n whole-is move.some move.rest) in
        let back = back-part r.letters r.count whole n whole-is move.some move.rest in
        subst (All P) (sym shifted-is)
        (All-append P boundary.before ((a.id, run_to n a) ∷ ((rest n).id, rest n) ∷ boundary.behind) (all_before P boundary.before ((a.id, a) ∷ (b.id, b) ∷ boundary.behind) runs)
        (All-cons P (a.id, run_to n a) (((rest n).id, rest n) ∷ boundary.behind) front (All-cons P ((rest n).id, rest n) boundary.behind back rest-are)))

    pub shifted-length : length (boundary_shifted n a b r.rope) ≡ length r.rope
    shifted-length =
        length-map (items_rekeyed b.id ((rest n).id, rest n) r.rope) (λ (x : Item). (x.0, cond (id_eq x.0 a.id) (run_to n a) x.1))
        ∙ length-map r.rope (λ (x : Item). cond (id_eq x.0 b.id) ((rest n).id, rest n) x)

  -- the cells with the boundary before k of them, from the place m on, and after these: they differ in the marks of these
  module _ (m k : ℕ) (inside : m + k ≤ a.len + b.len) where
    abbrev letters : List ℕ
    letters = slice_index_or r.letters a.stretch []

    abbrev moved : List ℕ
    moved = take k (drop (a.start + m) letters)

    abbrev front_cells : List Cell
    front_cells = all_cells r.letters boundary.before ++ typed_cells (first_of a) (take m (drop a.start letters))

    abbrev back_letters : List ℕ
    back_letters = take (whole.len - (m + k)) (drop (a.start + (m + k)) letters)

    abbrev back_cells : List Cell
    back_cells = typed_cells (head_after (m + k) (first_of whole)) back_letters ++ all_cells r.letters boundary.behind

    moved-count : length moved ≡ k
    moved-count = length-take-le k (drop (a.start + m) letters) (omega (arith, inside, whole-is.within, length-drop (a.start + m) letters))

    cells-before : all_cells r.letters (items m) ≡ front_cells ++ (typed_cells (head_after m (first_of whole)) moved ++ back_cells)
    cells-before =
        let A = all_cells r.letters boundary.before in
        let t = typed_cells (first_of a) (take m (drop a.start letters)) in
        let B = all_cells r.letters boundary.behind in
        let h = head_after m (first_of whole) in
        let n : (whole.len - m) - k ≡ whole.len - (m + k) = omega (arith, inside) in
        let j : (a.start + m) + k ≡ a.start + (m + k) = omega arith in
        let typed : typed_cells h (take (whole.len - m) (drop (a.start + m) letters)) ≡ typed_cells h moved ++ typed_cells (head_after (m + k) (first_of whole)) back_letters =
        ap (typed_cells h) (part-parts (a.start + m) k (whole.len - m) letters (omega (arith, inside)) ∙ (λ i. moved ++ take (n i) (drop (j i) letters)))
        ∙ typed-append h moved back_letters
        ∙ ap (λ q. typed_cells h moved ++ typed_cells q back_letters) (ap (λ c. head_after c h) moved-count ∙ behind-behind m k (first_of whole)) in
        cells-append r.letters boundary.before ((a.id, run_to m a) ∷ ((rest m).id, rest m) ∷ boundary.behind)
        ∙ ap (λ cs. A ++ (t ++ (cs ++ B))) typed
        ∙ ap (λ cs. A ++ (t ++ cs)) (append_assoc (typed_cells h moved) (typed_cells (head_after (m + k) (first_of whole)) back_letters) B)
        ∙ sym (append_assoc A t (typed_cells h moved ++ back_cells))

    cells-behind : all_cells r.letters (items (m + k)) ≡ front_cells ++ (typed_cells (head_after m (first_of a)) moved ++ back_cells)
    cells-behind =
        let A = all_cells r.letters boundary.before in
        let ls = take m (drop a.start letters) in
        let t = typed_cells (first_of a) ls in
        let n : length ls ≡ m = length-take-le m (drop a.start letters) (omega (arith, inside, whole-is.within, length-drop a.start letters)) in
        let d : (m + k) - m ≡ k = omega arith in
        let typed : typed_cells (first_of a) (take (m + k) (drop a.start letters)) ≡ t ++ typed_cells (head_after m (first_of a)) moved =
        ap (typed_cells (first_of a)) (part-parts a.start m (m + k) letters (omega arith) ∙ ap (λ q. ls ++ take q (drop (a.start + m) letters)) d)
        ∙ typed-append (first_of a) ls moved
        ∙ ap (λ q. t ++ typed_cells (head_after q (first_of a)) moved) n in
        cells-append r.letters boundary.before ((a.id, run_to (m + k) a) ∷ ((rest (m + k)).id, rest (m + k)) ∷ boundary.behind)
        ∙ ap (λ cs. A ++ (cs ++ back_cells)) typed
        ∙ ap (λ cs. A ++ cs) (append_assoc t (typed_cells (head_after m (first_of a)) moved) back_cells)
        ∙ sym (append_assoc A t (typed_cells (head_after m (first_of a)) moved ++ back_cells))

    -- in the first run they have its mark, and in the second that of the second
    marked-front : a.hidden ≡ true → head_after m (first_of a) ≡ record (head_after m (first_of whole)) { hidden = true }
    marked-front h = behind-marked m (first_of whole) a.hidden ∙ ap (λ t. record (head_after m (first_of whole)) { hidden = t }) h

    marked-back : b.hidden ≡ true → head_after m (first_of whole) ≡ record (head_after m (first_of a)) { hidden = true }
    marked-back h = behind-marked m (first_of a) b.hidden ∙ ap (λ t. record (head_after m (first_of a)) { hidden = t }) h

    pub takes-back : r.rope ≡ items m → a.hidden ≡ true → all_cells r.letters (items (m + k)) ≡ cells_hiding (head_after m (first_of whole)).id k (cells_in r)
    takes-back e h =
        cells-behind ∙ ap (λ q. front_cells ++ (typed_cells q moved ++ back_cells)) (marked-front h)
        ∙ sym (hides-typed moved (head_after m (first_of whole)) front_cells back_cells (cells_in r) s.distinct (ap (all_cells r.letters) e ∙ cells-before))
        ∙ ap (λ q. cells_hiding (head_after m (first_of whole)).id q (cells_in r)) moved-count

    pub takes-front : r.rope ≡ items (m + k) → b.hidden ≡ true → all_cells r.letters (items m) ≡ cells_hiding (head_after m (first_of a)).id k (cells_in r)
    takes-front e h =
        cells-before ∙ ap (λ q. front_cells ++ (typed_cells q moved ++ back_cells)) (marked-back h)
        ∙ sym (hides-typed moved (head_after m (first_of a)) front_cells back_cells (cells_in r) s.distinct (ap (all_cells r.letters) e ∙ cells-behind))
        ∙ ap (λ q. cells_hiding (head_after m (first_of a)).id q (cells_in r)) moved-count

  module _ (x : Identifier) (k n : ℕ) (move : IsMove a b n) where
    first-hidden : IsTakenFirst x k a b n → all_cells r.letters (items n) ≡ cells_hiding x k (cells_in r)
    first-hidden t =
        let i : a.len + k ≤ a.len + b.len = omega (arith, move.rest, t.at) in
        let e : (head_after a.len (first_of whole)).id ≡ x = sym (ap (λ (z : Run). z.id) boundary.passage) ∙ sym t.is in
        ap (λ q. all_cells r.letters (items q)) t.at ∙ takes-back a.len k i items-now t.hidden ∙ ap (λ q. cells_hiding q k (cells_in r)) e

    last-hidden : IsTakenLast x k a b n → all_cells r.letters (items n) ≡ cells_hiding x k (cells_in r)
    last-hidden t =
        let i : n + k ≤ a.len + b.len = omega (arith, t.at) in
        takes-front n k i (items-now ∙ ap items (sym t.at)) t.hidden ∙ ap (λ q. cells_hiding q k (cells_in r)) (sym t.is)

    pub taken-cells : IsTakenFirst x k a b n ⊎ IsTakenLast x k a b n → all_cells r.letters (boundary_shifted n a b r.rope) ≡ cells_hiding x k (cells_in r)
    taken-cells taken = ap (all_cells r.letters) (shifted-is n move) ∙ elim taken [
      | inl t ↦ first-hidden t
      | inr t ↦ last-hidden t
    ]

    pub taken-sound : IsTakenFirst x k a b n ⊎ IsTakenLast x k a b n → AreRuns (shifted_runs n move)
    taken-sound taken = marked-sound r s x k (shifted_runs n move) refl refl (shifted-each n move) (taken-cells taken)

  -- where the second run is this one, which has more than k cells, and the first one is hidden
  pub hides-first : (run : Run) (k n : ℕ) → value_under run.id r.rope ≡ Some run → 0 < k → k < run.len → b.id ≡ run.id → a.hidden ≡ true → n ≡ a.len + k
      → IsHiding r.rope run.id k a b n
  hides-first run k n v some more same h at =
      let e : Some b ≡ Some run = sym back-held ∙ ap (λ q. value_under q r.rope) same ∙ v in
      let f : b ≡ run = cc in
      let l = ap (λ (z : Run). z.len) f in
      record {
        boundary = boundary;
        move = record { some = omega (arith, at, some); rest = omega (arith, at, more, l); other = λ o. omega (arith, at, o, some) };
        taken = inl (record { hidden = h; at = at; is = sym same });
      }

  pub hides-last : (k : ℕ) → 0 < k → k < a.len → b.hidden ≡ true → IsHiding r.rope (head_after (a.len - k) (first_of a)).id k a b (a.len - k)
  hides-last k some more h = record {
    boundary = boundary;
    move = record { some = omega (arith, more); rest = omega (arith, some, more); other = λ o. omega (arith, o, some, more) };
    taken = inr (record { hidden = h; at = omega (arith, more); is = refl });
  }
