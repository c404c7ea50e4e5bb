-- The parts of a list of operations are its entries.
use Rattle.std.proofs.Common.{◌≡◌, ℕ, zero, suc, ◌+◌, ◌<◌, ◌⊎◌, Bool, true, false, List, [], ◌∷◌, ◌++◌, length, take, drop, get_or, refl, ap, sym, subst, ◌∙◌, arith, inl, inr}
use Rattle.std.proofs.Common.{length-append, length-drop}
use Rattle.std.specs.Prelude.{Option, Some, None, All, flat_map, map, slice_get, option_map}
use Rattle.std.proofs.lemmas.Bool.{cases_lt}
use Rattle.std.proofs.lemmas.List.{get_or_default, length-take-le}
use Rattle.std.proofs.lemmas.List.Elements.{All-cons, All-get_or, All-head, All-nil, All-tail}
use Rattle.std.proofs.lemmas.Option.{slice_get-get_or}
use Rattle.fugue_ids.specs.Identifiers.{Identifier}
use Rattle.fugue_ids.specs.Ops.{target_of}
use Rattle.fugue_ids.specs.Runs.{run_from, start_after, text_by}
use Rattle.fugue_ids.specs.declared.op.Op.{Op}
use Rattle.fugue_ids.specs.declared.op.Op.TheVariants.{Delete}
use Rattle.fugue_ids.specs.declared.run.RunStart.{RunStart}
use Rattle.fugue_ids.proofs.RunLemmas.{length-typed, none_after}
use Rattle.op_runs.specs.Deletions.{CountersFit, deletes_by, target_by}
use Rattle.op_runs.specs.Entries.{Alone, AreMaximal, Entry, IsSoundEntry, IsPartedIn, Neighbours, Run, entry_ops}
use Rattle.op_runs.specs.Parts.{AreApart, AreParts, ContinuesPart, IsOther, IsSoundPart, ops_of, other_ops, part_len, part_ops}
use Rattle.op_runs.specs.declared.part.Deletes.{Deletes}
use Rattle.op_runs.specs.declared.part.Part.{Part}
use Rattle.op_runs.specs.declared.part.Part.TheVariants.{Deleted, Other, Typed}
use Rattle.op_runs.specs.declared.part.TypedPart.{TypedPart}
use Rattle.op_runs.proofs.DeletionLemmas.{length-deletes, none_before}
use Rattle.op_runs.proofs.FindLemmas.{delete_at, letter_at, typed_at}
use Rattle.op_runs.proofs.PartLemmas.{has_some, part_has, sound_of}
use Rattle.op_runs.proofs.RepeatLemmas.{part_never}
use Rattle.fugue_ids.proofs.ListLemmas.{slice_get-append}

other_entry : Option Op → Entry
other_entry None = Neighbours false (record { replica = 0; counter = 0 }) 0
other_entry (Some op) = Alone op

-- the entry that a part is
entry_of : List ℕ → List Op → Part → Entry
entry_of letters others (Typed r) = Run r.start (take r.count (drop r.at letters))
entry_of letters others (Deleted d) = Neighbours d.down d.target d.count
entry_of letters others (Other k) = other_entry (slice_get others k)

other_is : (o : Option Op) → entry_ops (other_entry o) ≡ other_ops o
unfolding other_entry
other_is None = refl
other_is (Some op) = refl

entry_is : (letters : List ℕ) (others : List Op) (p : Part) → entry_ops (entry_of letters others p) ≡ part_ops letters others p
unfolding entry_of
entry_is letters others (Typed r) = refl
entry_is letters others (Deleted d) = refl
entry_is letters others (Other k) = other_is (slice_get others k)

-- What stands at a place of a part

text_not_delete : (s : RunStart) (ch : ℕ) (t : Identifier) → Some (text_by s ch) ≡ Some (Delete t) → ⊥
text_not_delete s ch t e = cc e

same_target : (t u : Identifier) → Some (Delete t) ≡ Some (Delete u) → t ≡ u
same_target t u e = cc e

-- a Delete stands in Deletes of neighbours alone
deletes_alone : (letters : List ℕ) (others : List Op) (p : Part) (j : ℕ) (t : Identifier) → IsSoundPart (length letters) (length others) p → j < part_len p → All IsOther others
    → slice_get (part_ops letters others p) j ≡ Some (Delete t) → (d : Deletes) × (p ≡ Deleted d) × (target_by d.down d.target j ≡ t)
deletes_alone letters others (Typed r) j t s inside other e =
    let c : ℕ = get_or letters (r.at + j) 0 in
    absurd (text_not_delete (start_after r.start j) c t (letter_at letters r j c s.1 inside (get_or_default letters (r.at + j) 0 c (omega (arith, s.1, inside))) ∙ e))
deletes_alone letters others (Deleted d) j t s inside other e = (d, refl, same_target (target_by d.down d.target j) t (delete_at d.down d.target d.count j inside ∙ e))
deletes_alone letters others (Other k) j t s inside other e =
    let op : Op = get_or others k (Delete t) in
    let is : op ≡ Delete t = same_op (sym (slice_get-get_or others k (Delete t) s.1) ∙ first (slice_get others k) j inside e) in
    absurd (never (sym (ap target_of is) ∙ (All-get_or IsOther others k (Delete t) s.1 other).1))
  where
    same_op : {a b : Op} → Some a ≡ Some b → a ≡ b
    same_op z = cc z

    first : (o : Option Op) (j : ℕ) → j < 1 → slice_get (other_ops o) j ≡ Some (Delete t) → o ≡ Some (Delete t)
    first None zero h z = absurd (none_here z)
      where
        none_here : None ≡ Some (Delete t) → ⊥
        none_here z = cc z
    first None (suc j) h z = absurd (omega (arith, h))
    first (Some op) zero h z = z
    first (Some op) (suc j) h z = absurd (omega (arith, h))

    never : Some t ≡ None → ⊥
    never z = cc z

slice_get-seam : (xs : List Op) (x : Op) → slice_get (xs ++ x ∷ []) (length xs) ≡ Some x
slice_get-seam [] x = refl
slice_get-seam (y ∷ ys) x = slice_get-seam ys x

pub start_same : (s : RunStart) → start_after s 0 ≡ s
start_same s = λ i. record { id = none_after s.id i; section = s.section; left = s.left; right = s.right }

target_same : (down : Bool) (t : Identifier) → target_by down t 0 ≡ t
target_same true t = none_before t
target_same false t = none_after t

-- a target has one neighbour on each side
one_way : (a b : Bool) (t : Identifier) → target_by a t 1 ≡ target_by b t 1 → a ≡ b
one_way true true t e = refl
one_way true false t e = absurd (omega (arith, ap (λ (i : Identifier). i.counter) e))
one_way false true t e = absurd (omega (arith, ap (λ (i : Identifier). i.counter) e))
one_way false false t e = refl

-- No entry has a part's operations and the first of the next
module _ (letters : List ℕ) (others : List Op) (p q : Part) (sp : IsSoundPart (length letters) (length others) p) (sq : IsSoundPart (length letters) (length others) q)
    (other : All IsOther others) (apart : ContinuesPart p q → ⊥)
    (op : Op) (rest : List Op) (first : part_ops letters others q ≡ op ∷ rest) where
  n_is : length (part_ops letters others p) ≡ part_len p
  n_is = part_has letters others p sp

  some_p : 0 < part_len p
  some_p = has_some (length letters) (length others) p sp

  some_q : 0 < part_len q
  some_q = has_some (length letters) (length others) q sq

  module _ (xs : List Op) (is : xs ≡ part_ops letters others p ++ op ∷ []) where
    xs_len : length xs ≡ part_len p + 1
    xs_len = omega (arith, ap length is, length-append (part_ops letters others p) (op ∷ []), n_is)

    xs_old : (j : ℕ) → j < part_len p → slice_get xs j ≡ slice_get (part_ops letters others p) j
    xs_old j h = ap (λ z. slice_get z j) is ∙ slice_get-append (part_ops letters others p) (op ∷ []) j (omega (arith, h, n_is))

    xs_new : slice_get xs (part_len p) ≡ slice_get (part_ops letters others q) 0
    xs_new = (λ i. slice_get (is i) (sym n_is i)) ∙ slice_get-seam (part_ops letters others p) op ∙ sym (ap (λ z. slice_get z 0) first)

  run_at : (s : RunStart) (u : List ℕ) (j : ℕ) → j < length u → slice_get (run_from s u) j ≡ Some (text_by (start_after s j) (get_or u j 0))
  run_at s u j h = typed_at s u j ∙ ap (option_map (text_by (start_after s j))) (slice_get-get_or u j 0 h)

  no_run : (s : RunStart) (u : List ℕ) → run_from s u ≡ part_ops letters others p ++ op ∷ [] → ⊥
  no_run s u is =
      let len : length u ≡ part_len p + 1 = sym (length-typed s.id s.section s.left s.right u) ∙ xs_len (run_from s u) is in
      part_never letters others p 0 (start_after s 0) sp some_p other
      (λ r e begins. ends r e (sym (start_same s) ∙ begins ∙ start_same r.start) len) (get_or u 0 0)
      (sym (xs_old (run_from s u) is 0 some_p) ∙ run_at s u 0 (omega (arith, len)))
    where
      begun : (r t : TypedPart) → start_after r.start r.count ≡ start_after t.start 0 → t.start ≡ start_after r.start r.count
      begun r t e = sym (e ∙ start_same t.start)

      ends : (r : TypedPart) → p ≡ Typed r → s ≡ r.start → length u ≡ part_len p + 1 → ⊥
      ends r e begins len =
          let count : part_len p ≡ r.count = ap part_len e in
          let next : start_after s (part_len p) ≡ start_after r.start r.count = λ i. start_after (begins i) (count i) in
          part_never letters others q 0 (start_after r.start r.count) sq some_q other
          (λ t k starts. apart (subst (λ a. ContinuesPart a q) (sym e) (subst (ContinuesPart (Typed r)) (sym k) (begun r t starts)))) (get_or u (part_len p) 0)
          (sym (xs_new (run_from s u) is) ∙ run_at s u (part_len p) (omega (arith, len)) ∙ ap (λ z. Some (text_by z (get_or u (part_len p) 0))) next)

  no_neighbours : (b : Bool) (t : Identifier) (m : ℕ) → CountersFit b t m → deletes_by b t m ≡ part_ops letters others p ++ op ∷ [] → ⊥
  no_neighbours b t m fits is =
      let len : m ≡ part_len p + 1 = sym (length-deletes b t m) ∙ xs_len (deletes_by b t m) is in
      let d = deletes_alone letters others p 0 (target_by b t 0) sp some_p other (sym (xs_old (deletes_by b t m) is 0 some_p) ∙ sym (delete_at b t m 0 (omega (arith, len)))) in
      let e = deletes_alone letters others q 0 (target_by b t (part_len p)) sq some_q other
      (sym (xs_new (deletes_by b t m) is) ∙ sym (delete_at b t m (part_len p) (omega (arith, len)))) in
      let begins : d.0.target ≡ t = sym (target_same d.0.down d.0.target) ∙ d.2 ∙ target_same b t in
      let count : part_len p ≡ d.0.count = ap part_len d.1 in
      let next : e.0.target ≡ target_by b d.0.target d.0.count = sym (target_same e.0.down e.0.target) ∙ e.2 ∙ (λ i. target_by b (sym begins i) (count i)) in
      apart (subst (λ z. ContinuesPart z q) (sym d.1)
      (subst (ContinuesPart (Deleted d.0)) (sym e.1)
      (goes d.0 e.0 (way d.0 d.1 begins len) next (subst (λ z. CountersFit b z m) (sym begins) fits) (omega (arith, len, count)))))
    where
      way : (d : Deletes) → p ≡ Deleted d → d.target ≡ t → m ≡ part_len p + 1 → (d.count ≡ 1) ⊎ (d.down ≡ b)
      way d e begins len = elim (cases_lt 1 (part_len p)) [
        | inr one ↦ inl (omega (arith, one, some_p, ap part_len e))
        | inl more ↦ (
            let second = deletes_alone letters others p 1 (target_by b t 1) sp more other
            (sym (xs_old (deletes_by b t m) is 1 more) ∙ sym (delete_at b t m 1 (omega (arith, len)))) in
            let same : second.0 ≡ d = same_deletes (sym second.1 ∙ e) in
            inr (one_way d.down b t ((λ i. target_by d.down (sym begins i) 1) ∙ ap (λ (z : Deletes). target_by z.down z.target 1) (sym same) ∙ second.2))
            )
      ]
        where
          same_deletes : {x y : Deletes} → Deleted x ≡ Deleted y → x ≡ y
          same_deletes z = cc z

      goes : (d e : Deletes) → (d.count ≡ 1) ⊎ (d.down ≡ b) → e.target ≡ target_by b d.target d.count → CountersFit b d.target m → m ≡ d.count + 1
          → ContinuesPart (Deleted d) (Deleted e)
      goes = by_way b
        where
          by_way : (b : Bool) (d e : Deletes) → (d.count ≡ 1) ⊎ (d.down ≡ b) → e.target ≡ target_by b d.target d.count → CountersFit b d.target m → m ≡ d.count + 1
              → ContinuesPart (Deleted d) (Deleted e)
          by_way false d e w next fits len = inl (w, next)
          by_way true d e w next fits len =
              let back : d.target.counter ≡ e.target.counter + d.count = omega (arith, fits, len, ap (λ (i : Identifier). i.counter) next) in
              inr (w, λ i. record { replica = sym (ap (λ (z : Identifier). z.replica) next) i; counter = back i })

  pub none_longer : (more : Entry) → IsSoundEntry more → entry_ops more ≡ part_ops letters others p ++ op ∷ [] → ⊥
  none_longer (Run s u) entry is = no_run s u is
  none_longer (Neighbours b t m) entry is = no_neighbours b t m entry.1 is
  none_longer (Alone x) entry is = omega (arith, xs_len (x ∷ []) is, some_p)

-- The parts are entries, each as long as can be

other_is_entry : (letters : List ℕ) (others : List Op) (k : ℕ) → k < length others → IsSoundEntry (other_entry (slice_get others k))
unfolding other_entry
other_is_entry letters [] k h = absurd (omega (arith, h))
other_is_entry letters (op ∷ others) zero h = tt
other_is_entry letters (op ∷ others) (suc k) h = other_is_entry letters others k (omega (arith, h))

part_is_entry : (letters : List ℕ) (others : List Op) (p : Part) → IsSoundPart (length letters) (length others) p → IsSoundEntry (entry_of letters others p)
unfolding entry_of
part_is_entry letters others (Typed r) s = omega (arith, s.0.0, length-take-le r.count (drop r.at letters) (omega (arith, length-drop r.at letters, s.1)))
part_is_entry letters others (Deleted d) s = s.0
part_is_entry letters others (Other k) s = other_is_entry letters others k s.1

all_entries : (letters : List ℕ) (others : List Op) (ps : List Part) → All (IsSoundPart (length letters) (length others)) ps → All IsSoundEntry (map (entry_of letters others) ps)
all_entries letters others [] s = All-nil IsSoundEntry
all_entries letters others (p ∷ ps) s =
    let P = IsSoundPart (length letters) (length others) in
    All-cons IsSoundEntry (entry_of letters others p) (map (entry_of letters others) ps) (part_is_entry letters others p (All-head P p ps s))
    (all_entries letters others ps (All-tail P p ps s))

all_ops : (letters : List ℕ) (others : List Op) (ps : List Part) → ops_of letters others ps ≡ flat_map entry_ops (map (entry_of letters others) ps)
all_ops letters others [] = refl
all_ops letters others (p ∷ ps) = λ i. sym (entry_is letters others p) i ++ all_ops letters others ps i

all_longest : (letters : List ℕ) (others : List Op) (ps : List Part) → All (IsSoundPart (length letters) (length others)) ps → All IsOther others → AreApart ps
    → AreMaximal (map (entry_of letters others) ps)
all_longest letters others [] s other a = tt
all_longest letters others (p ∷ []) s other a = (tt, tt)
all_longest letters others (p ∷ q ∷ qs) s other a =
    let P = IsSoundPart (length letters) (length others) in
    let rest = All-tail P p (q ∷ qs) s in (
      λ more op behind entry next is. none_longer letters others p q (All-head P p (q ∷ qs) s) (All-head P q qs rest) other a.0 op behind
          (sym (entry_is letters others q) ∙ next) more entry
          (is ∙ ap (λ z. z ++ op ∷ []) (entry_is letters others p)),
      all_longest letters others (q ∷ qs) rest other a.1,
    )

map_len : (letters : List ℕ) (others : List Op) (ps : List Part) → length ps ≡ length (map (entry_of letters others) ps)
map_len letters others [] = refl
map_len letters others (p ∷ ps) = ap suc (map_len letters others ps)

pub parts_are : (letters : List ℕ) (others : List Op) (ps : List Part) (fs : List ℕ) (n : ℕ) → AreParts letters others ps fs n → IsPartedIn (ops_of letters others ps) (length ps)
parts_are letters others ps fs n a =
    let s = sound_of letters others ps fs n a in
    record {
      found = map (entry_of letters others) ps;
      are_entries = all_entries letters others ps s;
      ops_are = all_ops letters others ps;
      longest = all_longest letters others ps s a.are_others a.apart;
      counted = map_len letters others ps;
    }
