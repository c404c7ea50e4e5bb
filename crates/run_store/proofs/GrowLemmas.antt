-- Stretches that grow, and what stands in them.
use Rattle.std.proofs.Common.{◌≡◌, ℕ, zero, suc, ◌+◌, ◌<◌, ◌≤◌, List, [], ◌∷◌, ◌++◌, ap, append-nil, arith, length, length-append, length-drop, refl, sym, take, drop, ◌∙◌}
use Rattle.std.specs.Prelude.{slice_index_or, slice_set}
use Rattle.std.specs.List.{All}
use Rattle.std.proofs.lemmas.List.{drop-append-le, length-set, length-take-le, take_all}
use Rattle.std.proofs.lemmas.List.Elements.{All-head, All-tail, All-cons, All-nil}
use Rattle.run_store.specs.Growth.{AreGrown, HasMoreLetters}
use Rattle.run_store.specs.Heads.{typed_cells}
use Rattle.run_store.specs.Runs.{IsRun, all_cells, first_of, letters_of}
use Rattle.run_store.specs.declared.run.Run.{Run}
use Rattle.run_store.proofs.PartLemmas.{part-front}
use Rattle.run_store.proofs.RunsLemmas.{Item}

-- a new stretch
pub grown-more : (L : List (List ℕ)) (new : List ℕ) → AreGrown L (L ++ new ∷ [])
grown-more [] new zero = (new, refl)
grown-more [] new (suc s) = ([], refl)
grown-more (l ∷ L) new zero = ([], sym (append-nil l))
grown-more (l ∷ L) new (suc s) = grown-more L new s

-- the new stretch
pub new-stretch : (L : List (List ℕ)) (new : List ℕ) → slice_index_or (L ++ new ∷ []) (length L) [] ≡ new
new-stretch [] new = refl
new-stretch (l ∷ L) new = new-stretch L new

-- more letters in one
pub grown-set : (L : List (List ℕ)) (i : ℕ) (more : List ℕ) → AreGrown L (slice_set L i (slice_index_or L i [] ++ more))
grown-set [] i more s = ([], sym (append-nil (slice_index_or [] s [])))
grown-set (l ∷ L) zero more zero = (more, refl)
grown-set (l ∷ L) zero more (suc s) = ([], sym (append-nil (slice_index_or L s [])))
grown-set (l ∷ L) (suc i) more zero = ([], sym (append-nil l))
grown-set (l ∷ L) (suc i) more (suc s) = grown-set L i more s

pub set-stretch : (L : List (List ℕ)) (i : ℕ) (new : List ℕ) → i < length L → slice_index_or (slice_set L i new) i [] ≡ new
set-stretch [] i new l = absurd (omega (arith, l))
set-stretch (x ∷ L) zero new l = refl
set-stretch (x ∷ L) (suc i) new l = set-stretch L i new (omega (arith, l))

-- where letters come to one, the first one is as it was or has these letters more
set-first : (L : List (List ℕ)) (i : ℕ) (more : List ℕ)
    → length (slice_index_or (slice_set L i (slice_index_or L i [] ++ more)) 0 []) ≤ length (slice_index_or L 0 []) + length more
set-first [] i more = omega arith
set-first (l ∷ L) zero more = omega (arith, length-append l more)
set-first (l ∷ L) (suc i) more = omega arith

-- a new stretch is not the first one, where there is one
first-kept : (L : List (List ℕ)) (new : List ℕ) → 0 < length L → slice_index_or (L ++ new ∷ []) 0 [] ≡ slice_index_or L 0 []
first-kept [] new l = absurd (omega (arith, l))
first-kept (l ∷ L) new some = refl

-- a stretch with letters is one of those
pub stretch-there : (L : List (List ℕ)) (i : ℕ) → 0 < length (slice_index_or L i []) → i < length L
stretch-there [] i l = absurd (omega (arith, l))
stretch-there (x ∷ L) zero l = omega arith
stretch-there (x ∷ L) (suc i) l = omega (arith, stretch-there L i l)

module _ (L M : List (List ℕ)) (g : AreGrown L M) (n m : ℕ) (le : n ≤ m) where
  -- runs have their letters still
  pub grown-letters : (x : Item) → IsRun L n x → letters_of M x.1 ≡ letters_of L x.1
  grown-letters x r =
      ap (λ xs. take x.1.len (drop x.1.start xs)) (g x.1.stretch).1 ∙ part-front x.1.start x.1.len (slice_index_or L x.1.stretch []) (g x.1.stretch).0 r.within

  pub grown-run : (x : Item) → IsRun L n x → IsRun M m x
  grown-run x r = record {
    named = r.named;
    some = r.some;
    within = omega (arith, r.within, ap length (g x.1.stretch).1, length-append (slice_index_or L x.1.stretch []) (g x.1.stretch).0);
    counters = r.counters;
    ends = omega (arith, r.ends, le);
    deep = r.deep;
    depths = omega (arith, r.depths, le);
    forests = omega (arith, r.forests, le);
  }

  pub grown-runs : (xs : List Item) → All (IsRun L n) xs → All (IsRun M m) xs
  grown-runs [] a = All-nil (IsRun M m)
  grown-runs (x ∷ xs) a = All-cons (IsRun M m) x xs (grown-run x (All-head (IsRun L n) x xs a)) (grown-runs xs (All-tail (IsRun L n) x xs a))

  pub grown-cells : (xs : List Item) → All (IsRun L n) xs → all_cells M xs ≡ all_cells L xs
  grown-cells [] a = refl
  grown-cells (x ∷ xs) a =
      λ i. typed_cells (first_of x.1) (grown-letters x (All-head (IsRun L n) x xs a) i) ++ grown-cells xs (All-tail (IsRun L n) x xs a) i

-- a part of a list whose end is the part's, with more after
pub part-longer : {X : Type 0} (start n : ℕ) (xs more : List X) → start + n ≡ length xs → take (n + length more) (drop start (xs ++ more)) ≡ take n (drop start xs) ++ more
part-longer start n xs more e =
    let l : length (drop start xs) ≡ n = omega (arith, e, length-drop start xs) in
    ap (take (n + length more)) (drop-append-le start xs more (omega (arith, e)))
    ∙ take_all (n + length more) (drop start xs ++ more) (omega (arith, l, length-append (drop start xs) more))
    ∙ ap (λ ys. ys ++ more) (sym (take_all n (drop start xs) (omega (arith, l))))

pub longer-pushed : (L : List (List ℕ)) (run : Run) (text : List ℕ) → 0 < run.len → run.start + run.len ≡ length (slice_index_or L run.stretch [])
    → HasMoreLetters L (slice_set L run.stretch (slice_index_or L run.stretch [] ++ text)) run text (record run { len = run.len + length text })
longer-pushed L run text some e =
    let old = slice_index_or L run.stretch [] in
    let there = stretch-there L run.stretch (omega (arith, some, e)) in
    let now = set-stretch L run.stretch (old ++ text) there in
    record {
      same = refl;
      grown = grown-set L run.stretch text;
      letters = ap (λ xs. take (run.len + length text) (drop run.start xs)) now ∙ part-longer run.start run.len old text e;
      within = omega (arith, e, ap length now, length-append old text);
      begin = omega arith;
      few = λ count ends are. record {
        first = omega (arith, are.first, length-set L run.stretch (old ++ text));
        shared = omega (arith, are.shared, set-first L run.stretch text);
        others = omega (arith, are.others, length-set L run.stretch (old ++ text));
      };
    }

pub longer-copied : (L : List (List ℕ)) (run : Run) (text : List ℕ) (n : ℕ) → 0 < length text → n ≡ length L → run.start + run.len ≤ length (slice_index_or L run.stretch [])
    → HasMoreLetters L (L ++ (letters_of L run ++ text) ∷ []) run text (record run { stretch = n; start = 0; len = run.len + length text })
longer-copied L run text n some is within =
    let new = letters_of L run ++ text in
    let now = ap (λ k. slice_index_or (L ++ new ∷ []) k []) is ∙ new-stretch L new in
    let old = slice_index_or L run.stretch [] in
    let l : length (letters_of L run) ≡ run.len = length-take-le run.len (drop run.start old) (omega (arith, within, length-drop run.start old)) in
    let m : length new ≡ run.len + length text = omega (arith, l, length-append (letters_of L run) text) in
    record {
      same = refl;
      grown = grown-more L new;
      letters = ap (λ xs. take (run.len + length text) xs) now ∙ take_all (run.len + length text) new (omega (arith, m));
      within = omega (arith, m, ap length now);
      begin = omega arith;
      few = λ count ends are. record {
        first = omega (arith, length-append L (new ∷ []));
        shared = omega (arith, are.shared, ap length (first-kept L new are.first));
        others = omega (arith, are.others, length-append L (new ∷ []), some);
      };
    }
