-- What is left of a list of operations where some go at its end.
use Rattle.std.proofs.Common.{◌≡◌, ℕ, ◌+◌, ◌-◌, ◌<◌, ◌≤◌, Bool, true, false, List, [], ◌∷◌, ◌++◌, length, take, drop, get_or, suc, refl, ap, sym, subst, ◌∙◌, arith, inl, inr}
use Rattle.std.proofs.Common.{append_assoc, length-append, length-drop}
use Rattle.std.specs.Prelude.{All, Option, Some, slice_get}
use Rattle.std.proofs.lemmas.List.{drop_all, drop-take, length-take-le, take-append-drop, take-take, take_all}
use Rattle.std.proofs.lemmas.List.Elements.{All-append, All-cons, All-head, All-nil, All-tail, All-take}
use Rattle.std.proofs.Math.Seq.{drop-cons, take-append_seam}
use Rattle.fugue_ids.specs.Runs.{run_from, start_after}
use Rattle.fugue_ids.specs.declared.op.Op.{Op}
use Rattle.fugue_ids.specs.declared.op.Op.TheVariants.{Delete}
use Rattle.fugue_ids.proofs.ListLemmas.{all_before, all_after}
use Rattle.fugue_ids.proofs.RunLemmas.{length-typed, run_parted}
use Rattle.op_runs.specs.Deletions.{CountersFit, deletes_by, target_by}
use Rattle.op_runs.specs.Growing.{IsLastPart, TakesOffLast, letters_of_part, part_front}
use Rattle.op_runs.specs.Parts.{AreLaid, AreParts, ContinuesPart, IsOther, IsSoundPart, IsWholePart, PartStandsAfter, firsts_of, letters_in, ops_of, other_ops, others_in}
use Rattle.op_runs.specs.Parts.{part_len, part_ops}
use Rattle.op_runs.specs.declared.part.Deletes.{Deletes}
use Rattle.op_runs.specs.declared.part.Part.{Part}
use Rattle.op_runs.specs.declared.part.Part.TheVariants.{Deleted, Other, Typed}
use Rattle.op_runs.specs.declared.part.TypedPart.{TypedPart}
use Rattle.op_runs.proofs.DeletionLemmas.{deletes-append, length-deletes}
use Rattle.op_runs.proofs.PartLemmas.{IsLaidLast, apart-front, apart-other, firsts_last, firsts_push, has_some, laid-last, laid-push, laid_sound, one_more, ops_stay, part_has}
use Rattle.op_runs.proofs.PartLemmas.{sound_of}

-- the front of a list of operations stays
pub record IsPopped (l : List ℕ) (o : List Op) (ps : List Part) (fs : List ℕ) (n : ℕ) (old : List Op) (count : ℕ) : Type 0 where
  pub are : AreParts l o ps fs (n - count)
  pub ops : ops_of l o ps ≡ take (length old - count) old

-- a front of the operations, where so many stand after it
front_taken : (front rest : List Op) (n : ℕ) → length rest ≡ n → take (length (front ++ rest) - n) (front ++ rest) ≡ front
front_taken front rest n e =
    let len : length (front ++ rest) - n ≡ length front = omega (arith, e, length-append front rest) in
    ap (λ k. take k (front ++ rest)) len ∙ take-append_seam front rest

module _ (l : List ℕ) (o : List Op) (front : List Part) (last : Part) (fs : List ℕ) (n : ℕ) (a : AreParts l o (front ++ last ∷ []) fs n) where
  abbrev at : IsLaidLast 0 0 front last (length l) (length o)
  at = laid-last 0 0 front last (length l) (length o) a.laid

  abbrev P : Part → Type 0
  P = IsSoundPart (length l) (length o)

  whole_front : All IsWholePart front
  whole_front = all_before IsWholePart front (last ∷ []) a.whole

  pub last_whole : IsWholePart last
  last_whole = All-head IsWholePart last [] (all_after IsWholePart front (last ∷ []) a.whole)

  last_sound : P last
  last_sound = All-head P last [] (all_after P front (last ∷ []) (sound_of l o (front ++ last ∷ []) fs n a))

  last_len : length (part_ops l o last) ≡ part_len last
  last_len = part_has l o last last_sound

  all_ops : ops_of l o (front ++ last ∷ []) ≡ ops_of l o front ++ part_ops l o last
  all_ops = one_more l o front last

  count_is : n ≡ length (ops_of l o front) + part_len last
  count_is = omega (arith, a.counted, ap length all_ops, length-append (ops_of l o front) (part_ops l o last), last_len)

  -- the front of the parts needs fewer letters and others
  module _ (m k : ℕ) (letters : at.letters ≤ m) (others : at.others ≤ k) (m_in : m ≤ length l) (k_in : k ≤ length o) where
    abbrev l' : List ℕ
    l' = take m l

    abbrev o' : List Op
    o' = take k o

    len_l : length l' ≡ m
    len_l = length-take-le m l m_in

    len_o : length o' ≡ k
    len_o = length-take-le k o k_in

    front_ops : ops_of l' o' front ≡ ops_of l o front
    front_ops = sym ((λ i. ops_of (sym (take-append-drop m l) i) (sym (take-append-drop k o) i) front)
        ∙ ops_stay l' (drop m l) o' (drop k o) front (inside front (laid_sound 0 0 front at.letters at.others whole_front at.laid)))
      where
        one : (p : Part) → IsSoundPart at.letters at.others p → IsSoundPart (length l') (length o') p
        one (Typed r) s = (s.0, omega (arith, s.1, letters, len_l))
        one (Deleted d) s = s
        one (Other j) s = (s.0, omega (arith, s.1, others, len_o))

        inside : (ps : List Part) → All (IsSoundPart at.letters at.others) ps → All (IsSoundPart (length l') (length o')) ps
        inside [] s = All-nil (IsSoundPart (length l') (length o'))
        inside (p ∷ ps) s = All-cons (IsSoundPart (length l') (length o')) p ps (one p (All-head (IsSoundPart at.letters at.others) p ps s))
            (inside ps (All-tail (IsSoundPart at.letters at.others) p ps s))

  -- the last part goes whole
  pub dropped : (fs' : List ℕ) → fs' ≡ take (length fs - 1) fs
      → IsPopped (take (length l - letters_in last) l) (take (length o - others_in last) o) front fs' n (ops_of l o (front ++ last ∷ [])) (part_len last)
  dropped fs' e =
      let m : length l - letters_in last ≡ at.letters = omega (arith, at.letters_end) in
      let k : length o - others_in last ≡ at.others = omega (arith, at.others_end) in
      subst (λ z. IsPopped (take z l) (take (length o - others_in last) o) front fs' n (ops_of l o (front ++ last ∷ [])) (part_len last)) (sym m)
      (subst (λ z. IsPopped (take at.letters l) (take z o) front fs' n (ops_of l o (front ++ last ∷ [])) (part_len last)) (sym k) (here fs' e))
    where
      here : (fs' : List ℕ) → fs' ≡ take (length fs - 1) fs → IsPopped (take at.letters l) (take at.others o) front fs' n (ops_of l o (front ++ last ∷ [])) (part_len last)
      here fs' e =
          let ml : at.letters ≤ length l = omega (arith, at.letters_end) in
          let ko : at.others ≤ length o = omega (arith, at.others_end) in
          let le : length (take at.letters l) ≡ at.letters = length-take-le at.letters l ml in
          let oe : length (take at.others o) ≡ at.others = length-take-le at.others o ko in
          let same = front_ops at.letters at.others (omega arith) (omega arith) ml ko in
          let pushed : fs ≡ firsts_of 0 front ++ (0 + length (ops_of l o front)) ∷ [] =
          a.firsts_are ∙ firsts_push l o 0 front last (all_before P front (last ∷ []) (sound_of l o (front ++ last ∷ []) fs n a)) in
          let firsts : fs' ≡ firsts_of 0 front = e ∙ (λ i. take (length (pushed i) - 1) (pushed i)) ∙ front_taken_of (firsts_of 0 front) (0 + length (ops_of l o front)) in
          record {
            are = record {
              whole = whole_front;
              laid = subst (λ z. AreLaid 0 0 front z (length (take at.others o))) (sym le) (subst (λ z. AreLaid 0 0 front at.letters z) (sym oe) at.laid);
              apart = apart-front front last a.apart;
              are_others = All-take IsOther at.others o a.are_others;
              firsts_are = firsts;
              counted = omega (arith, count_is, ap length same);
              small = omega (arith, a.small);
            };
            ops = same ∙ sym (ap (λ z. take (length z - part_len last) z) all_ops ∙ front_taken (ops_of l o front) (part_ops l o last) (part_len last) last_len);
          }
        where
          front_taken_of : (xs : List ℕ) (x : ℕ) → take (length (xs ++ x ∷ []) - 1) (xs ++ x ∷ []) ≡ xs
          front_taken_of xs x = let len : length (xs ++ x ∷ []) - 1 ≡ length xs =
              omega (arith, length-append xs (x ∷ [])) in ap (λ k. take k (xs ++ x ∷ [])) len ∙ take-append_seam xs (x ∷ [])

-- A part that has fewer operations

pub record IsShortened (l : List ℕ) (o : List Op) (m : ℕ) (last p : Part) (count : ℕ) : Type 0 where
  pub whole : IsWholePart p
  pub stands : (a b : ℕ) → PartStandsAfter a b last → PartStandsAfter a b p
  pub goes : (before : Part) → ContinuesPart before p → ContinuesPart before last
  pub letters : m + letters_in last ≡ length l + letters_in p
  pub others : others_in p ≡ others_in last
  pub rest : List Op
  pub ops : part_ops l o last ≡ part_ops (take m l) o p ++ rest
  pub rest_len : length rest ≡ count
  pub len : part_len p + count ≡ part_len last

run_shortened : (l : List ℕ) (o : List Op) (r : TypedPart) (count : ℕ) → IsWholePart (Typed r) → r.at + r.count ≡ length l → 0 < count → count < r.count
    → IsShortened l o (length l - count) (Typed r) (part_front (Typed r) (r.count - count)) count
run_shortened l o r count w ends some less =
    let k : ℕ = r.count - count in
    let s = r.start in
    let text : List ℕ = take r.count (drop r.at l) in
    let len : length text ≡ r.count = length-take-le r.count (drop r.at l) (omega (arith, ends, length-drop r.at l)) in
    let m : length l - count ≡ r.at + k = omega (arith, ends, less) in
    let front : take k (drop r.at (take (length l - count) l)) ≡ take k text =
    ap (λ z. take k (drop r.at (take z l))) m ∙ ap (take k) (drop-take r.at k l) ∙ take-take k k (drop r.at l) (omega arith)
    ∙ sym (take-take k r.count (drop r.at l) (omega arith)) in
    record {
      whole = (omega (arith, less), omega (arith, w.1));
      stands = λ a b z. z;
      goes = λ before z. goes_same before z;
      letters = omega (arith, m, ends, less);
      others = refl;
      rest = run_from (start_after s k) (drop k text);
      ops = run_parted s (start_after s k) text k (omega (arith, len)) (λ z. refl) ∙ ap (λ z. run_from s z ++ run_from (start_after s k) (drop k text)) (sym front);
      rest_len = length-typed (start_after s k).id s.section (start_after s k).left s.right (drop k text) ∙ omega (arith, length-drop k text, len, less);
      len = omega (arith, less);
    }
  where
    goes_same : (before : Part) → ContinuesPart before (part_front (Typed r) (r.count - count)) → ContinuesPart before (Typed r)
    goes_same (Typed q) z = z
    goes_same (Deleted d) z = z
    goes_same (Other j) z = z

deletes_shortened : (l : List ℕ) (o : List Op) (d : Deletes) (count : ℕ) → IsWholePart (Deleted d) → 0 < count → count < d.count
    → IsShortened l o (length l) (Deleted d) (part_front (Deleted d) (d.count - count)) count
deletes_shortened l o d count w some less =
    let k : ℕ = d.count - count in
    let split : d.count ≡ k + count = omega (arith, less) in
    record {
      whole = (omega (arith, less), fits d.down w.1);
      stands = λ a b z. z;
      goes = λ before z. goes_same before z;
      letters = refl;
      others = refl;
      rest = deletes_by d.down (target_by d.down d.target k) count;
      ops = ap (deletes_by d.down d.target) split ∙ deletes-append d.down d.target k count;
      rest_len = length-deletes d.down (target_by d.down d.target k) count;
      len = omega (arith, less);
    }
  where
    fits : (down : Bool) → CountersFit down d.target d.count → CountersFit down d.target (d.count - count)
    fits true f = omega (arith, f)
    fits false f = omega (arith, f)

    goes_same : (before : Part) → ContinuesPart before (part_front (Deleted d) (d.count - count)) → ContinuesPart before (Deleted d)
    goes_same (Typed q) z = z
    goes_same (Deleted q) z = z
    goes_same (Other j) z = z

-- the last part becomes a shorter one
cut : (l : List ℕ) (o : List Op) (m : ℕ) (front : List Part) (last p : Part) (fs : List ℕ) (n count : ℕ) → AreParts l o (front ++ last ∷ []) fs n → IsShortened l o m last p count
    → m ≤ length l
    → IsPopped (take m l) o (front ++ p ∷ []) fs n (ops_of l o (front ++ last ∷ [])) count
cut l o m front last p fs n count a s within =
    let at = laid-last 0 0 front last (length l) (length o) a.laid in
    let le : length (take m l) ≡ m = length-take-le m l within in
    let here : at.letters + letters_in p ≡ length (take m l) = omega (arith, at.letters_end, s.letters, le) in
    let there : at.others + others_in p ≡ length o = omega (arith, at.others_end, s.others) in
    let all : take (length o) o ≡ o = take_all (length o) o (omega arith) in
    let same : ops_of (take m l) o front ≡ ops_of l o front =
    (λ i. ops_of (take m l) (sym all i) front) ∙ front_ops l o front last fs n a m (length o) (omega (arith, here, le)) (omega (arith, there)) within (omega arith) in
    let old : ops_of l o (front ++ last ∷ []) ≡ (ops_of l o front ++ part_ops (take m l) o p) ++ s.rest =
    one_more l o front last ∙ ap (λ z. ops_of l o front ++ z) s.ops ∙ sym (append_assoc (ops_of l o front) (part_ops (take m l) o p) s.rest) in
    let new : ops_of (take m l) o (front ++ p ∷ []) ≡ ops_of l o front ++ part_ops (take m l) o p = one_more (take m l) o front p ∙ ap (λ z. z ++ part_ops (take m l) o p) same in
    record {
      are = record {
        whole = All-append IsWholePart front (p ∷ []) (all_before IsWholePart front (last ∷ []) a.whole) (All-cons IsWholePart p [] s.whole (All-nil IsWholePart));
        laid = subst (λ z. AreLaid 0 0 (front ++ p ∷ []) z (length o)) here (subst (λ z. AreLaid 0 0 (front ++ p ∷ []) (at.letters + letters_in p) z) there
            (laid-push 0 0 front at.letters at.others p at.laid (s.stands at.letters at.others at.behind)));
        apart = apart-other front last p s.goes a.apart;
        are_others = a.are_others;
        firsts_are = a.firsts_are ∙ firsts_last 0 front last p;
        counted = omega (arith, a.counted, ap length old, ap length new, length-append (ops_of l o front ++ part_ops (take m l) o p) s.rest, s.rest_len);
        small = omega (arith, a.small);
      };
      ops = new ∙ sym (ap (λ z. take (length z - count) z) old ∙ front_taken (ops_of l o front ++ part_ops (take m l) o p) s.rest count s.rest_len);
    }

-- the same of the parts that a call left
shortened_part : (l : List ℕ) (o : List Op) (front : List Part) (last : Part) (fs : List ℕ) (n most : ℕ) → AreParts l o (front ++ last ∷ []) fs n → 0 < most → most < part_len last
    → IsPopped (take (length l - letters_of_part last most) l) (take (length o - others_in last) o) (front ++ part_front last (part_len last - most) ∷ []) fs n
    (ops_of l o (front ++ last ∷ [])) most
shortened_part l o front (Typed r) fs n most a some less =
    let at = laid-last 0 0 front (Typed r) (length l) (length o) a.laid in
    let ends : r.at + r.count ≡ length l = ap (λ k. k + r.count) at.behind ∙ at.letters_end in
    let all : take (length o - 0) o ≡ o = take_all (length o - 0) o (omega arith) in
    subst (λ z. IsPopped (take (length l - most) l) z (front ++ part_front (Typed r) (r.count - most) ∷ []) fs n (ops_of l o (front ++ Typed r ∷ [])) most) (sym all)
    (cut l o (length l - most) front (Typed r) (part_front (Typed r) (r.count - most)) fs n most a
    (run_shortened l o r most (last_whole l o front (Typed r) fs n a) ends some less) (omega arith))
shortened_part l o front (Deleted d) fs n most a some less =
    let all : take (length o - 0) o ≡ o = take_all (length o - 0) o (omega arith) in
    let same : length l - 0 ≡ length l = omega arith in
    subst (λ z. IsPopped (take (length l - 0) l) z (front ++ part_front (Deleted d) (d.count - most) ∷ []) fs n (ops_of l o (front ++ Deleted d ∷ [])) most) (sym all)
    (subst (λ z. IsPopped (take z l) o (front ++ part_front (Deleted d) (d.count - most) ∷ []) fs n (ops_of l o (front ++ Deleted d ∷ [])) most) (sym same)
    (cut l o (length l) front (Deleted d) (part_front (Deleted d) (d.count - most)) fs n most a (deletes_shortened l o d most (last_whole l o front (Deleted d) fs n a) some less)
    (omega arith)))
shortened_part l o front (Other k) fs n most a some less = absurd (omega (arith, some, less))

letters_all : (p : Part) → letters_of_part p (part_len p) ≡ letters_in p
letters_all (Typed r) = refl
letters_all (Deleted d) = refl
letters_all (Other k) = refl

-- some operations of the last part went
taken_off : (l : List ℕ) (o : List Op) (ps ps' : List Part) (fs fs' : List ℕ) (n most count : ℕ) (last : Part) → AreParts l o ps fs n → 0 < most
    → TakesOffLast ps ps' fs fs' last most count
    → IsPopped (take (length l - letters_of_part last count) l) (take (length o - others_in last) o) ps' fs' n (ops_of l o ps) count
taken_off l o ps ps' fs fs' n most count last a some (inl (all, within, was, firsts)) =
    let r = dropped l o ps' last fs n (subst (λ (z : List Part). AreParts l o z fs n) was a) fs' firsts in
    let used : letters_in last ≡ letters_of_part last count = sym (ap (letters_of_part last) all ∙ letters_all last) in
    subst (λ (z : List Part). IsPopped (take (length l - letters_of_part last count) l) (take (length o - others_in last) o) ps' fs' n (ops_of l o z) count) (sym was)
    (subst (λ k. IsPopped (take (length l - k) l) (take (length o - others_in last) o) ps' fs' n (ops_of l o (ps' ++ last ∷ [])) count) used
    (subst (λ k. IsPopped (take (length l - letters_in last) l) (take (length o - others_in last) o) ps' fs' n (ops_of l o (ps' ++ last ∷ [])) k) (sym all) r))
taken_off l o ps ps' fs fs' n most count last a some (inr (is, less, put)) =
    let r = shortened_part l o put.front last fs n most (subst (λ (z : List Part). AreParts l o z fs n) put.was a) some less in
    let goal : List Part → List Part → List ℕ → ℕ → Type 0 =
    λ old new firsts k. IsPopped (take (length l - letters_of_part last k) l) (take (length o - others_in last) o) new firsts n (ops_of l o old) k in
    subst (λ z. goal z ps' fs' count) (sym put.was) (subst (λ z. goal (put.front ++ last ∷ []) z fs' count) (sym put.is)
    (subst (λ z. goal (put.front ++ last ∷ []) (put.front ++ part_front last (part_len last - most) ∷ []) z count) (sym put.firsts_stay)
    (subst (λ k. goal (put.front ++ last ∷ []) (put.front ++ part_front last (part_len last - most) ∷ []) fs k) (sym is) r)))

-- the same, and what is left of the letters and of the other operations
pub popped_off : (l l' : List ℕ) (o o' : List Op) (ps ps' : List Part) (fs fs' : List ℕ) (n most count : ℕ) (last : Part) → AreParts l o ps fs n → 0 < most
    → TakesOffLast ps ps' fs fs' last most count → l' ≡ take (length l - letters_of_part last count) l → o' ≡ take (length o - others_in last) o
    → IsPopped l' o' ps' fs' n (ops_of l o ps) count
popped_off l l' o o' ps ps' fs fs' n most count last a some off letters others =
    rw (letters, others) (taken_off l o ps ps' fs fs' n most count last a some off)

-- how many there may be
module _ (l : List ℕ) (o : List Op) (ps : List Part) (fs : List ℕ) (n : ℕ) (last : Part) (a : AreParts l o ps fs n) (is : IsLastPart ps last) where
  abbrev b : AreParts l o (is.front ++ last ∷ []) fs n
  b = subst (λ (z : List Part). AreParts l o z fs n) is.whole a

  at_end : IsLaidLast 0 0 is.front last (length l) (length o)
  at_end = laid-last 0 0 is.front last (length l) (length o) b.laid

  sound : IsSoundPart (length l) (length o) last
  sound = All-head (IsSoundPart (length l) (length o)) last [] (all_after (IsSoundPart (length l) (length o)) is.front (last ∷ []) (sound_of l o (is.front ++ last ∷ []) fs n b))

  pub others_there : others_in last ≤ length o
  others_there = omega (arith, at_end.others_end)

  taken_within : (ps' : List Part) (fs' : List ℕ) (most count : ℕ) → TakesOffLast ps ps' fs fs' last most count → count ≤ part_len last
  taken_within ps' fs' most count (inl t) = omega (arith, t.0)
  taken_within ps' fs' most count (inr t) = omega (arith, t.0, t.1)

  pub letters_there : (ps' : List Part) (fs' : List ℕ) (most count : ℕ) → TakesOffLast ps ps' fs fs' last most count → letters_of_part last count ≤ length l
  letters_there ps' fs' most count t = omega (arith, few last count (taken_within ps' fs' most count t), at_end.letters_end)
    where
      few : (p : Part) (k : ℕ) → k ≤ part_len p → letters_of_part p k ≤ letters_in p
      few (Typed r) k h = h
      few (Deleted d) k h = omega arith
      few (Other j) k h = omega arith

  pub taken_some : (ps' : List Part) (fs' : List ℕ) (most count : ℕ) → 0 < most → TakesOffLast ps ps' fs fs' last most count → 0 < count
  taken_some ps' fs' most count some (inl t) = omega (arith, t.0, has_some (length l) (length o) last sound)
  taken_some ps' fs' most count some (inr t) = omega (arith, t.0, some)

  pub taken_most : (ps' : List Part) (fs' : List ℕ) (most count : ℕ) → TakesOffLast ps ps' fs fs' last most count → count ≤ most
  taken_most ps' fs' most count (inl t) = t.1
  taken_most ps' fs' most count (inr t) = omega (arith, t.0)

-- The last operation goes, which is one of the others
module _ (l : List ℕ) (o o' : List Op) (front : List Part) (k : ℕ) (fs : List ℕ) (n : ℕ) (op : Op) (a : AreParts l o (front ++ Other k ∷ []) fs n) (is : o ≡ o' ++ op ∷ []) where
  shorter : take (length o - 1) o ≡ o'
  shorter = (λ i. take (length (is i) - 1) (is i)) ∙ front_taken o' (op ∷ []) 1 refl

  -- it is the last of the others
  here : other_ops (slice_get o k) ≡ op ∷ []
  here =
      let at = laid-last 0 0 front (Other k) (length l) (length o) a.laid in
      let behind : k ≡ at.others = at.behind in
      let end : k ≡ length o' = omega (arith, behind, at.others_end, ap length is, length-append o' (op ∷ [])) in
      (λ i. other_ops (slice_get (is i) (end i))) ∙ ap other_ops (seam o')
    where
      seam : (xs : List Op) → slice_get (xs ++ op ∷ []) (length xs) ≡ Some op
      seam [] = refl
      seam (x ∷ xs) = seam xs

  whole_ops : ops_of l o (front ++ Other k ∷ []) ≡ ops_of l o front ++ op ∷ []
  whole_ops = one_more l o front (Other k) ∙ ap (λ z. ops_of l o front ++ z) here

  pub other_taken : (fs' : List ℕ) → fs' ≡ take (length fs - 1) fs → AreParts l o' front fs' (n - 1) × (ops_of l o (front ++ Other k ∷ []) ≡ ops_of l o' front ++ op ∷ [])
  other_taken fs' e =
      let r = subst (λ z. IsPopped z (take (length o - 1) o) front fs' n (ops_of l o (front ++ Other k ∷ [])) 1) (take_all (length l - 0) l (omega arith))
      (dropped l o front (Other k) fs n a fs' e) in
      let p : IsPopped l o' front fs' n (ops_of l o (front ++ Other k ∷ [])) 1 = subst (λ z. IsPopped l z front fs' n (ops_of l o (front ++ Other k ∷ [])) 1) shorter r in
      let same : ops_of l o' front ≡ ops_of l o front =
      p.ops ∙ (λ i. take (length (whole_ops i) - 1) (whole_ops i)) ∙ front_taken (ops_of l o front) (op ∷ []) 1 refl in
      (p.are, whole_ops ∙ ap (λ z. z ++ op ∷ []) (sym same))

-- what a list is with its last member apart
seam_at_end : {X : Type 0} (xs : List X) (d : X) → 0 < length xs → xs ≡ take (length xs - 1) xs ++ get_or xs (length xs - 1) d ∷ []
seam_at_end xs d some =
    let n = length xs - 1 in
    sym (take-append-drop n xs)
    ∙ ap (λ z. take n xs ++ z) (drop-cons xs n d (omega (arith, some)) ∙ ap (λ z. get_or xs n d ∷ z) (drop_all (suc n) xs (omega (arith, some))))

last_part_gone : (front : List Part) (p : Part) → take (length (front ++ p ∷ []) - 1) (front ++ p ∷ []) ≡ front
last_part_gone front p =
    let len : length (front ++ p ∷ []) - 1 ≡ length front = omega (arith, length-append front (p ∷ [])) in
    ap (λ k. take k (front ++ p ∷ [])) len ∙ take-append_seam front (p ∷ [])

-- the same of the lists that a call left
pub record IsTakenOff (l : List ℕ) (o : List Op) (ps : List Part) (fs : List ℕ) (n : ℕ) (old : List Op) (found : Option Op) : Type 0 where
  pub op : Op
  pub is : found ≡ Some op
  pub kind : IsOther op
  pub are : AreParts l o ps fs (n - 1)
  pub ops : old ≡ ops_of l o ps ++ op ∷ []

-- a part that has one of the others is that one
pub is_other : (p : Part) → 0 < others_in p → (k : ℕ) × (p ≡ Other k)
is_other (Typed r) h = absurd (omega (arith, h))
is_other (Deleted d) h = absurd (omega (arith, h))
is_other (Other k) h = (k, refl)

pub other_gone : (l : List ℕ) (o o' : List Op) (ps ps' : List Part) (fs fs' : List ℕ) (n k : ℕ) (found : Option Op) → AreParts l o ps fs n → IsLastPart ps (Other k)
    → ps' ≡ take (length ps - 1) ps → fs' ≡ take (length fs - 1) fs → o' ≡ take (length o - 1) o → ((d : Op) → 0 < length o → found ≡ Some (get_or o (length o - 1) d))
    → IsTakenOff l o' ps' fs' n (ops_of l o ps) found
other_gone l o o' ps ps' fs fs' n k found a is e f g h =
    let b : AreParts l o (is.front ++ Other k ∷ []) fs n = subst (λ (z : List Part). AreParts l o z fs n) is.whole a in
    let front : ps' ≡ is.front = e ∙ (λ i. take (length (is.whole i) - 1) (is.whole i)) ∙ last_part_gone is.front (Other k) in
    let at = laid-last 0 0 is.front (Other k) (length l) (length o) b.laid in
    let some : 0 < length o = omega (arith, at.others_end) in
    let none : Op = Delete (record { replica = 0; counter = 0 }) in
    let op : Op = get_or o (length o - 1) none in
    let whole : o ≡ o' ++ op ∷ [] = seam_at_end o none some ∙ ap (λ z. z ++ op ∷ []) (sym g) in
    let r = other_taken l o o' is.front k fs n op b whole fs' f in
    record {
      op = op;
      is = h none some;
      kind = All-head IsOther op [] (all_after IsOther o' (op ∷ []) (subst (All IsOther) whole a.are_others));
      are = subst (λ (z : List Part). AreParts l o' z fs' (n - 1)) (sym front) r.0;
      ops = ap (ops_of l o) is.whole ∙ r.1 ∙ ap (λ (z : List Part). ops_of l o' z ++ op ∷ []) (sym front);
    }
