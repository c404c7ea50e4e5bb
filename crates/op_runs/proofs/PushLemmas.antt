-- What comes of a list of operations where a run, a Delete or another operation comes after it.
use Rattle.std.proofs.Common.{◌≡◌, ℕ, ◌+◌, ◌-◌, ◌<◌, ◌≤◌, ◌^◌, false, List, [], ◌∷◌, ◌++◌, length, take, drop, refl, ap, sym, subst, ◌∙◌, arith, inl, inr, append-nil}
use Rattle.std.proofs.Common.{length-append, length-drop}
use Rattle.std.specs.Prelude.{slice_get}
use Rattle.std.proofs.lemmas.List.{drop-append-le, length-take-le, take_all}
use Rattle.std.proofs.lemmas.List.Elements.{All-cons, All-head, All-nil}
use Rattle.std.proofs.Math.Seq.{drop-append_seam}
use Rattle.fugue_ids.specs.Identifiers.{Identifier}
use Rattle.fugue_ids.specs.Runs.{run_from, start_after}
use Rattle.op_runs.specs.declared.part.TheConstants.{MOST_LISTED}
use Rattle.fugue_ids.specs.declared.op.Op.{Op}
use Rattle.fugue_ids.specs.declared.run.RunStart.{RunStart}
use Rattle.fugue_ids.proofs.ListLemmas.{all_after, slice_get-seam}
use Rattle.fugue_ids.proofs.RunLemmas.{length-typed, typed-append}
use Rattle.op_runs.specs.Deletions.{deletes_by}
use Rattle.op_runs.specs.Growing.{AddsDeletes, AddsRun, IsAppendedPart, HasMoreDeletes, IsReplacedPart, forwards, with_more}
use Rattle.op_runs.specs.Parts.{AreParts, ContinuesPart, IsOther, IsWholePart, ops_of, other_ops}
use Rattle.op_runs.specs.declared.part.Deletes.{Deletes}
use Rattle.op_runs.specs.declared.part.Part.{Part}
use Rattle.op_runs.specs.declared.part.Part.TheVariants.{Deleted, Other, Typed}
use Rattle.op_runs.specs.declared.part.TypedPart.{TypedPart}
use Rattle.op_runs.proofs.DeletionLemmas.{length-deletes}
use Rattle.op_runs.proofs.PartLemmas.{BeginsAs, IsPushed, added_part, laid-last, replaced_part}

-- A run

-- the last part is sound, and its letters end with all
typed_last : (l : List ℕ) (o : List Op) (ps : List Part) (fs : List ℕ) (n : ℕ) (front : List Part) (r : TypedPart) → AreParts l o ps fs n → ps ≡ front ++ Typed r ∷ []
    → IsWholePart (Typed r) × (r.at + r.count ≡ length l)
typed_last l o ps fs n front r a e =
    let b = subst (λ (z : List Part). AreParts l o z fs n) e a in
    let at = laid-last 0 0 front (Typed r) (length l) (length o) b.laid in
    (All-head IsWholePart (Typed r) [] (all_after IsWholePart front (Typed r ∷ []) b.whole), ap (λ k. k + r.count) at.behind ∙ at.letters_end)

-- all letters from a place on, with those that came
letters_after : (l text : List ℕ) (at count : ℕ) → at + count ≡ length l → take (count + length text) (drop at (l ++ text)) ≡ take count (drop at l) ++ text
letters_after l text at count e =
    let all : length (drop at (l ++ text)) ≤ count + length text = omega (arith, e, length-drop at (l ++ text), length-append l text) in
    let some : length (drop at l) ≤ count = omega (arith, e, length-drop at l) in
    let inside : at ≤ length l = omega (arith, e) in
    take_all (count + length text) (drop at (l ++ text)) all ∙ drop-append-le at l text inside ∙ ap (λ z. z ++ text) (sym (take_all count (drop at l) some))

longer_run : (l text : List ℕ) (o : List Op) (r : TypedPart) (start : RunStart) → IsWholePart (Typed r) → r.at + r.count ≡ length l → start ≡ start_after r.start r.count
    → start.id.counter + length text ≤ 2 ^ 32
    → BeginsAs l text o (Typed r) (Typed (with_more r (length text))) (run_from start text)
longer_run l text o r start w ends is fits =
    let s = r.start in
    let front : List ℕ = take r.count (drop r.at l) in
    let len : length front ≡ r.count = length-take-le r.count (drop r.at l) (omega (arith, ends, length-drop r.at l)) in
    let counter : start.id.counter ≡ s.id.counter + r.count = ap (λ (z : RunStart). z.id.counter) is in
    record {
      whole = (omega (arith, w.0), omega (arith, counter, fits));
      stands = λ a b k. k;
      goes = λ before k. goes_same before k;
      letters = refl;
      others = refl;
      ops = ap (run_from s) (letters_after l text r.at r.count ends)
          ∙ typed-append s.id s.section s.left s.right front text
          ∙ (λ i. run_from s front ++ run_from (start_after s (len i)) text)
          ∙ (λ i. run_from s front ++ run_from (sym is i) text);
      long = ap (λ k. r.count + k) (sym (length-typed start.id start.section start.left start.right text));
    }
  where
    goes_same : (before : Part) → ContinuesPart before (Typed (with_more r (length text))) → ContinuesPart before (Typed r)
    goes_same (Typed q) k = k
    goes_same (Deleted d) k = k
    goes_same (Other j) k = k

pub run_pushed : (l l' text : List ℕ) (o : List Op) (ps ps' : List Part) (fs fs' : List ℕ) (n : ℕ) (run : TypedPart) → l' ≡ l ++ text → AreParts l o ps fs n
    → AddsRun ps ps' fs fs' n run
    → run.at ≡ length l → run.count ≡ length text → 0 < length text → run.start.id.counter + length text ≤ 2 ^ 32 → n + length text ≤ MOST_LISTED
    → IsPushed l' o ps' fs' (n + length text) (ops_of l o ps) (run_from run.start text)
run_pushed l l' text o ps ps' fs fs' n run e a (inl added) at count some fits room =
    let r = added_part l l' text o o [] ps ps' fs fs' n (Typed run) e (sym (append-nil o)) a added (omega (arith, count, some), omega (arith, count, fits)) at (sym count) refl
    (All-nil IsOther) (omega (arith, count, room)) in
    let here : take run.count (drop run.at l') ≡ text =
    (λ i. take (count i) (drop (at i) (e i))) ∙ ap (take (length text)) (drop-append_seam l text) ∙ take_all (length text) text (omega arith) in
    record { are = subst (λ k. AreParts l' o ps' fs' (n + k)) count r.are; ops = r.ops ∙ ap (λ z. ops_of l o ps ++ run_from run.start z) here }
run_pushed l l' text o ps ps' fs fs' n run e a (inr (last, is, put)) at count some fits room =
    let t = typed_last l o ps fs n put.front last a put.was in
    let len : length (run_from run.start text) ≡ length text = length-typed run.start.id run.start.section run.start.left run.start.right text in
    let b = longer_run l text o last run.start t.0 t.1 is fits in
    let put' = subst (λ k. IsReplacedPart ps ps' fs fs' (Typed last) (Typed (with_more last k))) count put in
    let r = replaced_part l l' text o ps ps' fs fs' n (Typed last) (Typed (with_more last (length text))) (run_from run.start text) e a put' b (omega (arith, len, room)) in
    record { are = subst (λ k. AreParts l' o ps' fs' (n + k)) len r.are; ops = r.ops }

-- Deletes

longer_deletes : (l : List ℕ) (o : List Op) (d e : Deletes) (target : Identifier) (most : ℕ) → HasMoreDeletes d target most e
    → BeginsAs l [] o (Deleted d) (Deleted e) (deletes_by false target (e.count - d.count))
longer_deletes l o d e target most m =
    let some : d.count < e.count = m.some in
    record {
      whole = (omega (arith, some), m.counters);
      stands = λ a b k. k;
      goes = λ before k. goes_same before k;
      letters = refl;
      others = refl;
      ops = m.ops;
      long = omega (arith, some, length-deletes false target (e.count - d.count));
    }
  where
    goes_same : (before : Part) → ContinuesPart before (Deleted e) → ContinuesPart before (Deleted d)
    goes_same (Typed q) k = k
    goes_same (Deleted q) k = subst (λ t. ContinuesPart (Deleted q) (Deleted (record { target = t; count = d.count; down = d.down }))) m.target_is k
    goes_same (Other j) k = k

pub deletes_pushed : (l : List ℕ) (o : List Op) (ps ps' : List Part) (fs fs' : List ℕ) (n most k : ℕ) (target : Identifier) → AreParts l o ps fs n
    → AddsDeletes ps ps' fs fs' n target most k → 0 < most → target.counter + most ≤ 2 ^ 32
    → n + most ≤ MOST_LISTED → IsPushed l o ps' fs' (n + k) (ops_of l o ps) (deletes_by false target k)
deletes_pushed l o ps ps' fs fs' n most k target a (inl (is, added)) some fits room =
    subst (λ j. IsPushed l o ps' fs' (n + j) (ops_of l o ps) (deletes_by false target j)) (sym is)
    (added_part l l [] o o [] ps ps' fs fs' n (Deleted (forwards target most)) (sym (append-nil l)) (sym (append-nil o)) a added (some, fits) tt refl refl (All-nil IsOther) room)
deletes_pushed l o ps ps' fs fs' n most k target a (inr (last, more, longer, is, put)) some fits room =
    let added = deletes_by false target (more.count - last.count) in
    let len : length added ≡ more.count - last.count = length-deletes false target (more.count - last.count) in
    let within : more.count ≤ last.count + most = longer.within in
    let r = replaced_part l l [] o ps ps' fs fs' n (Deleted last) (Deleted more) added (sym (append-nil l)) a put (longer_deletes l o last more target most longer)
    (omega (arith, len, within, room)) in
    subst (λ j. IsPushed l o ps' fs' (n + j) (ops_of l o ps) (deletes_by false target j)) (sym is)
    (record { are = subst (λ j. AreParts l o ps' fs' (n + j)) len r.are; ops = r.ops })

-- some came, and no more than were asked for
pub some_pushed : (ps ps' : List Part) (fs fs' : List ℕ) (n most k : ℕ) (target : Identifier) → AddsDeletes ps ps' fs fs' n target most k → 0 < most → 0 < k
some_pushed ps ps' fs fs' n most k target (inl (is, added)) some = omega (arith, is, some)
some_pushed ps ps' fs fs' n most k target (inr (last, more, longer, is, put)) some = let s : last.count < more.count = longer.some in omega (arith, is, s)

pub few_pushed : (ps ps' : List Part) (fs fs' : List ℕ) (n most k : ℕ) (target : Identifier) → AddsDeletes ps ps' fs fs' n target most k → k ≤ most
few_pushed ps ps' fs fs' n most k target (inl (is, added)) = omega (arith, is)
few_pushed ps ps' fs fs' n most k target (inr (last, more, longer, is, put)) = let w : more.count ≤ last.count + most = longer.within in omega (arith, is, w)

-- A Section or a Note

none_goes : (last : Part) (k : ℕ) → ContinuesPart last (Other k) → ⊥
none_goes (Typed r) k g = g
none_goes (Deleted d) k g = g
none_goes (Other j) k g = g

pub other_pushed : (l : List ℕ) (o o' : List Op) (ps ps' : List Part) (fs fs' : List ℕ) (n k : ℕ) (op : Op) → o' ≡ o ++ op ∷ [] → AreParts l o ps fs n → ps' ≡ ps ++ Other k ∷ []
    → fs' ≡ fs ++ n ∷ [] → k ≡ length o → IsOther op → n + 1 ≤ MOST_LISTED
    → IsPushed l o' ps' fs' (n + 1) (ops_of l o ps) (op ∷ [])
other_pushed l o o' ps ps' fs fs' n k op e a p f at other room =
    let added : IsAppendedPart ps ps' fs fs' n (Other k) = record { parts_are = p; firsts_are = f; apart = λ last is. none_goes last k } in
    let r = added_part l l [] o o' (op ∷ []) ps ps' fs fs' n (Other k) (sym (append-nil l)) e a added tt at refl refl (All-cons IsOther op [] other (All-nil IsOther)) room in
    record { are = r.are; ops = r.ops ∙ (λ i. ops_of l o ps ++ other_ops (slice_get (e i) (at i))) ∙ ap (λ z. ops_of l o ps ++ other_ops z) (slice_get-seam o op) }
