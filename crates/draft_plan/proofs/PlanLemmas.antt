-- What a plan costs, of titles and texts, and of sections that are dropped and added.
use Rattle.std.proofs.Common.{List, [], add-one, ap, arith, cond, false, get_or, inl, inr, length, map, refl, subst, suc, sym, true, zero, Bool, ℕ, ◌+◌, ◌*◌, ◌++◌, ◌<◌, ◌≤◌, ◌∙◌}
use Rattle.std.proofs.Common.{◌∷◌, ◌≡◌, ◌≢◌, ◌⊎◌}
use Rattle.std.specs.Prelude.{Err, None, Ok, Option, Result, Some, option_map, slice_get, slice_index_or}
use Rattle.std.specs.List.{sum_by}
use Rattle.std.specs.Str.{bytes_eq, chars, encode_utf8_all}
use Rattle.std.proofs.lemmas.Bool.{cases_lt, false_from_ne_true}
use Rattle.std.proofs.lemmas.List.{length_push, nil_from_length}
use Rattle.std.proofs.lemmas.List.Sums.{sum_by-append, sum_by-cons}
use Rattle.std.proofs.lemmas.Option.{none-some, same_Some, slice_get-get_or, slice_get_within}
use Rattle.std.proofs.lemmas.Slice.Eq.{bytes_eq-Decides}
use Rattle.fugue_ids.specs.Identifiers.{Identifier}
use Rattle.fugue_ids.specs.declared.op.Op.{Op}
use Rattle.origin_model.specs.declared.edit_fault.EditFault.{EditFault}
use Rattle.origin_model.specs.declared.edit_fault.EditFault.TheVariants as edit
use Rattle.origin_model.specs.edits.State.{State}
use Rattle.origin_model.specs.operations.History.{holds}
use Rattle.origin_model.specs.operations.Verdict.{Lawful}
use Rattle.origin_model.specs.order.Printed.{text}
use Rattle.origin_model.proofs.edits.EditedTextLemmas.{text_length}
use Rattle.origin_model.proofs.edits.SplitLemmas.{get_in}
use Rattle.text_diff.specs.declared.hunk.Hunk.{Hunk}
use Rattle.catalogue_notes.specs.Arranged.{arranged, heading}
use Rattle.catalogue_notes.proofs.ArrangedLemmas.{arranged_shown}
use Rattle.catalogue_notes.proofs.PartLemmas.{get_some}
use Rattle.section_plan.specs.Matching.{part_of, section_of}
use Rattle.section_plan.specs.declared.pairs.Pairs.{Pairs}
use Rattle.section_plan.specs.declared.part.Part.{Part as ReadPart}
use Rattle.draft_plan.specs.Drafts.{Part}
use Rattle.draft_plan.specs.Limits.{AreChosen, Cost, Costs, CostsText, LacksRoom, SameTexts, cost, hunks_cost, shown_letters, part_letters, plus, put_size}
use Rattle.draft_plan.specs.Matching.{IsMatched}
use Rattle.draft_plan.specs.Plans.{AreHunksOf, CostsFilling, CostsSection, LacksPlan, Plan, PlansMoves, added_count, dropped_count, filling, plan_cost, retitle_count}
use Rattle.draft_plan.specs.Plans.{retitle_count_of_parts, section_before, shaping, sum_below, text_before, unmatched_count}
use Rattle.draft_plan.specs.Readings.{seen_part}
use Rattle.draft_plan.specs.Shaping.{IsReshaped, StandsAs}
use Rattle.draft_plan.specs.Texts.{size}
use Rattle.draft_plan.specs.declared.fault.ReviseFault.{ReviseFault}
use Rattle.draft_plan.specs.declared.fault.ReviseFault.TheVariants as fault
use Rattle.draft_plan.proofs.FillCostLemmas.{chosen_within, filling_cost, nothing_shown}
use Rattle.draft_plan.proofs.LimitLemmas.{IsUpTo, costs_join, costs_more, costs_stop, lacks_more, note_cost, up}
use Rattle.draft_plan.proofs.RevisionLemmas.{shown_holds}
use Rattle.draft_plan.proofs.TargetLemmas.{push_cases}

-- sums over numbers
pub sum_below_more : (f : ℕ → ℕ) (n : ℕ) → sum_below f (n + 1) ≡ sum_below f n + f n
sum_below_more f n = ap (sum_below f) (add-one n)

sum_below_within : (f : ℕ → ℕ) (n : ℕ) → ((k : ℕ) → f k ≤ 1) → sum_below f n ≤ n
sum_below_within f zero one = omega arith
sum_below_within f (suc n) one = omega (arith, sum_below_within f n one, one n)

sum_below_less : (f g : ℕ → ℕ) (n : ℕ) → ((k : ℕ) → k < n → f k ≤ g k) → sum_below f n ≤ sum_below g n
sum_below_less f g zero less = omega arith
sum_below_less f g (suc n) less = omega (arith, sum_below_less f g n (λ k l. less k (omega (arith, l))), less n (omega arith))

pub sum_below_longer : (f : ℕ → ℕ) (n m : ℕ) → n ≤ m → sum_below f n ≤ sum_below f m
sum_below_longer f n zero l = let same : n ≡ 0 = omega (arith, l) in ap-less same
  where
    ap-less : n ≡ 0 → sum_below f n ≤ sum_below f 0
    ap-less e = omega (arith, ap (sum_below f) e)
sum_below_longer f n (suc m) l = elim (cases_last n m l) [
  | inl e ↦ omega (arith, ap (sum_below f) e)
  | inr k ↦ omega (arith, sum_below_longer f n m k)
]
  where
    cases_last : (n m : ℕ) → n ≤ suc m → (n ≡ suc m) ⊎ (n ≤ m)
    cases_last n m l = by (cases_lt m n)
      where
        by : (m < n) ⊎ (n ≤ m) → (n ≡ suc m) ⊎ (n ≤ m)
        by (inl k) = inl (omega (arith, k, l))
        by (inr k) = inr k

unmatched_most : (o : Option ℕ) → unmatched_count o ≤ 1
unmatched_most None = omega arith
unmatched_most (Some x) = omega arith

-- a section more, or a part more
pub dropped_one : (p : Pairs) (k : ℕ) → part_of p k ≡ None → dropped_count p (k + 1) ≡ dropped_count p k + 1
dropped_one p k e = sum_below_more (λ i. unmatched_count (part_of p i)) k ∙ ap (λ o. dropped_count p k + unmatched_count o) e

pub dropped_more : (p : Pairs) (k : ℕ) → dropped_count p k ≤ dropped_count p (k + 1)
dropped_more p k = omega (arith, sum_below_more (λ i. unmatched_count (part_of p i)) k)

pub dropped_longer : (p : Pairs) (n m : ℕ) → n ≤ m → dropped_count p n ≤ dropped_count p m
dropped_longer p n m l = sum_below_longer (λ i. unmatched_count (part_of p i)) n m l

pub added_more : (p : Pairs) (k : ℕ) → added_count p (k + 1) ≡ added_count p k + unmatched_count (section_of p k)
added_more p k = sum_below_more (λ j. unmatched_count (section_of p j)) k

pub added_longer : (p : Pairs) (n m : ℕ) → n ≤ m → added_count p n ≤ added_count p m
added_longer p n m l = sum_below_longer (λ j. unmatched_count (section_of p j)) n m l

-- so many are dropped and added at most
pub shaping_within : (p : Pairs) (moved e m : ℕ) → moved ≤ m → IsUpTo (shaping p moved e m) (cost (e + 2 * m) (2 * m) m)
shaping_within p moved e m few =
    let d = sum_below_within (λ i. unmatched_count (part_of p i)) e (λ k. unmatched_most (part_of p k)) in
    let a = sum_below_within (λ j. unmatched_count (section_of p j)) m (λ k. unmatched_most (section_of p k)) in
    up (omega (arith, d, a, few)) (omega (arith, a, few)) (omega (arith, few))

-- a section that has another heading
pub one_retitle : (h : List Op) (s : Identifier) (title : List ℕ) → encode_utf8_all (heading h s) ≢ title → retitle_count h (Some s) (Some title) ≡ 1
one_retitle h s title other =
    let b : Bool = bytes_eq (encode_utf8_all (heading h s)) title in
    ap (λ t. cond t 0 1) (false_from_ne_true b (λ t. other ((bytes_eq-Decides (encode_utf8_all (heading h s)) title).0 t)))

-- one that has that title as its heading
no_retitle : (h : List Op) (s : Identifier) (title : List ℕ) → encode_utf8_all (heading h s) ≡ title → retitle_count h (Some s) (Some title) ≡ 0
no_retitle h s title e = ap (λ t. cond t 0 1) ((bytes_eq-Decides (encode_utf8_all (heading h s)) title).1 e)

retitles_most : (h : List Op) (o : Option Identifier) (t : Option (List ℕ)) → retitle_count h o t ≤ 1
retitles_most h None t = omega arith
retitles_most h (Some s) None = omega arith
retitles_most h (Some s) (Some title) = by (bytes_eq (encode_utf8_all (heading h s)) title)
  where
    by : (b : Bool) → cond b 0 1 ≤ 1
    by true = omega arith
    by false = omega arith

same_retitles : (g h : List Op) (s : Identifier) (t : Option (List ℕ)) → heading g s ≡ heading h s → retitle_count g (Some s) t ≡ retitle_count h (Some s) t
same_retitles g h s None e = refl
same_retitles g h s (Some title) e = ap (λ bytes. cond (bytes_eq (encode_utf8_all bytes) title) 0 1) e

-- one retitle was made, or refused
pub title_costs : (old new : State) (r n : ℕ) → r ≡ 1 → Costs old new note_cost (Ok n) → Costs old new (filling r []) (Ok n)
title_costs old new r n e c = costs_more old new note_cost (filling r []) (Ok n) (up (omega (arith, e)) (omega (arith, e)) (omega (arith, e))) c

pub title_lacks : (s : State) (r : ℕ) (why : ReviseFault) → r ≡ 1 → LacksRoom s note_cost why → LacksRoom s (filling r []) why
title_lacks s r why e l = lacks_more s note_cost (filling r []) why (up (omega (arith, e)) (omega (arith, e)) (omega (arith, e))) l

-- the hunks of a text more
one_text : (r t : ℕ) (hunks : List (List Hunk)) (hs : List Hunk) (rest : Cost) → rest.operations ≤ t + sum_by size (hs ∷ []) → rest.counters ≤ t + sum_by put_size (hs ∷ [])
    → rest.stamps ≤ t
    → IsUpTo (plus (filling r hunks) rest) (filling (r + t) (hunks ++ hs ∷ []))
one_text r t hunks hs rest a b c = up (omega (arith, a, sum_by-append size hunks (hs ∷ []))) (omega (arith, b, sum_by-append put_size hunks (hs ∷ []))) (omega (arith, c))

one_alone : (f : List Hunk → ℕ) (hs : List Hunk) → sum_by f (hs ∷ []) ≡ f hs
one_alone f hs = omega (arith, sum_by-cons f hs [])

text_up : (r : ℕ) (hs : List Hunk) → IsUpTo (plus (filling r []) (hunks_cost hs)) (filling r (hs ∷ []))
text_up r hs = up (omega (arith, one_alone size hs)) (omega (arith, one_alone put_size hs)) (omega arith)

-- a section got its title and its text
pub section_costs : (old mid new : State) (x : Identifier) (part : Part) (n m : ℕ) → text mid.held.history x ≡ text old.held.history x
    → Costs old mid (filling (retitle_count old.held.history (Some x) (Some part.title)) []) (Ok n) → CostsText mid new x (chars part.text) (Ok m)
    → CostsSection old new x part (Ok (n + m))
section_costs old mid new x part n m same first next =
    let r : ℕ = retitle_count old.held.history (Some x) (Some part.title) in (
      next.0,
      subst (λ t. AreChosen t (chars part.text) next.0) same next.1,
      costs_join old mid new (filling r []) (hunks_cost next.0) (filling r (next.0 ∷ [])) n m (text_up r next.0) first next.2,
    )

-- or its text was refused
pub section_lacks : (old mid new : State) (x : Identifier) (part : Part) (n : ℕ) (why : EditFault) → text mid.held.history x ≡ text old.held.history x
    → Costs old mid (filling (retitle_count old.held.history (Some x) (Some part.title)) []) (Ok n) → CostsText mid new x (chars part.text) (Err why)
    → CostsSection old new x part (Err (fault.Edit why))
section_lacks old mid new x part n edit.NoMemory same first next = inl tt
section_lacks old mid new x part n edit.NoSection same first next = inl tt
section_lacks old mid new x part n edit.OutOfRange same first next = inl tt
section_lacks old mid new x part n (edit.IdsSpent c) same first next =
    let r : ℕ = retitle_count old.held.history (Some x) (Some part.title) in inr (
      next.0,
      subst (λ t. AreChosen t (chars part.text) next.0) same next.1,
      costs_stop old mid (filling r []) (hunks_cost next.0) (filling r (next.0 ∷ [])) n (fault.Edit (edit.IdsSpent c)) (text_up r next.0) first next.2,
    )
section_lacks old mid new x part n (edit.TooMany c) same first next =
    let r : ℕ = retitle_count old.held.history (Some x) (Some part.title) in inr (
      next.0,
      subst (λ t. AreChosen t (chars part.text) next.0) same next.1,
      costs_stop old mid (filling r []) (hunks_cost next.0) (filling r (next.0 ∷ [])) n (fault.Edit (edit.TooMany c)) (text_up r next.0) first next.2,
    )

-- no text was compared yet
pub no_hunks : (h : List Op) (section : ℕ → Option Identifier) (ps : List Part) → AreHunksOf h section ps []
no_hunks h section ps = record { each = λ k hs e. absurd (none-some hs e) }

-- the part at a place
pub part_got : (ps : List Part) (k : ℕ) (p : Part) → ((d : Part) → p ≡ slice_index_or ps k d) → k < length ps → slice_get ps k ≡ Some p
part_got ps k p is l = slice_get-get_or ps k p l ∙ ap Some (sym (is p))

-- the first sections of a list, filled with the first parts
abbrev pub FillsFirst : (start now : State) → (section : ℕ → Option Identifier) → List Part → (place n : ℕ) → Type 0
FillsFirst start now section ps place n =
    (hunks : List (List Hunk)) × (length hunks ≡ place) × AreHunksOf start.held.history section ps hunks
    × Costs start now (filling (retitle_count_of_parts start.held.history section ps place) hunks) (Ok n)

-- and the next section and part
module _ (start now : State) (section : ℕ → Option Identifier) (ps : List Part) (k n : ℕ) (s : Identifier) (part : Part) (here : section k ≡ Some s)
    (is : slice_get ps k ≡ Some part)
    (headed : heading now.held.history s ≡ heading start.held.history s) (reads : text now.held.history s ≡ text start.held.history s)
    (was : FillsFirst start now section ps k n) where
  abbrev h : List Op
  h = start.held.history

  abbrev r : ℕ
  r = retitle_count now.held.history (Some s) (Some part.title)

  one_more : retitle_count_of_parts h section ps (k + 1) ≡ retitle_count_of_parts h section ps k + r
  one_more =
      sum_below_more (λ k. retitle_count h (section k) (option_map (λ (p : Part). p.title) (slice_get ps k))) k
      ∙ ap (λ o. retitle_count_of_parts h section ps k + retitle_count h o (option_map (λ (p : Part). p.title) (slice_get ps k))) here
      ∙ ap (λ o. retitle_count_of_parts h section ps k + retitle_count h (Some s) (option_map (λ (p : Part). p.title) o)) is
      ∙ ap (λ m. retitle_count_of_parts h section ps k + m) (sym (same_retitles now.held.history h s (Some part.title) headed))

  within_all : k < length ps → retitle_count_of_parts h section ps k + r ≤ retitle_count_of_parts h section ps (length ps)
  within_all l =
      let longer = sum_below_longer (λ k. retitle_count h (section k) (option_map (λ (p : Part). p.title) (slice_get ps k))) (k + 1) (length ps) (omega (arith, l)) in
      omega (arith, one_more, longer)

  hunks_more : (hs : List Hunk) → AreChosen (text now.held.history s) (chars part.text) hs → AreHunksOf h section ps (was.0 ++ hs ∷ [])
  hunks_more hs a = record {
    each = λ j gs e. elim (push_cases was.0 hs j gs e) [
      | inl old ↦ was.2.each j gs old
      | inr last ↦
          let at : j ≡ k = last.0 ∙ was.1 in (
            part,
            ap (slice_get ps) at ∙ is,
            subst (λ o. AreChosen (text_before h o) (chars part.text) gs) (sym (ap section at ∙ here))
                (subst (λ t. AreChosen t (chars part.text) gs) reads (subst (AreChosen (text now.held.history s) (chars part.text)) (sym last.1) a)),
          )
    ];
  }

  joined : (rest : ℕ) → (hs : List Hunk) → retitle_count_of_parts h section ps k + r ≤ rest
      → IsUpTo (plus (filling (retitle_count_of_parts h section ps k) was.0) (filling r (hs ∷ []))) (filling rest (was.0 ++ hs ∷ []))
  joined rest hs l = up (omega (arith, l, sum_by-append size was.0 (hs ∷ []))) (omega (arith, l, sum_by-append put_size was.0 (hs ∷ []))) (omega (arith, l))

  -- it was filled
  pub filling_more : (new : State) (m : ℕ) → CostsSection now new s part (Ok m) → FillsFirst start new section ps (k + 1) (n + m)
  filling_more new m c = (
    was.0 ++ c.0 ∷ [],
    omega (arith, was.1, length_push was.0 c.0),
    hunks_more c.0 c.1,
    costs_join start now new (filling (retitle_count_of_parts h section ps k) was.0) (filling r (c.0 ∷ []))
        (filling (retitle_count_of_parts h section ps (k + 1)) (was.0 ++ c.0 ∷ [])) n m
        (joined (retitle_count_of_parts h section ps (k + 1)) c.0 (omega (arith, one_more))) was.3 c.2,
  )

  -- or it was refused
  pub filling_lacks : (new : State) (why : ReviseFault) → k < length ps → CostsSection now new s part (Err why) → CostsFilling start new section ps (Err why)
  filling_lacks new why l (inl lacks) = (
    was.0,
    was.2,
    costs_stop start now (filling (retitle_count_of_parts h section ps k) was.0) (filling r []) (filling (retitle_count_of_parts h section ps (length ps)) was.0) n why
        (up (omega (arith, within_all l)) (omega (arith, within_all l)) (omega (arith, within_all l))) was.3 lacks,
  )
  filling_lacks new why l (inr c) = (
    was.0 ++ c.0 ∷ [],
    hunks_more c.0 c.1,
    costs_stop start now (filling (retitle_count_of_parts h section ps k) was.0) (filling r (c.0 ∷ []))
        (filling (retitle_count_of_parts h section ps (length ps)) (was.0 ++ c.0 ∷ [])) n why
        (joined (retitle_count_of_parts h section ps (length ps)) c.0 (within_all l)) was.3 c.2,
  )

-- all of them were filled
pub filling_all : (start new : State) (section : ℕ → Option Identifier) (ps : List Part) (k n : ℕ) → k ≤ length ps → FillsFirst start new section ps k n
    → CostsFilling start new section ps (Ok n)
filling_all start new section ps k n l was =
    let f : ℕ → ℕ = λ k. retitle_count start.held.history (section k) (option_map (λ (p : Part). p.title) (slice_get ps k)) in
    let longer = sum_below_longer f k (length ps) l in (
      was.0,
      was.2,
      costs_more start new (filling (retitle_count_of_parts start.held.history section ps k) was.0)
          (filling (retitle_count_of_parts start.held.history section ps (length ps)) was.0) (Ok n)
          (up (omega (arith, longer)) (omega (arith, longer)) (omega (arith, longer))) was.3,
    )

-- hunks cut and put no more than there is
hunks_within : (h : List Op) (xs : List Identifier) (ps : List Part) (hunks : List (List Hunk)) → AreHunksOf h (slice_get xs) ps hunks
    → (sum_by size hunks ≤ shown_letters h xs + part_letters ps) × (sum_by put_size hunks ≤ part_letters ps)
hunks_within h xs ps [] a = (omega arith, omega arith)
hunks_within h xs [] (hs ∷ hunks) a = let first = a.each 0 hs refl in absurd (none-some first.0 first.1)
hunks_within h [] (p ∷ ps) (hs ∷ hunks) a =
    let first = a.each 0 hs refl in
    let same : p ≡ first.0 = same_Some p first.0 first.1 in
    let rest = hunks_within h [] ps hunks (record { each = λ k gs e. a.each (suc k) gs e }) in
    let one = chosen_within [] (chars p.text) hs (subst (λ (q : Part). AreChosen [] (chars q.text) hs) (sym same) first.2) in (
      omega (arith, rest.0, one.operations, sum_by-cons size hs hunks, sum_by-cons (λ (p : Part). length (chars p.text)) p ps),
      omega (arith, rest.1, one.counters, sum_by-cons put_size hs hunks, sum_by-cons (λ (p : Part). length (chars p.text)) p ps),
    )
hunks_within h (x ∷ xs) (p ∷ ps) (hs ∷ hunks) a =
    let first = a.each 0 hs refl in
    let same : p ≡ first.0 = same_Some p first.0 first.1 in
    let rest = hunks_within h xs ps hunks (record { each = λ k gs e. a.each (suc k) gs e }) in
    let one = chosen_within (text h x) (chars p.text) hs (subst (λ (q : Part). AreChosen (text h x) (chars q.text) hs) (sym same) first.2) in (
      omega (arith, rest.0, one.operations, sum_by-cons size hs hunks, sum_by-cons (λ (p : Part). length (chars p.text)) p ps, sum_by-cons (λ s. length (text h s)) x xs),
      omega (arith, rest.1, one.counters, sum_by-cons put_size hs hunks, sum_by-cons (λ (p : Part). length (chars p.text)) p ps),
    )

pub filling_within : (old new : State) (xs : List Identifier) (ps : List Part) (result : Result ℕ ReviseFault) → CostsFilling old new (slice_get xs) ps result
    → Costs old new (filling_cost old.held.history xs ps) result
filling_within old new xs ps result c =
    let h : List Op = old.held.history in
    let t : ℕ = retitle_count_of_parts h (slice_get xs) ps (length ps) in
    let titles = sum_below_within (λ k. retitle_count h (slice_get xs k) (option_map (λ (p : Part). p.title) (slice_get ps k))) (length ps)
    (λ k. retitles_most h (slice_get xs k) (option_map (λ (p : Part). p.title) (slice_get ps k))) in
    let hunks = hunks_within h xs ps c.0 c.1 in
    costs_more old new (filling t c.0) (filling_cost h xs ps) result (up (omega (arith, titles, hunks.0)) (omega (arith, titles, hunks.1)) (omega (arith, titles))) c.2

no_part : Part
no_part = record { title = []; text = [] }

-- sections were matched with the parts of a draft, and came to stand as they do
module _ (old mid : State) (n : ℕ) (read : List ReadPart) (ps : List Part) (are : map seen_part read ≡ ps) (pairs : Pairs) (matched : IsMatched old.held.history read pairs)
    (moved : ℕ)
    (moves : PlansMoves old.held.history pairs (length ps) moved) where
  abbrev start : List Op
  start = old.held.history

  abbrev plan : (hunks : List (List Hunk)) → AreHunksOf start (section_before start pairs) ps hunks → Plan start ps
  plan hunks a = record { read = read; read_are = are; pairs = pairs; matched = matched; moved = moved; moves = moves; hunks = hunks; chosen = a }

  -- there was no room for that
  pub shaping_lacks_plan : (why : ReviseFault) → LacksRoom old (shaping pairs moved (length (arranged start)) (length ps)) why → LacksPlan old ps why
  shaping_lacks_plan why lacks =
      let c : Cost = shaping pairs moved (length (arranged start)) (length ps) in
      inr (plan [] (no_hunks start (section_before start pairs) ps), lacks_more old c (plan_cost start ps pairs moved []) why (up (omega arith) (omega arith) (omega arith)) lacks)

  module _ (w : Lawful start) (v : Lawful mid.held.history) (shaped : IsReshaped old mid n) (same : SameTexts start mid.held.history)
      (stand : StandsAs start mid.held.history pairs ps)
      (inside : (j i : ℕ) → section_of pairs j ≡ Some i → i < length (arranged start)) where
    abbrev g : List Op
    g = mid.held.history

    abbrev title_at : ℕ → Option (List ℕ)
    title_at k = option_map (λ (p : Part). p.title) (slice_get ps k)

    -- the section of a part has the heading and the text that it had; one that came has the part's title, and no text
    record IsAsBefore (k : ℕ) (now before : Option Identifier) : Type 0 where
      pub reads : text_before g now ≡ text_before start before
      pub titled : retitle_count g now (title_at k) ≤ retitle_count start before (title_at k)

    as_before : (k : ℕ) → k < length ps → IsAsBefore k (slice_get (arranged g) k) (section_before start pairs k)
    as_before k l = by (section_of pairs k) refl
      where
        here : (s : Identifier) × (slice_get (arranged g) k ≡ Some s)
        here = get_some (arranged g) k (omega (arith, l, stand.sections.long))

        matched_with : (i : ℕ) → section_of pairs k ≡ Some i → (s : Identifier) × (slice_get (arranged start) i ≡ Some s)
        matched_with i e = get_some (arranged start) i (inside k i e)

        titled_there : (s : Identifier) → section_of pairs k ≡ None → slice_get (arranged g) k ≡ Some s → retitle_count g (Some s) (title_at k) ≤ 0
        titled_there s e at =
            let is : slice_get ps k ≡ Some (get_or ps k no_part) = slice_get-get_or ps k no_part l in
            omega (
              arith,
              ap (λ o. retitle_count g (Some s) (option_map (λ (p : Part). p.title) o)) is
                  ∙ no_retitle g s (get_or ps k no_part).title (stand.titled k s (get_or ps k no_part) e at is),
            )

        by : (o : Option ℕ) → section_of pairs k ≡ o → IsAsBefore k (slice_get (arranged g) k) (section_before start pairs k)
        by None e =
            let s = here.0 in
            let new : holds start s ≡ false = stand.sections.fresh k s e here.1 in
            let none : text g s ≡ [] = nil_from_length (text g s) (omega (arith, text_length g s v, ap length (same s), ap length (nothing_shown start s w new))) in
            subst (λ o. IsAsBefore k o (section_before start pairs k)) (sym here.1)
            (subst (IsAsBefore k (Some s)) (sym (ap (λ o. elim o [ None ↦ None | Some i ↦ slice_get (arranged start) i ]) e))
            (record { reads = none; titled = titled_there s e here.1 }))
        by (Some i) e =
            let x = matched_with i e in
            let s = x.0 in
            let held : holds start s ≡ true = shown_holds start s w (arranged_shown start s (get_in (arranged start) i s x.1)) in
            let stays = shaped.keeps.same s held in
            subst (λ o. IsAsBefore k o (section_before start pairs k)) (sym (stand.sections.kept k i s e x.1))
            (subst (IsAsBefore k (Some s)) (sym (ap (λ o. elim o [ None ↦ None | Some i ↦ slice_get (arranged start) i ]) e ∙ x.1))
            (record { reads = stays.reads; titled = omega (arith, same_retitles g start s (title_at k) stays.headed) }))

    titles_before : retitle_count_of_parts g (slice_get (arranged g)) ps (length ps) ≤ retitle_count_of_parts start (section_before start pairs) ps (length ps)
    titles_before =
        sum_below_less (λ k. retitle_count g (slice_get (arranged g) k) (option_map (λ (p : Part). p.title) (slice_get ps k)))
        (λ k. retitle_count start (section_before start pairs k) (option_map (λ (p : Part). p.title) (slice_get ps k))) (length ps)
        (λ k l. (as_before k l).titled)

    -- and there was no room for the titles and texts
    pub filling_lacks_plan : (new : State) (why : ReviseFault) → Costs old mid (shaping pairs moved (length (arranged start)) (length ps)) (Ok n)
        → CostsFilling mid new (slice_get (arranged g)) ps (Err why) → LacksPlan old ps why
    filling_lacks_plan new why first c =
        let hunks : List (List Hunk) = c.0 in
        let chosen : AreHunksOf start (section_before start pairs) ps hunks = record {
          each = λ k hs e.
              let was = c.1.each k hs e in
              (was.0, was.1, subst (λ t. AreChosen t (chars was.0.text) hs) (as_before k (slice_get_within ps k was.0 was.1)).reads was.2);
        } in
        inr (
          plan hunks chosen,
          costs_stop old mid (shaping pairs moved (length (arranged start)) (length ps)) (filling (retitle_count_of_parts g (slice_get (arranged g)) ps (length ps)) hunks)
              (plan_cost start ps pairs moved hunks) n why
              (up (omega (arith, titles_before)) (omega (arith, titles_before)) (omega (arith, titles_before))) first c.2,
        )
