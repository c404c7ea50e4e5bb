-- What it costs to revise texts, to give sections the titles and texts of parts, and to revise a whole manuscript.
use Rattle.std.proofs.Common.{List, [], ap, arith, drop, get_or, inl, inr, length, nat_eq, subst, sym, take, ℕ, ◌+◌, ◌*◌, ◌++◌, ◌-◌, ◌<◌, ◌≤◌, ◌∙◌, ◌∷◌, ◌≡◌, ◌≢◌, ◌⊎◌, false, not}
use Rattle.std.specs.Prelude.{All, AllPairs, Err, Ok, Result, filter}
use Rattle.std.specs.List.{Contains, sum_by}
use Rattle.std.specs.Str.{chars}
use Rattle.std.proofs.lemmas.List.{drop_more, length-drop, length-take-le, take-append-drop}
use Rattle.std.proofs.lemmas.List.Elements.{All-contains}
use Rattle.std.proofs.lemmas.List.Sums.{sum_by-append, sum_by-cons, sum_by-take-drop}
use Rattle.fugue_ids.specs.Identifiers.{Identifier}
use Rattle.fugue_ids.specs.declared.op.Op.{Op}
use Rattle.fugue_ids.proofs.ListLemmas.{all_pairs_head, all_pairs_tail, contains_here, contains_middle_cases, contains_there}
use Rattle.origin_model.specs.declared.edit_fault.EditFault.{EditFault}
use Rattle.origin_model.specs.declared.edit_fault.EditFault.TheVariants as edit
use Rattle.origin_model.specs.declared.operations.Place.TheVariants.{Section as within}
use Rattle.origin_model.specs.edits.Edits.{Cut, Put}
use Rattle.origin_model.specs.edits.Effect.{IsMade}
use Rattle.origin_model.specs.edits.Refusal.{RefusesExactly}
use Rattle.origin_model.specs.edits.State.{IsSound, State}
use Rattle.origin_model.specs.operations.History.{holds}
use Rattle.origin_model.specs.operations.Verdict.{Lawful}
use Rattle.origin_model.specs.order.Order.{order}
use Rattle.origin_model.specs.order.Printed.{is_hidden, shown, text}
use Rattle.origin_model.specs.sides.Node.{node_order}
use Rattle.origin_model.proofs.SharedLemmas.{no_text_before, order_by_nodes}
use Rattle.origin_model.proofs.edits.AllowedLemmas.{allowed}
use Rattle.origin_model.proofs.edits.EditedTextLemmas.{text_length}
use Rattle.origin_model.proofs.edits.RefusalLemmas.{cut_count, put_count}
use Rattle.text_diff.specs.Hunks.{Transforms, TransformsFrom, hunk_start}
use Rattle.text_diff.specs.Kept.{KeepsLines}
use Rattle.text_diff.specs.Seams.{KeepsWords}
use Rattle.text_diff.specs.Tight.{IsTight}
use Rattle.text_diff.specs.declared.hunk.Hunk.{Hunk}
use Rattle.catalogue_notes.specs.Arranged.{arranged}
use Rattle.catalogue_notes.proofs.ArrangedLemmas.{arranged_once, arranged_shown, shown_arranged}
use Rattle.draft_plan.specs.Drafts.{Part}
use Rattle.draft_plan.specs.Limits.{AreChosen, Cost, Costs, CostsText, LacksRoom, SameTexts, by_edit, cost, hunk_cost, hunks_cost, arranged_letters, shown_letters, part_letters}
use Rattle.draft_plan.specs.Limits.{plus, put_size, revision_cost}
use Rattle.draft_plan.specs.Shaping.{IsReshaped}
use Rattle.draft_plan.specs.declared.fault.ReviseFault.{ReviseFault}
use Rattle.draft_plan.specs.declared.fault.ReviseFault.TheVariants as fault
use Rattle.draft_plan.proofs.EditCostLemmas.{edit_costs, edit_lacks}
use Rattle.draft_plan.proofs.KeptLemmas.{same_common, size_more, size_within}
use Rattle.draft_plan.proofs.LimitLemmas.{IsUpTo, costs_join, costs_more, costs_none, costs_stop, lacks_more, up}
use Rattle.draft_plan.proofs.ReviseLemmas.{no_hunk}
use Rattle.draft_plan.proofs.RevisionLemmas.{stands_at}
use Rattle.draft_plan.proofs.ShapeLemmas.{got}
use Rattle.draft_plan.proofs.TextLemmas.{IsCutAndPut}

-- a hunk that was made
pub hunk_costs : (old mid new : State) (k cut put : ℕ) (h : Hunk) (chs : List ℕ) → length chs ≡ h.new_len → IsCutAndPut old mid new k h.old_at h.old_len cut put chs
    → Costs old new (hunk_cost h) (Ok (cut + put))
hunk_costs old mid new k cut put h chs long i =
    let first = edit_costs old mid (Cut k h.old_at h.old_len) cut i.lawful i.cuts i.cut_made in
    let next = edit_costs mid new (Put k h.old_at chs) put i.then_lawful i.puts i.put_made in
    let cuts = cut_count old k h.old_at h.old_len (allowed old (Cut k h.old_at h.old_len) cut i.cuts) in
    let puts = put_count mid k h.old_at chs (allowed mid (Put k h.old_at chs) put i.puts) in
    costs_join old mid new (cost cut 0 0) (cost put (length chs) 0) (hunk_cost h) cut put
    (up (omega (arith, i.cut_made.count, i.put_made.count, cuts, puts, long)) (omega (arith, long)) (omega arith)) first next

-- its cut
pub cut_costs : (old mid : State) (k cut : ℕ) (h : Hunk) → Lawful old.held.history → RefusesExactly old (Cut k h.old_at h.old_len) (Ok cut)
    → IsMade old mid (Cut k h.old_at h.old_len) cut
    → Costs old mid (cost h.old_len 0 0) (Ok cut)
cut_costs old mid k cut h w cuts made =
    let count = cut_count old k h.old_at h.old_len (allowed old (Cut k h.old_at h.old_len) cut cuts) in
    costs_more old mid (cost cut 0 0) (cost h.old_len 0 0) (Ok cut) (up (omega (arith, made.count, count)) (omega arith) (omega arith))
    (edit_costs old mid (Cut k h.old_at h.old_len) cut w cuts made)

pub put_long : (at n : ℕ) (new chs : List ℕ) → at + n ≤ length new → chs ≡ take n (drop at new) → length chs ≡ n
put_long at n new chs l e = ap length e ∙ length-take-le n (drop at new) (omega (arith, l, length-drop at new))

-- one whose cut was refused
pub cut_lacks : (s : State) (k : ℕ) (h : Hunk) (why : EditFault) → IsSound s → RefusesExactly s (Cut k h.old_at h.old_len) (Err why) → LacksRoom s (hunk_cost h) (fault.Edit why)
cut_lacks s k h why st exact = edit_lacks (Cut k h.old_at h.old_len) s (hunk_cost h) why st (omega arith) (omega arith) exact

-- or its put
pub put_lacks : (old mid : State) (k cut : ℕ) (h : Hunk) (chs : List ℕ) (why : EditFault) → IsSound mid → Costs old mid (cost h.old_len 0 0) (Ok cut) → length chs ≡ h.new_len
    → RefusesExactly mid (Put k h.old_at chs) (Err why)
    → LacksRoom old (hunk_cost h) (fault.Edit why)
put_lacks old mid k cut h chs why st first long exact =
    costs_stop old mid (cost h.old_len 0 0) (cost h.new_len h.new_len 0) (hunk_cost h) cut (fault.Edit why) (up (omega arith) (omega arith) (omega arith)) first
    (edit_lacks (Put k h.old_at chs) mid (cost h.new_len h.new_len 0) why st (omega (arith, long)) (omega (arith, long)) exact)

-- hunks after one
put_more : (h : Hunk) (hs : List Hunk) → put_size (h ∷ hs) ≡ h.new_len + put_size hs
put_more h hs = sum_by-cons (λ (g : Hunk). g.new_len) h hs

one_more : (h : Hunk) (hs : List Hunk) → IsUpTo (plus (hunks_cost hs) (hunk_cost h)) (hunks_cost (h ∷ hs))
one_more h hs = record { operations = omega (arith, size_more h hs); counters = omega (arith, put_more h hs); stamps = omega arith }

-- the hunks from one on are no more than all
after_size : (hs : List Hunk) (k : ℕ) → IsUpTo (hunks_cost (drop k hs)) (hunks_cost hs)
after_size hs k = record {
  operations = omega (arith, sum_by-take-drop (λ (h : Hunk). h.old_len + h.new_len) hs k);
  counters = omega (arith, sum_by-take-drop (λ (h : Hunk). h.new_len) hs k);
  stamps = omega arith;
}

-- the hunks that are made, from one on, and the one in front of that
module _ (old mid : State) (hs : List Hunk) (left n : ℕ) (some : 0 < left) (fits : left ≤ length hs) (first : Costs old mid (hunks_cost (drop left hs)) (Ok n)) where
  abbrev h : Hunk
  h = get_or hs (left - 1) no_hunk

  split : drop (left - 1) hs ≡ h ∷ drop left hs
  split = drop_more hs (left - 1) no_hunk (omega (arith, some, fits)) ∙ ap (λ n. h ∷ drop n hs) (omega (arith, some))

  -- that one was made
  pub hunks_join : (new : State) (m : ℕ) → Costs mid new (hunk_cost h) (Ok m) → Costs old new (hunks_cost (drop (left - 1) hs)) (Ok (n + m))
  hunks_join new m next =
      subst (λ l. Costs old new (hunks_cost l) (Ok (n + m))) (sym split)
      (costs_join old mid new (hunks_cost (drop left hs)) (hunk_cost h) (hunks_cost (h ∷ drop left hs)) n m (one_more h (drop left hs)) first next)

  -- or it was refused
  pub hunks_stop : (why : ReviseFault) → LacksRoom mid (hunk_cost h) why → LacksRoom old (hunks_cost hs) why
  hunks_stop why lacks =
      lacks_more old (hunks_cost (drop (left - 1) hs)) (hunks_cost hs) why (after_size hs (left - 1))
      (subst (λ l. LacksRoom old (hunks_cost l) why) (sym split)
      (costs_stop old mid (hunks_cost (drop left hs)) (hunk_cost h) (hunks_cost (h ∷ drop left hs)) n why (one_more h (drop left hs)) first lacks))

-- hunks put no more letters than there are (a point is written as where a hunk begins)
put_from : (old new : List ℕ) (least : ℕ) (p : Hunk) (hs : List Hunk) (q : Hunk) → TransformsFrom nat_eq old new least (hunk_start p) hs (hunk_start q)
    → put_size hs + p.new_at ≤ q.new_at
put_from old new least p [] q t = omega (arith, t.order, t.as_many)
put_from old new least p (h ∷ hs) q t =
    let rest = put_from old new 1 (record { old_at = h.old_at + h.old_len; old_len = 0; new_at = h.new_at + h.new_len; new_len = 0 }) hs q t.3 in
    omega (arith, put_more h hs, rest, t.1.order, t.1.as_many)

put_within : (old new : List ℕ) (hs : List Hunk) → Transforms nat_eq old new hs → put_size hs ≤ length new
put_within old new hs t =
    omega (
      arith,
      put_from old new 0 (record { old_at = 0; old_len = 0; new_at = 0; new_len = 0 }) hs
          (record { old_at = length old; old_len = 0; new_at = length new; new_len = 0 }) t,
    )

-- a text that is the same
pub same_costs : (s : State) (x : Identifier) (reads : List ℕ) → text s.held.history x ≡ reads → CostsText s s x reads (Ok 0)
same_costs s x reads e =
    let t : List ℕ = text s.held.history x in
    let kept = (same_common s.held.history t (shown (within x) s.held.history)).0 in
    subst (λ z. CostsText s s x z (Ok 0)) e (
      kept.hunks,
      record { transforms = kept.transforms; words = kept.words; tight = kept.tight; unchanged = kept.unchanged; lines = kept.lines },
      costs_none s (hunks_cost kept.hunks),
    )

-- hunks that were made, or not
pub chosen_costs : (old new : State) (x : Identifier) (reads : List ℕ) (hs : List Hunk) (result : Result ℕ EditFault) → AreChosen (text old.held.history x) reads hs
    → Costs old new (hunks_cost hs) (by_edit result)
    → CostsText old new x reads result
chosen_costs old new x reads hs (Ok n) a c = (hs, a, c)
chosen_costs old new x reads hs (Err edit.NoMemory) a c = tt
chosen_costs old new x reads hs (Err edit.NoSection) a c = (hs, a, c)
chosen_costs old new x reads hs (Err edit.OutOfRange) a c = (hs, a, c)
chosen_costs old new x reads hs (Err (edit.IdsSpent n)) a c = (hs, a, c)
chosen_costs old new x reads hs (Err (edit.TooMany n)) a c = (hs, a, c)

pub text_chosen : (old new : State) (k : ℕ) (x : Identifier) (bytes reads : List ℕ) (hs : List Hunk) (result : Result ℕ EditFault) → text old.held.history x ≡ chars bytes
    → Transforms nat_eq (chars bytes) reads hs
    → All (KeepsWords (chars bytes) reads) hs → All (IsTight (chars bytes) reads) hs → (chars bytes ≡ reads → hs ≡ []) → KeepsLines (chars bytes) reads hs
    → Costs old new (hunks_cost hs) (by_edit result) → CostsText old new x reads result
text_chosen old new k x bytes reads hs result is transforms words tight unchanged lines c =
    chosen_costs old new x reads hs result
    (subst (λ t. AreChosen t reads hs) (sym is) (record { transforms = transforms; words = words; tight = tight; unchanged = unchanged; lines = λ other. lines })) c

-- so a text costs no more than its old letters and its new ones
abbrev pub text_cost : (old new : List ℕ) → Cost
text_cost old new = cost (length old + length new) (length new) 0

pub chosen_within : (old new : List ℕ) (hs : List Hunk) → AreChosen old new hs → IsUpTo (hunks_cost hs) (text_cost old new)
chosen_within old new hs a = record { operations = size_within old new hs a.transforms; counters = put_within old new hs a.transforms; stamps = omega arith }

-- what it costs at most that sections get the titles and texts of parts
abbrev pub filling_cost : List Op → List Identifier → List Part → Cost
filling_cost h sections parts = cost (shown_letters h sections + part_letters parts + length parts) (part_letters parts + length parts) (length parts)

-- a list without the member at a place
without_at : (f : Identifier → ℕ) (ys : List Identifier) (k : ℕ) (x : Identifier) → k < length ys → get_or ys k x ≡ x
    → (sum_by f ys ≡ f x + sum_by f (take k ys ++ drop (k + 1) ys)) × ((y : Identifier) → y ≢ x → Contains ys y → Contains (take k ys ++ drop (k + 1) ys) y)
without_at f ys k x l e =
    let rest : List Identifier = drop (k + 1) ys in
    let front : List Identifier = take k ys in
    let split : drop k ys ≡ x ∷ rest = drop_more ys k x l ∙ ap (λ z. z ∷ rest) e in
    let whole : ys ≡ front ++ x ∷ rest = sym (take-append-drop k ys) ∙ ap (λ l. front ++ l) split in (
      omega (arith, ap (sum_by f) whole, sum_by-append f front (x ∷ rest), sum_by-cons f x rest, sum_by-append f front rest),
      λ y d m. elim (contains_middle_cases front x rest y (subst (λ l. Contains l y) whole m)) [ inl same ↦ absurd (d (sym same)) | inr q ↦ q ],
    )

-- the sum over members of a list, each once, is no more than that over the list
sum_within : (f : Identifier → ℕ) (xs ys : List Identifier) → AllPairs (λ s t. s ≢ t) xs → ((x : Identifier) → Contains xs x → Contains ys x ⊎ (f x ≡ 0))
    → sum_by f xs ≤ sum_by f ys
sum_within f [] ys once m = omega arith
sum_within f (x ∷ xs) ys once m =
    let later : (y : Identifier) → Contains xs y → Contains ys y ⊎ (f y ≡ 0) = λ y q. m y (contains_there x xs y q) in
    let rest : AllPairs (λ s t. s ≢ t) xs = all_pairs_tail (λ s t. s ≢ t) x xs once in
    elim (m x (contains_here x xs)) [
      | inl there ↦
          let at = stands_at ys x there in
          let g = got ys at.0 x at.1 in
          let out = without_at f ys at.0 x g.0 g.1 in
          let other : (y : Identifier) → Contains xs y → y ≢ x = λ y q e. All-contains (λ t. x ≢ t) xs y (all_pairs_head (λ s t. s ≢ t) x xs once) q (sym e) in
          let less = sum_within f xs (take at.0 ys ++ drop (at.0 + 1) ys) rest (λ y q. elim (later y q) [ inl k ↦ inl (out.1 y (other y q) k) | inr k ↦ inr k ]) in
          omega (arith, less, out.0, sum_by-cons f x xs)
      | inr none ↦ omega (arith, none, sum_by-cons f x xs, sum_within f xs ys rest later)
    ]

-- what is not held shows nothing
pub nothing_shown : (o : List Op) (s : Identifier) → Lawful o → holds o s ≡ false → shown (within s) o ≡ []
unfolding order
nothing_shown o s w new =
    let none : order (within s) o ≡ [] = (order_by_nodes (within s) o w).same_order ∙ ap node_order (no_text_before o s w new) in
    ap (filter (λ x. not (is_hidden o x))) none

no_letters : (o : List Op) (s : Identifier) → Lawful o → holds o s ≡ false → length (text o s) ≡ 0
no_letters o s w new = omega (arith, text_length o s w, ap length (nothing_shown o s w new))

-- where texts stay, and what came is new, the sections show no more letters than before
pub letters_shaped : (old mid : State) (n : ℕ) → Lawful old.held.history → Lawful mid.held.history → IsReshaped old mid n → SameTexts old.held.history mid.held.history
    → arranged_letters mid.held.history ≤ arranged_letters old.held.history
letters_shaped old mid n w v shaped same =
    let h : List Op = old.held.history in
    let g : List Op = mid.held.history in
    let each : (s : Identifier) → length (text g s) ≡ length (text h s) = λ s. omega (arith, text_length g s v, text_length h s w, ap length (same s)) in
    let as_before : shown_letters g (arranged g) ≡ shown_letters h (arranged g) = (λ i. sum_by (λ s. each s i) (arranged g)) in
    let within_old = sum_within (λ s. length (text h s)) (arranged g) (arranged h) (arranged_once g v) (λ s m.
    elim (shaped.keeps.came s (arranged_shown g s m)) [ inl k ↦ inl (shown_arranged h s w k) | inr k ↦ inr (no_letters h s w k) ]) in
    omega (arith, as_before, within_old)

-- a manuscript whose sections were added, dropped and moved, and then filled
module _ (old : State) (ps : List Part) (g : List Op) (e : ℕ) (count : e ≡ length (arranged old.held.history))
    (fewer : arranged_letters g ≤ arranged_letters old.held.history) where
  abbrev shaping : Cost
  shaping = cost (e + 2 * length ps) (2 * length ps) (length ps)

  abbrev filling : Cost
  filling = filling_cost g (arranged g) ps

  revision_more : IsUpTo (plus shaping filling) (revision_cost old.held.history ps)
  revision_more = record { operations = omega (arith, count, fewer); counters = omega arith; stamps = omega arith }

  pub revision_costs : (mid new : State) (n m : ℕ) → Costs old mid shaping (Ok n) → Costs mid new filling (Ok m) → Costs old new (revision_cost old.held.history ps) (Ok (n + m))
  revision_costs mid new n m first next =
      costs_join old mid new shaping filling (revision_cost old.held.history ps) n m revision_more first next

  pub revision_lacks : (mid : State) (n : ℕ) (why : ReviseFault) → Costs old mid shaping (Ok n) → LacksRoom mid filling why → LacksRoom old (revision_cost old.held.history ps) why
  revision_lacks mid n why first lacks =
      costs_stop old mid shaping filling (revision_cost old.held.history ps) n why revision_more first lacks

pub shaping_lacks : (old : State) (ps : List Part) (e : ℕ) (why : ReviseFault) → e ≡ length (arranged old.held.history)
    → LacksRoom old (cost (e + 2 * length ps) (2 * length ps) (length ps)) why
    → LacksRoom old (revision_cost old.held.history ps) why
shaping_lacks old ps e why count lacks =
    lacks_more old (cost (e + 2 * length ps) (2 * length ps) (length ps)) (revision_cost old.held.history ps) why
    (record { operations = omega (arith, count); counters = omega arith; stamps = omega arith }) lacks
