-- Entries that are sorted are the remarks in order.
use Rattle.std.proofs.Common.{List, arith, false, get_or, inl, inr, map, subst, sym, true, ◌≢◌, ◌∙◌, ◌≡◌}
use Rattle.std.specs.Prelude.{IsPermutation, IsSorted}
use Rattle.std.specs.Cmp.{IsTotalOrder}
use Rattle.std.specs.List.{AllPairs}
use Rattle.std.specs.Ordering.{is_lt}
use Rattle.std.specs.declared.cmp.Ordering.{Ordering}
use Rattle.std.proofs.lemmas.Bool.{cases_Bool, true≢false}
use Rattle.std.proofs.lemmas.Cmp.{nat_cmp_total, on_total, then_total}
use Rattle.std.proofs.lemmas.Grind.{common_steps}
use Rattle.std.proofs.lemmas.List.Sorted.{Contains-permutation, IsPermutation-map, IsPermutation-sym, ranks_by, sorted_far}
use Rattle.fugue_ids.specs.declared.op.Op.{Op}
use Rattle.fugue_ids.proofs.ListLemmas.{all_pairs_from_map, all_pairs_map}
use Rattle.margin_notes.proofs.SortLemmas.{same_ordered}
use Rattle.margin_notes.proofs.SortedLemmas.{others_shuffled}
use Rattle.passage_remarks.specs.contracts.entry.EntryOrd.TheImpl as entry_ord
use Rattle.passage_remarks.specs.declared.entry.Entry.{Entry}
use Rattle.passage_remarks.specs.Listing.{entry_remark}
use Rattle.passage_remarks.specs.Remarks.{Remark, in_order, is_before}
use Rattle.passage_remarks.proofs.OrderLemmas.{Before, Others, before_irrefl, before_other, before_trans, in_order_from, in_order_in, in_order_ordered}

-- the order of entries
abbrev entry_cmp : Entry → Entry → Ordering
entry_cmp = (entry_ord.ghosts).cmp

entries_total : IsTotalOrder entry_cmp
entries_total =
    then_total (on_total (λ e. e.place) nat_cmp_total)
    (then_total (on_total (λ e. e.from) nat_cmp_total)
    (then_total (then_total (on_total (λ e. e.id.replica) nat_cmp_total) (on_total (λ e. e.id.counter) nat_cmp_total))
    (then_total (then_total (on_total (λ e. e.section.replica) nat_cmp_total) (on_total (λ e. e.section.counter) nat_cmp_total))
    (then_total (on_total (λ e. e.to) nat_cmp_total) (on_total (λ e. e.at) nat_cmp_total)))))

-- an entry is less where its remark stands before
lower : (ops : List Op) (a b : Entry) → Before (entry_remark ops a) (entry_remark ops b) → is_lt (entry_cmp a b) ≡ true
lower ops a b e = grind (arith, common_steps)

-- so one that is not greater than another stands before it
not_greater : (ops : List Op) (a b : Entry) → is_lt (entry_cmp b a) ≡ false → a.id ≢ b.id → Before (entry_remark ops a) (entry_remark ops b)
not_greater ops a b n d =
    elim (cases_Bool (is_before (entry_remark ops a) (entry_remark ops b))) [
      | inl k ↦ k
      | inr k ↦ absurd (true≢false (sym (lower ops b a (before_other (entry_remark ops a) (entry_remark ops b) d k)) ∙ n))
    ]

module _ (ops : List Op) (rs : List Remark) (others : AllPairs Others rs) (es fs : List Entry) (are : map (entry_remark ops) es ≡ rs) (p : IsPermutation es fs)
    (sorted : IsSorted entry_cmp fs) where
  abbrev remark : Entry → Remark
  remark = entry_remark ops

  apart : AllPairs (λ (a b : Entry). a.id ≢ b.id) fs
  apart = others_shuffled (λ (e : Entry). e.id) es fs p (all_pairs_from_map remark Others es (subst (AllPairs Others) (sym are) others))

  ordered : AllPairs Before (map remark fs)
  ordered =
      all_pairs_map remark Before fs
      (λ i j d l m.
      not_greater ops (get_or fs i d) (get_or fs j d) (sorted_far (λ a b. is_lt (entry_cmp a b)) (ranks_by entries_total (λ e. e)) fs sorted i j d (omega (arith, l)) m)
      (apart i j d l m))

  shuffled : IsPermutation rs (map remark fs)
  shuffled = subst (λ l. IsPermutation l (map remark fs)) are (IsPermutation-map remark es fs p)

  pub sorted_remarks : map remark fs ≡ in_order rs
  sorted_remarks =
      same_ordered Before before_irrefl before_trans (map remark fs) (in_order rs) ordered (in_order_ordered rs others)
      (λ x m. in_order_in rs x (Contains-permutation (map remark fs) rs x (IsPermutation-sym rs (map remark fs) shuffled) m))
      (λ x m. Contains-permutation rs (map remark fs) x shuffled (in_order_from rs x m))
