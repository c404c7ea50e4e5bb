-- Two authors' drafts come together: the text is what both changes give.
use Rattle.std.proofs.Common.{Bool, List, [], ap, arith, false, inl, inr, length, refl, subst, sym, true, ℕ, ◌++◌, ◌∙◌, ◌∷◌, ◌≡◌, ◌⊎◌}
use Rattle.std.specs.Prelude.{if◌then◌else◌, map}
use Rattle.std.specs.List.{AllPairs, Contains}
use Rattle.std.proofs.lemmas.List.{map-append}
use Rattle.fugue_ids.specs.Identifiers.{Identifier}
use Rattle.fugue_ids.specs.declared.op.Op.{Op}
use Rattle.origin_model.specs.declared.operations.Place.{Place}
use Rattle.origin_model.specs.declared.operations.Place.TheVariants.{Section as within}
use Rattle.origin_model.specs.edits.Passages.{Relation}
use Rattle.origin_model.specs.operations.History.{has_op}
use Rattle.origin_model.specs.operations.Verdict.{Lawful}
use Rattle.origin_model.specs.order.Laws.{IsIn}
use Rattle.origin_model.specs.order.Order.{before}
use Rattle.origin_model.specs.order.Printed.{is_hidden, shown, text}
use Rattle.origin_model.proofs.SharedLemmas.{element_own, has-holder, holder-has, order_total, same_ordered}
use Rattle.text_diff.specs.Merges.{TextChange, IsLeftScalar, IsMerge, PutBoth, puts_at}
use Rattle.text_diff.proofs.MergeLemmas.{merges_keep_words}
use Rattle.merged_words.specs.Drafts.{ComeTogether, DraftsMerge, IsAuthoredDraft, NoThirdWord, draft_change}
use Rattle.merged_words.proofs.ListLemmas.{StandsAt, left_of_it, merged, merged_from, merged_ordered, merged_put, merged_stays}
use Rattle.merged_words.proofs.PassageLemmas.{both, both_first, both_from, both_ordered, both_second, goes_first, in_whole}
use Rattle.merged_words.proofs.MergeLemmas.{reads_merged}
use Rattle.merged_words.proofs.DraftLemmas.{base_whole, come, come_shown, come_stands, hidden_cut, hidden_from, in_shown, is_own, own_hides, own_shown_from, part_shown_ordered}
use Rattle.merged_words.proofs.DraftLemmas.{puts_come, scalar, shown_in, stays_uncut, text_is}

-- the same of the other author
turned : (base a b whole : List Op) → ComeTogether base a b whole → ComeTogether base b a whole
turned base a b whole c = record {
  lawful = c.lawful;
  first = c.second;
  second = c.first;
  no_more = λ op k. elim (c.no_more op k) [ inl q ↦ inr q | inr q ↦ inl q ];
  apart = λ x k j. c.apart x j k;
}

module _ (s : Identifier) (base a b whole : List Op) (u : Lawful base) (d : IsAuthoredDraft s base a) (e : IsAuthoredDraft s base b) (c : ComeTogether base a b whole) where
  abbrev p : Place
  p = within s

  abbrev R : Relation
  R = before p whole

  abbrev T : Identifier → Identifier → Type 0
  T x y = before p whole x y ≡ true

  abbrev S : List Identifier
  S = shown p base

  back : ComeTogether base b a whole
  back = turned base a b whole c

  abbrev ca : ℕ → List Identifier
  ca = come s base a b whole u e.lawful d c

  abbrev cb : ℕ → List Identifier
  cb = come s base b a whole u d.lawful e (turned base a b whole c)

  abbrev puts : ℕ → List Identifier
  puts i = both R (ca i) (cb i)

  abbrev M : List Identifier
  M = merged puts (is_hidden whole) 0 S

  stands : (front behind : List Identifier) → S ≡ front ++ behind → (x : Identifier) → Contains (puts (length front)) x → StandsAt R front behind x
  stands front behind i x m =
      elim (both_from R (ca (length front)) (cb (length front)) x m) [
        | inl k ↦ come_stands s base a b whole u e.lawful d c front behind i x k
        | inr k ↦ come_stands s base b a whole u d.lawful e back front behind i x k
      ]

  ordered : AllPairs T M
  ordered =
      merged_ordered R (order_total p whole c.lawful).transitive puts (is_hidden whole) S
      (part_shown_ordered s base a b whole u e.lawful d c base u (base_whole s base a b whole u e.lawful d c))
      (λ i. both_ordered p whole c.lawful a b (ca i) (cb i) (is_own s base a b whole u e.lawful d c i) (is_own s base b a whole u d.lawful e back i))
      stands [] S refl 0 refl

  -- an element of the whole is of one of both
  of_one : (z : Identifier) → IsIn p whole z → IsIn p a z ⊎ IsIn p b z
  of_one z m =
      let has : has_op whole m.op ≡ true = holder-has whole z m.op m.held in
      elim (c.no_more m.op has) [
        | inl k ↦ inl (record { op = m.op; held = has-holder a z m.op d.lawful k (element_own p m.op z m.place); place = m.place })
        | inr k ↦ inr (record { op = m.op; held = has-holder b z m.op e.lawful k (element_own p m.op z m.place); place = m.place })
      ]

  to_merged : (z : Identifier) → Contains (shown p whole) z → Contains M z
  to_merged z m =
      let k = shown_in p whole c.lawful z m in
      elim (of_one z k.0) [
        | inl i ↦ elim (own_shown_from s base a b whole u e.lawful d c z i k.1) [
          | inl j ↦ merged_put puts (is_hidden whole) 0 S z j.0 (both_first R (ca j.0) (cb j.0) z j.2) (omega arith) (omega (arith, j.1))
          | inr j ↦ merged_stays puts (is_hidden whole) 0 S z j k.1
        ]
        | inr i ↦ elim (own_shown_from s base b a whole u d.lawful e back z i k.1) [
          | inl j ↦ merged_put puts (is_hidden whole) 0 S z j.0 (both_second R (ca j.0) (cb j.0) z j.2) (omega arith) (omega (arith, j.1))
          | inr j ↦ merged_stays puts (is_hidden whole) 0 S z j k.1
        ]
      ]

  from_merged : (z : Identifier) → Contains M z → Contains (shown p whole) z
  from_merged z m =
      elim (merged_from puts (is_hidden whole) 0 S z m) [
        | inl k ↦ elim (both_from R (ca k.0) (cb k.0) z k.1) [
          | inl j ↦ come_shown s base a b whole u e.lawful d c k.0 z j
          | inr j ↦ come_shown s base b a whole u d.lawful e back k.0 z j
        ]
        | inr k ↦ in_shown p whole c.lawful z (in_whole p base whole c.lawful (base_whole s base a b whole u e.lawful d c) z (shown_in p base u z k.0).0) k.1
      ]

  -- what is shown in the whole is the merged list
  shown_is : shown p whole ≡ M
  shown_is =
      let t = order_total p whole c.lawful in
      same_ordered R t.irreflexive t.transitive (shown p whole) M (part_shown_ordered s base a b whole u e.lawful d c whole c.lawful (λ op k. k)) ordered to_merged from_merged

  abbrev A : TextChange
  A = draft_change s base a d

  abbrev B : TextChange
  B = draft_change s base b e

  two : (i : ℕ) → PutBoth A B i (map (scalar whole) (puts i))
  two i = by_test (goes_first R (ca i) (cb i))
    where
      here : puts_at (text a s) d.hunks i ≡ map (scalar whole) (ca i)
      here = puts_come s base a b whole u e.lawful d c i

      there : puts_at (text b s) e.hunks i ≡ map (scalar whole) (cb i)
      there = puts_come s base b a whole u d.lawful e back i

      by_test : (t : Bool) → PutBoth A B i (map (scalar whole) (if t then ca i ++ cb i else cb i ++ ca i))
      by_test true = inl (map-append (scalar whole) (ca i) (cb i) ∙ (λ k. sym here k ++ sym there k))
      by_test false = inr (map-append (scalar whole) (cb i) (ca i) ∙ (λ k. sym there k ++ sym here k))

  left : (front : List Identifier) (z : Identifier) (cs : List Identifier) → S ≡ front ++ z ∷ cs
      → IsLeftScalar A B (length front) (scalar whole z) (map (scalar whole) (left_of_it (is_hidden whole) z))
  left front z cs i = by_test (is_hidden whole z) refl
    where
      by_test : (t : Bool) → is_hidden whole z ≡ t → IsLeftScalar A B (length front) (scalar whole z) (map (scalar whole) (if t then [] else z ∷ []))
      by_test true k =
          inr (
            elim (hidden_from s base a b whole u e.lawful d c z k) [
              | inl j ↦ inl (hidden_cut s base a b whole u e.lawful d c front z cs i j)
              | inr j ↦ inr (hidden_cut s base b a whole u d.lawful e back front z cs i j)
            ],
            refl,
          )
      by_test false k =
          inl (
            stays_uncut s base a b whole u e.lawful d c front z cs i (own_hides s base a b whole u e.lawful d c z k),
            stays_uncut s base b a whole u d.lawful e back front z cs i (own_hides s base b a whole u d.lawful e back z k),
            refl,
          )

  pub is_merge : IsMerge (text base s) A B (text whole s)
  is_merge =
      let old : text base s ≡ map (scalar whole) S = text_is s base whole c.lawful (base_whole s base a b whole u e.lawful d c) u in
      let new : text whole s ≡ map (scalar whole) M = text_is s whole whole c.lawful (λ op k. k) c.lawful ∙ ap (map (scalar whole)) shown_is in
      subst (λ t. IsMerge t A B (text whole s)) (sym old)
      (subst (λ t. IsMerge (map (scalar whole) S) A B t) (sym new) (reads_merged (scalar whole) A B puts (is_hidden whole) S two left [] S refl 0 refl))

pub drafts_merge : DraftsMerge
drafts_merge s base a b whole u d e c = is_merge s base a b whole u d e c

pub no_third_word : NoThirdWord
no_third_word s base a b whole u d e c separate m n =
    merges_keep_words (text base s) (draft_change s base a d) (draft_change s base b e) separate
    (record { transforms = d.transforms; words = m.0; separate = m.1 }) (record { transforms = e.transforms; words = n.0; separate = n.1 }) (text whole s)
    (is_merge s base a b whole u d e c)
