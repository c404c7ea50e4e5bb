-- Entries that are sorted are the lines of the sections.
use Rattle.margin_notes.proofs.Words.{AllPairs, Some, Identifier, Lawful, List, Op, [], all_pairs_head, all_pairs_tail, ap, arith, catalogue, cases_Bool, false, flat_map, id_eq}
use Rattle.margin_notes.proofs.Words.{inl, inr, map, refl, reverse, shown, subst, sym, true, true≢false, ◌++◌, ◌<◌, ◌∙◌, ◌∷◌, ◌≡◌}
use Rattle.std.specs.Prelude.{IsPermutation, IsSorted, ◌≢◌}
use Rattle.std.proofs.Common.{get_or}
use Rattle.std.specs.Cmp.{IsTotalOrder}
use Rattle.std.specs.Ordering.{is_lt}
use Rattle.std.specs.declared.cmp.Ordering.{Ordering}
use Rattle.std.proofs.lemmas.Bool.{cases_lt}
use Rattle.std.proofs.lemmas.Cmp.{nat_cmp_total, on_total, then_total}
use Rattle.std.proofs.lemmas.Grind.{common_steps}
use Rattle.std.proofs.lemmas.List.{reverse-append}
use Rattle.std.proofs.lemmas.List.Quantifiers.{all_pairs_push}
use Rattle.std.proofs.lemmas.List.Sorted.{All-permutation, Contains-permutation, IsPermutation-map, IsPermutation-reverse, IsPermutation-sym, ranks_by, sorted_far}
use Rattle.std.proofs.lemmas.Map.Keys.{IsDistinct-IsPermutation}
use Rattle.std.proofs.lemmas.Map.Made.{AllPairs-from_IsDistinct, IsDistinct-from_AllPairs}
use Rattle.fugue_ids.specs.Identifiers.{id_lt}
use Rattle.fugue_ids.proofs.IdentifierLemmas.{eq-id_eq, id_eq-true, ne-id_eq}
use Rattle.fugue_ids.proofs.ListLemmas.{all_pairs_from_map, all_pairs_map, all_pairs_nil}
use Rattle.origin_model.specs.operations.History.{HaveOtherIds}
use Rattle.origin_model.proofs.SharedLemmas.{lawful_own}
use Rattle.margin_notes.specs.contracts.listing.EntryOrd.TheImpl as entry_ord
use Rattle.margin_notes.specs.declared.listing.Entry.{Entry}
use Rattle.margin_notes.specs.Listing.{CommentLine, entry_bytes, line_of_entry, lines_in, listed_comments}
use Rattle.margin_notes.specs.Margins.{margins}
use Rattle.margin_notes.specs.Placing.{PlacedComment, placed_comments, placed_in}
use Rattle.margin_notes.proofs.EntryLemmas.{placed_own}
use Rattle.margin_notes.proofs.KeptLemmas.{said_pairs}
use Rattle.margin_notes.proofs.ListedLemmas.{Below, below_irrefl, below_trans, lines_apart, lines_are, listed_ordered, same_lines}
use Rattle.margin_notes.proofs.SortLemmas.{id_other, same_ordered}

-- the order of entries
abbrev pub entry_cmp : Entry → Entry → Ordering
entry_cmp = (entry_ord.ghosts).cmp

entries_total : IsTotalOrder entry_cmp
entries_total =
    then_total (on_total (λ e. e.number) nat_cmp_total)
    (then_total (then_total (on_total (λ e. e.id.replica) nat_cmp_total) (on_total (λ e. e.id.counter) nat_cmp_total))
    (then_total (on_total (λ e. e.from) nat_cmp_total) (then_total (on_total (λ e. e.to) nat_cmp_total) (on_total (λ e. e.at) nat_cmp_total))))

-- an entry is less by its number, and then by its identifier
lower_number : (a b : Entry) → a.number < b.number → is_lt (entry_cmp a b) ≡ true
lower_number a b l = grind (arith, common_steps)

lower_id : (a b : Entry) → a.number ≡ b.number → id_lt a.id b.id ≡ true → is_lt (entry_cmp a b) ≡ true
lower_id a b e l = grind (arith, common_steps)

-- so one that is not greater than another is below it
not_greater : (ops : List Op) (a b : Entry) → is_lt (entry_cmp b a) ≡ false → a.id ≢ b.id → Below (line_of_entry ops a) (line_of_entry ops b)
not_greater ops a b n d =
    elim (cases_lt a.number b.number) [
      | inl l ↦ inl l
      | inr l ↦ elim (cases_lt b.number a.number) [
        | inl m ↦ absurd (true≢false (sym (lower_number b a m) ∙ n))
        | inr m ↦
            let e : a.number ≡ b.number = omega (arith, l, m) in
            elim (cases_Bool (id_lt a.id b.id)) [
              | inl k ↦ inr (e, k)
              | inr k ↦ absurd (true≢false (sym (lower_id b a (sym e) (id_other a.id b.id d k)) ∙ n))
            ]
      ]
    ]

-- members with other identifiers have them in any order
module _ {X : Type 0} (id : X → Identifier) where
  abbrev Others : X → X → Type 0
  Others x y = id x ≢ id y

  id_flips : (a b : Identifier) → id_eq a b ≡ id_eq b a
  id_flips a b = elim (cases_Bool (id_eq a b)) [
    | inl k ↦ k ∙ sym (eq-id_eq b a (sym (id_eq-true a b k)))
    | inr k ↦ k ∙ sym (ne-id_eq b a (λ e. true≢false (sym (eq-id_eq a b (sym e)) ∙ k)))
  ]

  pub others_shuffled : (xs ys : List X) → IsPermutation xs ys → AllPairs Others xs → AllPairs Others ys
  others_shuffled xs ys p o =
      all_pairs_from_map id (λ a b. a ≢ b) ys (AllPairs-from_IsDistinct (λ a b. (id_eq-true a b, eq-id_eq a b)) (map id ys)
      (IsDistinct-IsPermutation id_eq id_flips (map id xs) (map id ys) (IsPermutation-map id xs ys p)
      (IsDistinct-from_AllPairs (λ a b. (id_eq-true a b, eq-id_eq a b)) (map id xs) (all_pairs_map id (λ a b. a ≢ b) xs o))))

-- a relation both ways is one of the list from its end
pub pairs_reversed : {X : Type 0} (R : X → X → Type 0) → ((a b : X) → R a b → R b a) → (xs : List X) → AllPairs R xs → AllPairs R (reverse xs)
pairs_reversed R flips [] o = all_pairs_nil R
pairs_reversed R flips (x ∷ xs) o =
    subst (AllPairs R) (sym (reverse-append (x ∷ []) xs))
    (all_pairs_push R (reverse xs) x (pairs_reversed R flips xs (all_pairs_tail R x xs o))
    (λ k d l. flips x _ (All-permutation (R x) xs (reverse xs) (IsPermutation-reverse xs) (all_pairs_head R x xs o) k d l)))

-- sorted entries of all operations are the lines of the sections
module _ (h : List Op) (w : Lawful h) (es fs : List Entry) (are : map (line_of_entry (reverse h)) es ≡ lines_in h (reverse h)) (p : IsPermutation es fs)
    (sorted : IsSorted entry_cmp fs) where
  abbrev line : Entry → CommentLine
  line = line_of_entry (reverse h)

  apart : AllPairs (λ (a b : Entry). a.id ≢ b.id) fs
  apart =
      others_shuffled (λ (e : Entry). e.id) es fs p
      (all_pairs_from_map line (λ (a b : CommentLine). a.id ≢ b.id) es
      (subst (AllPairs (λ (a b : CommentLine). a.id ≢ b.id)) (sym are)
      (lines_apart h (reverse h) (pairs_reversed HaveOtherIds (λ a b other i e f. other i f e) h (lawful_own h w)))))

  ordered : AllPairs Below (map line fs)
  ordered =
      all_pairs_map line Below fs (λ i j d l m.
      not_greater (reverse h) (get_or fs i d) (get_or fs j d) (sorted_far (λ a b. is_lt (entry_cmp a b)) (ranks_by entries_total (λ e. e)) fs sorted i j d (omega (arith, l)) m)
      (apart i j d l m))

  lines : IsPermutation (lines_in h (reverse h)) (map line fs)
  lines = subst (λ l. IsPermutation l (map line fs)) are (IsPermutation-map line es fs p)

  pub sorted_lines : map line fs ≡ listed_comments h
  sorted_lines =
      same_ordered Below below_irrefl below_trans (map line fs) (listed_comments h) ordered (listed_ordered h 1 (shown catalogue h) w)
      (λ l m. (same_lines h w l).0 (Contains-permutation (map line fs) (lines_in h (reverse h)) l (IsPermutation-sym (lines_in h (reverse h)) (map line fs) lines) m))
      (λ l m. Contains-permutation (lines_in h (reverse h)) (map line fs) l lines ((same_lines h w l).1 m))

-- the bytes of entries are those of their lines
bytes_are : (ops : List Op) (es : List Entry) → flat_map (entry_bytes ops) es ≡ flat_map (λ (l : CommentLine). l.bytes) (map (line_of_entry ops) es)
bytes_are ops [] = refl
bytes_are ops (e ∷ es) = ap (λ t. entry_bytes ops e ++ t) (bytes_are ops es)

pub entries_write : (h : List Op) (es : List Entry) → map (line_of_entry (reverse h)) es ≡ listed_comments h → flat_map (entry_bytes (reverse h)) es ≡ margins h
entries_write h es are = bytes_are (reverse h) es ∙ ap (flat_map (λ (l : CommentLine). l.bytes)) are ∙ lines_are h 1 (shown catalogue h)

-- no two comments that stand in sections have one identifier
pub placed_apart : (h : List Op) → Lawful h → AllPairs (λ (a b : PlacedComment). a.id ≢ b.id) (placed_comments h)
placed_apart h w =
    said_pairs (placed_in h) HaveOtherIds (λ (a b : PlacedComment). a.id ≢ b.id) (λ a b u v other e f d. other u.id (placed_own h a u e) (placed_own h b v f ∙ ap Some (sym d)))
    (reverse h)
    (pairs_reversed HaveOtherIds (λ a b other i e f. other i f e) h (lawful_own h w))
