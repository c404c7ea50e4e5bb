-- The lines of `list`, by what was counted.
use Rattle.std.proofs.Common.{List, [], Some, None, add-one, ap, append_assoc, arith, drop, get_or, length, not, refl, suc, sym, take, zero, ℕ, ◌+◌, ◌++◌, ◌<◌, ◌≤◌, ◌∙◌, ◌∷◌, ◌≡◌}
use Rattle.std.proofs.Common.{◌≢◌}
use Rattle.std.specs.Prelude.{All, decimal, flat_map, slice_get}
use Rattle.std.specs.List.{AllPairs}
use Rattle.std.proofs.lemmas.List.{length-map, length-take, take_more}
use Rattle.std.proofs.lemmas.List.Elements.{All-head, All-tail}
use Rattle.std.proofs.lemmas.List.Kept.{AllPairs-filter}
use Rattle.std.proofs.lemmas.Option.{slice_get-get_or, slice_get_within}
use Rattle.fugue_ids.specs.Identifiers.{Identifier}
use Rattle.fugue_ids.specs.Listed.{index_of}
use Rattle.fugue_ids.specs.declared.limits.TheConstants.{MOST_OPERATIONS}
use Rattle.fugue_ids.specs.declared.op.Op.{Op}
use Rattle.fugue_ids.proofs.IdentifierLemmas.{index_of-at}
use Rattle.origin_model.specs.declared.operations.Place.TheVariants.{Catalogue as catalogue}
use Rattle.origin_model.specs.edits.State.{State as Replica, IsSound}
use Rattle.origin_model.specs.operations.Verdict.{Lawful}
use Rattle.origin_model.specs.order.Order.{order}
use Rattle.origin_model.specs.order.Printed.{is_hidden, shown}
use Rattle.origin_model.proofs.SharedLemmas.{order_total}
use Rattle.margin_notes.proofs.PlaceLemmas.{shown_bounded}
use Rattle.catalogue_notes.specs.Arranged.{arranged}
use Rattle.catalogue_notes.specs.Outlining.{IsEntry, IsOutline, entry_sections}
use Rattle.catalogue_notes.specs.declared.entry.Entry.{Entry}
use Rattle.catalogue_notes.proofs.ArrangedLemmas.{arranged_length}
use Rattle.manuscript_cli.specs.Listing.{cluster_count, counted_from, counted_line, entry_line, in_brackets, section_lines, list_line, list_text, number_of, replica_line}
use Rattle.manuscript_cli.specs.declared.list.Counted.{Counted}

-- one more is counted
counted_more : (h : List Op) (at i : ℕ) (ss : List Identifier) (s : Identifier) → i < length ss → s ≡ get_or ss i s
    → counted_from h at (take (i + 1) ss) ≡ counted_from h at (take i ss) ++ record { at = at + i; clusters = cluster_count h s } ∷ []
counted_more h at i ss s below is =
    ap (counted_from h at) (take_more ss i s below ∙ ap (λ x. take i ss ++ x ∷ []) (sym is)) ∙ last at (take i ss)
    ∙ ap (λ k. counted_from h at (take i ss) ++ record { at = at + k; clusters = cluster_count h s } ∷ []) (length_front i ss (omega (arith, below)))
  where
    last : (k : ℕ) (xs : List Identifier) → counted_from h k (xs ++ s ∷ []) ≡ counted_from h k xs ++ record { at = k + length xs; clusters = cluster_count h s } ∷ []
    last k [] = ap (λ n. record { at = n; clusters = cluster_count h s } ∷ []) (omega arith)
    last k (x ∷ xs) = ap (λ l. record { at = k; clusters = cluster_count h x } ∷ l)
        (last (suc k) xs ∙ ap (λ n. counted_from h (suc k) xs ++ record { at = n; clusters = cluster_count h s } ∷ []) (omega arith))

    length_front : (n : ℕ) (xs : List Identifier) → n ≤ length xs → length (take n xs) ≡ n
    length_front n xs l = omega (arith, length-take n xs, l)

pub counted_next : (h : List Op) (i : ℕ) (ss : List Identifier) (s : Identifier) → i < length ss → s ≡ get_or ss i s
    → counted_from h 0 (take (i + 1) ss) ≡ counted_from h 0 (take i ss) ++ record { at = i; clusters = cluster_count h s } ∷ []
counted_next h i ss s below is =
    counted_more h 0 i ss s below is ∙ ap (λ k. counted_from h 0 (take i ss) ++ record { at = k; clusters = cluster_count h s } ∷ []) {x = 0 + i} {y = i} (omega arith)

-- the number of an entry is that of its section
number_is : (h : List Op) (e : Entry) → Lawful h → IsEntry h e → number_of h e.section ≡ e.number + 1
number_is h e w is = ap (λ n. n + 1)
    (index_at (shown catalogue h) e.number e.section (AllPairs-filter (λ x y. x ≢ y) (λ x. not (is_hidden h x)) (order catalogue h) (order_total catalogue h w).once) is.numbered)
  where
    index_at : (xs : List Identifier) (k : ℕ) (s : Identifier) → AllPairs (λ x y. x ≢ y) xs → slice_get xs k ≡ Some s → index_of xs s ≡ k
    index_at xs k s d k_is =
        let within : k < length xs = slice_get_within xs k s k_is in
        let there : Some (get_or xs k s) ≡ Some s = sym (slice_get-get_or xs k s within) ∙ k_is in
        let same : get_or xs k s ≡ s = cc there in
        ap (index_of xs) (sym same) ∙ index_of-at xs k s d within

-- so its line is that of the section
line_is : (h : List Op) (at : ℕ) (e : Entry) → Lawful h → IsEntry h e → entry_line at e (cluster_count h e.section) ≡ list_line h (suc at) e.section
line_is h at e w is =
    (λ i. decimal (add-one at i) ++ in_brackets (add-one at i) (sym (number_is h e w is) i) ++ 32 ∷ decimal (cluster_count h e.section) ++ 32 ∷ is.headed i ++ 10 ∷ [])

behind : {X : Type 0} (k : ℕ) (xs : List X) (x : X) (rest : List X) → drop k xs ≡ x ∷ rest → (slice_get xs k ≡ Some x) × (drop (suc k) xs ≡ rest)
behind zero [] x rest e = cc
behind zero (y ∷ xs) x rest e = (cc, cc)
behind (suc k) [] x rest e = cc
behind (suc k) (y ∷ xs) x rest e = behind k xs x rest e

-- what is written of the entries from there on
lines_after : (h : List Op) (all : List Entry) (at : ℕ) (rest : List Entry) → Lawful h → drop at all ≡ rest → All (IsEntry h) rest
    → flat_map (counted_line all) (counted_from h at (entry_sections rest)) ≡ section_lines h (suc at) (entry_sections rest)
lines_after h all at [] w is each = refl
lines_after h all at (e ∷ rest) w is each =
    let here = behind at all e rest is in
    let line : counted_line all (record { at = at; clusters = cluster_count h e.section }) ≡ list_line h (suc at) e.section =
    ap (λ o. elim o [ None ↦ [] | Some d ↦ entry_line at d (cluster_count h e.section) ]) here.0 ∙ line_is h at e w (All-head (IsEntry h) e rest each) in
    (λ i. line i ++ lines_after h all (suc at) rest w here.1 (All-tail (IsEntry h) e rest each) i)

-- all of them are the lines of the arrangement
pub all_lines : (h : List Op) (entries : List Entry) → Lawful h → IsOutline h entries
    → flat_map (counted_line entries) (counted_from h 0 (entry_sections entries)) ≡ section_lines h 1 (arranged h)
all_lines h entries w is = lines_after h entries 0 entries w refl is.each ∙ ap (section_lines h 1) is.listed

-- sections are few
pub few_numbers : (replica : Replica) → IsSound replica → (e : Entry) → IsEntry replica.held.history e → e.number < MOST_OPERATIONS
few_numbers replica st e is =
    let h = replica.held.history in
    omega (arith, slice_get_within (shown catalogue h) e.number e.section is.numbered, shown_bounded catalogue h, st.few, st.most_within)

pub few_entries : (replica : Replica) → IsSound replica → (entries : List Entry) → IsOutline replica.held.history entries → length entries ≤ MOST_OPERATIONS
few_entries replica st entries is =
    let h = replica.held.history in
    omega (arith, length-map entries (λ (e : Entry). e.section), ap length is.listed, arranged_length h st.lawful, shown_bounded catalogue h, st.few, st.most_within)

-- the line of the replica and those of the entries are all of it
pub listed : (replica : Replica) (entries : List Entry) (counts : List Counted) → IsSound replica → IsOutline replica.held.history entries
    → counts ≡ counted_from replica.held.history 0 (entry_sections entries) → replica_line replica ++ flat_map (counted_line entries) counts ≡ list_text replica
listed replica entries counts st is e =
    ap (λ l. replica_line replica ++ l) (ap (flat_map (counted_line entries)) e ∙ all_lines replica.held.history entries st.lawful is)

-- nine pieces, one after the other
pub nine_pieces : (a b c d e f g h i : List ℕ) → a ++ (b ++ (c ++ (d ++ (e ++ (f ++ (g ++ (h ++ i))))))) ≡ a ++ b ++ c ++ d ++ e ++ f ++ g ++ h ++ i
nine_pieces a b c d e f g h i =
    sym
    (append_assoc (a ++ b ++ c ++ d ++ e ++ f ++ g) h i
    ∙ append_assoc (a ++ b ++ c ++ d ++ e ++ f) g (h ++ i)
    ∙ append_assoc (a ++ b ++ c ++ d ++ e) f (g ++ (h ++ i))
    ∙ append_assoc (a ++ b ++ c ++ d) e (f ++ (g ++ (h ++ i)))
    ∙ append_assoc (a ++ b ++ c) d (e ++ (f ++ (g ++ (h ++ i))))
    ∙ append_assoc (a ++ b) c (d ++ (e ++ (f ++ (g ++ (h ++ i)))))
    ∙ append_assoc a b (c ++ (d ++ (e ++ (f ++ (g ++ (h ++ i)))))))
