-- Valid claims told of the whole history, and the winner among them.
use Rattle.std.proofs.Common.{List, ap, arith, false, inl, inr, not, refl, sym, true, ◌&&◌, ◌∙◌, ◌≡◌, ◌≤◌, ◌↔◌}
use Rattle.std.specs.Prelude.{IfSome, None, Option, Some, filter, is_some, nat_eq, nat_lt}
use Rattle.std.specs.List.{Contains}
use Rattle.std.proofs.lemmas.Bool.{and_from, and_parts, cases_lt, eq-eqb, false_from_ne_true, not-true, or_right, true≢false}
use Rattle.std.proofs.lemmas.Bool.Decides.{nat_tests}
use Rattle.fugue_ids.specs.Identifiers.{Identifier, id_eq, id_lt}
use Rattle.fugue_ids.specs.declared.op.Op.{Op}
use Rattle.fugue_ids.specs.declared.op.Op.TheVariants.{Delete, Note, Section, Text}
use Rattle.fugue_ids.proofs.IdentifierLemmas.{eq-id_eq, id_eq-true}
use Rattle.fugue_ids.proofs.ListLemmas.{contains_filter, contains_filter_from}
use Rattle.origin_model.specs.operations.History.{holder, holds}
use Rattle.origin_model.specs.operations.Verdict.{Lawful}
use Rattle.origin_model.specs.order.Printed.{is_hidden}
use Rattle.origin_model.proofs.SharedLemmas.{found, holder_owns, own_id}
use Rattle.catalogue_notes.specs.Arranged.{beats, counts, winner}
use Rattle.catalogue_notes.specs.Claims.{Claim, Move, Retitle, move_in, retitle_in}
use Rattle.catalogue_notes.specs.Laws.{HasWinner, IsOrigin, IsValidMove, IsValidRetitle, IsWinner, ClaimStays, ValidInWhole, Winners}
use Rattle.catalogue_notes.specs.Lift.{as_section, is_section, is_valid_title, lift, lifted_of, moves, passing, retitles, is_present}
use Rattle.catalogue_notes.proofs.ArrangedLemmas.{found_move, lifts, move_found, move_test, one_move}
use Rattle.catalogue_notes.proofs.ClaimLemmas.{beats-stamp, best_in, best_some, best_top, claim_found, found_claim, one_claim}
use Rattle.catalogue_notes.proofs.HolderLemmas.{is_section-held, not_both, section_held}
use Rattle.catalogue_notes.proofs.LiftLemmas.{lifted_from, lifted_to, map_from, passing_from, passing_to, section_lifts, shape, some_inj}
use Rattle.catalogue_notes.proofs.RetitleLemmas.{title-kept, title_shape}

-- an operation that is lifted is a Section, or makes a valid move
lifted_cases : (h : List Op) (x : Identifier) (e : Op) (op : Op) → Lawful h → holder h x ≡ Some e → lifted_of h (lift h) e ≡ Some op → IsOrigin h (Some x)
lifted_cases h x (Section i l r t) op w k q = inl (is_section-held h x (Section i l r t) k refl)
lifted_cases h x (Text i s l r c) op w k q = absurd (not_both None op refl q)
lifted_cases h x (Delete i) op w k q = absurd (not_both None op refl q)
lifted_cases h x (Note id named code body) op w k q =
    let n : Op = Note id named code body in
    let r = map_from as_section (passing (move_test h) (move_in n)) op q in
    let p = passing_from (move_test h) (move_in n) r.0 r.1 in
    inr (r.0, found_move h x n r.0 w k r.1, some_inj r.0.id x (sym (shape n r.0 p.0).own ∙ own_id n x (holder_owns h x n k)))

-- an origin stands among what was lifted exactly where it is a Section or a valid move
origin_is : (h : List Op) (o : Option Identifier) → Lawful h → is_present (lift h) o ≡ true → IsOrigin h o
origin_is h None w k = tt
origin_is h (Some x) w k =
    let q = found (holder (lift h) x) k in
    let f = lifted_from h x q.0 w q.1 in
    lifted_cases h x f.0 q.0 w f.1 f.2

origin_stands : (h : List Op) (o : Option Identifier) → Lawful h → IsOrigin h o → is_present (lift h) o ≡ true
origin_stands h None w k = refl
origin_stands h (Some x) w (inl k) = let f = section_held h x k in ap is_some (section_lifts h x f.0 w f.1 f.2)
origin_stands h (Some x) w (inr m) =
    let f = move_found h m.0 w m.1 in
    ap (λ z. holds (lift h) z) (sym m.2) ∙ ap is_some (lifted_to h m.0.id f.0 (as_section m.0) w f.1 (lifts h f.0 m.0 f.2))

moves_are : (h : List Op) (m : Move) → Lawful h → Contains (moves h) m ↔ IsValidMove h m
moves_are h m w = (
  λ k.
      let f = move_found h m w k in
      let p = passing_from (move_test h) (move_in f.0) m f.2 in
      let q = and_parts (is_section h m.section) (is_present (lift h) m.value.left && is_present (lift h) m.value.right) p.1 in
      let s = and_parts (is_present (lift h) m.value.left) (is_present (lift h) m.value.right) q.1 in
      record { op = f.0; held = f.1; says = p.0; section = q.0; left = origin_is h m.value.left w s.0; right = origin_is h m.value.right w s.1 },
  λ v. found_move h m.id v.op m w v.held
      (passing_to (move_test h) (move_in v.op) m v.says
      (and_from (is_section h m.section) (is_present (lift h) m.value.left && is_present (lift h) m.value.right) v.section
      (and_from (is_present (lift h) m.value.left) (is_present (lift h) m.value.right) (origin_stands h m.value.left w v.left) (origin_stands h m.value.right w v.right)))),
)

retitles_are : (h : List Op) (r : Retitle) → Lawful h → Contains (retitles h) r ↔ IsValidRetitle h r
retitles_are h r w =
    let own : (e : Op) (r : Retitle) → retitle_in e ≡ Some r → _ = λ e r k. (title_shape e r k).own in (
      λ k.
          let f = claim_found retitle_in is_valid_title own title-kept h r w k in
          let p = passing_from (is_valid_title h) (retitle_in f.0) r f.2 in
          record { op = f.0; held = f.1; says = p.0; section = p.1 },
      λ v. found_claim retitle_in is_valid_title own title-kept h r.id v.op r w v.held (passing_to (is_valid_title h) (retitle_in v.op) r v.says v.section),
    )

-- which notes are valid, told of the whole history
pub valid_in_whole : ValidInWhole
valid_in_whole h w = record { moves_are = λ m. moves_are h m w; retitles_are = λ r. retitles_are h r w }

-- identifiers of which neither is smaller are the same
pub id_total : (a b : Identifier) → id_lt a b ≡ false → id_lt b a ≡ false → a ≡ b
id_total a b h k = id_eq-true a b (grind (arith, nat_tests))

-- which claim wins
module _ {V : Type 0} (h : List Op) (s : Identifier) (cs : List (Claim V)) where
  counts_from : (c : Claim V) → counts h s c ≡ true → ClaimStays h s c
  counts_from c k =
      let p = and_parts (id_eq c.section s) (not (is_hidden h c.id)) k in
      record { section = id_eq-true c.section s p.0; not_withdrawn = not-true (is_hidden h c.id) p.1 }

  counts_to : (c : Claim V) → ClaimStays h s c → counts h s c ≡ true
  counts_to c k = and_from (id_eq c.section s) (not (is_hidden h c.id)) (eq-id_eq c.section s k.section) (ap not k.not_withdrawn)

  not_beaten : (c : Claim V) → winner h s cs ≡ Some c → (d : Claim V) → Contains cs d → ClaimStays h s d → beats d c ≡ false
  not_beaten c k d m j = best_top (filter (counts h s) cs) c d k (contains_filter (counts h s) cs d m (counts_to d j))

  is_winner : (c : Claim V) → winner h s cs ≡ Some c → IsWinner h s cs c
  is_winner c k =
      let r = contains_filter_from (counts h s) cs c (best_in (filter (counts h s) cs) c k) in
      record {
        member = r.0;
        stays = counts_from c r.1;
        stamp = λ d m j. elim (cases_lt c.stamp d.stamp) [ inl l ↦ absurd (true≢false (sym (beats-stamp d c l) ∙ not_beaten c k d m j)) | inr l ↦ l ];
        tie = λ d m j e. false_from_ne_true (id_lt c.id d.id) (λ t. true≢false (
            sym (or_right (nat_lt c.stamp d.stamp) (nat_eq c.stamp d.stamp && id_lt c.id d.id)
            (and_from (nat_eq c.stamp d.stamp) (id_lt c.id d.id) (eq-eqb c.stamp d.stamp (sym e)) t))
            ∙ not_beaten c k d m j));
      }

  winner_by : (o : Option (Claim V)) → winner h s cs ≡ o → IfSome o (λ c. IsWinner h s cs c)
  winner_by None k = tt
  winner_by (Some c) k = is_winner c k

  -- two winners have one identifier
  same_winner : (c d : Claim V) → IsWinner h s cs c → IsWinner h s cs d → c.id ≡ d.id
  same_winner c d v w =
      let above : d.stamp ≤ c.stamp = v.stamp d w.member w.stays in
      let below : c.stamp ≤ d.stamp = w.stamp c v.member v.stays in
      let same : d.stamp ≡ c.stamp = omega (arith, above, below) in
      id_total c.id d.id (v.tie d w.member w.stays same) (w.tie c v.member v.stays (sym same))

  has_winner : ((c d : Claim V) → Contains cs c → Contains cs d → c.id ≡ d.id → c ≡ d) → HasWinner h s cs
  has_winner one = record {
    is = winner_by (winner h s cs) refl;
    none = λ c m j k. best_some (filter (counts h s) cs) c (contains_filter (counts h s) cs c m (counts_to c j)) k;
    one = λ c d v w. one c d v.member w.member (same_winner c d v w);
  }

pub winners : Winners
winners h s w = (
  has_winner h s (moves h) (λ c d. one_move h c d w),
  has_winner h s (retitles h) (λ c d. one_claim retitle_in is_valid_title (λ e r k. (title_shape e r k).own) title-kept h c d w),
)
