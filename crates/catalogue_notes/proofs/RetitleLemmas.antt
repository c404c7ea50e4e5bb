-- Retitles: what their notes are, and what one of them changes.
use Rattle.std.proofs.Common.{List, [], ap, arith, map, max, not, refl, subst, sym, true, ◌&&◌, ◌+◌, ◌++◌, ◌<◌, ◌^◌, ◌∙◌, ◌∷◌, ◌≡◌, ℕ}
use Rattle.std.specs.Prelude.{None, Option, Some, filter, flat_map, if◌then◌else◌, is_some, nat_eq}
use Rattle.std.specs.Int.{from_be_bytes, to_be_bytes, w32}
use Rattle.std.specs.List.{All, Contains}
use Rattle.std.specs.Str.{chars}
use Rattle.std.proofs.lemmas.Bool.{and_from}
use Rattle.std.proofs.lemmas.List.Elements.{All-cons, All-head, All-nil}
use Rattle.std.proofs.lemmas.Nat.{from_be_bytes-to_be_bytes_4}
use Rattle.fugue_ids.specs.Identifiers.{Identifier, id_eq}
use Rattle.fugue_ids.specs.Ops.{id_of}
use Rattle.fugue_ids.specs.declared.op.Op.{Op}
use Rattle.fugue_ids.specs.declared.op.Op.TheVariants.{Delete, Note, Section, Text}
use Rattle.fugue_ids.proofs.IdentifierLemmas.{id_eq-refl, ne-id_eq}
use Rattle.fugue_ids.proofs.ListLemmas.{contains_filter_from, contains_map}
use Rattle.origin_model.specs.declared.operations.Place.TheVariants.{Catalogue as catalogue}
use Rattle.origin_model.specs.declared.operations.Verdict.TheVariants.{Ready}
use Rattle.origin_model.specs.operations.History.{holder}
use Rattle.origin_model.specs.operations.Verdict.{Lawful, names, verdict}
use Rattle.origin_model.specs.order.Order.{order}
use Rattle.origin_model.specs.order.Printed.{is_hidden, shown, title_of}
use Rattle.origin_model.proofs.SharedLemmas.{Fits, not_hidden_before}
use Rattle.origin_model.proofs.edits.NotedLemmas.{note_orders, note_ready}
use Rattle.catalogue_notes.specs.Arranged.{best, counts, winner}
use Rattle.catalogue_notes.specs.Claims.{Move, Retitle, claim, is_title, move_in, retitle_in, retitle_of, stamp_of}
use Rattle.catalogue_notes.specs.Laws.{IsRetitled, RetitleLands}
use Rattle.catalogue_notes.specs.Lift.{greatest, is_section, is_valid_title, lift, moves, passing, retitles, stamp}
use Rattle.catalogue_notes.specs.Making.{retitle_body, retitled}
use Rattle.catalogue_notes.specs.declared.limits.TheConstants.{RETITLE_CODE}
use Rattle.catalogue_notes.proofs.ArrangedLemmas.{move_test, position_by}
use Rattle.catalogue_notes.proofs.ClaimLemmas.{beats-stamp, best-first, claims-none, claims-some}
use Rattle.catalogue_notes.proofs.HolderLemmas.{IsHeld, Joins, anything, are_held, none_there, not_both, section_held, title-note}
use Rattle.catalogue_notes.proofs.LiftLemmas.{if_so, lift-none, passing-same, passing_to, section-kept, some_inj}
use Rattle.catalogue_notes.proofs.MoveLemmas.{greatest_above}
use Rattle.catalogue_notes.proofs.PartLemmas.{filter_no, filter_yes}

-- a retitle's identifier and section
pub record TitleShape (e : Op) (r : Retitle) : Type 0 where
  pub own : id_of e ≡ Some r.id
  pub named : names e ≡ anything r.section ∷ []

retitle_shape : (id : Identifier) (named : List Identifier) (code : ℕ) (body : List ℕ) (r : Retitle) → retitle_of id named body ≡ Some r → TitleShape (Note id named code body) r
retitle_shape id (s ∷ []) code (a ∷ b ∷ c ∷ d ∷ title) r k =
    let q = some_inj (claim id s (stamp_of a b c d) (chars title)) r (if_so (is_title title) (Some (claim id s (stamp_of a b c d) (chars title))) r k) in
    record { own = ap (λ (r : Retitle). Some r.id) q; named = ap (λ (r : Retitle). anything r.section ∷ []) q }
retitle_shape id _ code _ r k = absurd (not_both None r refl k)

pub title_shape : (e : Op) (r : Retitle) → retitle_in e ≡ Some r → TitleShape e r
title_shape (Section i l t ti) r k = absurd (not_both None r refl k)
title_shape (Text i s l t c) r k = absurd (not_both None r refl k)
title_shape (Delete i) r k = absurd (not_both None r refl k)
title_shape (Note id named code body) r k = retitle_shape id named code body r (if_so (nat_eq code RETITLE_CODE) (retitle_of id named body) r k)

-- one more operation leaves which retitles are valid
pub title-kept : (e : Op) (h : List Op) (f : Op) → Joins h e → All (Fits h) (names f) → passing (is_valid_title (e ∷ h)) (retitle_in f) ≡ passing (is_valid_title h) (retitle_in f)
title-kept e h f w all =
    passing-same (is_valid_title (e ∷ h)) (is_valid_title h) (retitle_in f) (λ r k.
    let held = All-head (Fits h) (anything r.section) [] (subst (All (Fits h)) (title_shape f r k).named all) in
    section-kept e h r.section w (held.0, held.1))

-- a retitle as a note is read back
retitle_read : (id s : Identifier) (n : ℕ) (title : List ℕ) → n < 2 ^ 32 → is_title title ≡ true
    → retitle_in (Note id (s ∷ []) RETITLE_CODE (to_be_bytes w32 n ++ title)) ≡ Some (claim id s n (chars title))
retitle_read id s n title k t =
    ap (λ b. if b then Some (claim id s (from_be_bytes w32 (to_be_bytes w32 n)) (chars title)) else None) t
    ∙ ap (λ z. Some (claim id s z (chars title))) (from_be_bytes-to_be_bytes_4 n k)

-- the retitle, on a lawful history
module _ (h : List Op) (id s : Identifier) (title : List ℕ) (w : Lawful h) (new : holder h id ≡ None) (left_over : stamp h + 1 < 2 ^ 32) (is_here : is_section h s ≡ true)
    (t : is_title title ≡ true) where
  abbrev n : ℕ
  n = stamp h + 1

  abbrev e : Op
  e = retitled h id s title

  abbrev r : Retitle
  r = claim id s n (chars title)

  ready : verdict h e ≡ Ready
  ready = let f = section_held h s is_here in
      note_ready h id (s ∷ []) RETITLE_CODE (retitle_body n title) w (ap is_some new) (are_held h (s ∷ []) (All-cons (IsHeld h) s [] (f.0, f.1) (All-nil (IsHeld h))))

  retitles_are : retitles (e ∷ h) ≡ r ∷ retitles h
  retitles_are = claims-some retitle_in is_valid_title e h r (passing_to (is_valid_title h) (retitle_in e) r (retitle_read id s n title left_over t) is_here)

  same_moves : moves (e ∷ h) ≡ moves h
  same_moves = claims-none move_in move_test e h refl

  same_lift : lift (e ∷ h) ≡ lift h
  same_lift = lift-none e h refl

  same_shown : shown catalogue (e ∷ h) ≡ shown catalogue h
  same_shown = ap (filter (λ s. not (is_hidden h s))) (note_orders catalogue id (s ∷ []) RETITLE_CODE (retitle_body n title) h)

  -- the stamp of each older retitle is less
  title_less : (c : Retitle) → Contains (retitles h) c → c.stamp < n
  title_less c k =
      let l = greatest_above (map (λ (r : Retitle). r.stamp) (retitles h)) c.stamp (contains_map (λ (r : Retitle). r.stamp) (retitles h) c k) in
      omega (arith, l)

  wins : winner (e ∷ h) s (retitles (e ∷ h)) ≡ Some r
  wins =
      ap (winner (e ∷ h) s) retitles_are
      ∙ ap best (filter_yes (counts (e ∷ h) s) r (retitles h) (and_from (id_eq s s) (not (is_hidden h id)) (id_eq-refl s) (ap not (not_hidden_before h id w (ap is_some new)))))
      ∙ best-first r (filter (counts (e ∷ h) s) (retitles h)) (λ b k. beats-stamp r b (title_less b (contains_filter_from (counts (e ∷ h) s) (retitles h) b k).0))

  abbrev title_by : List ℕ → Option Retitle → List ℕ
  title_by own o = elim o [ None ↦ own | Some r ↦ r.value ]

  pub is_retitled : IsRetitled h e s (chars title)
  is_retitled = record {
    ready = ready;
    titled = ap (title_by (title_of (holder (e ∷ h) s))) wins;
    others = λ u d.
        ap (λ t. title_by t (winner (e ∷ h) u (retitles (e ∷ h)))) (title-note h id u (s ∷ []) RETITLE_CODE (retitle_body n title) new)
        ∙ ap (λ cs. title_by (title_of (holder h u)) (winner (e ∷ h) u cs)) retitles_are
        ∙ ap (λ cs. title_by (title_of (holder h u)) (best cs)) (filter_no (counts (e ∷ h) u) r (retitles h) (ap (λ b. b && not (is_hidden h id)) (ne-id_eq s u (λ k. d (sym k)))));
    stamped =
        (λ i. max (greatest (map (λ (m : Move). m.stamp) (same_moves i))) (greatest (map (λ (r : Retitle). r.stamp) (retitles_are i))))
        ∙ omega arith;
    same_shown = same_shown;
    same_arranged = λ i. flat_map (λ x. filter (λ s. id_eq (position_by s (winner h s (same_moves i))) x) (same_shown i)) (order catalogue (same_lift i));
    adds = record { claim = r; on = refl; in_front = retitles_are };
    same_moves = same_moves;
  }

-- a retitle gives its section the title
pub retitle_lands : RetitleLands
retitle_lands h id s title w absent left_over is_here t = is_retitled h id s title w (none_there (holder h id) absent) left_over is_here t
