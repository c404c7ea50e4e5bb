-- Which section stands at which element, and the arrangement by that.
use Rattle.std.proofs.Common.{List, [], ap, append_assoc, drop, inl, inr, not, refl, reverse, subst, sym, ◌++◌, ◌∙◌, ◌∷◌, ◌≡◌, ◌≢◌}
use Rattle.std.specs.Prelude.{None, Option, Some, flat_map, option_map, option_to_list, slice_get}
use Rattle.std.specs.List.{Contains}
use Rattle.std.proofs.lemmas.List.{append-nil}
use Rattle.std.proofs.lemmas.List.Elements.{Contains-append_cases, Contains-append_left, Contains-append_right}
use Rattle.fugue_ids.specs.Identifiers.{Identifier}
use Rattle.fugue_ids.specs.declared.op.Op.{Op}
use Rattle.fugue_ids.proofs.IdentifierLemmas.{cases_id}
use Rattle.fugue_ids.proofs.ListLemmas.{contains_cases, contains_here, contains_none}
use Rattle.origin_model.specs.declared.operations.Place.TheVariants.{Catalogue as catalogue}
use Rattle.origin_model.specs.operations.Verdict.{Lawful}
use Rattle.origin_model.specs.order.Order.{order}
use Rattle.origin_model.specs.order.Printed.{is_withdrawn, shown}
use Rattle.catalogue_notes.specs.Arranged.{arranged, position, sections_at, winner}
use Rattle.catalogue_notes.specs.Claims.{Move}
use Rattle.catalogue_notes.specs.Lift.{lift, moves}
use Rattle.catalogue_notes.specs.Lifting.{IsLiftOf}
use Rattle.catalogue_notes.specs.Placing.{HaveOwnPositions, IsPlacing, candidate_position, position_in}
use Rattle.catalogue_notes.specs.Readings.{candidate_of}
use Rattle.catalogue_notes.specs.Winning.{winning_candidate}
use Rattle.catalogue_notes.specs.declared.reading.Candidate.{Candidate}
use Rattle.section_list.specs.SectionList.{Listing}
use Rattle.catalogue_notes.proofs.ArrangedLemmas.{apart, at_position, shown_is}
use Rattle.catalogue_notes.proofs.HolderLemmas.{cases_option, not_both, same_value}
use Rattle.catalogue_notes.proofs.MoveLemmas.{alone}
use Rattle.catalogue_notes.proofs.PartLemmas.{parts_same}
use Rattle.catalogue_notes.proofs.WinningLemmas.{won_by}
use Rattle.origin_model.proofs.SharedLemmas.{empty_from}

-- what stands at the first of the elements to come, and then at the rest
pub next_part : {X Y : Type 0} → (f : X → List Y) (xs : List X) (x : X) → slice_get xs 0 ≡ Some x → flat_map f xs ≡ f x ++ flat_map f (drop 1 xs)
next_part f [] x e = cc
next_part f (y ∷ xs) x e = let d : y ≡ x = cc in ap (λ z. f z ++ flat_map f xs) d

-- the first of those to come
first_rest : (xs : List Identifier) (x : Identifier) → slice_get xs 0 ≡ Some x → xs ≡ x ∷ drop 1 xs
first_rest [] x e = cc
first_rest (y ∷ xs) x e = let d : y ≡ x = cc in ap (λ z. z ∷ xs) d

no_rest : (xs : List Identifier) → slice_get xs 0 ≡ None → xs ≡ []
no_rest [] e = refl
no_rest (y ∷ xs) e = cc

-- some of the sections are placed, and the others are to come
pub record IsPlacingSome (at : Identifier → Identifier) (sections rest : List Identifier) (placing : Identifier → Option Identifier) : Type 0 where
  pub front : List Identifier
  pub whole : front ++ rest ≡ sections
  pub placed : IsPlacing at front placing

pub placing_none : (at : Identifier → Identifier) (sections : List Identifier) (placing : Identifier → Option Identifier) → ((x : Identifier) → placing x ≡ None)
    → IsPlacingSome at sections sections placing
placing_none at sections placing k = record {
  front = [];
  whole = refl;
  placed = λ x s. (λ e. absurd (not_both (placing x) s (k x) e), λ m. absurd (contains_none s m.0));
}

pub placing_more : (at : Identifier → Identifier) (sections rest : List Identifier) (s : Identifier) (old new : Identifier → Option Identifier) → HaveOwnPositions at sections
    → slice_get rest 0 ≡ Some s
    → new (at s) ≡ Some s → ((x : Identifier) → x ≢ at s → new x ≡ old x) → IsPlacingSome at sections rest old → IsPlacingSome at sections (drop 1 rest) new
placing_more at sections rest s old new d first here others f =
    let front : List Identifier = f.front ++ s ∷ [] in
    let whole : front ++ drop 1 rest ≡ sections = append_assoc f.front (s ∷ []) (drop 1 rest) ∙ ap (λ z. f.front ++ z) (sym (first_rest rest s first)) ∙ f.whole in
    let within : (t : Identifier) → Contains front t → Contains sections t = λ t m. subst (λ z. Contains z t) whole (Contains-append_left front (drop 1 rest) t m) in
    let last : Contains front s = Contains-append_right f.front (s ∷ []) s (contains_here s []) in
    record {
      front = front;
      whole = whole;
      placed = λ x t. elim (cases_id x (at s)) [
        | inl e ↦ (
          λ k.
              let same : s ≡ t = same_value (new x) s t (ap new e ∙ here) k in
              (subst (Contains front) same last, ap at (sym same) ∙ sym e),
          λ m. let same : t ≡ s = d t s (within t m.0) (within s last) (m.1 ∙ e) in ap new e ∙ here ∙ ap Some (sym same),
        )
        | inr n ↦ (
          λ k. let p = (f.placed x t).0 (sym (others x n) ∙ k) in (Contains-append_left f.front (s ∷ []) t p.0, p.1),
          λ m. others x n
              ∙ elim (Contains-append_cases f.front (s ∷ []) t m.0) [
                | inl p ↦ (f.placed x t).1 (p, m.1)
                | inr p ↦ absurd (elim (contains_cases s [] t p) [ inl e ↦ n (sym m.1 ∙ ap at (sym e)) | inr q ↦ contains_none t q ])
              ],
        )
      ];
    }

pub placing_all : (at : Identifier → Identifier) (sections rest : List Identifier) (placing : Identifier → Option Identifier) → slice_get rest 0 ≡ None
    → IsPlacingSome at sections rest placing → IsPlacing at sections placing
placing_all at sections rest placing e f = subst (λ z. IsPlacing at z placing) (sym (append-nil f.front) ∙ ap (λ z. f.front ++ z) (sym (no_rest rest e)) ∙ f.whole) f.placed

-- at an element stands what is placed there
at_element : (h : List Op) (placing : Identifier → Option Identifier) → Lawful h → IsPlacing (position h) (shown catalogue h) placing → (x : Identifier)
    → sections_at h x ≡ option_to_list (placing x)
at_element h placing w st x =
    elim (cases_option (placing x)) [
      | inl n ↦ empty_from (sections_at h x) (λ s m. not_both (placing x) s n ((st x s).1 (at_position h x s m))) ∙ sym (ap option_to_list n)
      | inr s ↦ let p = (st x s.0).0 s.1 in ap (sections_at h) (sym p.1) ∙ alone h s.0 w p.0 ∙ sym (ap option_to_list s.1)
    ]

-- so the arrangement is read off along the order
pub arranged_by : (h : List Op) (placing : Identifier → Option Identifier) → Lawful h → IsPlacing (position h) (shown catalogue h) placing
    → flat_map (λ x. option_to_list (placing x)) (order catalogue (lift h)) ≡ arranged h
arranged_by h placing w st = sym (parts_same (sections_at h) (λ x. option_to_list (placing x)) (order catalogue (lift h)) (λ x m. at_element h placing w st x))

-- the positions by the winning candidates are those of the definitions
pub positions_are : (h : List Op) (list : Listing) (candidates : List Candidate) (winners : Identifier → Option Candidate) → IsLiftOf h list candidates
    → ((s : Identifier) → winners s ≡ winning_candidate (λ x. not (is_withdrawn h x)) s (reverse candidates)) → (s : Identifier) → position_in winners s ≡ position h s
positions_are h list candidates winners f is s = ap (candidate_position s) (won_by h (moves h) candidates winners f.lifting.candidates_are is s) ∙ by_winner (winner h s (moves h))
  where
    by_winner : (o : Option Move) → candidate_position s (option_map candidate_of o) ≡ (elim o [ None ↦ s | Some m ↦ m.id ])
    by_winner None = refl
    by_winner (Some m) = refl

-- and so no two shown sections have one
pub positions_apart : (h : List Op) (sections : List Identifier) (at : Identifier → Identifier) → Lawful h → sections ≡ shown catalogue h
    → ((s : Identifier) → at s ≡ position h s) → HaveOwnPositions at sections
positions_apart h sections at w is k s t m n e =
    let a : Contains (shown catalogue h) s = subst (λ z. Contains z s) is m in
    let b : Contains (shown catalogue h) t = subst (λ z. Contains z t) is n in
    apart h s t w (shown_is h s w a) (shown_is h t w b) (sym (k s) ∙ e ∙ k t)

-- the placing, told by the positions of the definitions
pub placing_same : (h : List Op) (sections : List Identifier) (at : Identifier → Identifier) (placing : Identifier → Option Identifier) → sections ≡ shown catalogue h
    → ((s : Identifier) → at s ≡ position h s)
    → IsPlacing at sections placing → IsPlacing (position h) (shown catalogue h) placing
placing_same h sections at placing is k f x s = (
  λ e. let p = (f x s).0 e in (subst (λ z. Contains z s) is p.0, sym (k s) ∙ p.1),
  λ p. (f x s).1 (subst (λ z. Contains z s) (sym is) p.0, k s ∙ p.1),
)
