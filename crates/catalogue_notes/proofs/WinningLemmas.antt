-- The winners, as candidates are taken one after another.
use Rattle.std.proofs.Common.{Bool, List, [], ap, false, inl, inr, map, not, refl, reverse, sym, true, ◌&&◌, ◌∙◌, ◌∷◌, ◌≡◌}
use Rattle.std.specs.Prelude.{None, Option, Some, if◌then◌else◌, option_map}
use Rattle.std.proofs.lemmas.Bool.{and_from, and_right, cases_Bool}
use Rattle.fugue_ids.specs.Identifiers.{Identifier, id_eq}
use Rattle.fugue_ids.specs.Keyed.{IsReplaced}
use Rattle.fugue_ids.specs.declared.op.Op.{Op}
use Rattle.fugue_ids.proofs.IdentifierLemmas.{cases_id, eq-id_eq, ne-id_eq}
use Rattle.origin_model.specs.order.Printed.{is_withdrawn}
use Rattle.catalogue_notes.specs.Arranged.{beats, best, better, counts, winner}
use Rattle.catalogue_notes.specs.Claims.{Claim}
use Rattle.catalogue_notes.specs.Readings.{candidate_of}
use Rattle.catalogue_notes.specs.Winning.{best_candidate, better_candidate, candidate_counts, winning_candidate}
use Rattle.catalogue_notes.specs.declared.reading.Candidate.{Candidate}
use Rattle.catalogue_notes.proofs.PartLemmas.{filter_no, filter_yes}

-- a candidate that does not count is passed over
candidate_over : (is_live : Identifier → Bool) (b : Candidate) (passed : List Candidate) (s : Identifier) → candidate_counts is_live s b ≡ false
    → winning_candidate is_live s (b ∷ passed) ≡ winning_candidate is_live s passed
candidate_over is_live b passed s k = ap best_candidate (filter_no (candidate_counts is_live s) b passed k)

-- one candidate more that is live
pub candidate_taken : (is_live : Identifier → Bool) (b : Candidate) (passed : List Candidate) (old new : Identifier → Option Candidate)
    → ((s : Identifier) → old s ≡ winning_candidate is_live s passed)
    → is_live b.id ≡ true
    → IsReplaced old new b.section (Some (better_candidate b (old b.section))) → (s : Identifier) → new s ≡ winning_candidate is_live s (b ∷ passed)
candidate_taken is_live b passed old new is k r s =
    elim (cases_id s b.section) [
      | inl e ↦
          ap new e ∙ r.here ∙ ap (λ o. Some (better_candidate b o)) (ap old (sym e) ∙ is s)
          ∙ sym (ap best_candidate (filter_yes (candidate_counts is_live s) b passed (and_from (id_eq b.section s) (is_live b.id) (eq-id_eq b.section s (sym e)) k)))
      | inr d ↦ r.others s d ∙ is s ∙ sym (candidate_over is_live b passed s (ap (λ z. z && is_live b.id) (ne-id_eq b.section s (λ e. d (sym e)))))
    ]

-- one that does not stand
pub candidate_passed : (is_live : Identifier → Bool) (b : Candidate) (passed : List Candidate) (s : Identifier) → is_live b.id ≡ false
    → winning_candidate is_live s passed ≡ winning_candidate is_live s (b ∷ passed)
candidate_passed is_live b passed s k = sym (candidate_over is_live b passed s (and_right (id_eq b.section s) (is_live b.id) k))

-- the candidate of the better claim is the better candidate
candidate-better : {V : Type 0} → (c : Claim V) (o : Option (Claim V)) → candidate_of (better c o) ≡ better_candidate (candidate_of c) (option_map candidate_of o)
candidate-better c None = refl
candidate-better c (Some b) = elim (beats c b) as (λ t. candidate_of (if t then c else b) ≡ (if t then candidate_of c else candidate_of b)) [ true ↦ refl | false ↦ refl ]

-- the winner among candidates is that among claims
winning-same : {V : Type 0} → (h : List Op) (s : Identifier) (cs : List (Claim V))
    → winning_candidate (λ x. not (is_withdrawn h x)) s (map candidate_of cs) ≡ option_map candidate_of (winner h s cs)
winning-same h s [] = refl
winning-same h s (c ∷ cs) =
    let stays : Identifier → Bool = λ x. not (is_withdrawn h x) in
    let rest = winning-same h s cs in
    elim (cases_Bool (counts h s c)) [
      | inl k ↦
          ap best_candidate (filter_yes (candidate_counts stays s) (candidate_of c) (map candidate_of cs) k)
          ∙ ap (λ o. Some (better_candidate (candidate_of c) o)) rest
          ∙ sym (ap (λ l. option_map candidate_of (best l)) (filter_yes (counts h s) c cs k) ∙ ap Some (candidate-better c (winner h s cs)))
      | inr k ↦
          candidate_over stays (candidate_of c) (map candidate_of cs) s k
          ∙ rest
          ∙ sym (ap (λ l. option_map candidate_of (best l)) (filter_no (counts h s) c cs k))
    ]

-- so the winning candidates are those of the winning claims
pub won_by : {V : Type 0} → (h : List Op) (cs : List (Claim V)) (candidates : List Candidate) (won : Identifier → Option Candidate) → reverse candidates ≡ map candidate_of cs
    → ((s : Identifier) → won s ≡ winning_candidate (λ x. not (is_withdrawn h x)) s (reverse candidates)) → (s : Identifier) → won s ≡ option_map candidate_of (winner h s cs)
won_by h cs candidates won e is s = is s ∙ ap (winning_candidate (λ x. not (is_withdrawn h x)) s) e ∙ winning-same h s cs
