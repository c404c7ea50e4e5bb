-- What is known of an arrangement stays known while moves stay.
use Rattle.std.proofs.Common.{List, ap, arith, map, not, refl, reverse, sym, ◌&&◌, ◌∙◌, ◌≡◌}
use Rattle.std.specs.Prelude.{IfSome, None, Option, Some, option_map}
use Rattle.std.specs.BTreeMap.{get}
use Rattle.fugue_ids.specs.Identifiers.{Identifier, id_cmp, id_eq}
use Rattle.fugue_ids.specs.declared.op.Op.{Op}
use Rattle.origin_model.specs.declared.operations.Place.TheVariants.{Catalogue as catalogue}
use Rattle.origin_model.specs.order.Order.{order}
use Rattle.origin_model.specs.order.Printed.{is_withdrawn}
use Rattle.origin_model.specs.sides.Node.{nodes}
use Rattle.section_list.specs.SectionList.{Listing}
use Rattle.catalogue_notes.specs.Arranged.{best, counts, winner}
use Rattle.catalogue_notes.specs.Arranging.{Arranges, IsStamped, MovesStay}
use Rattle.catalogue_notes.specs.Lift.{moves}
use Rattle.catalogue_notes.specs.Lifting.{IsLiftOf}
use Rattle.catalogue_notes.specs.Placing.{AreWinners}
use Rattle.catalogue_notes.specs.Readings.{candidate_of}
use Rattle.catalogue_notes.specs.Winning.{winning_candidate}
use Rattle.catalogue_notes.specs.declared.arranger.Arranger.{Arranger}
use Rattle.catalogue_notes.specs.declared.reading.Candidate.{Candidate}
use Rattle.catalogue_notes.specs.declared.stamped.Stamped.{Stamped}
use Rattle.catalogue_notes.proofs.PartLemmas.{filter_same}
use Rattle.catalogue_notes.proofs.PlacingLemmas.{positions_are}
use Rattle.catalogue_notes.proofs.WinningLemmas.{won_by}

module _ (old new : List Op) (stay : MovesStay old new) where
  -- the same is lifted
  lifted_still : (list : Listing) (candidates : List Candidate) → IsLiftOf old list candidates → IsLiftOf new list candidates
  lifted_still list candidates was = record {
    lifting = record {
      nodes_are = was.lifting.nodes_are ∙ ap (nodes catalogue) (sym stay.lifted);
      few = omega (arith, was.lifting.few, stay.grew);
      shown = was.lifting.shown;
      in_order = was.lifting.in_order;
      candidates_are = was.lifting.candidates_are ∙ ap (map candidate_of) (sym stay.moved);
    };
    all = was.all ∙ ap (order catalogue) (sym stay.lifted);
    visible = was.visible ∙ ap (order catalogue) (sym stay.lifted);
  }

  -- and the same moves win
  winner_still : (s : Identifier) → winner new s (moves old) ≡ winner old s (moves old)
  winner_still s = ap best (filter_same (counts new s) (counts old s) (moves old) (λ c m. ap (λ b. id_eq c.section s && not b) (stay.withdrawn c m)))

  winners_still : (list : Listing) (candidates : List Candidate) (winners : Identifier → Option Candidate) → IsLiftOf old list candidates → AreWinners old candidates winners
      → AreWinners new candidates winners
  winners_still list candidates winners was are s =
      won_by old (moves old) candidates winners was.lifting.candidates_are are s
      ∙ ap (option_map candidate_of) (sym (winner_still s))
      ∙ sym (won_by new (moves old) candidates (λ t. winning_candidate (λ x. not (is_withdrawn new x)) t (reverse candidates)) was.lifting.candidates_are (λ t. refl) s)

  stamped_still : (found : Stamped) → IsStamped old found → IsStamped new found
  stamped_still found was =
      let list : Listing = found.arrangement.lifted.list in
      let candidates : List Candidate = found.arrangement.lifted.moves.items in
      let lifted = lifted_still list candidates was.arranged.lifted in
      let winners = winners_still list candidates (get id_cmp found.arrangement.winners) was.arranged.lifted was.arranged.winners_are in
      record {
        arranged = record {
          sections = was.arranged.sections ∙ sym stay.arranged_as;
          lifted = lifted;
          winners_are = winners;
          positions = positions_are new list candidates (get id_cmp found.arrangement.winners) lifted winners;
        };
        stamp_is = was.stamp_is ∙ sym stay.stamps;
      }

  -- so an arranger goes on
  pub arranges_still : (a : Arranger) → Arranges old a → Arranges new a
  arranges_still a was = by a.found was
    where
      by : (o : Option Stamped) → IfSome o (IsStamped old) → IfSome o (IsStamped new)
      by None none = none
      by (Some found) is = stamped_still found is
