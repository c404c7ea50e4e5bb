use Rattle.origin_model.proofs.Words.{ap, arith, place_eq, sym, ◌∙◌}
use Rattle.origin_model.specs.declared.order.listing.Listed.{Listed}
use Rattle.origin_model.proofs.order.ListingLemmas.{taken_yes, taken_no, left_yes, left_no}
use Rattle.origin_model.proofs.order.listing.end_of.Goals as goal
use Rattle.origin_model.proofs.order.listing.end_of.Goals.{then-is_at, else-is_at}

pub scan-preserved : goal.scan-preserved
scan-preserved c =
    let e = c.index-listed-i.result in
    let p = c.args.place.now in
    let same = ap (λ (z : Listed). place_eq z.place p) (sym c.index-listed-i.is) in
    elim c.if-is_at.branch [
      | then-is_at w ↦
          let h = same ∙ sym c.is_at.ensures ∙ w.if-is_at.true in
          let a = taken_yes p c.args.listed.now c.scan.i e c.scan-test.true h in
          let b = left_yes p c.args.listed.now c.scan.i e c.scan-test.true h in
          record { within = omega arith; counted = omega arith; rest = omega arith; small = omega arith; below = omega arith }
      | else-is_at w ↦
          let h = same ∙ sym c.is_at.ensures ∙ w.if-is_at.false in
          let a = taken_no p c.args.listed.now c.scan.i e c.scan-test.true h in
          let b = left_no p c.args.listed.now c.scan.i e c.scan-test.true h in
          record { within = omega arith; counted = omega arith; rest = omega arith; small = omega arith; below = omega arith }
    ]
