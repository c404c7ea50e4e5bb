use Rattle.std.proofs.Common.{ap, arith, sym, ◌+◌, ◌∙◌, ◌≡◌}
use Rattle.std.specs.Prelude.{Some}
use Rattle.std.proofs.lemmas.Option.{same_Some}
use Rattle.origin_model.specs.declared.operations.Place.TheVariants.{Catalogue as catalogue}
use Rattle.origin_model.specs.order.Printed.{shown}
use Rattle.draft_plan.proofs.ShapeLemmas.{got}
use Rattle.draft_plan.proofs.resizing.number_after.Goals as goal

pub returns : goal.returns
returns c =
    let within = (got (shown catalogue c.args.replica.now.held.history) c.number_of-number.result c.in-Some.section c.number_of-number.ensures).0 in
    let number : c.min.result ≡ c.number_of-number.result + 1 = omega (arith, c.min.ensures, c.section_count.ensures.count, within, c.section_count.type_inv) in
    record {
      within = omega (arith, number, within);
      first = λ e. cc (e, c.in-Some.is);
      behind = λ s e. let same = same_Some c.in-Some.section s (sym c.in-Some.is ∙ e) in (c.number_of-number.result, c.number_of-number.ensures ∙ ap Some same, number);
    }
