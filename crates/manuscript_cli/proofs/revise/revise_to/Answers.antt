use Rattle.std.proofs.Common.{ap, rules, sym, ◌∙◌, ◌≡◌}
use Rattle.std.specs.Prelude.{Ok, false, true}
use Rattle.draft_plan.specs.Drafts.{parts}
use Rattle.manuscript_cli.specs.Revising.{empties, is_too_large}
use Rattle.manuscript_cli.proofs.RevisingLemmas.{revise_stops, revised_to, too_large_stops}
use Rattle.std.proofs.lemmas.Result.{err_from_is_err_and}
use Rattle.manuscript_cli.proofs.RevisingLemmas.{draft_stops}
use Rattle.manuscript_cli.proofs.revise.revise_to.Goals as goal

pub returns-in_err-draft-clause-err : goal.returns-in_err-draft-clause-err
returns-in_err-draft-clause-err c =
    let p = err_from_is_err_and c.from_residual.result c.from_residual.ensures.1 in
    rw (p.1, p.2) (draft_stops c.read.result c.in_err-draft.field-0.0 c.args.replica.now c.args.text.now c.in_err-draft.ensures.cases c.read.ensures.bad)

pub returns-in_err-made-clause-err : goal.returns-in_err-made-clause-err
returns-in_err-made-clause-err c =
    let p = err_from_is_err_and c.from_residual-in_err-made.result c.from_residual-in_err-made.ensures.1 in
    let e : parts c.args.text.now ≡ Ok c.in_ok-draft.draft = search rules in
    let some : empties c.args.replica.now.held.history c.in_ok-draft.draft ≡ false = sym c.drops_all.ensures.drops ∙ c.if-drops_all.false in
    let fits : is_too_large c.in_ok-draft.draft ≡ false = sym (c.is_too_large.ensures ∙ ap is_too_large c.parts.ensures) ∙ c.if-is_too_large.false in
    rw (p.1, p.2)
    (revise_stops c.revise.result c.in_err-made.field-0.0 c.args.replica.now c.revise.new.replica c.args.text.now c.in_ok-draft.draft c.in_err-made.ensures.cases e some fits
    c.revise.ensures.stops c.revise.ensures.costs c.revise.ensures.planned c.revise.ensures.spared)

pub returns-then-is_too_large-clause-err : goal.returns-then-is_too_large-clause-err
returns-then-is_too_large-clause-err c =
    let e : parts c.args.text.now ≡ Ok c.in_ok-draft.draft = search rules in
    let some : empties c.args.replica.now.held.history c.in_ok-draft.draft ≡ false = sym c.drops_all.ensures.drops ∙ c.if-drops_all.false in
    let large : is_too_large c.in_ok-draft.draft ≡ true = sym (c.is_too_large.ensures ∙ ap is_too_large c.parts.ensures) ∙ c.if-is_too_large.true in
    too_large_stops c.args.replica.now c.args.text.now c.in_ok-draft.draft c.too_many.result e some large c.too_many.ensures

pub returns-clause-made : goal.returns-clause-made
returns-clause-made c =
    let e : parts c.args.text.now ≡ Ok c.in_ok-draft.draft = search rules in
    let some : empties c.args.replica.now.held.history c.in_ok-draft.draft ≡ false = sym c.drops_all.ensures.drops ∙ c.if-drops_all.false in
    let fits : is_too_large c.in_ok-draft.draft ≡ false = sym (c.is_too_large.ensures ∙ ap is_too_large c.parts.ensures) ∙ c.if-is_too_large.false in
    let is : c.revise.result ≡ Ok c.in_ok-made.made = search rules in (
      c.in_ok-draft.draft,
      e,
      some,
      fits,
      revised_to c.revise.result c.in_ok-made.made c.args.replica.now c.revise.new.replica c.in_ok-draft.draft is c.arranged_reads.ensures c.revise.ensures.revised
          c.revise.ensures.same c.revise.ensures.costs
          c.revise.ensures.sound c.revise.ensures.settled,
    )
