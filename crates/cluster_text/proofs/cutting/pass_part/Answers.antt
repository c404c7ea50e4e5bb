use Rattle.std.proofs.Common.{length, sym, ap, subst, ◌∙◌, arith}
use Rattle.std.proofs.lemmas.Str.{len_utf8_bounds, length-encode}
use Rattle.std.proofs.Common.{length-append}
use Rattle.std.specs.Prelude.{encode_utf8}
use Rattle.cluster_text.specs.Cuts.{IsPassed}
use Rattle.cluster_text.specs.declared.ending.Ending.{Ending}
use Rattle.cluster_text.proofs.TextLemmas.{cut_at_boundary, cut_at_end, passed-next, passed-none}
use Rattle.cluster_text.proofs.cutting.pass_part.Goals as goal

pub scalars-init : goal.scalars-init
scalars-init c = (c.utf8.text, passed-none c.args.text.now c.new-ending.result c.utf8.text c.new-ending.ensures)

pub returns-then-opens : goal.returns-then-opens
returns-then-opens c =
    cut_at_boundary c.args.text.now c.scalars.rest.now c.in-Some.behind.now c.scalars.ending c.in-Some.next c.scalars.invariant.1
    (omega (arith, c.if-text-rest-ge-SHORT.true)) c.in-Some.ensures.some
    (sym c.is_closed.ensures ∙ c.if-is_closed.true) (sym c.opens.ensures ∙ c.if-opens.true)

pub scalars-smaller : goal.scalars-smaller
scalars-smaller c =
    omega (
      arith,
      ap length c.in-Some.ensures.some,
      length-append (encode_utf8 c.in-Some.next) c.in-Some.behind.now,
      length-encode c.in-Some.next,
      (len_utf8_bounds c.in-Some.next).0,
    )

pub scalars-preserved : goal.scalars-preserved
scalars-preserved c =
    let next = passed-next c.args.text.now c.scalars.rest.now c.in-Some.behind.now c.scalars.ending c.in-Some.next c.scalars.invariant.1 c.in-Some.ensures.some in
    (c.in-Some.ensures.utf8, subst (λ (e : Ending). IsPassed c.args.text.now c.in-Some.behind.now e) (sym c.pass-ending.ensures) next)

pub returns-in-None : goal.returns-in-None
returns-in-None c = cut_at_end c.args.text.now c.scalars.rest.now c.scalars.ending c.scalars.invariant.1 (c.in-None.ensures.none cc) c.requires
