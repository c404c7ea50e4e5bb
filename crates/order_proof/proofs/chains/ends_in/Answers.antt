use Rattle.std.proofs.Common.{arith, refl, sym, ◌∙◌}
use Rattle.op_runs.specs.Finding.{op_of}
use Rattle.order_proof.proofs.BesideLemmas.{}
use Rattle.order_proof.proofs.WalkLemmas.{walk_last, walk_misses, walk_on, walk_wrong}
use Rattle.order_proof.proofs.chains.ends_in.Goals as goal
use Rattle.std.proofs.lemmas.Bool.{not-false, not-true}

pub returns-in_default : goal.returns-in_default
returns-in_default g c =
    walk_misses (g.P.Positions.operations c.args.held.now) c.args.down.now c.scan.below c.scan.k c.scan.current c.scan-test.true c.scan.invariant.within
    (c.in_default.ensures.none refl)
    ∙ c.scan.invariant.rest

pub returns-then-ne : goal.returns-then-ne
returns-then-ne g c =
    walk_wrong (g.P.Positions.operations c.args.held.now) c.args.down.now c.scan.below c.scan.k c.scan.current c.scan-test.true c.scan.invariant.within
    c.index-down-k.result c.index-down-k.is c.in-Some.at (op_of c.in-Some.op) c.in-Some.ensures.some (not-true _ (sym c.ne.ensures ∙ c.if-ne.true))
    ∙ c.scan.invariant.rest

pub scan-preserved : goal.scan-preserved
scan-preserved g c = record {
  rest =
      walk_on (g.P.Positions.operations c.args.held.now) c.args.down.now c.scan.below c.scan.k c.scan.current c.scan-test.true c.scan.invariant.within
      c.index-down-k.result c.index-down-k.is c.in-Some.at (op_of c.in-Some.op) c.in-Some.ensures.some (not-false _ (sym c.ne.ensures ∙ c.if-ne.false))
      c.in-Some-left_of.next (sym c.left_of.ensures ∙ c.in-Some-left_of.is)
      ∙ c.scan.invariant.rest;
  within = omega (arith, c.scan.invariant.within);
}

pub returns-in-None : goal.returns-in-None
returns-in-None g c =
    walk_last (g.P.Positions.operations c.args.held.now) c.args.down.now c.scan.below c.scan.k c.scan.current c.scan-test.true c.scan.invariant.within
    c.index-down-k.result c.index-down-k.is c.in-Some.at (op_of c.in-Some.op) c.in-Some.ensures.some (not-false _ (sym c.ne.ensures ∙ c.if-ne.false))
    (sym c.left_of.ensures ∙ c.in-None.is)
    ∙ c.scan.invariant.rest
