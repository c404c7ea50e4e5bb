use Rattle.std.proofs.Common.{ap, subst, ◌∙◌, ℕ}
use Rattle.std.specs.Prelude.{Err, Ok, flat_map}
use Rattle.std.proofs.lemmas.List.{take_all}
use Rattle.std.proofs.lemmas.Result.{err_from_is_err_and}
use lib.Utf8.{encode}
use Rattle.fugue_ids.specs.Gathers.{GathersText}
use Rattle.fugue_ids.proofs.GatherLemmas.{gathers_none, gathers_parts_grow, gathers_parts_stop}
use Rattle.run_store.proofs.TextLemmas.{encoded-parts}
use Rattle.run_store.proofs.text.put_letters.Goals as goal

pub letters-init : goal.letters-init
letters-init g c = gathers_none tt _ _

pub letters-preserved : goal.letters-preserved
letters-preserved g c =
    gathers_parts_grow encode c.args.letters.now c.letters.ch-index c.ch-item.result tt tt _ _ _ _ _ _ c.letters-test.true c.letters.invariant
    (subst (λ (z : ℕ). GathersText {T = Unit {0}} (g.O.Out.seen c.letters.output) (g.O.Out.seen c.put_scalar.new.out) c.letters.gather c.put_scalar.new.self (Ok tt) (encode z))
    c.ch-item.is c.in_ok-put_scalar.ensures)

pub returns-in_err-put_scalar : goal.returns-in_err-put_scalar
returns-in_err-put_scalar g c =
    let p = err_from_is_err_and c.from_residual.result c.from_residual.ensures.1 in
    let failed = subst (λ (z : ℕ). GathersText {T = Unit {0}} (g.O.Out.seen c.letters.output) (g.O.Out.seen c.put_scalar.new.out) c.letters.gather c.put_scalar.new.self
    (Err (record {})) (encode z)) c.ch-item.is c.in_err-put_scalar.ensures in
    let stopped = gathers_parts_stop {T = Unit {0}} {S = Unit {0}} encode c.args.letters.now c.letters.ch-index c.ch-item.result tt _ _ _ _ _ _ c.letters-test.true
    c.letters.invariant failed in
    rw p.1 (subst (λ t. GathersText {T = Unit {0}} (g.O.Out.seen c.args.output.now) (g.O.Out.seen c.put_scalar.new.out) c.args.gather.now c.put_scalar.new.self (Err (record {})) t)
    (encoded-parts c.args.letters.now) stopped)

pub returns : goal.returns
returns g c =
    subst (λ t. GathersText {T = Unit {0}} (g.O.Out.seen c.args.output.now) (g.O.Out.seen c.letters.output) c.args.gather.now c.letters.gather (Ok tt) t)
    (ap (flat_map encode) (take_all c.letters.ch-index c.args.letters.now c.letters-test.false) ∙ encoded-parts c.args.letters.now) c.letters.invariant
