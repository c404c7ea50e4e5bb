use Rattle.std.proofs.Common.{ap, arith, drop, subst, sym, take, ◌+◌, ◌-◌, ◌∙◌, ◌≡◌}
use Rattle.std.specs.Prelude.{Ok}
use Rattle.std.specs.Str.{encode_utf8_all}
use Rattle.fugue_ids.specs.Gathers.{GathersText}
use Rattle.fugue_ids.proofs.GatherLemmas.{gathers_none}
use Rattle.run_store.specs.Runs.{first_of, letters_of}
use Rattle.run_store.proofs.TextLemmas.{text-hidden, text-shown}
use Rattle.run_store.proofs.text.put_run.Goals as goal

pub returns-then-run : goal.returns-then-run
returns-then-run g c =
    let run = c.args.run.now in
    subst (λ t. GathersText {T = Unit {0}} (g.O.Out.seen c.args.output.now) (g.O.Out.seen c.args.output.now) c.args.gather.now c.args.gather.now (Ok tt) t)
    (sym (ap encode_utf8_all (text-hidden (first_of run) (letters_of c.args.letters.now run) c.if-run.true))) (gathers_none tt _ _)

pub returns : goal.returns
returns g c =
    let run = c.args.run.now in
    let n : (run.start + run.len) - run.start ≡ run.len = omega arith in
    subst (λ t. GathersText {T = Unit {0}} (g.O.Out.seen c.args.output.now) (g.O.Out.seen c.put_letters.new.output) c.args.gather.now c.put_letters.new.gather c.put_letters.result
    (encode_utf8_all t))
    ((λ i. take (n i) (drop run.start (c.stretch.ensures i))) ∙ sym (text-shown (first_of run) (letters_of c.args.letters.now run) c.if-run.false)) c.put_letters.ensures
