use Rattle.std.proofs.Common.{[], ap, length, subst, sym, ◌+◌, ◌∙◌, ◌≡◌}
use Rattle.std.specs.Prelude.{slice_index_or}
use Rattle.run_store.specs.Growth.{HasMoreLetters}
use Rattle.run_store.proofs.GrowLemmas.{longer-copied, longer-pushed}
use Rattle.run_store.proofs.insert.lengthened.Goals as goal

pub returns-in_ok-extend-clause-ok : goal.returns-in_ok-extend-clause-ok
returns-in_ok-extend-clause-ok c =
    let L = c.args.letters.now in
    let run = c.args.run.now in
    let e : run.start + run.len ≡ length (slice_index_or L run.stretch []) = sym c.if-stretch-end.true ∙ ap length c.stretch.ensures in
    subst (HasMoreLetters L c.extend.new.self run c.args.text.now) (sym c.longer_at.ensures)
    (subst (λ M. HasMoreLetters L M run c.args.text.now (record run { len = run.len + length c.args.text.now })) (sym c.in_ok-extend.ensures.ok)
    (longer-pushed L run c.args.text.now c.requires.some e))

pub returns-in_ok-stretch-clause-ok : goal.returns-in_ok-stretch-clause-ok
returns-in_ok-stretch-clause-ok c =
    let L = c.args.letters.now in
    let run = c.args.run.now in
    subst (HasMoreLetters L c.copy.new.self run c.args.text.now) (sym c.longer_at-else-stretch-end.ensures)
    (subst (λ M. HasMoreLetters L M run c.args.text.now (record run { stretch = c.in_ok-stretch.stretch; start = 0; len = run.len + length c.args.text.now }))
    (sym c.in_ok-stretch.ensures.ok.1)
    (longer-copied L run c.args.text.now c.in_ok-stretch.stretch c.requires.more c.in_ok-stretch.ensures.ok.0 c.requires.within))
