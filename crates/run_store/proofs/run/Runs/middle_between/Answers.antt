use Rattle.std.proofs.Common.{◌≡◌, ◌<◌, ◌≤◌, ◌+◌, ℕ, arith, length, refl, suc}
use Rattle.run_store.proofs.EitherLemmas.{if-none, if-some}
use Rattle.run_store.proofs.RunsLemmas.{few-runs}
use Rattle.run_store.proofs.StandingLemmas.{end-within, none-next, none-same, places-up, some-first, some-half, some-same, some-second}
use Rattle.run_store.proofs.run.Runs.middle_between.Goals as goal

next-place : (i j n : ℕ) → i < j → j ≤ n → (i + 1 < j → n ≤ i + 1) → j ≡ suc i
next-place i j n l w none = grind arith

pub overflow_add-begin : goal.overflow_add-begin
overflow_add-begin c =
    let r = c.args.self.now in
    let b = c.args.begin in
    let e = c.args.end in
    let up = places-up r c.sound.ensures b.place b.offset e.place e.offset c.requires.from c.requires.to c.requires.order in
    let within = end-within r c.sound.ensures b.place b.offset e.place e.offset c.requires.from c.requires.to in
    omega (arith, up, c.if-begin-end.false, within, few-runs r c.sound.ensures, c.sound.ensures.few)

pub returns-then-begin-end : goal.returns-then-begin-end
returns-then-begin-end c =
    let r = c.args.self.now in
    let b = c.args.begin in
    let e = c.args.end in
    record {
      some = if-some _ _ c.middle_of_run.result (λ m. some-same r c.sound.ensures b.place b.offset e.place e.offset c.requires.from c.requires.to c.if-begin-end.true m.id)
          c.middle_of_run.ensures.some;
      found = c.middle_of_run.ensures.found;
      none = if-none _ _ c.middle_of_run.result (none-same r c.sound.ensures b.place b.offset e.place e.offset c.requires.from c.requires.to c.if-begin-end.true)
          c.middle_of_run.ensures.none;
    }

pub returns-in-Some-clause-some : goal.returns-in-Some-clause-some
returns-in-Some-clause-some c =
    let b = c.args.begin in
    let e = c.args.end in
    let m = c.in-Some.found in
    let is = c.in-Some.ensures in
    some-half c.args.self.now c.sound.ensures b.place b.offset e.place e.offset c.requires.from c.requires.to m.at.place (omega (arith, is.from)) is.to m.id is.some

pub returns-in-Some-middle_of_run-clause-some : goal.returns-in-Some-middle_of_run-clause-some
returns-in-Some-middle_of_run-clause-some c =
    let r = c.args.self.now in
    let s = c.sound.ensures in
    let b = c.args.begin in
    let e = c.args.end in
    let up = places-up r s b.place b.offset e.place e.offset c.requires.from c.requires.to c.requires.order in
    some-first r s b.place b.offset e.place e.offset c.requires.from c.requires.to
    (omega (arith, up, c.if-begin-end.false)) _ c.in-Some-middle_of_run.found.id c.in-Some-middle_of_run.ensures.some

pub returns-in-None : goal.returns-in-None
returns-in-None c =
    let r = c.args.self.now in
    let s = c.sound.ensures in
    let b = c.args.begin in
    let e = c.args.end in
    let up = places-up r s b.place b.offset e.place e.offset c.requires.from c.requires.to c.requires.order in
    let within = end-within r s b.place b.offset e.place e.offset c.requires.from c.requires.to in
    let next : e.place ≡ suc b.place = next-place b.place e.place (length r.rope) (omega (arith, up, c.if-begin-end.false)) within c.in_default.ensures.none in
    record {
      some = if-some _ _ c.middle_of_run-in-None.result
          (λ m. some-second r s b.place b.offset e.place e.offset c.requires.from c.requires.to (omega (arith, next)) m.id) c.middle_of_run-in-None.ensures.some;
      found = c.middle_of_run-in-None.ensures.found;
      none = if-none _ _ c.middle_of_run-in-None.result
          (none-next r s b.place b.offset e.place e.offset c.requires.from c.requires.to next _ refl c.in-None.ensures.none) c.middle_of_run-in-None.ensures.none;
    }
