use Rattle.std.proofs.Common.{ap, arith, inl, inr}
use Rattle.replica_core.proofs.MarkLemmas.{as_number, recounted}
use Rattle.replica_core.proofs.due.count_with.Goals as goal

pub overflow_sub-result : goal.overflow_sub-result
overflow_sub-result c =
    let r = recounted c.args.marks.now.items c.args.position c.args.count c.get-was.result.now c.args.mark c.get-was.ensures c.requires.counted in
    omega (arith, r.1, ap as_number c.if-was.true)

pub returns-then-not-mark : goal.returns-then-not-mark
returns-then-not-mark c =
    let r = recounted c.args.marks.now.items c.args.position c.args.count c.get-was.result.now c.args.mark c.get-was.ensures c.requires.counted in
    omega (arith, r.0, ap as_number c.if-was.true, ap as_number c.if-not-mark.true)

pub overflow_add-result : goal.overflow_add-result
overflow_add-result c =
    let r = recounted c.args.marks.now.items c.args.position c.args.count c.get-was.result.now c.args.mark c.get-was.ensures c.requires.counted in
    omega (arith, r.0, r.2, ap as_number c.if-not-was.true, ap as_number c.if-mark.true, c.len-most.ensures, c.len-most.type_inv)

pub returns-then-not-was : goal.returns-then-not-was
returns-then-not-was c =
    let r = recounted c.args.marks.now.items c.args.position c.args.count c.get-was.result.now c.args.mark c.get-was.ensures c.requires.counted in
    omega (arith, r.0, ap as_number c.if-not-was.true, ap as_number c.if-mark.true)

pub returns : goal.returns
returns c =
    let r = recounted c.args.marks.now.items c.args.position c.args.count c.get-was.result.now c.args.mark c.get-was.ensures c.requires.counted in
    elim c.else-was.either [
      | inl both ↦ omega (arith, r.0, ap as_number both.0, ap as_number both.1)
      | inr was ↦ elim c.else-mark.either [
        | inl both ↦ omega (arith, r.0, ap as_number both.0, ap as_number both.1)
        | inr mark ↦ omega (arith, r.0, ap as_number was, ap as_number mark)
      ]
    ]
