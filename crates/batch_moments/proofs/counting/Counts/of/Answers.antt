use Rattle.std.proofs.Common.{[], List, ap, append-nil, append_assoc, arith, length, refl, subst, sym, take, ◌++◌, ◌-◌, ◌∙◌, ◌∷◌, ◌≤◌, length-append}
use Rattle.std.proofs.lemmas.List.{drop_all, take_all}
use Rattle.fugue_ids.specs.declared.op.Op.{Op}
use Rattle.op_runs.specs.Finding.{op_of}
use Rattle.batch_moments.specs.Steps.{AreOf}
use Rattle.batch_moments.proofs.CountLemmas.{have_room}
use Rattle.batch_moments.proofs.LineLemmas.{without_first}
use Rattle.batch_moments.proofs.counting.Counts.of.Goals as goal

pub ops-init : goal.ops-init
ops-init c = record {
  done = [];
  are = c.new-counts.ensures;
  counted = omega arith;
  front = refl;
  rest = refl;
}

pub returns-in_default : goal.returns-in_default
returns-in_default c =
    let inv = c.ops.invariant in
    let none = c.in_default.ensures.none in
    let few : length c.ops.ops ≤ c.ops.left = omega (arith, ap length none) in
    record {
      counts = subst (λ (l : List Op). AreOf l c.ops.counts)
          (sym (inv.front ∙ ap (λ (l : List Op). inv.done ++ l) (take_all c.ops.left c.ops.ops few ∙ none) ∙ append-nil inv.done)) inv.are;
      rest = c.in_default.ensures.left ∙ sym (drop_all c.ops.left c.ops.ops few) ∙ sym inv.rest;
    }

pub add-requires : goal.add-requires
add-requires c = have_room c.ops.counts c.ops.invariant.done c.ops.invariant.are (omega (arith, c.ops.invariant.counted, c.ops-test.true))

pub ops-preserved : goal.ops-preserved
ops-preserved c =
    let inv = c.ops.invariant in
    let op : Op = op_of c.in-Some.op in
    let next = without_first c.ops.left c.ops.ops c.next_op.new.self op c.ops-test.true c.in-Some.ensures.taken in
    record {
      done = inv.done ++ op ∷ [];
      are = c.in_ok-add.ensures inv.done inv.are;
      counted = omega (arith, inv.counted, c.ops-test.true, length-append inv.done (op ∷ []));
      front = inv.front ∙ ap (λ (l : List Op). inv.done ++ l) next.0 ∙ sym (append_assoc inv.done (op ∷ []) (take (c.ops.left - 1) c.next_op.new.self));
      rest = inv.rest ∙ next.1;
    }
