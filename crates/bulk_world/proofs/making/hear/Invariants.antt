use Rattle.std.proofs.Common.{take, ◌≡◌}
use Rattle.origin_model.specs.taking.Taking.{IsSettled, held_from}
use Rattle.bulk_world.proofs.making.hear.Given as goal

-- what is left to hear leads to where all of it leads
abbrev pub invariant-heard : goal.invariant-heard
invariant-heard l = record {
  others : l.replica ≡ record l.fn.replica { held = l.replica.held };
  leads : held_from l.fn.replica.hold l.fn.replica.most l.replica.held (take l.left l.rest) ≡ held_from l.fn.replica.hold l.fn.replica.most l.fn.replica.held
      (take l.fn.count l.fn.ops);
  settled : IsSettled l.replica.held;
}

abbrev pub decreases-heard : goal.decreases-heard
decreases-heard l = l.left
