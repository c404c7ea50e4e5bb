use Rattle.std.proofs.Common.{rules}
use Rattle.origin_model.proofs.SharedLemmas.{new_file_holds}
use Rattle.replica_file.proofs.creating.create.Goals as goal

pub returns : goal.returns
returns g c = record {
  not_empty = search rules;
  kept = search rules;
  overwrites_none = search rules;
  made = record {
    calls = search rules;
    at_rest = search rules;
    holds = new_file_holds c.args.replica c.args.hold c.requires.some_replica c.ranges.replica.fits c.requires.some_hold c.requires.hold_within;
    room = search rules;
  };
  torn = search rules;
  faults = search rules;
}
