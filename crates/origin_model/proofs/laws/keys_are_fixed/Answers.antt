use Rattle.origin_model.proofs.sides.NewKeyLemmas.{key_bound, keys_stay, new_key_is, run_key}
use Rattle.origin_model.proofs.laws.keys_are_fixed.Goals as goal

pub returns-clause-new : goal.returns-clause-new
returns-clause-new c = new_key_is

pub returns-clause-stay : goal.returns-clause-stay
returns-clause-stay c = keys_stay

pub returns-clause-run : goal.returns-clause-run
returns-clause-run c = run_key

pub returns-clause-bound : goal.returns-clause-bound
returns-clause-bound c = key_bound
