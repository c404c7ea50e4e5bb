use Rattle.origin_model.proofs.sides.KeyedGapLemmas.{block_end_by_keys, block_start_by_keys, gap_by_keys_is_place}
use Rattle.origin_model.proofs.sides.KeyedPartLemmas.{siblings_by_keys}
use Rattle.origin_model.proofs.laws.gap_by_keys.Goals as goal

pub returns-clause-end : goal.returns-clause-end
returns-clause-end c = block_end_by_keys

pub returns-clause-start : goal.returns-clause-start
returns-clause-start c = block_start_by_keys

pub returns-clause-siblings : goal.returns-clause-siblings
returns-clause-siblings c = siblings_by_keys

pub returns-clause-gap : goal.returns-clause-gap
returns-clause-gap c = gap_by_keys_is_place
