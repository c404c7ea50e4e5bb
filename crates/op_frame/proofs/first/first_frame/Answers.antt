use Rattle.op_frame.proofs.FirstLemmas.{first_bad, first_partial, first_whole}
use Rattle.op_frame.proofs.first.first_frame.Goals as goal

pub returns-in_ok-all_ops-in-Frame-clause-first : goal.returns-in_ok-all_ops-in-Frame-clause-first
returns-in_ok-all_ops-in-Frame-clause-first c = first_whole c.in_ok-all_ops-in-Frame.field-0 c.in-Frame.len _ c.in-Frame.ensures.0 c.in_ok-all_ops-in-Frame.ensures

pub returns-in-Prefix-clause-first : goal.returns-in-Prefix-clause-first
returns-in-Prefix-clause-first c = first_partial _ c.in-Prefix.ensures

pub returns-in-Bad-clause-first : goal.returns-in-Bad-clause-first
returns-in-Bad-clause-first c = first_bad _ c.in-Bad.ensures
