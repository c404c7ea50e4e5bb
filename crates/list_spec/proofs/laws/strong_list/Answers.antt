use Rattle.list_spec.proofs.CallLemmas.{calls_are_edits, calls_are_notings}
use Rattle.list_spec.proofs.ListLawLemmas.{edits_land, notings_show_nothing, strong_list}
use Rattle.list_spec.proofs.laws.strong_list.Goals as goal

pub returns-clause-one_order : goal.returns-clause-one_order
returns-clause-one_order c = strong_list

pub returns-clause-lands : goal.returns-clause-lands
returns-clause-lands c = edits_land

pub returns-clause-quiet : goal.returns-clause-quiet
returns-clause-quiet c = notings_show_nothing

pub returns-clause-calls : goal.returns-clause-calls
returns-clause-calls c = calls_are_edits

pub returns-clause-notings : goal.returns-clause-notings
returns-clause-notings c = calls_are_notings
