use Rattle.version_views.proofs.ViewLemmas.{first_by_filter, order_by_filter, shown_by_filter}
use Rattle.version_views.proofs.laws.view_by_filter.Goals as goal

pub returns-clause-order : goal.returns-clause-order
returns-clause-order c = order_by_filter

pub returns-clause-shown : goal.returns-clause-shown
returns-clause-shown c = shown_by_filter

pub returns-clause-first : goal.returns-clause-first
returns-clause-first c = first_by_filter
