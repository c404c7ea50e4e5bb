use Rattle.version_views.proofs.VersionLemmas.{later_ops_leave_version, later_ops_leave_written, version_is_within}
use Rattle.version_views.proofs.ViewLemmas.{later_ops_leave_view}
use Rattle.version_views.proofs.laws.later_ops_leave_versions.Goals as goal

pub returns-clause-version : goal.returns-clause-version
returns-clause-version c = later_ops_leave_version

pub returns-clause-view : goal.returns-clause-view
returns-clause-view c = later_ops_leave_view

pub returns-clause-written : goal.returns-clause-written
returns-clause-written c = later_ops_leave_written

pub returns-clause-within : goal.returns-clause-within
returns-clause-within c = version_is_within
