use Rattle.std.proofs.Common.{◌≡◌, ◌+◌, take}
use Rattle.std.specs.List.{sum_by}
use Rattle.fugue_ids.specs.declared.limits.TheConstants.{MOST_OPERATIONS}
use Rattle.manuscript_cli.proofs.DraftSizeLemmas.{taken}
use Rattle.manuscript_cli.proofs.draft_size.is_too_large.Given as goal

abbrev pub invariant-parts : goal.invariant-parts
invariant-parts l = l.room + sum_by taken (take l.part-index l.parts) ≡ MOST_OPERATIONS
