use Rattle.std.proofs.Common.{◌<◌, ◌≡◌, ℕ, false, get_or}
use Rattle.fugue_ids.specs.declared.op.Op.{Op}
use Rattle.origin_model.specs.operations.Verdict.{verdict}
use Rattle.origin_model.specs.taking.Taking.{is_decided as decides}
use Rattle.causal_inbox.proofs.inbox.Inbox.next_decidable.Given as goal

-- none so far can leave
abbrev pub invariant-ops : goal.invariant-ops
invariant-ops g l = (k : ℕ) (d : Op) → k < l.position → decides (verdict (g.F.Facts.history l.facts) (get_or l.self.ops k d)) ≡ false
