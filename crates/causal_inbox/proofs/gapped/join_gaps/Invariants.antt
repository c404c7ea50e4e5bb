use Rattle.std.proofs.Common.{◌+◌, ◌++◌, ◌≡◌, ◌≤◌, drop, length, take}
use Rattle.causal_inbox.specs.Gap.{AreGaps, between_gaps}
use Rattle.causal_inbox.proofs.gapped.join_gaps.Given as goal

-- the gaps so far are one, of so many places, which begins at `at`
abbrev pub invariant-gaps : goal.invariant-gaps
invariant-gaps g l = record {
  size : l.size ≡ l.gap-index;
  len : length l.items ≡ length l.initial.items;
  after_gone : l.gone ≤ l.at;
  in_order : AreGaps (l.at + l.size) (drop l.gap-index l.gaps) (length l.items);
  items : drop l.gone (take l.at l.items) ++ between_gaps l.items (l.at + l.size) (drop l.gap-index l.gaps) ≡ between_gaps l.initial.items l.gone l.gaps;
}
