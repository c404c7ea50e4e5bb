-- What calls do to a source's count of faults.
use Rattle.std.proofs.Common.{arith, ◌∙◌}
use Rattle.outer_ports.specs.Sources.{SourceView, KeepsCount}

-- what failed, in other words
pub count_so : {old new : SourceView} (P Q : Type 0) → KeepsCount old new P → (Q → P) → (P → Q) → KeepsCount old new Q
count_so P Q k failed so = record {
  later = k.later;
  faulted = λ q. k.faulted (failed q);
  sure = k.sure;
  succeeds = λ is q. k.succeeds is (failed q);
  counts_no_fault = k.counts_no_fault;
  tells = k.tells;
  specified_no_fault = λ tells none. k.specified_no_fault tells (λ p. none (so p));
}

-- calls that did not fail, and one after them
pub count_then : {old mid new : SourceView} (P : Type 0) → KeepsCount old mid ⊥ → KeepsCount mid new P → KeepsCount old new P
count_then P k l = record {
  later = omega (arith, k.later, l.later);
  faulted = λ p. let risen = l.faulted p in omega (arith, risen, k.later);
  sure = l.sure ∙ k.sure;
  succeeds = λ is p. l.succeeds (k.sure ∙ is) p;
  counts_no_fault = λ is. l.counts_no_fault (k.sure ∙ is) ∙ k.counts_no_fault is;
  tells = λ tells. l.tells (k.tells tells);
  specified_no_fault = λ tells none. l.specified_no_fault (k.tells tells) none ∙ k.specified_no_fault tells (λ e. e);
}
