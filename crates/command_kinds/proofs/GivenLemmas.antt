-- A file that is specified and a source that is lead to one finding.
use Rattle.std.proofs.Common.{◌≡◌, inl, inr, ap, sym, subst, ◌∙◌}
use Rattle.outer_ports.specs.disk.Disks.{DiskView}
use Rattle.origin_model.specs.edits.State.{State as Replica}
use Rattle.replica_file.specs.Append.{IsTooLong}
use Rattle.replica_file.specs.declared.load_file.End.{End}
use Rattle.command_kinds.specs.Findings.{Finding, Refuses, Does}
use Rattle.command_kinds.specs.Saving.{GivenTo, OpsSource, GivesOnce, Outcome, SavingFound}
use Rattle.command_kinds.specs.Changes.{IsSpecified}
use Rattle.command_kinds.specs.declared.refusal.Refusal.{Refusal}
use Rattle.command_kinds.proofs.FoundLemmas.{finds_once}

module _ (ops_source : OpsSource) (once : GivesOnce ops_source) (gave : ops_source.Specified) where
  module _ (replica : Replica) (end : End) where
    same_outcome : (one two : Outcome) → ops_source.Gives replica (Does one) → ops_source.Gives replica (Does two) → one ≡ two
    same_outcome one two a b = let same : Does one ≡ Does two = once gave replica (Does one) (Does two) a b in cc same

    not_both : (why : Refusal) (outcome : Outcome) → ops_source.Gives replica (Refuses why) → ops_source.Gives replica (Does outcome) → ⊥
    not_both why outcome a b = let same : Refuses why ≡ Does outcome = once gave replica (Refuses why) (Does outcome) a b in cc same

    long_or_not : (one two : Outcome) → ops_source.Gives replica (Does one) → ops_source.Gives replica (Does two) → IsTooLong end one.saved → (IsTooLong end two.saved → ⊥) → ⊥
    long_or_not one two a b long fits = fits (subst (λ (o : Outcome). IsTooLong end o.saved) (same_outcome one two a b) long)

    given_once : (one two : Finding Outcome) → GivenTo ops_source replica end one → GivenTo ops_source replica end two → one ≡ two
    given_once (Refuses why) (Refuses other) (inl a) (inl b) = once gave replica (Refuses why) (Refuses other) a b
    given_once (Refuses why) (Refuses other) (inl a) (inr b) = absurd (not_both why b.1 a b.2)
    given_once (Refuses why) (Refuses other) (inr a) (inl b) = absurd (not_both other a.1 b a.2)
    given_once (Refuses why) (Refuses other) (inr a) (inr b) = ap Refuses (a.0 ∙ sym b.0)
    given_once (Refuses why) (Does outcome) (inl a) b = absurd (not_both why outcome a b.0)
    given_once (Refuses why) (Does outcome) (inr a) b = absurd (long_or_not a.1 outcome a.2 b.0 a.3 b.1)
    given_once (Does outcome) (Refuses why) a (inl b) = absurd (not_both why outcome b a.0)
    given_once (Does outcome) (Refuses why) a (inr b) = absurd (long_or_not b.1 outcome b.2 a.0 b.3 a.1)
    given_once (Does one) (Does two) a b = ap Does (same_outcome one two a.0 b.0)

  -- there is one finding
  pub found_once : (file : DiskView) → IsSpecified file → (one two : Finding Outcome) → SavingFound ops_source file one → SavingFound ops_source file two → one ≡ two
  found_once file specified = finds_once (GivenTo ops_source) file specified (λ replica end holds. given_once replica end)
