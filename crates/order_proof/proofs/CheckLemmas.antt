-- How the tests of chains and of certificates go on.
use Rattle.std.proofs.Common.{List, drop, false, length, ℕ, ◌<◌, ◌≡◌, ◌≤◌}
use Rattle.std.proofs.lemmas.List.{drop_all, drop_more}
use Rattle.fugue_ids.specs.Identifiers.{Identifier}
use Rattle.fugue_ids.specs.declared.op.Op.{Op}
use Rattle.order_proof.specs.declared.step.Reason.{Reason}
use Rattle.order_proof.specs.Certificates.{Certificate, Chain}
use Rattle.order_proof.specs.Checks.{chains_decide, is_inner, test}

abbrev none : Identifier
none = record { replica = 0; counter = 0 }

pub decide-longer : (h : List Op) (r : Reason) (xs ys : Chain) (i : ℕ) → i < length xs → length ys ≤ i → chains_decide h r (drop i xs) (drop i ys) ≡ is_inner r
decide-longer h r xs ys i l k = λ j. chains_decide h r (drop_more xs i none l j) (drop_all i ys k j)

pub decide-shorter : (h : List Op) (r : Reason) (xs ys : Chain) (i : ℕ) → length xs ≤ i → chains_decide h r (drop i xs) (drop i ys) ≡ false
decide-shorter h r xs ys i k = λ j. chains_decide h r (drop_all i xs k j) (drop i ys)

pub ruleset decide_ends = (decide-longer, decide-shorter)

pub test-none : (h : List Op) (c : Certificate) (i : ℕ) → length c ≤ i → test h (drop i c) ≡ false
test-none h c i k = λ j. test h (drop_all i c k j)

pub ruleset test_ends = (test-none)
