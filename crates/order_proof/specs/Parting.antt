-- Two chains of left origins, from where they part down.
use Rattle.std.specs.Prelude.{◌≡◌, ◌⊎◌, ◌<◌, ◌≤◌, ℕ, suc, drop, Option, Some, None, Bool, false, if◌then◌else◌, List, [], ◌∷◌, ◌++◌, length}
use Rattle.fugue_ids.specs.Identifiers.{Identifier}
use Rattle.fugue_ids.specs.declared.op.Op.{Op}
use Rattle.origin_model.specs.operations.History.{is_own, left_of}
use Rattle.origin_model.specs.order.Order.{lefts}
use Rattle.order_proof.specs.Certificates.{Chain}
use Rattle.order_proof.specs.Making.{common_count}
use Rattle.order_proof.specs.Positions.{IsAtPosition, as_of, history_at}
use Rattle.order_proof.specs.declared.parting.Ascent.{Ascent}

-- the operation makes the element, if there is one
abbrev pub makes : Option Identifier → Op → Bool
makes None op = false
makes (Some x) op = is_own x op

-- what is passed on the way up two chains, the lowest members first
pub record PassedChains : Type 0 where
  pub one : Chain
  pub other : Chain

-- no member was passed on either chain
abbrev pub nothing_passed : PassedChains
nothing_passed = record { one = []; other = [] }

-- one member more was passed on the first chain
abbrev pub with_one : Option Identifier → PassedChains → PassedChains
with_one None p = p
with_one (Some x) p = record { one = x ∷ p.one; other = p.other }

-- one member more was passed on the second chain
abbrev pub with_other : Option Identifier → PassedChains → PassedChains
with_other None p = p
with_other (Some y) p = record { one = p.one; other = y ∷ p.other }

-- what is passed from these members up to the first one that both chains have: of two members the newer one goes first
unfoldable pub passed_up : List Op → (one other : Option Identifier) → PassedChains
passed_up [] one other = nothing_passed
passed_up (op ∷ older) one other =
    if makes one op then (if makes other op then nothing_passed else with_one one (passed_up older (left_of op) other))
    else (if makes other op then with_other other (passed_up older one (left_of op)) else passed_up older one other)

-- how many operations there are up to the one that makes an element: none where it is not there
abbrev pub age : List Op → Option Identifier → ℕ
age h None = 0
age h (Some x) = length (as_of h x)

-- the next member, whose operation is at this position, was passed, and the other chain's next one is no newer
pub record IsPassedMember (ops : List Op) (below at : ℕ) (old new : Ascent) (rival : Option Identifier) : Type 0 where
  pub member : Identifier
  pub op : Op
  pub next_is : old.next ≡ Some member
  pub there : IsAtPosition ops below member at op
  pub newest : age (history_at ops below) rival ≤ suc (length (history_at ops at))
  pub passed : new.passed.items ≡ old.passed.items ++ member ∷ []
  pub next : new.next ≡ left_of op

-- none was passed: it is not there, or the other chain's next one is newer
pub record IsUnpassed (h : List Op) (old new : Ascent) (rival : Option Identifier) : Type 0 where
  pub same : new ≡ old
  pub why : (age h old.next ≡ 0) ⊎ (age h old.next < age h rival)

-- what was passed and what is to be passed are together what they were
pub record IsOneWay (ops : List Op) (below at : ℕ) (one other new_one new_other : Ascent) : Type 0 where
  pub one_is : new_one.passed.items ++ (passed_up (history_at ops at) new_one.next new_other.next).one ≡ one.passed.items
      ++ (passed_up (history_at ops below) one.next other.next).one
  pub other_is : new_other.passed.items ++ (passed_up (history_at ops at) new_one.next new_other.next).other ≡ other.passed.items
      ++ (passed_up (history_at ops below) one.next other.next).other

-- what two chains of left origins have after their common front
pub record AreDowns (h : List Op) (x y : Identifier) (down_x down_y : Chain) : Type 0 where
  pub of_x : down_x ≡ drop (common_count (lefts h x) (lefts h y)) (lefts h x)
  pub of_y : down_y ≡ drop (common_count (lefts h x) (lefts h y)) (lefts h y)
