-- Certificates of the order: why one element of a place stands before another, step by step.
use Rattle.std.specs.Prelude.{◌≡◌, ◌≢◌, Some, None, Bool, true, false, List, [], ◌∷◌, ◌++◌}
use Rattle.fugue_ids.specs.Identifiers.{Identifier, id_lt}
use Rattle.fugue_ids.specs.declared.op.Op.{Op}
use Rattle.origin_model.specs.declared.operations.Place.{Place}
use Rattle.origin_model.specs.order.Laws.{IsIn}
use Rattle.origin_model.specs.order.Order.{before, lefts, rights, right_at}
use Rattle.order_proof.specs.declared.step.Reason.{Reason}
use Rattle.order_proof.specs.declared.step.Reason.TheVariants.{Prefix, Inner, End, Later, Tie}
use Rattle.order_proof.specs.declared.step.Step.{Step}

-- a chain of origins, or the rest of one
abbrev pub Chain : Type 0
Chain = List Identifier

-- a certificate claims what its first step claims
abbrev pub Certificate : Type 0
Certificate = List Step

-- x and y are elements of one place
abbrev pub OfOnePlace : List Op → Identifier → Identifier → Type 0
OfOnePlace h x y = (p : Place) × IsIn p h x × IsIn p h y

-- and x stands before y there
abbrev pub IsOrderedBefore : List Op → Identifier → Identifier → Type 0
IsOrderedBefore h x y = (p : Place) × IsIn p h x × IsIn p h y × (before p h x y ≡ true)

-- the second list begins with the first, and is longer
abbrev pub IsProperPrefix : Chain → Chain → Type 0
IsProperPrefix xs ys = (next : Identifier) × (more : Chain) × (ys ≡ xs ++ next ∷ more)

-- neither of two chains is a prefix of the other: a and b are their members at the first place where they differ, and
-- from_x and from_y are their suffixes from there
pub record PartsAt (xs ys from_x from_y : Chain) (a b : Identifier) : Type 0 where
  pub common : Chain
  pub more_x : Chain
  pub more_y : Chain
  pub first : from_x ≡ a ∷ more_x
  pub second : from_y ≡ b ∷ more_y
  pub whole_x : xs ≡ common ++ from_x
  pub whole_y : ys ≡ common ++ from_y
  pub differ : a ≢ b

-- Prefix: `down_y` is the suffix from x of y's chain of left origins, and has more than one member
pub record IsPrefixStep (h : List Op) (s : Step) : Type 0 where
  pub above : Chain
  pub suffix : lefts h s.y ≡ above ++ s.down_y
  pub next : Identifier
  pub more : Chain
  pub from_x : s.down_y ≡ s.x ∷ next ∷ more
  pub no_down_x : s.down_x ≡ []
  pub no_right_x : s.right_x ≡ []
  pub no_right_y : s.right_y ≡ []

-- the right origins of c and d decide. End: c's is the end, and d's is not; Later: they are p and q, which differ; Tie:
-- they are the same, and c's identifier is smaller
abbrev pub ByRightOrigins : List Op → Identifier → Identifier → Reason → Type 0
ByRightOrigins h c d End = (right_at h c ≡ None) × (right_at h d ≢ None)
ByRightOrigins h c d (Later p q) = (right_at h c ≡ Some p) × (right_at h d ≡ Some q) × (p ≢ q)
ByRightOrigins h c d Tie = (right_at h c ≡ right_at h d) × (id_lt c d ≡ true)
ByRightOrigins h c d _ = ⊥

-- two chains of right origins part at c and d, whose right origins decide
pub record IsFork (h : List Op) (xs ys : Chain) (reason : Reason) : Type 0 where
  pub c : Identifier
  pub d : Identifier
  pub from_c : Chain
  pub from_d : Chain
  pub parts : PartsAt xs ys from_c from_d c d
  pub decides : ByRightOrigins h c d reason

-- two chains of right origins decide; Inner: the second is a proper prefix of the first
abbrev pub ByRightChains : List Op → (xs ys : Chain) → Reason → Type 0
ByRightChains h xs ys Inner = IsProperPrefix ys xs
ByRightChains h xs ys reason = IsFork h xs ys reason

-- Inner, End, Later and Tie: the chains of left origins part at siblings a and b, whose chains of right origins decide
pub record IsSiblingStep (h : List Op) (s : Step) (reason : Reason) : Type 0 where
  pub a : Identifier
  pub b : Identifier
  pub parts : PartsAt (lefts h s.x) (lefts h s.y) s.down_x s.down_y a b
  pub right_x : s.right_x ≡ rights h a
  pub right_y : s.right_y ≡ rights h b
  pub decides : ByRightChains h s.right_x s.right_y reason

-- a step holds by its reason
abbrev pub HoldsBy : List Op → Step → Reason → Type 0
HoldsBy h s Prefix = IsPrefixStep h s
HoldsBy h s reason = IsSiblingStep h s reason

-- a step of elements of one place that holds by its reason
pub record IsStep (h : List Op) (s : Step) : Type 0 where
  pub one_place : OfOnePlace h s.x s.y
  pub holds : HoldsBy h s s.reason

-- the reason is Later: two right origins decide, and the next step compares these
abbrev pub is_later : Reason → Bool
is_later (Later p q) = true
is_later _ = false

-- each step holds; each but the last rests, by Later, on the claim of the next one, and the last is not Later
abbrev pub IsValid : List Op → Certificate → Type 0
IsValid h [] = ⊥
IsValid h (s ∷ []) = IsStep h s × (is_later s.reason ≡ false)
IsValid h (s ∷ t ∷ more) = IsStep h s × (s.reason ≡ Later t.y t.x) × IsValid h (t ∷ more)

-- its first step claims that x stands before y
abbrev pub Claims : Identifier → Identifier → Certificate → Type 0
Claims x y [] = ⊥
Claims x y (s ∷ more) = (s.x ≡ x) × (s.y ≡ y)
