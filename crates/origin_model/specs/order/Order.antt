-- The order of the elements of one place, by their origins alone: Weidner and Kleppmann, "The Art of the Fugue", without sides.
-- Each `history` is newest first.
use Rattle.std.specs.Prelude.{Option, Some, None, Bool, true, false, not, ◌&&◌, ◌||◌, if◌then◌else◌, nat_eq, nat_lt, List, [], ◌∷◌, ◌++◌, ℕ}
use Rattle.std.specs.Prelude.{◌≡◌, count_by}
use Rattle.std.specs.List.{AllPairs, insert, position_or_len}
use Rattle.fugue_ids.specs.Identifiers.{Identifier, id_eq, id_lt, origin_eq}
use Rattle.fugue_ids.specs.declared.op.Op.{Op}
use Rattle.origin_model.specs.declared.operations.Place.{Place}
use Rattle.origin_model.specs.operations.History.{is_own, holder, left_of, right_of, element_of}

-- each member stands before all that follow it
abbrev pub IsOrderedBy : (Identifier → Identifier → Bool) → List Identifier → Type 0
IsOrderedBy R xs = AllPairs (λ x y. R x y ≡ true) xs

-- the chain down to x: none is next to the first member, each is next to the one after it, and the last is x;
-- by cases, since `if` computes both branches, and examples would take twice as long with each operation
unfoldable pub chain : (List Op → Op → Option Identifier) → List Op → Identifier → List Identifier
chain next [] x = []
chain next (op ∷ older) x =
    elim (is_own x op) [
      | true ↦ elim (next older op) [ None ↦ x ∷ [] | Some y ↦ chain next older y ++ x ∷ [] ]
      | false ↦ chain next older x
    ]

-- the left origin of an operation, by which a chain of left origins goes on
abbrev pub next_left : List Op → Op → Option Identifier
next_left older op = left_of op

-- the chain of left origins down to an element, which is its last member
abbrev pub lefts : List Op → Identifier → List Identifier
lefts history x = chain next_left history x

-- r is an element whose left origin is l
abbrev pub has_left : List Op → Identifier → Option Identifier → Bool
has_left history r l = elim (holder history r) [ None ↦ false | Some op ↦ origin_eq (left_of op) l ]

-- a right origin, where it has this left origin
abbrev pub right_beside : List Op → (left right : Option Identifier) → Option Identifier
right_beside history left None = None
right_beside history left (Some r) = if has_left history r left then Some r else None

-- the right origin of an operation, where it has the same left origin: by it a chain of right origins goes on
abbrev pub next_right : List Op → Op → Option Identifier
next_right older op = right_beside older (left_of op) (right_of op)

-- the chain of right origins with the element's left origin, down to the element itself
abbrev pub rights : List Op → Identifier → List Identifier
rights history x = chain next_right history x

-- two chains compared at the first place where they differ; where one is a proper prefix of the other, `prefix_first`
-- says whether the prefix goes first
abbrev pub chain_before : Bool → (Identifier → Identifier → Bool) → List Identifier → List Identifier → Bool
chain_before prefix_first at_fork [] [] = false
chain_before prefix_first at_fork [] (b ∷ bs) = prefix_first
chain_before prefix_first at_fork (a ∷ as') [] = not prefix_first
chain_before prefix_first at_fork (a ∷ as') (b ∷ bs) = if id_eq a b then chain_before prefix_first at_fork as' bs else at_fork a b

-- how many elements of a finished list stand before an origin: the end stands after them all
abbrev pub index_of_origin : List Identifier → Option Identifier → ℕ
index_of_origin finished r = position_or_len (λ e. origin_eq r (Some e)) finished

-- a goes before b, whose right origins have these indexes in a finished list: its right origin is later there, or it is
-- the same one and a's identifier is smaller
abbrev pub precedes : (here there : ℕ) → Identifier → Identifier → Bool
precedes here there a b = nat_lt there here || (nat_eq there here && id_lt a b)

-- the left origin of x
abbrev pub left_at : List Op → Identifier → Option Identifier
left_at history x = elim (holder history x) [ None ↦ None | Some op ↦ left_of op ]

-- the right origin of x
abbrev pub right_at : List Op → Identifier → Option Identifier
right_at history x = elim (holder history x) [ None ↦ None | Some op ↦ right_of op ]

-- a goes before b, which has the same left origin, by their right origins
abbrev pub fork_before : List Identifier → List Op → Identifier → Identifier → Bool
fork_before finished history a b =
    precedes (index_of_origin finished (right_at history a)) (index_of_origin finished (right_at history b)) a b

-- u stands before v, which has the same left origin
abbrev pub sibling : List Identifier → List Op → Identifier → Identifier → Bool
sibling finished history u v = chain_before false (fork_before finished history) (rights history u) (rights history v)

-- x stands before y, where `finished` is the order before the newest operation
abbrev pub before_in : List Identifier → List Op → Identifier → Identifier → Bool
before_in finished history x y = chain_before true (sibling finished history) (lefts history x) (lefts history y)

-- an element goes in after as many others as stand before it
abbrev pub placed : (Identifier → Bool) → List Identifier → Identifier → List Identifier
placed stands_before finished x = insert finished (count_by stands_before finished) x

-- the elements of a place, in order
unfoldable pub order : Place → List Op → List Identifier
order p [] = []
order p (op ∷ older) =
    elim (element_of p op) [
      | None ↦ order p older
      | Some x ↦ let finished = order p older in placed (λ e. before_in finished (op ∷ older) e x) finished x
    ]

-- all operations but the newest
abbrev pub older_of : List Op → List Op
older_of [] = []
older_of (op ∷ older) = older

-- x stands before y
unfoldable pub before : Place → List Op → Identifier → Identifier → Bool
before p history x y = before_in (order p (older_of history)) history x y

-- the second list begins with the first
abbrev pub Passes : List Identifier → List Identifier → Type 0
Passes xs ys = (more : List Identifier) × (ys ≡ xs ++ more)
