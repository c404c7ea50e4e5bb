-- The walk of the tree of sides lists the order: it lists each element, and they stand in it as their chains tell.
use Rattle.origin_model.proofs.Words.{All, All-cons, All-contains, All-head, All-tail, Bool, Contains, Contains-append_cases, Contains-append_left, Contains-append_right}
use Rattle.origin_model.proofs.Words.{Identifier, IsIn, IsOrderedBy, Lawful, List, None, Op, Place, Some, [], all_from_contains, all_pairs_nil, all_pairs_tail, ap, append-nil}
use Rattle.origin_model.proofs.Words.{append_assoc, append_cancel_left, arith, chain_before, contains_cases, contains_here, contains_middle, contains_none, contains_there, false}
use Rattle.origin_model.proofs.Words.{flat_map, fork_before, inl, inr, is_some, lefts, length, next_left, older_of, order, refl, rights, sibling, subst, suc, sym, true, true≢false}
use Rattle.origin_model.proofs.Words.{zero, ℕ, ◌++◌, ◌+◌, ◌-◌, ◌∙◌, ◌∷◌, ◌≡◌, ◌≢◌, ◌≤◌}
use Rattle.origin_model.proofs.order.{IsIn-split, Ordered-agree, Within, before_at, before_in-irrefl, before_in-trans, chain_above, chain_before-fork, common, first_before}
use Rattle.origin_model.proofs.order.{fork-irrefl, fork_moved, heads, lefts-above, not_longer, order-has, order-member, order-ordered}
use Rattle.origin_model.proofs.order.OrderedListLemmas.{same_ordered}
use Rattle.origin_model.proofs.order.PartLemmas.{older_lawful}
use Rattle.origin_model.proofs.operations.LookupLemmas.{IsHeld, held_not_own, holder-other, holder-own, when_ready}
use Rattle.origin_model.proofs.operations.ElementLemmas.{element_own}
use Rattle.origin_model.proofs.sides.SlotLemmas.{child-held, child-in, child-left, child-lefts, child-rights, over, slot_left}
use Rattle.origin_model.proofs.sides.KeyedGapLemmas.{slot_stands_by}
use Rattle.origin_model.proofs.sides.ChildrenLemmas.{children-table}
use Rattle.std.proofs.lemmas.List.Kept.{AllPairs-cons}
use Rattle.fugue_ids.proofs.ListLemmas.{all_pairs_append}
use Rattle.origin_model.specs.declared.sides.Slot.{Slot}
use Rattle.origin_model.specs.declared.sides.Slot.TheVariants.{LeftOf, RightOf}
use Rattle.origin_model.specs.sides.KeyLaws.{StandsAt}
use Rattle.origin_model.specs.sides.Slot.{IsChild, IsTable, slot_of}
use Rattle.origin_model.specs.sides.Walk.{WalkIsOrder, WalkIsWhole, children_of, walk, walk_below, walk_to}

-- lists put together
module _ (f : Identifier → List Identifier) where
  -- a member is of one of them
  pub flat_from : (xs : List Identifier) (y : Identifier) → Contains (flat_map f xs) y
      → (x : Identifier) × Contains xs x × Contains (f x) y
  flat_from [] y m = absurd (contains_none y m)
  flat_from (x ∷ xs) y m =
      elim (Contains-append_cases (f x) (flat_map f xs) y m) [
        | inl k ↦ (x, contains_here x xs, k)
        | inr k ↦ let r = flat_from xs y k in (r.0, contains_there x xs r.0 r.1, r.2)
      ]

  -- and a member of one of them is one of all
  pub flat_to : (xs : List Identifier) (x y : Identifier) → Contains xs x → Contains (f x) y
      → Contains (flat_map f xs) y
  flat_to [] x y m k = absurd (contains_none x m)
  flat_to (z ∷ xs) x y m k =
      elim (contains_cases z xs x m) [
        | inl d ↦ Contains-append_left (f z) (flat_map f xs) y (subst (λ a. Contains (f a) y) (sym d) k)
        | inr n ↦ Contains-append_right (f z) (flat_map f xs) y (flat_to xs x y n k)
      ]

  -- lists in order, each before the next, are in order together
  pub flat_ordered : (R F : Identifier → Identifier → Bool) (P : Identifier → Type 0)
      (inside : (x : Identifier) → P x → IsOrderedBy R (f x))
      (across : (x y a b : Identifier) → P x → P y → F x y ≡ true → Contains (f x) a → Contains (f y) b → R a b ≡ true)
      → (xs : List Identifier) → All P xs → IsOrderedBy F xs → IsOrderedBy R (flat_map f xs)
  flat_ordered R F P inside across [] ps o = all_pairs_nil (λ a b. R a b ≡ true)
  flat_ordered R F P inside across (x ∷ xs) ps o =
      let T : Identifier → Identifier → Type 0 = λ a b. R a b ≡ true in
      let px : P x = All-head P x xs ps in
      let rest : All P xs = All-tail P x xs ps in
      all_pairs_append T (f x) (flat_map f xs) (inside x px)
      (flat_ordered R F P inside across xs rest (all_pairs_tail (λ a b. F a b ≡ true) x xs o))
      (all_from_contains (λ a. All (T a) (flat_map f xs)) (f x) (λ a m.
      all_from_contains (T a) (flat_map f xs) (λ b n.
      let r = flat_from xs b n in
      across x r.0 a b px (All-contains P xs r.0 rest r.1) (first_before F x r.0 xs o r.1) m r.2)))

-- the tables of a lawful history
module _ (p : Place) (h : List Op) (w : Lawful h) (children : Slot → List Identifier) (t : IsTable p h children) where
  -- the comparison of elements
  abbrev R : Identifier → Identifier → Bool
  R = before_at p h

  -- the comparison of siblings
  abbrev S : Identifier → Identifier → Bool
  S = sibling (order p (older_of h)) h

  -- the comparison at a fork
  abbrev F : Identifier → Identifier → Bool
  F = fork_before (order p (older_of h)) h

  -- the walk below a slot
  abbrev below : ℕ → Slot → List Identifier
  below n s = walk_below children n s

  -- the walk of a child and all below it
  abbrev block : ℕ → Identifier → List Identifier
  block n v = below n (LeftOf v) ++ v ∷ below n (RightOf (Some v))

  -- the chain of left origins above the children of a slot
  abbrev A : Slot → List Identifier
  A s = chain_above next_left h (slot_left h s)

  -- e stands in the block of the child v of a slot: its chain of left origins leads through an element whose chain of
  -- right origins leads through v
  record InBlock (s : Slot) (v e : Identifier) : Type 0 where
    pub turn : Identifier
    pub more : List Identifier
    pub behind : List Identifier
    pub path : lefts h e ≡ A s ++ turn ∷ more
    pub forest : rights h turn ≡ over h s ++ v ∷ behind

  -- e stands in the block of some child of the slot
  abbrev InSlot : Slot → Identifier → Type 0
  InSlot s e = (v : Identifier) × IsChild p h s v × InBlock s v e

  -- what is walked with a child stands in its block
  block_in : (n : ℕ) → ((s : Slot) (e : Identifier) → Contains (below n s) e → InSlot s e)
      → (s : Slot) (v e : Identifier) → IsChild p h s v → Contains (block n v) e → InBlock s v e
  block_in n walked s v e k m =
      let lv : lefts h v ≡ A s ++ v ∷ [] = child-lefts p h s v w k in
      let rv : rights h v ≡ over h s ++ v ∷ [] = child-rights p h s v w k in
      elim (Contains-append_cases (below n (LeftOf v)) (v ∷ below n (RightOf (Some v))) e m) [
        | inl i ↦
            let z = walked (LeftOf v) e i in
            let b = z.2 in
            record {
              turn = b.turn;
              more = b.more;
              behind = z.0 ∷ b.behind;
              path = b.path ∙ ap (λ l. chain_above next_left h l ++ b.turn ∷ b.more) (child-left p h s v k);
              forest = b.forest ∙ ap (λ c. c ++ z.0 ∷ b.behind) rv ∙ append_assoc (over h s) (v ∷ []) (z.0 ∷ b.behind);
            }
        | inr i ↦ elim (contains_cases v (below n (RightOf (Some v))) e i) [
          | inl d ↦ record { turn = v; more = []; behind = []; path = ap (lefts h) (sym d) ∙ lv; forest = rv }
          | inr j ↦
              let b = (walked (RightOf (Some v)) e j).2 in
              record {
                turn = v;
                more = b.turn ∷ b.more;
                behind = [];
                path = b.path ∙ ap (λ c. c ++ b.turn ∷ b.more) lv ∙ append_assoc (A s) (v ∷ []) (b.turn ∷ b.more);
                forest = rv;
              }
        ]
      ]

  -- what is walked below a slot stands in the block of a child
  walk_in : (n : ℕ) (s : Slot) (e : Identifier) → Contains (below n s) e → InSlot s e
  walk_in zero s e m = absurd (contains_none e m)
  walk_in (suc n) s e m =
      let r = flat_from (block n) (children s) e m in
      let k : IsChild p h s r.0 = t.sound s r.0 r.1 in
      (r.0, k, block_in n (walk_in n) s r.0 e k r.2)

  -- what stands in the block of a child stands before what stands in that of a later one
  blocks_apart : (s : Slot) (u v a b : Identifier) → F u v ≡ true → InBlock s u a → InBlock s v b → R a b ≡ true
  blocks_apart s u v a b k x y =
      let n : u ≢ v = λ d. true≢false (sym k ∙ ap (λ z. F z v) d ∙ fork-irrefl (order p (older_of h)) h v) in
      let other : x.turn ≢ y.turn = λ d. n
      (heads u v x.behind y.behind
      (append_cancel_left (over h s) (u ∷ x.behind) (v ∷ y.behind) (sym x.forest ∙ ap (rights h) d ∙ y.forest))) in
      (λ i. chain_before true S (x.path i) (y.path i)) ∙ common true S (A s) (x.turn ∷ x.more) (y.turn ∷ y.more)
      ∙ chain_before-fork true S x.turn y.turn x.more y.more other
      ∙ (λ i. chain_before false F (x.forest i) (y.forest i)) ∙ common false F (over h s) (u ∷ x.behind) (v ∷ y.behind)
      ∙ chain_before-fork false F u v x.behind y.behind n ∙ k

  -- left children, and what is below them, stand before their parent
  left_first : (v e : Identifier) → IsHeld h v → InSlot (LeftOf v) e → R e v ≡ true
  left_first v e k z =
      let b = z.2 in
      let lv : lefts h v ≡ A (LeftOf v) ++ v ∷ [] = lefts-above h v w k in
      let n : b.turn ≢ v = λ d. not_longer (rights h v) z.0 b.behind (ap (rights h) (sym d) ∙ b.forest) in
      (λ i. chain_before true S (b.path i) (lv i)) ∙ common true S (A (LeftOf v)) (b.turn ∷ b.more) (v ∷ [])
      ∙ chain_before-fork true S b.turn v b.more [] n
      ∙ (λ i. chain_before false F (b.forest i) (sym (append-nil (rights h v)) i))
      ∙ common false F (rights h v) (z.0 ∷ b.behind) []

  -- right children, and what is below them, stand after it
  right_last : (v e : Identifier) → InSlot (RightOf (Some v)) e → R v e ≡ true
  right_last v e z =
      let b = z.2 in
      (λ i. chain_before true S (sym (append-nil (lefts h v)) i) (b.path i))
      ∙ common true S (lefts h v) [] (b.turn ∷ b.more)

  -- what is walked is an element, where that is so below
  block_member : (n : ℕ) → ((s : Slot) (e : Identifier) → Contains (below n s) e → IsIn p h e) → (v e : Identifier)
      → IsIn p h v → Contains (block n v) e → IsIn p h e
  block_member n walked v e k m =
      elim (Contains-append_cases (below n (LeftOf v)) (v ∷ below n (RightOf (Some v))) e m) [
        | inl i ↦ walked (LeftOf v) e i
        | inr i ↦ elim (contains_cases v (below n (RightOf (Some v))) e i) [
          | inl d ↦ subst (IsIn p h) d k
          | inr j ↦ walked (RightOf (Some v)) e j
        ]
      ]

  -- what is walked is an element
  walk_member : (n : ℕ) (s : Slot) (e : Identifier) → Contains (below n s) e → IsIn p h e
  walk_member zero s e m = absurd (contains_none e m)
  walk_member (suc n) s e m =
      let r = flat_from (block n) (children s) e m in
      block_member n (walk_member n) r.0 e (child-in p h s r.0 (t.sound s r.0 r.1)) r.2

  -- elements stand in a transitive order
  trans : (a b c : Identifier) → R a b ≡ true → R b c ≡ true → R a c ≡ true
  trans = before_in-trans (order p (older_of h)) h

  -- the walk of a block is in order, where those below are
  block_ordered : (n : ℕ) → ((s : Slot) → IsOrderedBy R (below n s)) → (v : Identifier) → IsHeld h v
      → IsOrderedBy R (block n v)
  block_ordered n o v k =
      let T : Identifier → Identifier → Type 0 = λ a b. R a b ≡ true in
      let L : List Identifier = below n (LeftOf v) in
      let M : List Identifier = below n (RightOf (Some v)) in
      let before_v : (a : Identifier) → Contains L a
      → R a v ≡ true = λ a m. left_first v a k (walk_in n (LeftOf v) a m) in
      let after_v : (b : Identifier) → Contains M b
      → R v b ≡ true = λ b m. right_last v b (walk_in n (RightOf (Some v)) b m) in
      all_pairs_append T L (v ∷ M) (o (LeftOf v))
      (AllPairs-cons T v M (all_from_contains (T v) M after_v) (o (RightOf (Some v))))
      (all_from_contains (λ a. All (T a) (v ∷ M)) L (λ a m.
      All-cons (T a) v M (before_v a m) (all_from_contains (T a) M (λ b j. trans a v b (before_v a m) (after_v b j)))))

  -- the walk is in order
  walk_ordered : (n : ℕ) (s : Slot) → IsOrderedBy R (below n s)
  walk_ordered zero s = all_pairs_nil (λ a b. R a b ≡ true)
  walk_ordered (suc n) s =
      flat_ordered (block n) R F (IsChild p h s)
      (λ v k. block_ordered n (walk_ordered n) v (child-held p h s v k))
      (λ u v a b k j f m i. blocks_apart s u v a b f (block_in n (walk_in n) s u a k m)
      (block_in n (walk_in n) s v b j i))
      (children s) (all_from_contains (IsChild p h s) (children s) (t.sound s))
      (Ordered-agree (fork_before (order p h) h) F (IsChild p h s) (λ a b _ _. fork_moved p h a b w) (children s)
      (all_from_contains (IsChild p h s) (children s) (t.sound s)) (t.sorted s))

  -- where y is walked, e is walked one step deeper, if it is walked with y
  reach : (y e : Identifier) → ((m : ℕ) → Contains (block (suc m) y) e) → (n : ℕ) (s : Slot) → Contains (below n s) y
      → Contains (below (suc n) s) e
  reach y e near zero s m = absurd (contains_none y m)
  reach y e near (suc n) s m =
      let r = flat_from (block n) (children s) y m in
      let v : Identifier = r.0 in
      let L : List Identifier = below (suc n) (LeftOf v) in
      let M : List Identifier = below (suc n) (RightOf (Some v)) in
      flat_to (block (suc n)) (children s) v e r.1
      (elim (Contains-append_cases (below n (LeftOf v)) (v ∷ below n (RightOf (Some v))) y r.2) [
        | inl i ↦ Contains-append_left L (v ∷ M) e (reach y e near n (LeftOf v) i)
        | inr i ↦ elim (contains_cases v (below n (RightOf (Some v))) y i) [
          | inl d ↦ subst (λ z. Contains (block (suc n) z) e) (sym d) (near n)
          | inr j ↦ Contains-append_right L (v ∷ M) e (contains_there v M e (reach y e near n (RightOf (Some v)) j))
        ]
      ])

  -- a child is walked below its slot
  child_walked : (n : ℕ) (s : Slot) (x : Identifier) → IsChild p h s x → Contains (below (suc n) s) x
  child_walked n s x k = flat_to (block n) (children s) x x (t.full s x k)
      (contains_middle (below n (LeftOf x)) x (below n (RightOf (Some x))))

  -- what is walked is walked one step deeper too
  deeper : (x : Identifier) (n : ℕ) (s : Slot) → Contains (below n s) x → Contains (below (suc n) s) x
  deeper x = reach x x (λ m. contains_middle (below (suc m) (LeftOf x)) x (below (suc m) (RightOf (Some x))))

  -- and so at any greater depth
  deeper_by : (x : Identifier) (more n : ℕ) (s : Slot) → Contains (below n s) x → Contains (below (n + more) s) x
  deeper_by x zero n s m = let e : n ≡ n + 0 = omega arith in subst (λ d. Contains (below d s) x) e m
  deeper_by x (suc more) n s m =
      let e : suc (n + more) ≡ n + suc more = omega arith in
      subst (λ d. Contains (below d s) x) e (deeper x (n + more) s (deeper_by x more n s m))

  -- a child of a slot is walked one step deeper than all those among which the slot's element is
  child_reached : (g : List Op) (n : ℕ) → ((y : Identifier) → IsIn p g y → Contains (below n (RightOf None)) y)
      → (s : Slot) (x : Identifier) → StandsAt p g s → IsChild p h s x → Contains (below (suc n) (RightOf None)) x
  child_reached g n all (RightOf None) x k c = child_walked n (RightOf None) x c
  child_reached g n all (RightOf (Some l)) x k c =
      reach l x (λ m. Contains-append_right (below (suc m) (LeftOf l)) (l ∷ below (suc m) (RightOf (Some l))) x
      (contains_there l (below (suc m) (RightOf (Some l))) x (child_walked m (RightOf (Some l)) x c)))
      n (RightOf None) (all l k)
  child_reached g n all (LeftOf q) x k c =
      reach q x (λ m. Contains-append_left (below (suc m) (LeftOf q)) (q ∷ below (suc m) (RightOf (Some q))) x
      (child_walked m (LeftOf q) x c)) n (RightOf None) (all q k)

  -- each element of an older part is walked, as deep as that part has operations
  reached : (g : List Op) → Lawful g → Within g h → (x : Identifier) → IsIn p g x
      → Contains (below (length g) (RightOf None)) x
  reached [] v f x m = cc (m.held)
  reached (op ∷ g) v f x m =
      let ready = when_ready g op v.0 in
      let within : Within g h = λ i o e. f i o (holder-other op g i (held_not_own op g i ready (ap is_some e)) ∙ e) in
      elim (IsIn-split p op g x m) [
        | inl at ↦ child_reached g (length g) (reached g v.1 within) (slot_of h op) x (slot_stands_by p h op g x v at)
            (record { op = op; held = f x op (holder-own op g x (element_own p op x at)); place = at; slot = refl })
        | inr k ↦ deeper x (length g) (RightOf None) (reached g v.1 within x k)
      ]

  -- the walk from the start, as deep as there are operations or deeper, is the order
  walk_lists : (n : ℕ) → length h ≤ n → below n (RightOf None) ≡ order p h
  walk_lists n k =
      same_ordered R (before_in-irrefl (order p (older_of h)) h) trans (below n (RightOf None)) (order p h)
      (walk_ordered n (RightOf None)) (order-ordered p h w)
      (λ x m. order-has p h x (walk_member n (RightOf None) x m))
      (λ x m.
      let e : length h + (n - length h) ≡ n = omega arith in
      subst (λ d. Contains (below d (RightOf None)) x) e
      (deeper_by x (n - length h) (length h) (RightOf None) (reached h w (λ i op e. e) x (order-member p h x w m))))

-- the walk of the older history, which is its order, compares right origins
walk-newest : (p : Place) (op : Op) (older : List Op) → walk p older ≡ order p older
    → walk p (op ∷ older) ≡ walk_to (length (op ∷ older)) (order p older) p (op ∷ older)
walk-newest p op older e = ap (λ o. walk_to (length (op ∷ older)) o p (op ∷ older)) e

-- the walk is the order
pub walk_is_order : WalkIsOrder
unfolding order
walk_is_order p [] w = refl
walk_is_order p (op ∷ older) w =
    let h : List Op = op ∷ older in
    walk-newest p op older (walk_is_order p older w.1)
    ∙ walk_lists p h w (children_of (order p older) p h) (children-table p h w) (length h) (omega arith)

-- and lists all
pub walk_is_whole : WalkIsWhole
walk_is_whole p h depth w k =
    ap (λ o. walk_to depth o p h) (walk_is_order p (older_of h) (older_lawful h w))
    ∙ walk_lists p h w (children_of (order p (older_of h)) p h) (children-table p h w) depth k
