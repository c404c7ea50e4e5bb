-- One author's draft of a section, in a history that has another author's operations too.
use Rattle.std.proofs.Common.{List, [], ap, arith, false, get_or, inl, inr, length, not, refl, subst, sym, true, ℕ, ◌++◌, ◌<◌, ◌≤◌, ◌∙◌, ◌∷◌, ◌≡◌, ◌⊎◌}
use Rattle.std.specs.Prelude.{Option, Some, map}
use Rattle.std.specs.List.{AllPairs, Contains, flat_map}
use Rattle.std.proofs.lemmas.Bool.{cases_order, false_from_ne_true, false≢true, true≢false}
use Rattle.std.proofs.lemmas.List.{length-append, length-map}
use Rattle.std.proofs.lemmas.List.Concat.{flat_map-cons}
use Rattle.std.proofs.lemmas.List.Kept.{AllPairs-filter}
use Rattle.std.proofs.Math.Seq.{get_or-append_seam}
use Rattle.fugue_ids.specs.Identifiers.{Identifier}
use Rattle.fugue_ids.specs.Listed.{last_before}
use Rattle.fugue_ids.specs.declared.op.Op.{Op}
use Rattle.fugue_ids.specs.declared.op.Op.TheVariants.{Delete, Text}
use Rattle.fugue_ids.proofs.IdentifierLemmas.{not_some}
use Rattle.fugue_ids.proofs.ListLemmas.{contains_filter, contains_filter_from, contains_here, contains_middle, contains_none, contains_there}
use Rattle.origin_model.specs.declared.operations.Place.{Place}
use Rattle.origin_model.specs.declared.operations.Place.TheVariants.{Section as within}
use Rattle.origin_model.specs.edits.Edits.{in_front, left_for}
use Rattle.origin_model.specs.edits.Passages.{Relation}
use Rattle.origin_model.specs.operations.History.{element_of, holder, holds}
use Rattle.origin_model.specs.operations.Verdict.{Lawful}
use Rattle.origin_model.specs.order.Laws.{IsIn, IsPartOf}
use Rattle.origin_model.specs.order.Order.{before, order}
use Rattle.origin_model.specs.order.Printed.{is_hidden, scalar_of, shown, text}
use Rattle.origin_model.proofs.SharedLemmas.{IsIn-held, Within-part, hidden-has, not_hidden_before, order_total}
use Rattle.text_diff.specs.Merges.{puts_at}
use Rattle.merged_words.specs.Drafts.{ComeTogether, IsAuthoredDraft, IsPutInOneGo, comes_at}
use Rattle.merged_words.proofs.ListLemmas.{StandsAt}
use Rattle.merged_words.proofs.StayLemmas.{Follow, HasCut, comes_in, comes_ordered, comes_within, cut_or_stays, members, puts_are, transforms_follow}
use Rattle.merged_words.proofs.PassageLemmas.{IsForward, IsOwn, in_whole, part_ordered, stands}

-- the first scalar of a list, or 0
abbrev first_scalar : List ℕ → ℕ
first_scalar [] = 0
first_scalar (c ∷ cs) = c

-- the scalar of an element
abbrev pub scalar : List Op → Identifier → ℕ
scalar h x = first_scalar (scalar_of (holder h x))

-- an element of a section has one scalar
one_scalar : (s : Identifier) (op : Op) (x : Identifier) → element_of (within s) op ≡ Some x → scalar_of (Some op) ≡ first_scalar (scalar_of (Some op)) ∷ []
one_scalar s (Text i q l r ch) x e = refl
one_scalar s _ x e = absurd (not_some x (sym e))

-- what is shown is an element of the place that is not hidden
pub shown_in : (p : Place) (h : List Op) → Lawful h → (z : Identifier) → Contains (shown p h) z → IsIn p h z × (is_hidden h z ≡ false)
shown_in p h w z m =
    let k = contains_filter_from (λ x. not (is_hidden h x)) (order p h) z m in
    (((order_total p h w).lists z).1 k.0, false_from_ne_true (is_hidden h z) (λ e. false≢true (sym (ap not e) ∙ k.1)))

-- and the other way round
pub in_shown : (p : Place) (h : List Op) → Lawful h → (z : Identifier) → IsIn p h z → is_hidden h z ≡ false → Contains (shown p h) z
in_shown p h w z m e = contains_filter (λ x. not (is_hidden h x)) (order p h) z (((order_total p h w).lists z).0 m) (ap not e)

-- the text of a part, by the scalars of the whole
module _ (s : Identifier) (part whole : List Op) (w : Lawful whole) (f : IsPartOf part whole) where
  scalars_are : (xs : List Identifier) → ((x : Identifier) → Contains xs x → IsIn (within s) part x) → flat_map (λ x. scalar_of (holder part x)) xs ≡ map (scalar whole) xs
  scalars_are [] each = refl
  scalars_are (x ∷ xs) each =
      let m = each x (contains_here x xs) in
      let same : holder whole x ≡ Some m.op = Within-part part whole w f x m.op m.held in
      let one : scalar_of (holder part x) ≡ scalar whole x ∷ [] = ap scalar_of m.held ∙ one_scalar s m.op x m.place ∙ ap (λ o. first_scalar (scalar_of o) ∷ []) (sym same) in
      flat_map-cons (λ y. scalar_of (holder part y)) x xs ∙ (λ i. one i ++ scalars_are xs (λ y k. each y (contains_there x xs y k)) i)

  pub text_is : Lawful part → text part s ≡ map (scalar whole) (shown (within s) part)
  text_is v = scalars_are (shown (within s) part) (λ x m. (shown_in (within s) part v x m).0)

-- what is in front of a position is the last of those in front
last_in_front : (front back : List Identifier) → in_front (front ++ back) (length front) ≡ last_before front
last_in_front [] back = refl
last_in_front (x ∷ []) back = refl
last_in_front (x ∷ y ∷ xs) back = last_in_front (y ∷ xs) back

-- a list in a strict order has each member at one position
at_once : (R : Relation) → ((x : Identifier) → R x x ≡ false) → (xs : List Identifier) → AllPairs (λ x y. R x y ≡ true) xs → (z : Identifier) (i j : ℕ) → i < length xs
    → j < length xs
    → get_or xs i z ≡ z → get_or xs j z ≡ z → i ≡ j
at_once R strict xs o z i j a b e k =
    elim (cases_order i j) [
      | inl q ↦ q
      | inr q ↦ elim q [
        | inl l ↦ absurd (true≢false (sym (subst (λ t. R t (get_or xs j z) ≡ true) e (o i j z l b)) ∙ ap (R z) k ∙ strict z))
        | inr l ↦ absurd (true≢false (sym (subst (λ t. R t (get_or xs i z) ≡ true) k (o j i z l a)) ∙ ap (R z) e ∙ strict z))
      ]
    ]

-- the author's own operations, and another author's
module _ (s : Identifier) (base own other whole : List Op) (u : Lawful base) (v : Lawful other) (d : IsAuthoredDraft s base own) (c : ComeTogether base own other whole) where
  abbrev p : Place
  p = within s

  abbrev S : List Identifier
  S = shown p base

  abbrev N : List Identifier
  N = shown p own

  abbrev R : Relation
  R = before p whole

  abbrev T : Identifier → Identifier → Type 0
  T x y = before p whole x y ≡ true

  abbrev pub come : ℕ → List Identifier
  come i = comes_at base 0 (shown (within s) base) (shown (within s) own) d.hunks d.stays i

  pub base_whole : IsPartOf base whole
  base_whole op k = c.first op (d.part op k)

  pub part_shown_ordered : (part : List Op) → Lawful part → IsPartOf part whole → AllPairs T (shown p part)
  part_shown_ordered part l f = AllPairs-filter T (λ x. not (is_hidden part x)) (order p part) (part_ordered p whole c.lawful part l f)

  as_long : length (text base s) ≡ length S
  as_long = ap length (text_is s base whole c.lawful base_whole u) ∙ length-map S (scalar whole)

  follow : Follow (length S) 0 0 d.hunks
  follow = transforms_follow (text base s) (text own s) (length S) d.hunks as_long d.transforms

  -- what comes is the author's own
  come_in : (i : ℕ) (e : Identifier) → Contains (come i) e → Contains N e × (holds base e ≡ false)
  come_in i e m = comes_in base S 0 N d.hunks d.stays i e m

  each : (i : ℕ) (e : Identifier) → Contains (come i) e → IsIn p own e
  each i e m = (shown_in p own d.lawful e (come_in i e m).0).0

  apart : (i : ℕ) (e : Identifier) → Contains (come i) e → holds other e ≡ true → ⊥
  apart i e m k = false≢true (sym (come_in i e m).1 ∙ c.apart e (IsIn-held p own e (each i e m)) k)

  pub is_own : (i : ℕ) → IsOwn p whole own other (come i)
  is_own i = record {
    lawful = d.lawful;
    part = c.first;
    each = each i;
    ordered = comes_ordered base S T 0 N d.hunks d.stays (part_shown_ordered own d.lawful c.first) i;
    forward = forward_of (left_for p base i) (come i) (d.put i);
    apart = apart i;
  }
    where
      forward_of : (l : Option Identifier) (xs : List Identifier) → IsPutInOneGo p own l xs → IsForward p own xs
      forward_of l [] g = tt
      forward_of l (x ∷ xs) g = g.1

  -- it stands at its position
  pub come_stands : (front back : List Identifier) → S ≡ front ++ back → (x : Identifier) → Contains (come (length front)) x → StandsAt R front back x
  come_stands front back e x m = by_list (come (length front)) (is_own (length front)) (λ z k. (come_in (length front) z k).1) (d.put (length front)) x m
    where
      before_it : left_for p base (length front) ≡ last_before front
      before_it = ap (λ l. in_front l (length front)) e ∙ last_in_front front back

      by_list : (xs : List Identifier) → IsOwn p whole own other xs → ((z : Identifier) → Contains xs z → holds base z ≡ false)
          → IsPutInOneGo p own (left_for p base (length front)) xs
          → (x : Identifier) → Contains xs x → StandsAt R front back x
      by_list [] o n g x m = absurd (contains_none x m)
      by_list (y ∷ ys) o n g x m =
          stands p whole c.lawful own d.lawful c.first y ys o.each o.ordered o.forward base u d.part base_whole front back
          (subst (AllPairs T) e (part_shown_ordered base u base_whole))
          (λ z k. (shown_in p base u z (subst (λ l. Contains l z) (sym e) k)).0) n
          (g.0.0, g.0.1, g.0.2, g.0.3 ∙ before_it) x m

  -- what is hidden in the whole is hidden by one of both
  pub hidden_from : (z : Identifier) → is_hidden whole z ≡ true → (is_hidden own z ≡ true) ⊎ (is_hidden other z ≡ true)
  hidden_from z e =
      elim (c.no_more (Delete z) (sym (hidden-has whole z) ∙ e)) [ inl k ↦ inl (hidden-has own z ∙ k) | inr k ↦ inr (hidden-has other z ∙ k) ]

  -- what is not hidden in the whole, the author does not hide
  pub own_hides : (z : Identifier) → is_hidden whole z ≡ false → is_hidden own z ≡ false
  own_hides z e =
      false_from_ne_true (is_hidden own z) (λ k. false≢true (sym e ∙ hidden-has whole z ∙ c.first (Delete z) (sym (hidden-has own z) ∙ k)))

  -- what comes is shown in the whole
  pub come_shown : (i : ℕ) (z : Identifier) → Contains (come i) z → Contains (shown p whole) z
  come_shown i z m =
      let own_shown = shown_in p own d.lawful z (come_in i z m).0 in
      let absent : holds other z ≡ false = false_from_ne_true (holds other z) (apart i z m) in
      in_shown p whole c.lawful z (in_whole p own whole c.lawful c.first z own_shown.0)
      (false_from_ne_true (is_hidden whole z) (λ k. elim (hidden_from z k) [
        | inl q ↦ false≢true (sym own_shown.1 ∙ q)
        | inr q ↦ false≢true (sym (not_hidden_before other z v absent) ∙ q)
      ]))

  -- what is shown in the whole and is of the author comes, or was shown
  pub own_shown_from : (z : Identifier) → IsIn p own z → is_hidden whole z ≡ false → ((i : ℕ) × (i ≤ length S) × Contains (come i) z) ⊎ Contains S z
  own_shown_from z m e =
      elim (members base S 0 0 N d.hunks d.stays follow z (in_shown p own d.lawful z m (own_hides z e))) [
        | inl k ↦ inl (k.0, comes_within base S (length S) 0 0 N d.hunks d.stays follow k.0 z k.1, k.1)
        | inr k ↦ inr (k.0, k.2, k.3)
      ]

  -- a member of the old list at its position
  place_of : (front : List Identifier) (z : Identifier) (cs : List Identifier) → S ≡ front ++ z ∷ cs → (length front < length S) × (get_or S (length front) z ≡ z)
  place_of front z cs e = (omega (arith, ap length e, length-append front (z ∷ cs)), ap (λ l. get_or l (length front) z) e ∙ get_or-append_seam front z cs z)

  old_member : (front : List Identifier) (z : Identifier) (cs : List Identifier) → S ≡ front ++ z ∷ cs → IsIn p base z
  old_member front z cs e = (shown_in p base u z (subst (λ l. Contains l z) (sym e) (contains_middle front z cs))).0

  -- where the author does not hide it, no hunk cuts it
  pub stays_uncut : (front : List Identifier) (z : Identifier) (cs : List Identifier) → S ≡ front ++ z ∷ cs → is_hidden own z ≡ false → HasCut d.hunks (length front) → ⊥
  stays_uncut front z cs e h =
      let m : IsIn p base z = old_member front z cs e in
      let at = place_of front z cs e in
      elim (members base S 0 0 N d.hunks d.stays follow z (in_shown p own d.lawful z (in_whole p base own d.lawful d.part z m) h)) [
        | inl k ↦ absurd (false≢true (sym (come_in k.0 z k.1).1 ∙ IsIn-held p base z m))
        | inr k ↦ subst (λ j. HasCut d.hunks j → ⊥)
            (at_once R (order_total p whole c.lawful).irreflexive S (part_shown_ordered base u base_whole) z k.0 (length front) k.2 at.0 k.3 at.1) k.4
      ]

  -- where he hides it, one does
  pub hidden_cut : (front : List Identifier) (z : Identifier) (cs : List Identifier) → S ≡ front ++ z ∷ cs → is_hidden own z ≡ true → HasCut d.hunks (length front)
  hidden_cut front z cs e h =
      let at = place_of front z cs e in
      elim (cut_or_stays base S 0 0 N d.hunks d.stays follow (length front) z (omega arith) at.0 at.1) [
        | inl k ↦ k
        | inr k ↦ absurd (false≢true (sym (shown_in p own d.lawful z k.1).1 ∙ h))
      ]

  -- what his hunks put reads as what comes
  pub puts_come : (i : ℕ) → puts_at (text own s) d.hunks i ≡ map (scalar whole) (come i)
  puts_come i =
      ap (λ t. puts_at t d.hunks i) (text_is s own whole c.lawful c.first d.lawful) ∙ puts_are base S (scalar whole) N 0 0 N d.hunks d.stays follow refl i
