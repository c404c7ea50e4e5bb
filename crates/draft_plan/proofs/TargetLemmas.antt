-- The sections of a draft's parts, one part after another.
use Rattle.std.proofs.Common.{List, [], ap, arith, drop, get_or, inl, inr, length, refl, subst, suc, sym, take, ℕ, ◌+◌, ◌++◌, ◌<◌, ◌≤◌, ◌∙◌, ◌∷◌, ◌≡◌, ◌⊎◌, true, false, zero}
use Rattle.std.specs.Prelude.{IfSome, IsSome, None, Ok, Option, Some, slice_get, ◌↔◌}
use Rattle.std.specs.List.{Contains}
use Rattle.std.specs.Str.{encode_utf8_all}
use Rattle.std.proofs.lemmas.Bool.{cases_eq, cases_lt, false_from_ne_true, true≢false}
use Rattle.std.proofs.lemmas.List.{get_or_past, length_push, take-append-drop}
use Rattle.std.proofs.lemmas.List.Elements.{Contains-append_cases, Contains-append_left, Contains-append_right, Contains-push_cases}
use Rattle.std.proofs.lemmas.Option.{same_Some}
use Rattle.fugue_ids.specs.Identifiers.{Identifier}
use Rattle.fugue_ids.proofs.ListLemmas.{contains_cases, contains_here, contains_none}
use Rattle.origin_model.specs.declared.operations.Place.TheVariants.{Catalogue as catalogue}
use Rattle.origin_model.specs.edits.Edits.{Add, id_at, left_for, right_for, splice}
use Rattle.origin_model.specs.edits.Effect.{IsMade}
use Rattle.origin_model.specs.edits.Refusal.{RefusesExactly, added_ids, made_by, next_of_own}
use Rattle.origin_model.specs.edits.State.{State}
use Rattle.origin_model.specs.operations.History.{holds}
use Rattle.origin_model.specs.operations.Verdict.{Lawful}
use Rattle.origin_model.specs.order.Printed.{shown}
use Rattle.origin_model.proofs.edits.SplitLemmas.{get_in}
use Rattle.catalogue_notes.specs.Arranged.{heading}
use Rattle.catalogue_notes.proofs.MovingLemmas.{fresh}
use Rattle.catalogue_notes.proofs.PartLemmas.{get_some}
use Rattle.section_plan.specs.Matching.{IsMatching, part_of, section_of}
use Rattle.section_plan.specs.declared.pairs.Pairs.{Pairs}
use Rattle.draft_plan.specs.Drafts.{Part}
use Rattle.draft_plan.specs.Resizing.{AreDistinct, AreLeft, AreTargets, AreTargetsTo, IsAdded, IsPartTaken}
use Rattle.draft_plan.specs.Shaping.{IsShaped, KeepsPlaces}
use Rattle.draft_plan.proofs.RevisionLemmas.{shown_holds}
use Rattle.draft_plan.proofs.SectionLemmas.{new_heading}
use Rattle.draft_plan.proofs.ShapeLemmas.{add_shaped, got, history_is, in_spliced, places_none}

-- a new member stands where it was put, beside the others
put_there : (xs : List Identifier) (at : ℕ) (x : Identifier) (rest : List Identifier) → at ≤ length xs → slice_get ((take at xs ++ x ∷ []) ++ rest) at ≡ Some x
put_there [] zero x rest l = refl
put_there [] (suc at) x rest l = absurd (omega arith)
put_there (y ∷ xs) zero x rest l = refl
put_there (y ∷ xs) (suc at) x rest l = put_there xs at x rest (omega arith)

pub put_at : (xs : List Identifier) (at : ℕ) (x : Identifier) → at ≤ length xs → slice_get (splice xs at 0 (x ∷ [])) at ≡ Some x
put_at xs at x l = put_there xs at x (drop (at + 0) xs) l

pub put_all : (xs : List Identifier) (at : ℕ) (x t : Identifier) → Contains (splice xs at 0 (x ∷ [])) t ↔ (Contains xs t ⊎ (t ≡ x))
put_all xs at x t = (λ m. from (in_spliced xs (x ∷ []) at 0 t m), λ side. into side)
  where
    from : Contains xs t ⊎ Contains (x ∷ []) t → Contains xs t ⊎ (t ≡ x)
    from (inl m) = inl m
    from (inr m) = elim (contains_cases x [] t m) [ inl e ↦ inr (sym e) | inr k ↦ absurd (contains_none t k) ]

    into : Contains xs t ⊎ (t ≡ x) → Contains (splice xs at 0 (x ∷ [])) t
    into (inr e) = Contains-append_left (take at xs ++ x ∷ []) (drop (at + 0) xs) t
        (Contains-append_right (take at xs) (x ∷ []) t (subst (Contains (x ∷ [])) (sym e) (contains_here x [])))
    into (inl m) =
        let whole : take at xs ++ drop (at + 0) xs ≡ xs = let e : at + 0 ≡ at = omega arith in ap (λ n. take at xs ++ drop n xs) e ∙ take-append-drop at xs in
        elim (Contains-append_cases (take at xs) (drop (at + 0) xs) t (subst (λ l. Contains l t) (sym whole) m)) [
          | inl k ↦ Contains-append_left (take at xs ++ x ∷ []) (drop (at + 0) xs) t (Contains-append_left (take at xs) (x ∷ []) t k)
          | inr k ↦ Contains-append_right (take at xs ++ x ∷ []) (drop (at + 0) xs) t k
        ]

-- a section was added
pub added : (old new : State) (at n : ℕ) (title : List ℕ) (s : Identifier) → Lawful old.held.history → at ≤ length (shown catalogue old.held.history)
    → RefusesExactly old (Add at title) (Ok n)
    → IsMade old new (Add at title) n → shown catalogue new.held.history ≡ splice (shown catalogue old.held.history) at 0 (added_ids old)
    → Some s ≡ slice_get (shown catalogue new.held.history) at
    → IsAdded old new at (encode_utf8_all title) s
added old new at n title s w l exact made here is =
    let xs : List Identifier = shown catalogue old.held.history in
    let x : Identifier = id_at old.number (next_of_own old) in
    let one : n ≡ 1 = made.count in
    let there = ap (λ l. slice_get l at) here ∙ put_at xs at x l in
    let same : s ≡ x = cc (is, there) in
    record {
      shaped = subst (IsShaped old new) one (add_shaped old new at n title w l exact made).0;
      places = (add_shaped old new at n title w l exact made).2;
      fresh = ap (holds old.held.history) same ∙ fresh old;
      there = sym is;
      headed = ap encode_utf8_all (ap (heading new.held.history) same
          ∙ (ap (λ g. heading g x) (history_is old new (made_by old (Add at title)) made.gained)
          ∙ new_heading old.held.history x (left_for catalogue old.held.history at) (right_for catalogue old.held.history at) title w (fresh old)));
      all = λ t. rw (here, same) (put_all xs at x t);
    }

-- where the members of a list with one more stand
push_old : (xs : List Identifier) (s : Identifier) (j : ℕ) (u : Identifier) → slice_get xs j ≡ Some u → slice_get (xs ++ s ∷ []) j ≡ Some u
push_old [] s j u e = cc
push_old (x ∷ xs) s zero u e = e
push_old (x ∷ xs) s (suc j) u e = push_old xs s j u e

push_new : (xs : List Identifier) (s : Identifier) → slice_get (xs ++ s ∷ []) (length xs) ≡ Some s
push_new [] s = refl
push_new (x ∷ xs) s = push_new xs s

pub push_cases : {X : Type 0} (xs : List X) (s : X) (j : ℕ) (u : X) → slice_get (xs ++ s ∷ []) j ≡ Some u → (slice_get xs j ≡ Some u) ⊎ ((j ≡ length xs) × (u ≡ s))
push_cases [] s zero u e = let same : s ≡ u = cc in inr (refl, sym same)
push_cases [] s (suc j) u e = cc
push_cases (x ∷ xs) s zero u e = inl e
push_cases (x ∷ xs) s (suc j) u e = elim (push_cases xs s j u e) [ inl k ↦ inl k | inr k ↦ inr (ap suc k.0, k.1) ]

get_or_past_none : (xs : List (Option ℕ)) (i : ℕ) → length xs ≤ i → get_or xs i None ≡ None
get_or_past_none xs i l = get_or_past xs i None l

-- no part has its section yet
pub targets_start : (start : State) (ys : List Identifier) (p : Pairs) (parts : ℕ) (ps : List Part) → IsMatching (length ys) parts p
    → AreLeft ys p (length ys) (shown catalogue start.held.history) → AreTargetsTo start start ys p ps 0 []
targets_start start ys p parts ps m left = record {
  long = refl;
  kept = λ j i s l e f. absurd (omega arith);
  fresh = λ j s e f. cc;
  there = λ s k. absurd (contains_none s k);
  later = λ j i s e f. let pair = (m.inverse i j).0 e in left.kept i s f (inr (subst IsSome (sym pair) refl));
  only = λ s k. let at = left.only s k in inr (which at.0 s at.1 at.2);
  once = λ j k s e f. cc;
  titled = λ j s q e f g. cc;
}
  where
    paired : (i : ℕ) (s : Identifier) → slice_get ys i ≡ Some s → (o : Option ℕ) → part_of p i ≡ o → IsSome (part_of p i)
        → (j : ℕ) × (i' : ℕ) × (0 ≤ j) × (section_of p j ≡ Some i') × (slice_get ys i' ≡ Some s)
    paired i s e None f some = let g : false ≡ true = subst IsSome f some in cc
    paired i s e (Some j) f some = (j, i, omega arith, (m.inverse i j).1 f, e)

    which : (i : ℕ) (s : Identifier) → slice_get ys i ≡ Some s → (length ys ≤ i) ⊎ IsSome (part_of p i)
        → (j : ℕ) × (i' : ℕ) × (0 ≤ j) × (section_of p j ≡ Some i') × (slice_get ys i' ≡ Some s)
    which i s e (inl l) = let within = (got ys i s e).0 in absurd (omega arith)
    which i s e (inr some) = paired i s e (part_of p i) refl some

-- one part more
module _ (start now new : State) (ys : List Identifier) (p : Pairs) (parts k : ℕ) (ps : List Part) (q : Part) (here : slice_get ps k ≡ Some q) (anchor : Option Identifier)
    (ts us : List Identifier) (m : IsMatching (length ys) parts p) (once : AreDistinct ys) (w : Lawful now.held.history)
    (held : (j i : ℕ) (s : Identifier) → section_of p j ≡ Some i → slice_get ys i ≡ Some s → holds start.held.history s ≡ true)
    (keeps : (t : Identifier) → holds start.held.history t ≡ true → holds now.held.history t ≡ true)
    (was : AreTargetsTo start now ys p ps k ts) (taken : IsPartTaken now new ys (section_of p k) anchor q.title ts us) where
  abbrev s : Identifier
  s = taken.section

  cases : (j : ℕ) (u : Identifier) → slice_get us j ≡ Some u → (slice_get ts j ≡ Some u) ⊎ ((j ≡ k) × (u ≡ s))
  cases j u e = elim (push_cases ts s j u (ap (λ l. slice_get l j) (sym taken.targets_are) ∙ e)) [ inl l ↦ inl l | inr r ↦ inr (r.0 ∙ was.long, r.1) ]

  old : (j : ℕ) (u : Identifier) → slice_get ts j ≡ Some u → slice_get us j ≡ Some u
  old j u e = ap (λ l. slice_get l j) taken.targets_are ∙ push_old ts s j u e

  last : slice_get us k ≡ Some s
  last = ap (λ l. slice_get l k) taken.targets_are ∙ (ap (slice_get (ts ++ s ∷ [])) (sym was.long) ∙ push_new ts s)

  member_cases : (u : Identifier) → Contains us u → Contains ts u ⊎ (s ≡ u)
  member_cases u e = Contains-push_cases ts s u (subst (λ l. Contains l u) taken.targets_are e)

  before : (j : ℕ) (u : Identifier) → slice_get ts j ≡ Some u → j < k
  before j u e = let r = got ts j u e in omega (arith, r.0, was.long)

  -- the section is that of the part, or was added
  kept_here : (i : ℕ) → section_of p k ≡ Some i → slice_get ys i ≡ Some s
  kept_here i e = (taken.kept i e).0

  fresh_here : section_of p k ≡ None → holds start.held.history s ≡ false
  fresh_here e = false_from_ne_true (holds start.held.history s) (λ t. true≢false (sym (keeps s t) ∙ (taken.came e).added.fresh))

  shown_still : (t : Identifier) → Contains (shown catalogue now.held.history) t → Contains (shown catalogue new.held.history) t
  shown_still t c = by (section_of p k) refl
    where
      by : (o : Option ℕ) → section_of p k ≡ o → Contains (shown catalogue new.held.history) t
      by None e = ((taken.came e).added.all t).1 (inl c)
      by (Some i) e = subst (λ (x : State). Contains (shown catalogue x.held.history) t) (sym (taken.kept i e).1) c

  shown_here : Contains (shown catalogue new.held.history) s
  shown_here = by (section_of p k) refl
    where
      by : (o : Option ℕ) → section_of p k ≡ o → Contains (shown catalogue new.held.history) s
      by None e = ((taken.came e).added.all s).1 (inr refl)
      by (Some i) e = shown_still s (was.later k i s e (kept_here i e))

  shown_before : (t : Identifier) → Contains (shown catalogue new.held.history) t → Contains (shown catalogue now.held.history) t ⊎ (t ≡ s)
  shown_before t c = by (section_of p k) refl
    where
      by : (o : Option ℕ) → section_of p k ≡ o → Contains (shown catalogue now.held.history) t ⊎ (t ≡ s)
      by None e = ((taken.came e).added.all t).0 c
      by (Some i) e = inl (subst (λ (x : State). Contains (shown catalogue x.held.history) t) (taken.kept i e).1 c)

  -- headings stay, and one that was added has the part's title
  headed_still : (t : Identifier) → Contains (shown catalogue now.held.history) t → heading new.held.history t ≡ heading now.held.history t
  headed_still t c = by (section_of p k) refl
    where
      by : (o : Option ℕ) → section_of p k ≡ o → heading new.held.history t ≡ heading now.held.history t
      by None e = ((taken.came e).added.shaped.keeps.same t (shown_holds now.held.history t w c)).headed
      by (Some i) e = ap (λ (x : State). heading x.held.history t) (taken.kept i e).1

  titled_here : (t : Part) → section_of p k ≡ None → slice_get ps k ≡ Some t → encode_utf8_all (heading new.held.history s) ≡ t.title
  titled_here t e g = (taken.came e).added.headed ∙ ap (λ (x : Part). x.title) (same_Some q t (sym here ∙ g))

  -- no part before it has this section
  other : (j : ℕ) → slice_get ts j ≡ Some s → ⊥
  other j e = by (section_of p k) refl (section_of p j) refl
    where
      by : (o : Option ℕ) → section_of p k ≡ o → (q : Option ℕ) → section_of p j ≡ q → ⊥
      by None f q g = true≢false (sym (shown_holds now.held.history s w (was.there s (get_in ts j s e))) ∙ (taken.came f).added.fresh)
      by (Some i) f None g = true≢false (sym (held k i s f (kept_here i f)) ∙ was.fresh j s g e)
      by (Some i) f (Some i') g =
          let within : i' < length ys = let back =
          (m.inverse i' j).0 g in elim (cases_lt i' (length ys))
          [ inl l ↦ l | inr n ↦ let none = get_or_past_none p.of_section.items i' (omega (arith, m.sections_are)) in cc ] in
          let at = get_some ys i' within in
          let same : at.0 ≡ s = let t = was.kept j i' at.0 (before j s e) g at.1 in cc (t, e) in
          let same_place : i' ≡ i = once i' i s (at.1 ∙ ap Some same) (kept_here i f) in
          let pair = (m.inverse i j).0 (g ∙ ap Some same_place) in
          let pair_k = (m.inverse i k).0 f in
          let jk : j ≡ k = cc (pair, pair_k) in
          let l = before j s e in
          omega arith

  pub targets_more : AreTargetsTo start new ys p ps (k + 1) us
  targets_more = record {
    long = ap length taken.targets_are ∙ (length_push ts s ∙ ap (λ n. n + 1) was.long);
    kept = λ j i u l e f. elim (cases_eq j k) [
      | inl is ↦ let at = kept_here i (ap (section_of p) (sym is) ∙ e) in let same : u ≡ s = cc (at, f) in ap (slice_get us) is ∙ (last ∙ ap Some (sym same))
      | inr ne ↦ old j u (was.kept j i u (omega arith) e f)
    ];
    fresh = λ j u e f. elim (cases j u f) [ inl g ↦ was.fresh j u e g | inr g ↦ ap (holds start.held.history) g.1 ∙ fresh_here (ap (section_of p) (sym g.0) ∙ e) ];
    there = λ u c. elim (member_cases u c) [ inl d ↦ shown_still u (was.there u d) | inr e ↦ subst (Contains (shown catalogue new.held.history)) e shown_here ];
    later = λ j i u e f. shown_still u (was.later j i u e f);
    only = λ u c. elim (shown_before u c) [ inl d ↦ only_from u (was.only u d) | inr e ↦ inl (get_in us k u (last ∙ ap Some (sym e))) ];
    once = λ j l u e f. elim (cases j u e) [
      | inl g ↦ elim (cases l u f) [ inl h ↦ was.once j l u g h | inr h ↦ absurd (other j (g ∙ ap Some h.1)) ]
      | inr g ↦ elim (cases l u f) [ inl h ↦ absurd (other l (h ∙ ap Some g.1)) | inr h ↦ g.0 ∙ sym h.0 ]
    ];
    titled = λ j u t e f g. elim (cases j u f) [
      | inl h ↦ ap encode_utf8_all (headed_still u (was.there u (get_in ts j u h))) ∙ was.titled j u t e h g
      | inr h ↦
          ap (λ x. encode_utf8_all (heading new.held.history x)) h.1
          ∙ titled_here t (ap (section_of p) (sym h.0) ∙ e) (ap (slice_get ps) (sym h.0) ∙ g)
    ];
  }
    where
      only_from : (u : Identifier) → Contains ts u ⊎ ((j : ℕ) × (i : ℕ) × (k ≤ j) × (section_of p j ≡ Some i) × (slice_get ys i ≡ Some u))
          → Contains us u ⊎ ((j : ℕ) × (i : ℕ) × (k + 1 ≤ j) × (section_of p j ≡ Some i) × (slice_get ys i ≡ Some u))
      only_from u (inl c) = inl (subst (λ l. Contains l u) (sym taken.targets_are) (Contains-append_left ts (s ∷ []) u c))
      only_from u (inr r) = elim (cases_eq r.0 k) [
        | inl is ↦ let at = kept_here r.1 (ap (section_of p) (sym is) ∙ r.3) in let same : u ≡ s = cc (at, r.4) in inl (get_in us k u (last ∙ ap Some (sym same)))
        | inr ne ↦ inr (r.0, r.1, omega (arith, r.2), r.3, r.4)
      ]

-- each part has its section
pub targets_all : (start now : State) (ys : List Identifier) (p : Pairs) (parts k : ℕ) (ps : List Part) (ts : List Identifier) → IsMatching (length ys) parts p → k ≡ parts
    → length ps ≡ parts → AreTargetsTo start now ys p ps k ts → AreTargets start now ys p ps ts
targets_all start now ys p parts k ps ts m is long was = record {
  long = was.long ∙ (is ∙ sym long);
  kept = λ j i s e f. was.kept j i s (below j i e) e f;
  fresh = was.fresh;
  shown_are = λ s. (λ c. elim (was.only s c) [ inl d ↦ d | inr r ↦ let l = below r.0 r.1 r.3 in absurd (omega (arith, r.2)) ], λ c. was.there s c);
  once = was.once;
  titled = was.titled;
}
  where
    below : (j i : ℕ) → section_of p j ≡ Some i → j < k
    below j i e = elim (cases_lt j k) [ inl l ↦ l | inr n ↦ let none = get_or_past_none p.of_part.items j (omega (arith, is, m.parts_are)) in cc ]

-- a section that is matched is within, and is held where it is left
pub matched_within : (sections parts : ℕ) (p : Pairs) (j i : ℕ) → IsMatching sections parts p → section_of p j ≡ Some i → i < sections
matched_within sections parts p j i m e = let back =
    (m.inverse i j).0 e in elim (cases_lt i sections) [ inl l ↦ l | inr n ↦ let none = get_or_past_none p.of_section.items i (omega (arith, m.sections_are)) in cc ]

pub matched_held : (start : State) (ys : List Identifier) (parts : ℕ) (p : Pairs) → Lawful start.held.history → IsMatching (length ys) parts p
    → AreLeft ys p (length ys) (shown catalogue start.held.history)
    → (j i : ℕ) (s : Identifier) → section_of p j ≡ Some i → slice_get ys i ≡ Some s → holds start.held.history s ≡ true
matched_held start ys parts p w m left j i s e f =
    let pair = (m.inverse i j).0 e in
    shown_holds start.held.history s w (left.kept i s f (inr (subst IsSome (sym pair) refl)))

-- and nothing was moved for it
pub taken_places : (old new : State) (sections : List Identifier) (place : Option ℕ) (anchor : Option Identifier) (title : List ℕ) (before targets : List Identifier)
    → IsPartTaken old new sections place anchor title before targets
    → KeepsPlaces old.held.history new.held.history
taken_places old new sections (Some i) anchor title before targets taken =
    subst (λ (s : State). KeepsPlaces old.held.history s.held.history) (sym (taken.kept i refl).1) (places_none old.held.history)
taken_places old new sections None anchor title before targets taken = (taken.came refl).added.places

-- what sections are added after is one of those of the parts before
pub anchored_in : (anchor : Option Identifier) (xs ys : List Identifier) → IfSome anchor (λ t. Contains xs t) → ((t : Identifier) → Contains xs t → Contains ys t)
    → IfSome anchor (λ t. Contains ys t)
anchored_in None xs ys none within = none
anchored_in (Some s) xs ys m within = within s m

pub anchored_more : (old new : Option Identifier) (xs ys : List Identifier) (s : Identifier) → ys ≡ xs ++ s ∷ [] → IfSome old (λ t. Contains xs t) → (new ≡ Some s) ⊎ (new ≡ old)
    → IfSome new (λ t. Contains ys t)
anchored_more old new xs ys s is was (inl e) =
    subst (λ o. IfSome o (λ t. Contains ys t)) (sym e) (subst (λ l. Contains l s) (sym is) (Contains-append_right xs (s ∷ []) s (contains_here s [])))
anchored_more old new xs ys s is was (inr e) =
    subst (λ o. IfSome o (λ t. Contains ys t)) (sym e) (anchored_in old xs ys was (λ t m. subst (λ l. Contains l t) (sym is) (Contains-append_left xs (s ∷ []) t m)))
