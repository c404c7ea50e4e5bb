-- Blocks in the order: the list falls into parts at the two ends of a block, and the searches by keys end there.
use Rattle.origin_model.proofs.Words.{All-contains, Contains, Contains-append_cases, Contains-append_left, Contains-append_right, Identifier, IsIn, IsOrderedBy, Lawful, List, Op}
use Rattle.origin_model.proofs.Words.{Place, Some, [], all_pairs_before, all_pairs_after, ap, append-nil, append_assoc, cases_Bool, contains_here, contains_middle, contains_none}
use Rattle.origin_model.proofs.Words.{contains_there, false, false_from_ne_true, inl, inr, not, order, refl, subst, sym, true, true≢false, ◌++◌, ◌∙◌, ◌∷◌, ◌≡◌}
use Rattle.std.specs.Prelude.{unwrap_or}
use Rattle.std.proofs.lemmas.List.{map-append}
use Rattle.fugue_ids.proofs.ListLemmas.{all_from_map}
use Rattle.fugue_ids.proofs.PartedLemmas.{last_push}
use Rattle.fugue_ids.specs.Keys.{IsFit, Keyed, first_low, front_of, is_low, key_lt, last_id, last_low, rest_of}
use Rattle.fugue_ids.specs.Listed.{last_before}
use Rattle.fugue_ids.specs.declared.key.Key.{Key}
use Rattle.origin_model.specs.edits.Landing.{first_after}
use Rattle.origin_model.specs.sides.KeyLaws.{AllFit}
use Rattle.origin_model.specs.sides.KeyedGap.{block_end, block_start, widest}
use Rattle.origin_model.specs.sides.Keys.{depth_of, search_key_of, with_keys, keyed_as}
use Rattle.origin_model.proofs.edits.LandsBehindLemmas.{cut_member}
use Rattle.origin_model.proofs.order.{before_at, first_before, first_of, front_before, last_of, order-has, order-member, order-ordered}
use Rattle.origin_model.proofs.sides.BlockLemmas.{To, deep_block, flat_y, from_s, irrefl, loop, lower_block, next_block, no_turn, over_block, to_q}
use Rattle.origin_model.proofs.sides.KeyedListLemmas.{deep_high, first_head, flat_low, front_head, front_ids, is_deep, last_high, last_parted, parted_low, rest_end, rest_ids}
use Rattle.origin_model.proofs.sides.KeyedListLemmas.{PartedLow}
use Rattle.origin_model.proofs.sides.SpineLemmas.{IsFirstIn, IsLastIn}

-- a member with what stands before it and after it
pub split_member : (xs : List Identifier) (x : Identifier) → Contains xs x → (front : List Identifier) × (back : List Identifier) × (xs ≡ front ++ x ∷ back)
split_member xs x m = cut_member xs x m.0 m.1 m.2

-- what is high has a greater key
pub high_over : (k : Key) (e : Keyed) → is_low k e ≡ false → key_lt k e.key ≡ true
high_over k e j = elim (cases_Bool (key_lt k e.key)) [ inl i ↦ i | inr i ↦ absurd (true≢false (sym (ap not i) ∙ j)) ]

-- and what is greater is high
pub over_high : (k : Key) (e : Keyed) → key_lt k e.key ≡ true → is_low k e ≡ false
over_high k e j = ap not j

-- a lawful history
module _ (p : Place) (h : List Op) (w : Lawful h) where
  abbrev o : List Identifier
  o = order p h

  abbrev T : Identifier → Identifier → Type 0
  T a b = before_at p h a b ≡ true

  pub sorted : IsOrderedBy (before_at p h) o
  sorted = order-ordered p h w

  -- the list in parts at the end y of the block of s
  pub record EndParts (s y : Identifier) : Type 0 where
    pub front : List Identifier
    pub back : List Identifier
    pub after : List Identifier
    pub whole : o ≡ (front ++ s ∷ back) ++ after
    pub last : (before : List Identifier) × (front ++ s ∷ back ≡ before ++ y ∷ [])
    pub inside : (e : Identifier) → Contains back e → T s e × To p h w e y
    pub stop : (c : Identifier) (cs : List Identifier) → after ≡ c ∷ cs → is_deep (depth_of h s) (keyed_as h c) ≡ false

  -- the list falls into these parts
  pub end_parts : (s y : Identifier) → IsIn p h s → IsLastIn p h s y → EndParts s y
  end_parts s y ms l =
      let c = split_member o y (order-has p h y l.member) in
      let Z : List Identifier = c.0 ++ y ∷ [] in
      let whole : o ≡ Z ++ c.1 = c.2 ∙ sym (append_assoc c.0 (y ∷ []) c.1) in
      let zo : IsOrderedBy (before_at p h) (Z ++ c.1) = subst (IsOrderedBy (before_at p h)) whole sorted in
      let zs : IsOrderedBy (before_at p h) Z = all_pairs_before T Z c.1 zo in
      let yz : Contains Z y = contains_middle c.0 y [] in
      let up : (e : Identifier) → Contains Z e → To p h w e y = λ e m. last_of (before_at p h) c.0 y e zs m in
      let sz : Contains Z s = elim (Contains-append_cases Z c.1 s (subst (λ t. Contains t s) whole (order-has p h s ms))) [
        | inl m ↦ m
        | inr m ↦ absurd (no_turn p h w s y (from_s p h w s y ms l) (front_before (before_at p h) Z c.1 y s zo yz m))
      ] in
      let d = split_member Z s sz in
      let parts : o ≡ (d.0 ++ s ∷ d.1) ++ c.1 = whole ∙ ap (λ t. t ++ c.1) d.2 in
      let ds : IsOrderedBy (before_at p h) (d.0 ++ s ∷ d.1) = subst (IsOrderedBy (before_at p h)) d.2 zs in
      record {
        front = d.0;
        back = d.1;
        after = c.1;
        whole = parts;
        last = (c.0, sym d.2);
        inside = λ e m. (
          first_before (before_at p h) s e d.1 (all_pairs_after T d.0 (s ∷ d.1) ds) m,
          up e (subst (λ t. Contains t e) (sym d.2) (Contains-append_right d.0 (s ∷ d.1) e (contains_there s d.1 e m))),
        );
        stop = λ x xs e.
            let xo : IsOrderedBy (before_at p h) (Z ++ x ∷ xs) = subst (λ t. IsOrderedBy (before_at p h) (Z ++ t)) e zo in
            let mx : Contains o x = subst (λ t. Contains t x) (sym (whole ∙ ap (λ t. Z ++ t) e)) (Contains-append_right Z (x ∷ xs) x (contains_here x xs)) in
            let yx : T y x = front_before (before_at p h) Z (x ∷ xs) y x xo yz (contains_here x xs) in
            false_from_ne_true (is_deep (depth_of h s) (keyed_as h x)) (λ k.
            let b = next_block p h w s y ms l x (order-member p h x w mx) yx k in
            elim (Contains-append_cases Z (x ∷ xs) b.middle (subst (λ t. Contains t b.middle) (whole ∙ ap (λ t. Z ++ t) e) b.member)) [
              | inl m ↦ no_turn p h w b.middle y (up b.middle m) b.behind
              | inr m ↦ elim (first_of (before_at p h) x b.middle xs (all_pairs_after T Z (x ∷ xs) xo) m) [
                | inl i ↦ true≢false (sym b.before ∙ ap (λ z. before_at p h z x) i ∙ irrefl p h w x)
                | inr i ↦ loop p h w x b.middle i b.before
              ]
            ]);
      }

  -- the list in parts at the beginning y of the block of q
  pub record StartParts (q y : Identifier) : Type 0 where
    pub front : List Identifier
    pub inner : List Identifier
    pub back : List Identifier
    pub whole : o ≡ (front ++ inner) ++ q ∷ back
    pub first : (more : List Identifier) × (inner ++ q ∷ back ≡ y ∷ more)
    pub inside : (e : Identifier) → Contains inner e → To p h w y e × T e q

  -- the list falls into these parts
  pub start_parts : (q y : Identifier) → IsIn p h q → IsFirstIn p h q y → StartParts q y
  start_parts q y mq f =
      let c = split_member o q (order-has p h q mq) in
      let co : IsOrderedBy (before_at p h) (c.0 ++ q ∷ c.1) = subst (IsOrderedBy (before_at p h)) c.2 sorted in
      elim (to_q p h w q y mq f) [
        | inl d ↦ record {
          front = c.0;
          inner = [];
          back = c.1;
          whole = c.2 ∙ ap (λ t. t ++ q ∷ c.1) (sym (append-nil c.0));
          first = (c.1, ap (λ z. z ∷ c.1) (sym d));
          inside = λ e m. absurd (contains_none e m);
        }
        | inr k ↦
            let my : Contains c.0 y = elim (Contains-append_cases c.0 (q ∷ c.1) y (subst (λ t. Contains t y) c.2 (order-has p h y f.member))) [
              | inl m ↦ m
              | inr m ↦ absurd (elim (first_of (before_at p h) q y c.1 (all_pairs_after T c.0 (q ∷ c.1) co) m) [
                | inl i ↦ true≢false (sym k ∙ ap (λ z. before_at p h z q) i ∙ irrefl p h w q)
                | inr i ↦ loop p h w y q k i
              ])
            ] in
            let d = split_member c.0 y my in
            let fs : IsOrderedBy (before_at p h) (d.0 ++ y ∷ d.1) = subst (IsOrderedBy (before_at p h)) d.2 (all_pairs_before T c.0 (q ∷ c.1) co) in
            record {
              front = d.0;
              inner = y ∷ d.1;
              back = c.1;
              whole = c.2 ∙ ap (λ t. t ++ q ∷ c.1) d.2;
              first = (d.1 ++ q ∷ c.1, refl);
              inside = λ e m. (
                elim (first_of (before_at p h) y e d.1 (all_pairs_after T d.0 (y ∷ d.1) fs) m) [ inl i ↦ inl (sym i) | inr i ↦ inr i ],
                front_before (before_at p h) c.0 (q ∷ c.1) e q co (subst (λ t. Contains t e) (sym d.2) (Contains-append_right d.0 (y ∷ d.1) e m)) (contains_here q c.1),
              );
            }
      ]

  -- where each key fits
  module _ (fit : AllFit p h) where
    -- the key of an element of the place fits
    pub fits_at : (x : Identifier) → Contains o x → IsFit (keyed_as h x)
    fits_at x m = All-contains (λ z. IsFit (keyed_as h z)) o x (all_from_map (keyed_as h) IsFit o fit) m

    -- what stands after s and no deeper begins after its block
    pub end_low : (s y : Identifier) (ms : IsIn p h s) (l : IsLastIn p h s y) (r : EndParts s y)
        → first_low (widest (depth_of h s)) (rest_of (Some s) (with_keys h o)) ≡ first_after r.after
    end_low s y ms l r =
        let whole : o ≡ r.front ++ (s ∷ (r.back ++ r.after)) = r.whole ∙ append_assoc r.front (s ∷ r.back) r.after in
        ap (first_low (widest (depth_of h s))) (ap (λ t. rest_of (Some s) (with_keys h t)) whole
        ∙ rest_ids h (before_at p h) (irrefl p h w) r.front (r.back ++ r.after) s (subst (IsOrderedBy (before_at p h)) whole sorted))
        ∙ first_head h (widest (depth_of h s)) r.back r.after
        (λ x m. let i = r.inside x m in deep_high (depth_of h s) (keyed_as h x) (deep_block p h w s y ms l x i.0 i.1))
        (λ c cs e. flat_low (depth_of h s) (keyed_as h c)
        (fits_at c (subst (λ t. Contains t c) (sym (r.whole ∙ ap (λ t. (r.front ++ s ∷ r.back) ++ t) e))
        (Contains-append_right (r.front ++ s ∷ r.back) (c ∷ cs) c (contains_here c cs)))) (r.stop c cs e))

    -- the search by the depth ends at the last of the block
    pub end_found : (s y : Identifier) → IsIn p h s → IsLastIn p h s y → block_end (with_keys h o) (depth_of h s) s ≡ y
    end_found s y ms l =
        let r = end_parts s y ms l in
        let Z : List Identifier = r.front ++ s ∷ r.back in
        ap (λ t. unwrap_or (last_id (front_of t (with_keys h o))) s) (end_low s y ms l r)
        ∙ ap (λ t. unwrap_or (last_id t) s) (ap (λ t. front_of (first_after r.after) (with_keys h t)) r.whole
        ∙ front_head h (before_at p h) (irrefl p h w) Z r.after (subst (IsOrderedBy (before_at p h)) r.whole sorted))
        ∙ ap (λ t. unwrap_or (last_id t) s) (ap (with_keys h) r.last.1 ∙ map-append (keyed_as h) r.last.0 (y ∷ []))
        ∙ ap (λ t. unwrap_or t s) (last_push (with_keys h r.last.0) (keyed_as h y))

    -- q, and the first of its block
    module _ (q y : Identifier) (mq : IsIn p h q) (f : IsFirstIn p h q y) (r : StartParts q y) (b : PartedLow h (search_key_of h q) r.front) where
      abbrev k : Key
      k = search_key_of h q

      -- what stands in the block before q has a greater key
      pub inner_over : (e : Identifier) → Contains r.inner e → key_lt k (search_key_of h e) ≡ true
      inner_over e m =
          let i = r.inside e m in
          let n : Contains o e = subst (λ t. Contains t e) (sym r.whole) (Contains-append_left (r.front ++ r.inner) (q ∷ r.back) e (Contains-append_right r.front r.inner e m)) in
          over_block p h w q y mq f e (order-member p h e w n) i.0 i.1

      -- the last before q whose key is no greater
      pub start_low : last_low k (front_of (Some q) (with_keys h o)) ≡ last_before b.front
      start_low =
          ap (last_low k) (ap (λ t. front_of (Some q) (with_keys h t)) r.whole
          ∙ front_ids h (before_at p h) (irrefl p h w) (r.front ++ r.inner) r.back q (subst (IsOrderedBy (before_at p h)) r.whole sorted))
          ∙ last_high h k r.front r.inner (λ e m. over_high k (keyed_as h e) (inner_over e m))
          ∙ last_parted h k r.front b

      -- the list, in parts at that one
      pub start_whole : o ≡ b.front ++ ((b.back ++ r.inner) ++ q ∷ r.back)
      start_whole =
          r.whole
          ∙ ap (λ t. (t ++ r.inner) ++ q ∷ r.back) b.whole
          ∙ ap (λ t. t ++ q ∷ r.back) (append_assoc b.front b.back r.inner)
          ∙ append_assoc b.front (b.back ++ r.inner) (q ∷ r.back)

      -- what stands after it
      pub start_rest : rest_of (last_low k (front_of (Some q) (with_keys h o))) (with_keys h o) ≡ with_keys h ((b.back ++ r.inner) ++ q ∷ r.back)
      start_rest =
          ap (λ t. rest_of t (with_keys h o)) start_low
          ∙ ap (λ t. rest_of (last_before b.front) (with_keys h t)) start_whole
          ∙ rest_end h (before_at p h) (irrefl p h w) b.front ((b.back ++ r.inner) ++ q ∷ r.back) (subst (IsOrderedBy (before_at p h)) start_whole sorted)

      -- what stands between it and the block is deeper than q
      pub deep_between : (x : Identifier) → Contains b.back x → is_deep (depth_of h q) (keyed_as h x) ≡ true
      deep_between x m =
          elim (cases_Bool (is_deep (depth_of h q) (keyed_as h x))) [
            | inl j ↦ j
            | inr j ↦
                let whole : o ≡ r.front ++ y ∷ r.first.0 = r.whole ∙ append_assoc r.front r.inner (q ∷ r.back) ∙ ap (λ t. r.front ++ t) r.first.1 in
                let wo : IsOrderedBy (before_at p h) (r.front ++ y ∷ r.first.0) = subst (IsOrderedBy (before_at p h)) whole sorted in
                let xf : Contains r.front x = subst (λ t. Contains t x) (sym b.whole) (Contains-append_right b.front b.back x m) in
                let mx : IsIn p h x = order-member p h x w (subst (λ t. Contains t x) (sym whole) (Contains-append_left r.front (y ∷ r.first.0) x xf)) in
                let xy : T x y = front_before (before_at p h) r.front (y ∷ r.first.0) x y wo xf (contains_here y r.first.0) in
                let l = lower_block p h w q y mq f x mx xy j (high_over k (keyed_as h x) (b.high x m)) in
                absurd (elim (Contains-append_cases r.front (y ∷ r.first.0) l.middle (subst (λ t. Contains t l.middle) whole l.member)) [
                  | inr n ↦ no_turn p h w y l.middle
                      (elim (first_of (before_at p h) y l.middle r.first.0 (all_pairs_after T r.front (y ∷ r.first.0) wo) n) [ inl i ↦ inl (sym i) | inr i ↦ inr i ]) l.before
                  | inl n ↦ elim (Contains-append_cases b.front b.back l.middle (subst (λ t. Contains t l.middle) b.whole n)) [
                    | inr i ↦ true≢false (sym (high_over k (keyed_as h l.middle) (b.high l.middle i)) ∙ l.low)
                    | inl i ↦
                        let bo : IsOrderedBy (before_at p h) (b.front ++ b.back) = subst (IsOrderedBy (before_at p h)) b.whole (all_pairs_before T r.front (y ∷ r.first.0) wo) in
                        loop p h w x l.middle l.behind (front_before (before_at p h) b.front b.back l.middle x bo i m)
                  ]
                ])
          ]

      -- the search by the key ends at the first of the block
      start_at : block_start (with_keys h o) k q ≡ y
      start_at =
          let whole : (b.back ++ r.inner) ++ q ∷ r.back ≡ b.back ++ y ∷ r.first.0 = append_assoc b.back r.inner (q ∷ r.back) ∙ ap (λ t. b.back ++ t) r.first.1 in
          ap (λ t. unwrap_or (first_low (widest k.depth) t) q) (start_rest ∙ ap (with_keys h) whole)
          ∙ ap (λ t. unwrap_or t q) (first_head h (widest k.depth) b.back (y ∷ r.first.0)
          (λ x m. deep_high k.depth (keyed_as h x) (deep_between x m))
          (λ c cs e. let d : y ≡ c = cc in subst (λ z. is_low (widest k.depth) (keyed_as h z) ≡ true) d
          (flat_low k.depth (keyed_as h y) (fits_at y (order-has p h y f.member)) (flat_y p h w q y mq f))))

    pub start_found : (q y : Identifier) → IsIn p h q → IsFirstIn p h q y → block_start (with_keys h o) (search_key_of h q) q ≡ y
    start_found q y mq f = let r = start_parts q y mq f in start_at q y mq f r (parted_low h (search_key_of h q) r.front)
