-- The last that passes of the low elements of a part, as the part shrinks round it.
use Rattle.std.proofs.Common.{Bool, List, [], ap, append_assoc, arith, false, length, length-append, subst, suc, sym, true, ◌++◌, ◌+◌, ◌<◌, ◌∙◌, ◌∷◌, ◌≡◌}
use Rattle.std.specs.List.{Contains}
use Rattle.std.specs.Prelude.{None, Option, Some}
use Rattle.std.proofs.lemmas.List.{map-append}
use Rattle.std.proofs.lemmas.List.Elements.{filter-append}
use Rattle.fugue_ids.specs.Identifiers.{Identifier}
use Rattle.fugue_ids.specs.Keys.{Keyed, between, ids, is_low, last_id, last_low, low_ids, rest_of}
use Rattle.fugue_ids.specs.Listed.{HoldsOrigin}
use Rattle.fugue_ids.specs.Passing.{Falls, last_passing}
use Rattle.fugue_ids.specs.declared.key.Key.{Key}
use Rattle.fugue_ids.proofs.LowLemmas.{low_here, low_in, low_one, lows}
use Rattle.fugue_ids.proofs.PartLemmas.{Around, around_low, end_held, last_found, no_last}
use Rattle.fugue_ids.proofs.PartedLemmas.{Apart, apart_front, in_back, there}
use Rattle.fugue_ids.proofs.PassingLemmas.{end_passes, falls_before, falls_after, nothing_seen, or_else, seen_before, seen_after}

-- a part at one of its low elements
pub record Halves (es : List Keyed) (k : Key) (from to : Option Identifier) (s : Identifier) : Type 0 where
  pub parted : low_ids k (between from to es) ≡ low_ids k (between from (Some s) es) ++ s ∷ low_ids k (between (Some s) to es)
  pub front_shorter : length (between from (Some s) es) < length (between from to es)
  pub back_shorter : length (between (Some s) to es) < length (between from to es)
  pub low : HoldsOrigin (low_ids k es) (Some s)
  pub low_after : HoldsOrigin (low_ids k (rest_of from es)) (Some s)
  pub end_low : HoldsOrigin (low_ids k (rest_of (Some s) es)) to

-- the low elements of a list with a low one in it
low_parts : (k : Key) (xs : List Keyed) (e : Keyed) (ys : List Keyed) → is_low k e ≡ true → lows k (xs ++ e ∷ ys) ≡ lows k xs ++ e ∷ lows k ys
low_parts k xs e ys t = filter-append (is_low k) xs (e ∷ ys) ∙ ap (λ l. lows k xs ++ l) (low_one k e ys t)

pub halves : (es : List Keyed) (k : Key) (from to : Option Identifier) (s : Identifier) → Apart es → HoldsOrigin (low_ids k es) from → HoldsOrigin (low_ids k (rest_of from es)) to
    → Contains (low_ids k (between from to es)) s → Halves es k from to s
halves es k from to s a f t c =
    let r : Around es from to s = around_low es k from to s a f t (low_in k (between from to es) s c) in
    let whole : rest_of from es ≡ (r.front ++ r.here ∷ r.back) ++ r.after =
    r.rest ∙ ap (λ l. r.front ++ r.here ∷ l) r.more ∙ sym (append_assoc r.front (r.here ∷ r.back) r.after) in
    let low : is_low k r.here ≡ true =
    low_here k r.front r.here r.back (apart_front (r.front ++ r.here ∷ r.back) r.after (subst Apart whole r.apart))
    (subst (Contains (low_ids k (r.front ++ r.here ∷ r.back))) (sym r.is) (subst (λ l. Contains (low_ids k l) s) r.whole c)) in
    let sizes : length (between from to es) ≡ length r.front + suc (length r.back) = ap length r.whole ∙ length-append r.front (r.here ∷ r.back) in
    let front : length (between from (Some s) es) ≡ length r.front = ap length r.before in
    let back : length (between (Some s) to es) ≡ length r.back = ap length r.behind in
    let inside : lows k (rest_of from es) ≡ lows k r.front ++ r.here ∷ lows k (rest_of (Some s) es) = ap (lows k) r.rest ∙ low_parts k r.front r.here (rest_of (Some s) es) low in
    let behind : Contains (ids (lows k (rest_of from es))) s =
    subst (λ l. Contains (ids l) s) (sym inside)
    (subst (Contains (ids (lows k r.front ++ r.here ∷ lows k (rest_of (Some s) es)))) r.is (there (lows k r.front) r.here (lows k (rest_of (Some s) es)))) in
    record {
      parted = ap ids (ap (lows k) r.whole ∙ low_parts k r.front r.here r.back low) ∙ map-append (λ e. e.id) (lows k r.front) (r.here ∷ lows k r.back)
          ∙ (λ i. low_ids k (sym r.before i) ++ r.is i ∷ low_ids k (sym r.behind i));
      front_shorter = omega arith;
      back_shorter = omega arith;
      low = subst (λ l. Contains (ids l) s) (sym (ap (lows k) r.all ∙ filter-append (is_low k) r.outside (rest_of from es)))
          (in_back (lows k r.outside) (lows k (rest_of from es)) s behind);
      low_after = behind;
      end_low = end_held es from to s r k t;
    }

-- a list with a last one ends in it
ends_in : (es : List Keyed) (x : Identifier) → last_id es ≡ Some x → (front : List Identifier) × (ids es ≡ front ++ x ∷ [])
ends_in [] x e = cc
ends_in (e ∷ []) x d = let same : e.id ≡ x = cc in ([], λ i. same i ∷ [])
ends_in (e ∷ f ∷ es) x d = let r = ends_in (f ∷ es) x d in (e.id ∷ r.0, ap (λ l. e.id ∷ l) r.1)

-- the last low one of a list
module _ (k : Key) (es : List Keyed) where
  -- it is one of them
  pub last_is_low : (x : Identifier) → last_low k es ≡ Some x → Contains (low_ids k es) x
  last_is_low x e = last_found (lows k es) x e

  module _ (g : Identifier → Bool) where
    -- where there is none, none passes
    pub none_passes : last_low k es ≡ None → last_passing g (low_ids k es) ≡ None
    none_passes n = ap (λ l. last_passing g (ids l)) (no_last (lows k es) n)

    -- where it passes, it is the answer
    pub last_passes : (x : Identifier) → last_low k es ≡ Some x → g x ≡ true → last_passing g (low_ids k es) ≡ Some x
    last_passes x e t = let r = ends_in (lows k es) x e in ap (last_passing g) r.1 ∙ end_passes g r.0 x t

-- the search has come down to a part: the last of `all` that passes is the last one there, or else the one that was seen last
pub record IsSearched (g : Identifier → Bool) (all : List Identifier) (es : List Keyed) (k : Key) (from to seen : Option Identifier) : Type 0 where
  pub falls : Falls g (low_ids k (between from to es))
  pub found : last_passing g all ≡ or_else (last_passing g (low_ids k (between from to es))) seen

module _ (g : Identifier → Bool) (es : List Keyed) (k : Key) (from to : Option Identifier) where
  abbrev part : List Identifier
  part = low_ids k (between from to es)

  -- it begins with the whole part
  pub search_begins : Falls g part → IsSearched g part es k from to None
  search_begins f = record { falls = f; found = nothing_seen g part }

  module _ (all : List Identifier) (seen : Option Identifier) (is : IsSearched g all es k from to seen) where
    -- and ends where no low element is left
    pub search_ends : part ≡ [] → last_passing g all ≡ seen
    search_ends e = is.found ∙ ap (λ l. or_else (last_passing g l) seen) e

    module _ (s : Identifier) (h : Halves es k from to s) where
      abbrev front : List Identifier
      front = low_ids k (between from (Some s) es)

      abbrev back : List Identifier
      back = low_ids k (between (Some s) to es)

      -- it goes on after one that passes
      pub search_after : g s ≡ true → IsSearched g all es k (Some s) to (Some s)
      search_after passes = record {
        falls = falls_after g front s back (subst (Falls g) h.parted is.falls);
        found = is.found ∙ seen_after g part front back s seen h.parted passes;
      }

      -- and before one that fails
      pub search_before : g s ≡ false → IsSearched g all es k from (Some s) seen
      search_before fails = record {
        falls = falls_before g front s back (subst (Falls g) h.parted is.falls);
        found = is.found ∙ seen_before g part front back s seen h.parted is.falls fails;
      }
