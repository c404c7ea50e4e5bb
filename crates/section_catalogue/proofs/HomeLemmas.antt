-- The places of elements, as a look-up reads them.
use Rattle.std.proofs.Common.{Bool, List, [], ap, arith, cond, inl, inr, refl, suc, sym, true, false, zero, ℕ, ◌+◌, ◌-◌, ◌<◌, ◌∙◌, ◌∷◌, ◌≡◌, ◌≢◌, ◌≤◌, ◌⊎◌}
use Rattle.std.specs.Prelude.{None, Option, Some, map, option_map}
use Rattle.std.specs.FinMap.{FinMap, empty, entries, find, get, get-entries, get-insert, get-remove, insert, len-empty, len-entries, remove}
use Rattle.std.specs.Ordering.{is_eq}
use Rattle.fugue_ids.specs.Identifiers.{Identifier, id_cmp}
use Rattle.fugue_ids.specs.Keyed.{IsReplaced}
use Rattle.fugue_ids.proofs.IdentifierLemmas.{cases_id, id_at-other, id_at-same}
use Rattle.origin_model.specs.declared.operations.Place.{Place}
use Rattle.fugue_ids.specs.Runs.{id_after}
use Rattle.stretch_map.specs.Contents.{Mapped}
use Rattle.stretch_map.specs.Rules.{IsFollowedBy, with_run}
use Rattle.section_catalogue.specs.Changes.{IsFilled}
use Rattle.section_catalogue.specs.Contents.{entry_at, places_of}
use Rattle.section_catalogue.specs.declared.homes.Home.{Home}
use Rattle.fugue_ids.proofs.OrderLemmas.{id_cmp_total}
use Rattle.std.proofs.lemmas.List.{nil_from_length}

by_test : (b : Bool) (h : Home) (o : Option Place) (p : Option Home) → o ≡ option_map (λ k. k.place) p → cond b (Some h.place) o ≡ option_map (λ k. k.place) (cond b (Some h) p)
by_test true h o p e = refl
by_test false h o p e = e

find-map : (es : List (Identifier × Home)) (x : Identifier) → entry_at (map (λ e. (e.0, e.1.place)) es) x ≡ option_map (λ h. h.place) (find id_cmp x es)
find-map [] x = refl
find-map (e ∷ es) x = by_test (is_eq (id_cmp x e.0)) e.1 (entry_at (map (λ k. (k.0, k.1.place)) es) x) (find id_cmp x es) (find-map es x)

-- the place of an element is what the map has
pub place-get : (m : FinMap id_cmp Home) (x : Identifier) → entry_at (places_of m) x ≡ option_map (λ h. h.place) (get m x)
place-get m x = find-map (entries m) x ∙ ap (option_map (λ h. h.place)) (sym (get-entries m x))

-- where there is no place, the map has none
pub no_home : (m : FinMap id_cmp Home) (x : Identifier) → entry_at (places_of m) x ≡ None → get m x ≡ None
no_home m x e = gone (get m x) (sym (place-get m x) ∙ e)
  where
    gone : (o : Option Home) → option_map (λ h. h.place) o ≡ None → o ≡ None
    gone None d = refl
    gone (Some h) d = cc

pub no_places : (m : FinMap id_cmp Home) → m ≡ empty → places_of m ≡ []
no_places m e = ap places_of e ∙ ap (map (λ h. (h.0, h.1.place))) (nil_from_length (entries empty) (sym (len-entries empty) ∙ len-empty id_cmp Home))

-- one place more
pub settled : (m n : FinMap id_cmp Home) (x : Identifier) (h : Home) → n ≡ insert m x h → IsReplaced (entry_at (places_of m)) (entry_at (places_of n)) x (Some h.place)
settled m n x h is =
    record {
      here = at x ∙ ap (λ b. option_map (λ k. k.place) (cond b (Some h) (get m x))) (id_at-same x);
      others = λ y d. at y ∙ ap (λ b. option_map (λ k. k.place) (cond b (Some h) (get m y))) (id_at-other y x (λ e. d (sym e))) ∙ sym (place-get m y);
    }
  where
    at : (y : Identifier) → entry_at (places_of n) y ≡ option_map (λ k. k.place) (cond (is_eq (id_cmp y x)) (Some h) (get m y))
    at y = place-get n y ∙ ap (λ k. option_map (λ z. z.place) (get k y)) is ∙ ap (option_map (λ z. z.place)) (get-insert id_cmp_total m x h y)

-- one place less
pub unsettled : (m n : FinMap id_cmp Home) (x : Identifier) → n ≡ remove m x → IsReplaced (entry_at (places_of m)) (entry_at (places_of n)) x None
unsettled m n x is =
    record {
      here = at x ∙ ap (λ b. option_map (λ k. k.place) (cond b None (get m x))) (id_at-same x);
      others = λ y d. at y ∙ ap (λ b. option_map (λ k. k.place) (cond b None (get m y))) (id_at-other y x (λ e. d (sym e))) ∙ sym (place-get m y);
    }
  where
    at : (y : Identifier) → entry_at (places_of n) y ≡ option_map (λ k. k.place) (cond (is_eq (id_cmp y x)) None (get m y))
    at y = place-get n y ∙ ap (λ k. option_map (λ z. z.place) (get k y)) is ∙ ap (option_map (λ z. z.place)) (get-remove id_cmp_total m x y)

-- places of a run more
pub settled_all : (m n : FinMap id_cmp Home) (first : Identifier) (count : ℕ) (h : Home) → n ≡ with_run (λ f home k. home) first h count m
    → IsFilled (entry_at (places_of m)) (entry_at (places_of n)) first count (Some h.place)
settled_all m n first count h is = record {
  here = λ j less. at (id_after first j) ∙ ap (option_map (λ k. k.place)) (inside first h count m j less);
  others = λ y d. at y ∙ ap (option_map (λ k. k.place)) (outside first h count m y d) ∙ sym (place-get m y);
}
  where
    at : (y : Identifier) → entry_at (places_of n) y ≡ option_map (λ k. k.place) (get (with_run (λ f home k. home) first h count m) y)
    at y = place-get n y ∙ ap (λ k. option_map (λ z. z.place) (get k y)) is

    inside : (first : Identifier) (h : Home) (count : ℕ) (m : FinMap id_cmp Home) (j : ℕ) → j < count
        → get (with_run (λ f home k. home) first h count m) (id_after first j) ≡ Some h
    inside first h zero m j less = absurd (omega (arith, less))
    inside first h (suc k) m j less =
        let older : FinMap id_cmp Home = with_run (λ f home k. home) first h k m in
        get-insert id_cmp_total older (id_after first k) h (id_after first j)
        ∙ elim (cases_id (id_after first j) (id_after first k)) [
          | inl e ↦ ap (λ b. cond b (Some h) (get older (id_after first j))) (ap (λ z. is_eq (id_cmp z (id_after first k))) e ∙ id_at-same (id_after first k))
          | inr d ↦
              let apart : j ≢ k = λ e. d (ap (id_after first) e) in
              ap (λ b. cond b (Some h) (get older (id_after first j))) (id_at-other (id_after first j) (id_after first k) (λ e. d (sym e)))
              ∙ inside first h k m j (omega (arith, apart, less))
        ]

    outside : (first : Identifier) (h : Home) (count : ℕ) (m : FinMap id_cmp Home) (y : Identifier) → ((j : ℕ) → j < count → y ≢ id_after first j)
        → get (with_run (λ f home k. home) first h count m) y ≡ get m y
    outside first h zero m y out = refl
    outside first h (suc k) m y out =
        let older : FinMap id_cmp Home = with_run (λ f home k. home) first h k m in
        get-insert id_cmp_total older (id_after first k) h y ∙ ap (λ b. cond b (Some h) (get older y)) (id_at-other y (id_after first k) (λ e. out k (omega arith) (sym e)))
        ∙ outside first h k m y (λ j less. out j (omega (arith, less)))

-- the places of the last ones of a run are forgotten
pub record IsForgetting (old now : Mapped Home) (first : Identifier) (count left : ℕ) : Type 0 where
  pub within : left ≤ count
  pub newest : left ≡ count → now.newest ≡ Some (id_after first (count - 1))
  pub gone : (j : ℕ) → left ≤ j → j < count → entry_at (places_of now.values) (id_after first j) ≡ None
  pub others : (y : Identifier) → ((j : ℕ) → j < count → y ≢ id_after first j) → entry_at (places_of now.values) y ≡ entry_at (places_of old.values) y

-- the next one can go without memory
pub can_forget : (old now : Mapped Home) (first : Identifier) (count left : ℕ) → 0 < left → IsForgetting old now first count left → (key : Identifier)
    → key ≡ id_after first (left - 1)
    → (now.newest ≡ Some key) ⊎ (IsFollowedBy (λ f home k. home) (get now.values) key → ⊥)
can_forget old now first count left some is key at =
    elim (cases_whole left count is.within) [
      | inl e ↦ inl (is.newest e ∙ ap Some (ap (λ n. id_after first (n - 1)) (sym e) ∙ sym at))
      | inr less ↦ inr (λ f.
          let up : first.counter + (left - 1) + 1 ≡ first.counter + left = omega (arith, some) in
          let next : id_after key 1 ≡ id_after first left = ap (λ x. id_after x 1) at ∙ (λ i. record { replica = first.replica; counter = up i }) in
          let none : get now.values (id_after first left) ≡ None = no_home now.values (id_after first left) (is.gone left (omega arith) less) in
          let both : None ≡ Some f.value = sym none ∙ ap (get now.values) (sym next) ∙ f.followed in
          absurd cc)
    ]
  where
    cases_whole : (a b : ℕ) → a ≤ b → (a ≡ b) ⊎ (a < b)
    cases_whole a b le = grind (arith, le)

-- once it went
pub forgot : (old now new : Mapped Home) (first : Identifier) (count left : ℕ) → 0 < left → IsForgetting old now first count left → (key : Identifier)
    → key ≡ id_after first (left - 1)
    → new.values ≡ remove now.values key → IsForgetting old new first count (left - 1)
forgot old now new first count left some is key at went =
    let now_is = unsettled now.values new.values key went in
    let within : left ≤ count = is.within in
    record {
      within = omega (arith, within);
      newest = λ e. absurd (omega (arith, e, within, some));
      gone = λ j low less.
          elim (cases_id (id_after first j) key) [
            | inl e ↦ ap (entry_at (places_of new.values)) e ∙ now_is.here
            | inr d ↦
                let apart : j ≢ left - 1 = λ e. d (ap (id_after first) e ∙ sym at) in
                now_is.others (id_after first j) d ∙ is.gone j (omega (arith, apart, low, some)) less
          ];
      others = λ y d. now_is.others y (λ e. d (left - 1) (omega (arith, within, some)) (e ∙ at)) ∙ is.others y d;
    }
