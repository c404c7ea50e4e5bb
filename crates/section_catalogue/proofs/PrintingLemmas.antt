-- A text that is gathered part by part, while the parts to come are looked up.
use Rattle.std.proofs.Common.{List, [], append_assoc, drop, length, arith, refl, subst, sym, ◌<◌, ◌∙◌, ◌∷◌, ◌++◌, ◌≡◌, ℕ, ap}
use Rattle.std.specs.Prelude.{Err, None, Ok, Some, flat_map, slice_get}
use Rattle.std.proofs.lemmas.List.{append-nil}
use Rattle.fugue_ids.specs.Gathers.{GathersText}
use Rattle.fugue_ids.specs.Identifiers.{Identifier}
use Rattle.fugue_ids.specs.Outs.{OutView}
use Rattle.fugue_ids.proofs.GatherLemmas.{gathers_join, gathers_none, gathers_stop}

-- a front of the whole was gathered, and the rest is to come
pub record IsUnderWay (u v : OutView) (p q whole rest : List ℕ) : Type 0 where
  pub front : List ℕ
  pub gathered : GathersText {T = Unit {0}} u v p q (Ok tt) front
  pub parts : front ++ rest ≡ whole

pub under_way_start : (u : OutView) (p whole : List ℕ) → IsUnderWay u u p p whole whole
under_way_start u p whole = record { front = []; gathered = gathers_none tt u p; parts = refl }

-- the parts that are to come, of which the first is the one that was looked up
pub next_part : (f : Identifier → List ℕ) (xs : List Identifier) (x : Identifier) → Some x ≡ slice_get xs 0 → flat_map f xs ≡ f x ++ flat_map f (drop 1 xs)
next_part f [] x e = cc
next_part f (y ∷ xs) x e = let d : y ≡ x = cc in ap (λ z. f z ++ flat_map f xs) d

-- there is one less of them
pub fewer : (xs : List Identifier) (x : Identifier) → Some x ≡ slice_get xs 0 → length (drop 1 xs) < length xs
fewer [] x e = cc
fewer (y ∷ xs) x e = omega arith

-- none is to come
pub no_part : (f : Identifier → List ℕ) (xs : List Identifier) → None ≡ slice_get xs 0 → flat_map f xs ≡ []
no_part f [] e = refl
no_part f (y ∷ xs) e = cc

module _ (u v w : OutView) (p q r whole rest a b : List ℕ) (s : IsUnderWay u v p q whole rest) (e : rest ≡ a ++ b) where
  whole_is : (s.front ++ a) ++ b ≡ whole
  whole_is = append_assoc s.front a b ∙ ap (λ t. s.front ++ t) (sym e) ∙ s.parts

  -- the next part was gathered
  pub under_way_grows : GathersText {T = Unit {0}} v w q r (Ok tt) a → IsUnderWay u w p r whole b
  under_way_grows t = record { front = s.front ++ a; gathered = gathers_join {T = Unit {0}} {S = Unit {0}} tt (Ok tt) u v w p q r s.front a s.gathered t; parts = whole_is }

  -- or it was not
  pub under_way_stops : GathersText {T = Unit {0}} v w q r (Err (record {})) a → GathersText {T = Unit {0}} u w p r (Err (record {})) whole
  under_way_stops t =
      subst (GathersText {T = Unit {0}} u w p r (Err (record {}))) whole_is
      (gathers_stop {T = Unit {0}} {S = Unit {0}} u w p r (s.front ++ a) b (gathers_join {T = Unit {0}} {S = Unit {0}} tt (Err (record {})) u v w p q r s.front a s.gathered t))

-- all of it was gathered
pub under_way_ends : (u v : OutView) (p q whole rest : List ℕ) → IsUnderWay u v p q whole rest → rest ≡ [] → GathersText {T = Unit {0}} u v p q (Ok tt) whole
under_way_ends u v p q whole rest s e = subst (GathersText {T = Unit {0}} u v p q (Ok tt)) (sym (append-nil s.front) ∙ ap (λ t. s.front ++ t) (sym e) ∙ s.parts) s.gathered
