-- Lists in a strict order, and comments by identifier.
use Rattle.margin_notes.proofs.Words.{All, All-head, All-tail, All-cons, All-contains, All-nil, All-weaker, AllPairs, Bool, Contains, Identifier, List, [], all_from_contains}
use Rattle.margin_notes.proofs.Words.{all_pairs_head, all_pairs_tail, ap, arith, cases_Bool, false, if◌then◌else◌, inl, inr, length, refl, subst, suc, sym, true, true≢false, ◌∙◌}
use Rattle.margin_notes.proofs.Words.{◌∷◌, ◌≡◌}
use Rattle.std.specs.Prelude.{◌≢◌, ◌⊎◌}
use Rattle.std.proofs.lemmas.Bool.Decides.{nat_tests}
use Rattle.std.proofs.lemmas.List.Kept.{AllPairs-cons}
use Rattle.fugue_ids.specs.Identifiers.{id_eq, id_lt}
use Rattle.fugue_ids.proofs.IdentifierLemmas.{id_eq-true}
use Rattle.fugue_ids.proofs.ListLemmas.{all_pairs_nil, all_pairs_weaker, contains_cases, contains_here, contains_none, contains_there}
use Rattle.margin_notes.specs.Comments.{Comment, by_id, put_by_id}
use Rattle.fugue_ids.proofs.OrderLemmas.{id_irrefl, id_trans}

same_by : (a b : Identifier) → id_lt a b ≡ false → id_lt b a ≡ false → id_eq a b ≡ true
same_by a b h k = grind (arith, nat_tests)

pub id_other : (a b : Identifier) → a ≢ b → id_lt a b ≡ false → id_lt b a ≡ true
id_other a b n h = elim (cases_Bool (id_lt b a)) [ inl t ↦ t | inr t ↦ absurd (n (id_eq-true a b (same_by a b h t))) ]

-- two lists in a strict order with the same members are equal
module _ {X : Type 0} (R : X → X → Type 0) (irrefl : (a : X) → R a a → ⊥) (trans : (a b c : X) → R a b → R b c → R a c) where
  same_head : (x y : X) (xs ys : List X) → AllPairs R (x ∷ xs) → AllPairs R (y ∷ ys) → Contains (y ∷ ys) x → Contains (x ∷ xs) y → x ≡ y
  same_head x y xs ys v w p q =
      elim (contains_cases y ys x p) [
        | inl e ↦ sym e
        | inr j ↦ elim (contains_cases x xs y q) [
          | inl e ↦ e
          | inr k ↦ absurd (irrefl x (trans x y x (All-contains (R x) xs y (all_pairs_head R x xs v) k) (All-contains (R y) ys x (all_pairs_head R y ys w) j)))
        ]
      ]

  in_rest : (x y : X) (xs ys : List X) → x ≡ y → AllPairs R (x ∷ xs) → (z : X) → Contains xs z → Contains (y ∷ ys) z → Contains ys z
  in_rest x y xs ys e v z m k =
      elim (contains_cases y ys z k) [ inl d ↦ absurd (irrefl x (subst (R x) (sym d ∙ sym e) (All-contains (R x) xs z (all_pairs_head R x xs v) m))) | inr j ↦ j ]

  pub same_ordered : (xs ys : List X) → AllPairs R xs → AllPairs R ys → ((x : X) → Contains xs x → Contains ys x) → ((x : X) → Contains ys x → Contains xs x) → xs ≡ ys
  same_ordered [] [] v w f g = refl
  same_ordered [] (y ∷ ys) v w f g = absurd (contains_none y (g y (contains_here y ys)))
  same_ordered (x ∷ xs) [] v w f g = absurd (contains_none x (f x (contains_here x xs)))
  same_ordered (x ∷ xs) (y ∷ ys) v w f g =
      let e : x ≡ y = same_head x y xs ys v w (f x (contains_here x xs)) (g y (contains_here y ys)) in
      let rest : xs ≡ ys = same_ordered xs ys (all_pairs_tail R x xs v) (all_pairs_tail R y ys w)
      (λ z m. in_rest x y xs ys e v z m (f z (contains_there x xs z m)))
      (λ z m. in_rest y x ys xs (sym e) w z m (g z (contains_there y ys z m))) in
      λ i. e i ∷ rest i

-- the members with one more
put_from : (c : Comment) (ds : List Comment) (x : Comment) → Contains (put_by_id c ds) x → (c ≡ x) ⊎ Contains ds x
put_from c [] x k = contains_cases c [] x k
put_from c (d ∷ ds) x k =
    elim (id_lt c.id d.id) as (λ (b : Bool). Contains (if b then c ∷ d ∷ ds else d ∷ put_by_id c ds) x → (c ≡ x) ⊎ Contains (d ∷ ds) x) [
      | true ↦ λ m. contains_cases c (d ∷ ds) x m
      | false ↦ λ m. elim (contains_cases d (put_by_id c ds) x m) [
        | inl e ↦ inr (subst (Contains (d ∷ ds)) e (contains_here d ds))
        | inr j ↦ elim (put_from c ds x j) [ inl e ↦ inl e | inr n ↦ inr (contains_there d ds x n) ]
      ]
    ] k

put_in : (c : Comment) (ds : List Comment) (x : Comment) → (c ≡ x) ⊎ Contains ds x → Contains (put_by_id c ds) x
put_in c [] x (inl e) = subst (Contains (c ∷ [])) e (contains_here c [])
put_in c [] x (inr k) = absurd (contains_none x k)
put_in c (d ∷ ds) x k =
    elim (id_lt c.id d.id) as (λ (b : Bool). Contains (if b then c ∷ d ∷ ds else d ∷ put_by_id c ds) x) [
      | true ↦ elim k [ inl e ↦ subst (Contains (c ∷ d ∷ ds)) e (contains_here c (d ∷ ds)) | inr m ↦ contains_there c (d ∷ ds) x m ]
      | false ↦ elim k [
        | inl e ↦ contains_there d (put_by_id c ds) x (put_in c ds x (inl e))
        | inr m ↦ elim (contains_cases d ds x m) [
          | inl e ↦ subst (Contains (d ∷ put_by_id c ds)) e (contains_here d (put_by_id c ds))
          | inr n ↦ contains_there d (put_by_id c ds) x (put_in c ds x (inr n))
        ]
      ]
    ]

pub by_id_from : (cs : List Comment) (x : Comment) → Contains (by_id cs) x → Contains cs x
by_id_from [] x k = k
by_id_from (c ∷ cs) x k =
    elim (put_from c (by_id cs) x k) [ inl e ↦ subst (Contains (c ∷ cs)) e (contains_here c cs) | inr m ↦ contains_there c cs x (by_id_from cs x m) ]

pub by_id_in : (cs : List Comment) (x : Comment) → Contains cs x → Contains (by_id cs) x
by_id_in [] x k = k
by_id_in (c ∷ cs) x k = put_in c (by_id cs) x (elim (contains_cases c cs x k) [ inl e ↦ inl e | inr m ↦ inr (by_id_in cs x m) ])

put_count : (c : Comment) (ds : List Comment) → length (put_by_id c ds) ≡ suc (length ds)
put_count c [] = refl
put_count c (d ∷ ds) =
    elim (id_lt c.id d.id) as (λ (b : Bool). length (if b then c ∷ d ∷ ds else d ∷ put_by_id c ds) ≡ suc (suc (length ds))) [
      | true ↦ refl
      | false ↦ ap suc (put_count c ds)
    ]

pub by_id_count : (cs : List Comment) → length (by_id cs) ≡ length cs
by_id_count [] = refl
by_id_count (c ∷ cs) = put_count c (by_id cs) ∙ ap suc (by_id_count cs)

-- the identifiers of two comments are in order; they are not the same
abbrev pub Earlier : Comment → Comment → Type 0
Earlier c d = id_lt c.id d.id ≡ true

abbrev pub Apart : Comment → Comment → Type 0
Apart c d = c.id ≢ d.id

put_ordered : (c : Comment) (ds : List Comment) → All (Apart c) ds → AllPairs Earlier ds → AllPairs Earlier (put_by_id c ds)
put_ordered c [] a o = AllPairs-cons Earlier c [] (All-nil (Earlier c)) (all_pairs_nil Earlier)
put_ordered c (d ∷ ds) a o =
    let goal : Bool → Type 0 = λ b. AllPairs Earlier (if b then c ∷ d ∷ ds else d ∷ put_by_id c ds) in
    let later : All (Earlier d) ds = all_pairs_head Earlier d ds o in
    elim (cases_Bool (id_lt c.id d.id)) [
      | inl k ↦ subst goal (sym k)
          (AllPairs-cons Earlier c (d ∷ ds) (All-cons (Earlier c) d ds k (All-weaker (Earlier d) (Earlier c) (λ e l. id_trans c.id d.id e.id k l) ds later)) o)
      | inr k ↦
          let first : Earlier d c = id_other c.id d.id (All-head (Apart c) d ds a) k in
          subst goal (sym k)
          (AllPairs-cons Earlier d (put_by_id c ds)
          (all_from_contains (Earlier d) (put_by_id c ds) (λ x m. elim (put_from c ds x m) [ inl e ↦ subst (Earlier d) e first | inr n ↦ All-contains (Earlier d) ds x later n ]))
          (put_ordered c ds (All-tail (Apart c) d ds a) (all_pairs_tail Earlier d ds o)))
    ]

-- comments of which no two have one identifier are in order then
pub by_id_ordered : (cs : List Comment) → AllPairs Apart cs → AllPairs Earlier (by_id cs)
by_id_ordered [] a = all_pairs_nil Earlier
by_id_ordered (c ∷ cs) a =
    put_ordered c (by_id cs) (all_from_contains (Apart c) (by_id cs) (λ x m. All-contains (Apart c) cs x (all_pairs_head Apart c cs a) (by_id_from cs x m)))
    (by_id_ordered cs (all_pairs_tail Apart c cs a))

-- and none is there twice
pub ordered_once : (cs : List Comment) → AllPairs Earlier cs → AllPairs (λ c d. c ≢ d) cs
ordered_once cs o = all_pairs_weaker Earlier (λ c d. c ≢ d) (λ c d k e. true≢false (sym k ∙ ap (λ (x : Comment). id_lt c.id x.id) (sym e) ∙ id_irrefl c.id)) cs o
