-- Where all operations of a list find their place, and the first of them that finds none.
use Rattle.origin_model.proofs.Words.{All-append, All-cons, All-head, All-nil, All-tail, List, Op, [], ap, inl, inr, refl, subst, sym, ℕ, ◌++◌, ◌∙◌, ◌∷◌, ◌≡◌, ◌≢◌, ◌⊎◌}
use Rattle.std.proofs.lemmas.List.Elements.{All-same}
use Rattle.origin_model.specs.taking.Taking.{Held, Answer, Accepted, Again, Conflict, Full, MeetsNoLimit, Stray, TooMany, Waits, answer, answers_from, held_from, intake}
use Rattle.origin_model.proofs.taking.KeptLemmas.{answers-append}

-- the operations up to the first that finds no place
pub record Refused (hold most : ℕ) (start : Held) (all : List Op) : Type 0 where
  pub front : List Op
  pub op : Op
  pub more : List Op
  pub is : all ≡ front ++ op ∷ more
  pub has_place : MeetsNoLimit hold most start front
  pub refused : answer hold most (held_from hold most start front) op ≡ TooMany

module _ (hold most : ℕ) where
  -- none
  pub places-none : (start : Held) → MeetsNoLimit hold most start []
  places-none start = All-nil (λ (x : Answer). x ≢ TooMany)

  -- one
  pub places-one : (start : Held) (op : Op) → answer hold most start op ≢ TooMany → MeetsNoLimit hold most start (op ∷ [])
  places-one start op other = All-cons (λ (x : Answer). x ≢ TooMany) (answer hold most start op) [] other (places-none start)

  -- all find their place, one list after the other
  pub places-append : (start : Held) (a b : List Op) → MeetsNoLimit hold most start a → MeetsNoLimit hold most (held_from hold most start a) b
      → MeetsNoLimit hold most start (a ++ b)
  places-append start a b p q =
      All-same (λ (x : Answer). x ≢ TooMany) _ _ (answers-append hold most start a b)
      (All-append (λ (x : Answer). x ≢ TooMany) (answers_from hold most start a) (answers_from hold most (held_from hold most start a) b) p q)

  -- the first of them, and the others after it
  places-head : (start : Held) (op : Op) (ops : List Op) → MeetsNoLimit hold most start (op ∷ ops) → answer hold most start op ≢ TooMany
  places-head start op ops places = All-head (λ (x : Answer). x ≢ TooMany) (answer hold most start op) (answers_from hold most (intake hold most start op) ops) places

  places-tail : (start : Held) (op : Op) (ops : List Op) → MeetsNoLimit hold most start (op ∷ ops) → MeetsNoLimit hold most (intake hold most start op) ops
  places-tail start op ops places = All-tail (λ (x : Answer). x ≢ TooMany) (answer hold most start op) (answers_from hold most (intake hold most start op) ops) places

  -- an operation that is taken in finds its place
  pub no_place_left : (start : Held) (ops more : List Op) (op : Op) → MeetsNoLimit hold most start (ops ++ op ∷ more)
      → answer hold most (held_from hold most start ops) op ≢ TooMany
  no_place_left start [] more op places = places-head start op more places
  no_place_left start (o ∷ ops) more op places = no_place_left (intake hold most start o) ops more op (places-tail start o (ops ++ op ∷ more) places)

  -- the first operation that finds no place is one
  pub same_refused : (start : Held) (all : List Op) (a b : Refused hold most start all) → a.front ≡ b.front
  same_refused start all a b = same start a.front b.front a.op b.op a.more b.more (sym a.is ∙ b.is) a.has_place b.has_place a.refused b.refused
    where
      same : (s : Held) (a b : List Op) (x y : Op) (more others : List Op) → a ++ x ∷ more ≡ b ++ y ∷ others → MeetsNoLimit hold most s a → MeetsNoLimit hold most s b
          → answer hold most (held_from hold most s a) x ≡ TooMany → answer hold most (held_from hold most s b) y ≡ TooMany → a ≡ b
      same s [] [] x y more others is p q r t = refl
      same s [] (z ∷ b) x y more others is p q r t =
          let first : x ≡ z = cc is in
          absurd (places-head s z b q (subst (λ (o : Op). answer hold most s o ≡ TooMany) first r))
      same s (w ∷ a) [] x y more others is p q r t =
          let first : w ≡ y = cc is in
          absurd (places-head s w a p (subst (λ (o : Op). answer hold most s o ≡ TooMany) (sym first) t))
      same s (w ∷ a) (z ∷ b) x y more others is p q r t =
          let first : w ≡ z = cc is in
          let rest : a ++ x ∷ more ≡ b ++ y ∷ others = cc is in
          let behind = same (intake hold most s w) a b x y more others rest (places-tail s w a p)
          (subst (λ (o : Op). MeetsNoLimit hold most (intake hold most s o) b) (sym first) (places-tail s z b q))
          r (subst (λ (o : Op). answer hold most (held_from hold most (intake hold most s o) b) y ≡ TooMany) (sym first) t) in
          λ i. first i ∷ behind i

  too_many_or_not : (a : Answer) → (a ≡ TooMany) ⊎ (a ≢ TooMany)
  too_many_or_not TooMany = inl refl
  too_many_or_not Again = inr (λ is. cc is)
  too_many_or_not Conflict = inr (λ is. cc is)
  too_many_or_not (Stray i) = inr (λ is. cc is)
  too_many_or_not Accepted = inr (λ is. cc is)
  too_many_or_not Full = inr (λ is. cc is)
  too_many_or_not Waits = inr (λ is. cc is)

  -- all find their place, or one is the first that finds none
  pub taken_or_refused : (start : Held) (ops : List Op) → MeetsNoLimit hold most start ops ⊎ Refused hold most start ops
  taken_or_refused start [] = inl (places-none start)
  taken_or_refused start (op ∷ ops) = elim (too_many_or_not (answer hold most start op)) [
    | inl many ↦ inr (record { front = []; op = op; more = ops; is = refl; has_place = places-none start; refused = many })
    | inr other ↦ elim (taken_or_refused (intake hold most start op) ops) [
      | inl places ↦ inl (places-append start (op ∷ []) ops (places-one start op other) places)
      | inr r ↦ inr (record {
        front = op ∷ r.front;
        op = r.op;
        more = r.more;
        is = ap (λ (t : List Op). op ∷ t) r.is;
        has_place = places-append start (op ∷ []) r.front (places-one start op other) r.has_place;
        refused = r.refused;
      })
    ]
  ]
