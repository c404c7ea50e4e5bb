-- A section with as many elements, and as many shown ones, as it had is as it was.
use Rattle.std.proofs.Common.{List, [], ap, arith, false, inl, inr, length, refl, subst, sym, true, ℕ, ◌≤◌, ◌∙◌, ◌∷◌, ◌≡◌}
use Rattle.std.specs.Prelude.{Bool, cond, filter, not, ◌&&◌, ◌||◌}
use Rattle.std.specs.List.{Contains, list_any}
use Rattle.std.proofs.lemmas.Bool.{cases_Bool, false≢true, true≢false}
use Rattle.fugue_ids.specs.Identifiers.{Identifier}
use Rattle.fugue_ids.specs.declared.op.Op.{Op}
use Rattle.fugue_ids.proofs.ListLemmas.{contains_cases, contains_here, contains_none, contains_there}
use Rattle.origin_model.specs.declared.operations.Place.TheVariants.{Section as within}
use Rattle.origin_model.specs.operations.History.{holds}
use Rattle.origin_model.specs.operations.Verdict.{Lawful}
use Rattle.origin_model.specs.order.Order.{order}
use Rattle.origin_model.specs.order.Printed.{is_hidden, shown}
use Rattle.version_views.specs.Laws.{is_shown}
use Rattle.version_views.proofs.ViewLemmas.{order_by_filter, shown_by_filter}
use Rattle.change_marks.specs.Changes.{IsLater, head_is_marked, is_changed, is_marked}
use Rattle.change_marks.specs.Marks.{mark_of, marked_as, runs}
use Rattle.change_marks.specs.Steps.{is_changed_element}
use Rattle.change_marks.proofs.LaterLemmas.{hidden_later}
use Rattle.change_marks.proofs.LawLemmas.{none_changed}
use Rattle.change_marks.proofs.RunLemmas.{marks_by_elements}

-- the second test passes only what the first one does
abbrev IsNarrower : (p q : Identifier → Bool) → List Identifier → Type 0
IsNarrower p q xs = (x : Identifier) → Contains xs x → q x ≡ true → p x ≡ true

narrower_tail : (p q : Identifier → Bool) (y : Identifier) (ys : List Identifier) → IsNarrower p q (y ∷ ys) → IsNarrower p q ys
narrower_tail p q y ys n x c = n x (contains_there y ys x c)

kept_if : (p : Identifier → Bool) (y : Identifier) (ys : List Identifier) (b : Bool) → p y ≡ b → filter p (y ∷ ys) ≡ cond b (y ∷ filter p ys) (filter p ys)
kept_if p y ys b e = ap (λ z. cond z (y ∷ filter p ys) (filter p ys)) e

fewer : (p q : Identifier → Bool) (xs : List Identifier) → IsNarrower p q xs → length (filter q xs) ≤ length (filter p xs)
fewer p q [] n = omega arith
fewer p q (y ∷ ys) n =
    let less = fewer p q ys (narrower_tail p q y ys n) in
    elim (cases_Bool (q y)) [
      | inl b ↦ omega (arith, less, ap length (kept_if q y ys true b), ap length (kept_if p y ys true (n y (contains_here y ys) b)))
      | inr b ↦ elim (cases_Bool (p y)) [
        | inl a ↦ omega (arith, less, ap length (kept_if q y ys false b), ap length (kept_if p y ys true a))
        | inr a ↦ omega (arith, less, ap length (kept_if q y ys false b), ap length (kept_if p y ys false a))
      ]
    ]

-- what holds of an element and of those after it holds of all
of_each : (P : Identifier → Type 0) (y : Identifier) (ys : List Identifier) → P y → ((x : Identifier) → Contains ys x → P x) → (x : Identifier) → Contains (y ∷ ys) x → P x
of_each P y ys here rest x c = elim (contains_cases y ys x c) [
  | inl s ↦ subst P s here
  | inr m ↦ rest x m
]

-- where as many pass, the same ones do
same_kept : (p q : Identifier → Bool) (xs : List Identifier) → IsNarrower p q xs → length (filter p xs) ≡ length (filter q xs) → (x : Identifier) → Contains xs x → p x ≡ q x
same_kept p q [] n e x c = absurd (contains_none x c)
same_kept p q (y ∷ ys) n e x c =
    let less : length (filter q ys) ≤ length (filter p ys) = fewer p q ys (narrower_tail p q y ys n) in
    elim (cases_Bool (q y)) [
      | inl b ↦
          let a = n y (contains_here y ys) b in
          of_each (λ z. p z ≡ q z) y ys (a ∙ sym b)
          (same_kept p q ys (narrower_tail p q y ys n) (omega (arith, e, ap length (kept_if q y ys true b), ap length (kept_if p y ys true a)))) x c
      | inr b ↦ elim (cases_Bool (p y)) [
        | inl a ↦ absurd (omega (arith, less, e, ap length (kept_if q y ys false b), ap length (kept_if p y ys true a)))
        | inr a ↦
            of_each (λ z. p z ≡ q z) y ys (a ∙ sym b)
            (same_kept p q ys (narrower_tail p q y ys n) (omega (arith, e, ap length (kept_if q y ys false b), ap length (kept_if p y ys false a)))) x c
      ]
    ]

all_pass : (xs : List Identifier) → filter (λ x. true) xs ≡ xs
all_pass [] = refl
all_pass (x ∷ xs) = ap (λ l. x ∷ l) (all_pass xs)

-- an element that f has, and that both show or neither, has no marks around it
no_marks : (had was is : Bool) (r : ℕ) → true ≡ had → (had && not was) ≡ not is → is_changed_element (marked_as had was is r) ≡ false
no_marks false was is r t e = absurd (false≢true (sym t))
no_marks true false false r t e = refl
no_marks true false true r t e = absurd (true≢false e)
no_marks true true false r t e = refl
no_marks true true true r t e = refl

narrow : (had was is : Bool) → true ≡ had → (was ≡ true → is ≡ true) → not is ≡ true → (had && not was) ≡ true
narrow false was is t k e = absurd (false≢true (sym t))
narrow true false is t k e = refl
narrow true true is t k e = absurd (false≢true (ap not (sym (k refl)) ∙ e))

pub same_counts : (f h : List Op) (s : Identifier) → Lawful h → IsLater f h → length (order (within s) f) ≡ length (order (within s) h)
    → length (shown (within s) f) ≡ length (shown (within s) h)
    → list_any is_marked (runs false f h s) ≡ false
same_counts f h s w l all some =
    let xs : List Identifier = order (within s) h in
    let lawful = subst Lawful l.whole w in
    let older : order (within s) f ≡ filter (holds f) xs =
    subst (λ whole. order (within s) f ≡ filter (holds f) (order (within s) whole)) (sym l.whole) (order_by_filter (within s) l.newer f lawful) in
    let then_shown : shown (within s) f ≡ filter (is_shown f) xs =
    subst (λ whole. shown (within s) f ≡ filter (is_shown f) (order (within s) whole)) (sym l.whole) (shown_by_filter (within s) l.newer f lawful) in
    let had : (x : Identifier) → Contains xs x → true ≡ holds f x = same_kept (λ x. true) (holds f) xs (λ x c e. refl) (ap length (all_pass xs) ∙ sym all ∙ ap length older) in
    let narrower : IsNarrower (is_shown f) (λ x. not (is_hidden h x)) xs = λ x c e. narrow (holds f x) (is_hidden f x) (is_hidden h x) (had x c) (hidden_later f h x l) e in
    let same : (x : Identifier) → Contains xs x
    → is_shown f x ≡ not (is_hidden h x) = same_kept (is_shown f) (λ x. not (is_hidden h x)) xs narrower (sym (ap length then_shown) ∙ some) in
    marks_by_elements (mark_of f h) xs ∙ none_changed (mark_of f h) xs (λ x c. no_marks (holds f x) (is_hidden f x) (is_hidden h x) x.replica (had x c) (same x c))

-- so where its head has no mark, nothing is reported of it; both histories may be given by other names
pub counted_same : (f h : List Op) {f_is h_is : List Op} (s : Identifier) → f_is ≡ f → h_is ≡ h → Lawful h_is → IsLater f h → head_is_marked f h s ≡ false
    → length (order (within s) f_is) ≡ length (order (within s) h_is) → length (shown (within s) f_is) ≡ length (shown (within s) h_is) → is_changed f h s ≡ false
counted_same f h s a b w l head all some =
    let all_are : length (order (within s) f) ≡ length (order (within s) h) = sym (ap (λ z. length (order (within s) z)) a) ∙ all ∙ ap (λ z. length (order (within s) z)) b in
    let some_are : length (shown (within s) f) ≡ length (shown (within s) h) = sym (ap (λ z. length (shown (within s) z)) a) ∙ some ∙ ap (λ z. length (shown (within s) z)) b in
    let runs_are = same_counts f h s (subst Lawful b w) l all_are some_are in
    λ i. head i || runs_are i
