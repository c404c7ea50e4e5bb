-- One list of the elements of all places, and one more element in it.
use Rattle.origin_model.proofs.Words.{Option, Bool, Identifier, List, None, Op, Place, Some, [], ap, arith, before_in, cases_Bool, count_by, drop, drop_more, element_of, false}
use Rattle.origin_model.proofs.Words.{get_or, id_of, if◌then◌else◌, inl, inr, insert, length, length-append, min, older_of, order, place_eq, placed, refl, reverse, reverse-append}
use Rattle.origin_model.proofs.Words.{slice_get, sym, take, take-append-drop, true, ℕ, ◌++◌, ◌+◌, ◌-◌, ◌<◌, ◌∙◌, ◌∷◌, ◌≡◌}
use Rattle.std.proofs.lemmas.List.{take_more, take_at, drop_at}
use Rattle.origin_model.specs.declared.operations.node.Node.{Node}
use Rattle.origin_model.specs.operations.History.{element, stands_at}
use Rattle.origin_model.proofs.operations.ElementLemmas.{element_id, place_eq-true}
use Rattle.origin_model.specs.order.Listed.{elements_at, ListsAll}
use Rattle.origin_model.specs.declared.order.listing.Listed.{Listed}
use Rattle.origin_model.proofs.order.OrderLemmas.{order-none, order-some}
use Rattle.std.proofs.lemmas.List.Sums.{count_by-le-length}

at-yes : (p : Place) (e : Listed) (es : List Listed) → place_eq e.place p ≡ true → elements_at p (e ∷ es) ≡ e.id ∷ elements_at p es
at-yes p e es h = rw (h, elements_at)

at-no : (p : Place) (e : Listed) (es : List Listed) → place_eq e.place p ≡ false → elements_at p (e ∷ es) ≡ elements_at p es
at-no p e es h = rw (h, elements_at)

pub elements_at-append : (p : Place) (xs ys : List Listed) → elements_at p (xs ++ ys) ≡ elements_at p xs ++ elements_at p ys
elements_at-append p [] ys = refl
elements_at-append p (x ∷ xs) ys =
    elim (cases_Bool (place_eq x.place p)) [
      | inl h ↦ at-yes p x (xs ++ ys) h ∙ ap (λ l. x.id ∷ l) (elements_at-append p xs ys) ∙ ap (λ l. l ++ elements_at p ys) (sym (at-yes p x xs h))
      | inr h ↦ at-no p x (xs ++ ys) h ∙ elements_at-append p xs ys ∙ ap (λ l. l ++ elements_at p ys) (sym (at-no p x xs h))
    ]

-- the steps of a count
pub taken_yes : (p : Place) (xs : List Listed) (i : ℕ) (d : Listed) → i < length xs → place_eq (get_or xs i d).place p ≡ true
    → length (elements_at p (take (i + 1) xs)) ≡ length (elements_at p (take i xs)) + 1
taken_yes p xs i d l h =
    let e : Listed = get_or xs i d in
    ap (λ z. length (elements_at p z)) (take_more xs i d l) ∙ ap length (elements_at-append p (take i xs) (e ∷ []) ∙ ap (λ z. elements_at p (take i xs) ++ z) (at-yes p e [] h))
    ∙ length-append (elements_at p (take i xs)) (e.id ∷ [])

pub taken_no : (p : Place) (xs : List Listed) (i : ℕ) (d : Listed) → i < length xs → place_eq (get_or xs i d).place p ≡ false
    → length (elements_at p (take (i + 1) xs)) ≡ length (elements_at p (take i xs))
taken_no p xs i d l h =
    let e : Listed = get_or xs i d in
    ap (λ z. length (elements_at p z)) (take_more xs i d l) ∙ ap length (elements_at-append p (take i xs) (e ∷ []) ∙ ap (λ z. elements_at p (take i xs) ++ z) (at-no p e [] h))
    ∙ length-append (elements_at p (take i xs)) [] ∙ omega arith

pub left_yes : (p : Place) (xs : List Listed) (i : ℕ) (d : Listed) → i < length xs → place_eq (get_or xs i d).place p ≡ true
    → length (elements_at p (drop i xs)) ≡ length (elements_at p (drop (i + 1) xs)) + 1
left_yes p xs i d l h =
    ap (λ z. length (elements_at p z)) (drop_more xs i d l) ∙ ap length (at-yes p (get_or xs i d) (drop (i + 1) xs) h) ∙ omega arith

pub left_no : (p : Place) (xs : List Listed) (i : ℕ) (d : Listed) → i < length xs → place_eq (get_or xs i d).place p ≡ false
    → length (elements_at p (drop i xs)) ≡ length (elements_at p (drop (i + 1) xs))
left_no p xs i d l h =
    ap (λ z. length (elements_at p z)) (drop_more xs i d l) ∙ ap length (at-no p (get_or xs i d) (drop (i + 1) xs) h)

last_of : (x : Op) (xs : List Op) (op : Op) → slice_get (x ∷ xs) (length xs) ≡ Some op → (front : List Op) × (x ∷ xs ≡ front ++ op ∷ [])
last_of x [] op e = let d : x ≡ op = cc in ([], ap (λ z. z ∷ []) d)
last_of x (y ∷ ys) op e = let r = last_of y ys op e in (x ∷ r.0, ap (λ z. x ∷ z) r.1)

-- the newest operation, and the older ones
pub newest_is : (xs : List Op) (op : Op) → slice_get xs (length xs - 1) ≡ Some op → reverse xs ≡ op ∷ older_of (reverse xs)
newest_is [] op e = cc
newest_is (x ∷ xs) op e =
    let k : length (x ∷ xs) - 1 ≡ length xs = omega arith in
    let r = last_of x xs op (ap (slice_get (x ∷ xs)) (sym k) ∙ e) in
    let a : reverse (x ∷ xs) ≡ op ∷ reverse r.0 = ap reverse r.1 ∙ reverse-append r.0 (op ∷ []) in
    a ∙ ap (λ z. op ∷ older_of z) (sym a)

abbrev place_by : Option (Place × Node) → Option Place
place_by o = elim o [ None ↦ None | Some e ↦ Some e.0 ]

abbrev stands_by : Place → Option (Place × Node) → Bool
stands_by p o = elim (place_by o) [ None ↦ false | Some q ↦ place_eq q p ]

-- whether an element adds to a place, by where it stands
element-at : (p : Place) (op : Op) (e : Place × Node) (b : Bool) → element op ≡ Some e → place_eq e.0 p ≡ b → element_of p op ≡ (if b then Some e.1.id else None)
element-at p op e b k h =
    let stands : stands_at p op ≡ b = ap (stands_by p) k ∙ h in
    (λ i. if stands i then element_id op e k i else None)

listed-newest : (op : Op) (older : List Op) (listed : List Listed) (q : Place) (n : Node) (count i : ℕ)
    → element op ≡ Some (q, n) → ListsAll older listed
    → count ≡ count_by (λ e. before_in (elements_at q listed) (op ∷ older) e n.id) (elements_at q listed)
    → length (elements_at q (take i listed)) ≡ min count (length (elements_at q listed))
    → ListsAll (op ∷ older) (insert listed i (record { place = q; id = n.id }))
listed-newest op older listed q node count i e f c l p =
    let x : Identifier = node.id in
    let new : Listed = record { place = q; id = x } in
    let a : List Identifier = elements_at p (take i listed) in
    let b : List Identifier = elements_at p (drop i listed) in
    let whole : elements_at p listed ≡ a ++ b = ap (elements_at p) (sym (take-append-drop i listed)) ∙ elements_at-append p (take i listed) (drop i listed) in
    elim (cases_Bool (place_eq q p)) [
      | inl h ↦
          let o : List Identifier = elements_at p listed in
          let R : Identifier → Bool = λ z. before_in o (op ∷ older) z x in
          let s : q ≡ p = place_eq-true q p h in
          let n : count ≡ count_by R o = c ∙ ap (λ z. count_by (λ w. before_in (elements_at z listed) (op ∷ older) w x) (elements_at z listed)) s in
          let m : length a ≡ min count (length o) = ap (λ z. length (elements_at z (take i listed))) (sym s) ∙ l ∙ ap (λ z. min count (length (elements_at z listed))) s in
          let k : length a ≡ count_by R o = omega (arith, count_by-le-length R o, n, m) in
          let first : take (count_by R o) o ≡ a = ap (take (count_by R o)) whole ∙ take_at a b (count_by R o) k in
          let second : drop (count_by R o) o ≡ b = ap (drop (count_by R o)) whole ∙ drop_at a b (count_by R o) k in
          elements_at-append p (take i listed) (new ∷ drop i listed)
          ∙ ap (λ z. a ++ z) (at-yes p new (drop i listed) h)
          ∙ (λ j. sym first j ++ x ∷ sym second j)
          ∙ ap (λ z. placed (λ w. before_in z (op ∷ older) w x) z x) (f p)
          ∙ sym (order-some p op older x (element-at p op (q, node) true e h))
      | inr h ↦
          elements_at-append p (take i listed) (new ∷ drop i listed)
          ∙ ap (λ z. a ++ z) (at-no p new (drop i listed) h)
          ∙ sym whole ∙ f p ∙ sym (order-none p op older (element-at p op (q, node) false e h))
    ]

pub ruleset end_steps = (taken_yes, taken_no, left_yes, left_no)

pub listed-kept : (ops : List Op) (op : Op) (listed : List Listed) → slice_get ops (length ops - 1) ≡ Some op → element op ≡ None → ListsAll (older_of (reverse ops)) listed
    → ListsAll (reverse ops) listed
listed-kept ops op listed e n f p =
    f p ∙ sym (order-none p op (older_of (reverse ops)) (ap (λ b. if b then id_of op else None) (ap (stands_by p) n))) ∙ ap (order p) (sym (newest_is ops op e))

pub listed-found : (ops : List Op) (op : Op) (old new : List Listed) (q : Place) (n : Node) (finished : List Identifier) (count i : ℕ)
    → slice_get ops (length ops - 1) ≡ Some op → element op ≡ Some (q, n) → ListsAll (older_of (reverse ops)) old
    → finished ≡ elements_at q old
    → count ≡ count_by (λ e. before_in finished (reverse ops) e n.id) finished
    → length (elements_at q (take i old)) ≡ min count (length (elements_at q old))
    → new ≡ insert old i (record { place = q; id = n.id })
    → ListsAll (reverse ops) new
listed-found ops op old new q n finished count i e s f g c l put p =
    let h : reverse ops ≡ op ∷ older_of (reverse ops) = newest_is ops op e in
    let d : count ≡ count_by (λ w. before_in (elements_at q old) (op ∷ older_of (reverse ops)) w n.id) (elements_at q old) =
    c ∙ (λ j. count_by (λ w. before_in (g j) (h j) w n.id) (g j)) in
    ap (elements_at p) put ∙ listed-newest op (older_of (reverse ops)) old q n count i s f d l p ∙ ap (order p) (sym h)
