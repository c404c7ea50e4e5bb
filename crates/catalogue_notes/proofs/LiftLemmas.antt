-- What is lifted of a lawful history is a lawful list of Sections; a look-up in it is that of the history.
use Rattle.std.proofs.Common.{Bool, List, [], ap, false, inl, inr, map, refl, suc, subst, sym, true, zero, ◌&&◌, ◌++◌, ◌∙◌, ◌∷◌, ◌≡◌, ℕ}
use Rattle.std.specs.Prelude.{None, Option, Some, codes, is_some, if◌then◌else◌, nat_eq, option_map, option_to_list, option_and_then}
use Rattle.std.specs.List.{All, Contains}
use Rattle.std.proofs.lemmas.Bool.{and_parts, cases_Bool, false_from_ne_true, false≢true}
use Rattle.std.proofs.lemmas.List.Elements.{All-append, All-cons, All-head, All-nil, All-tail, All-weaker}
use Rattle.fugue_ids.specs.Identifiers.{Identifier, origin_eq}
use Rattle.fugue_ids.specs.Ops.{id_of}
use Rattle.fugue_ids.specs.declared.op.Op.{Op}
use Rattle.fugue_ids.specs.declared.op.Op.TheVariants.{Delete, Note, Section, Text}
use Rattle.fugue_ids.proofs.IdentifierLemmas.{id_eq-refl}
use Rattle.fugue_ids.proofs.ListLemmas.{all_before, all_after, all_from_map}
use Rattle.origin_model.specs.declared.operations.Role.TheVariants.{Section as SectionRole}
use Rattle.origin_model.specs.declared.operations.Place.TheVariants.{Catalogue as catalogue}
use Rattle.origin_model.specs.operations.History.{has_op, holder, is_own}
use Rattle.origin_model.specs.operations.Verdict.{Lawful, fits, given_as, names}
use Rattle.origin_model.specs.order.Order.{order}
use Rattle.origin_model.proofs.SharedLemmas.{Fits, all_fit, becomes_ready, fits_element, found, has-holder, holder-other, holder-own, holder_owns, order_total, own_id}
use Rattle.catalogue_notes.specs.Claims.{Move, Origins, claim, move_in, move_of, origins_of, stamp_of}
use Rattle.catalogue_notes.specs.Lift.{as_section, is_section, is_valid, lifted_of, passing, is_present}
use Rattle.catalogue_notes.specs.Lift.{lift}
use Rattle.catalogue_notes.specs.declared.limits.TheConstants.{MOVE_CODE}
use Rattle.catalogue_notes.proofs.HolderLemmas.{IsHeld, Joins, anything, cases_option, joins, names_held, not_both, not_own, same_value, section_by}

-- what passed
pub passing_from : {X : Type 0} → (test : X → Bool) (o : Option X) (x : X) → passing test o ≡ Some x → (o ≡ Some x) × (test x ≡ true)
passing_from test None x k = cc
passing_from test (Some y) x k =
    elim (cases_Bool (test y)) [
      | inl t ↦ let d : y ≡ x = same_value (passing test (Some y)) y x (ap (λ b. if b then Some y else None) t) k in (ap Some d, ap test (sym d) ∙ t)
      | inr t ↦ absurd (not_both (passing test (Some y)) x (ap (λ b. if b then Some y else None) t) k)
    ]

pub passing_to : {X : Type 0} → (test : X → Bool) (o : Option X) (x : X) → o ≡ Some x → test x ≡ true → passing test o ≡ Some x
passing_to test o x k t = ap (passing test) k ∙ ap (λ b. if b then Some x else None) t

pub passing-same : {X : Type 0} → (f g : X → Bool) (o : Option X) → ((x : X) → o ≡ Some x → f x ≡ g x) → passing f o ≡ passing g o
passing-same f g None s = refl
passing-same f g (Some x) s = ap (λ b. if b then Some x else None) (s x refl)

-- what was mapped
pub map_from : {X Y : Type 0} → (f : X → Y) (o : Option X) (y : Y) → option_map f o ≡ Some y → (x : X) × (o ≡ Some x) × (f x ≡ y)
map_from f None y k = cc
map_from f (Some x) y k = (x, refl, same_value (Some (f x)) (f x) y refl k)

-- the value of two equal ones
pub some_inj : {X : Type 0} → (x y : X) → Some x ≡ Some y → x ≡ y
some_inj x y k = cc

-- the value of a test
pub if_so : {X : Type 0} → (b : Bool) (o : Option X) (x : X) → (if b then o else None) ≡ Some x → o ≡ Some x
if_so true o x k = k
if_so false o x k = absurd (not_both None x refl k)

-- origins as names
abbrev pub given : Origins → List Identifier
given o = option_to_list o.left ++ option_to_list o.right

-- the names after the section are the origins
origins_are : (form : ℕ) (named : List Identifier) (o : Origins) → origins_of form named ≡ Some o → named ≡ given o
origins_are zero [] o k = ap given (some_inj (record { left = None; right = None }) o k)
origins_are (suc zero) (l ∷ []) o k = ap given (some_inj (record { left = Some l; right = None }) o k)
origins_are (suc (suc zero)) (r ∷ []) o k = ap given (some_inj (record { left = None; right = Some r }) o k)
origins_are (suc (suc (suc zero))) (l ∷ r ∷ []) o k = ap given (some_inj (record { left = Some l; right = Some r }) o k)
origins_are _ _ o k = absurd (not_both None o refl k)

-- a move's identifier and names
pub record HasShape (e : Op) (m : Move) : Type 0 where
  pub own : id_of e ≡ Some m.id
  pub named : names e ≡ map anything (m.section ∷ given m.value)

move_shape : (id : Identifier) (named : List Identifier) (code : ℕ) (body : List ℕ) (m : Move) → move_of id named body ≡ Some m → HasShape (Note id named code body) m
move_shape id (s ∷ named) code (a ∷ b ∷ c ∷ d ∷ form ∷ []) m k =
    let r = map_from (λ o. claim id s (stamp_of a b c d) o) (origins_of form named) m k in
    record {
      own = ap (λ (m : Move). Some m.id) r.2;
      named = ap (λ l. map anything (s ∷ l)) (origins_are form named r.0 r.1) ∙ ap (λ (m : Move). map anything (m.section ∷ given m.value)) r.2;
    }
move_shape id _ code _ m k = absurd (not_both None m refl k)

pub shape : (e : Op) (m : Move) → move_in e ≡ Some m → HasShape e m
shape (Section i l r t) m k = absurd (not_both None m refl k)
shape (Text i s l r c) m k = absurd (not_both None m refl k)
shape (Delete i) m k = absurd (not_both None m refl k)
shape (Note id named code body) m k = move_shape id named code body m (if_so (nat_eq code MOVE_CODE) (move_of id named body) m k)

-- what a move names is held
pub record Rests (h : List Op) (m : Move) : Type 0 where
  pub section : (f : Op) × (holder h m.section ≡ Some f)
  pub left : (l : Identifier) → m.value.left ≡ Some l → (f : Op) × (holder h l ≡ Some f)
  pub right : (r : Identifier) → m.value.right ≡ Some r → (f : Op) × (holder h r ≡ Some f)

origin_held : (h : List Op) (o : Option Identifier) (i : Identifier) → All (IsHeld h) (option_to_list o) → o ≡ Some i → IsHeld h i
origin_held h o i all k = All-head (IsHeld h) i [] (subst (λ o. All (IsHeld h) (option_to_list o)) k all)

pub rests_of : (h : List Op) (e : Op) (m : Move) → All (Fits h) (names e) → HasShape e m → Rests h m
rests_of h e m all sh =
    let ns : List Identifier = m.section ∷ given m.value in
    let held : All (IsHeld h) ns =
    All-weaker (λ i. Fits h (anything i)) (IsHeld h) (λ i f. (f.0, f.1)) ns (all_from_map anything (Fits h) ns (subst (All (Fits h)) sh.named all)) in
    let rest : All (IsHeld h) (given m.value) = All-tail (IsHeld h) m.section (given m.value) held in
    record {
      section = All-head (IsHeld h) m.section (given m.value) held;
      left = λ l k. origin_held h m.value.left l (all_before (IsHeld h) (option_to_list m.value.left) (option_to_list m.value.right) rest) k;
      right = λ r k. origin_held h m.value.right r (all_after (IsHeld h) (option_to_list m.value.left) (option_to_list m.value.right) rest) k;
    }

-- what is lifted, by equations
pub lift-nil : lift [] ≡ []
unfolding lift
lift-nil = refl

lift-cons : (e : Op) (h : List Op) → lift (e ∷ h) ≡ option_to_list (lifted_of h (lift h) e) ++ lift h
unfolding lift
lift-cons e h = refl

pub lift-none : (e : Op) (h : List Op) → lifted_of h (lift h) e ≡ None → lift (e ∷ h) ≡ lift h
lift-none e h k = lift-cons e h ∙ ap (λ o. option_to_list o ++ lift h) k

pub lift-some : (e : Op) (h : List Op) (op : Op) → lifted_of h (lift h) e ≡ Some op → lift (e ∷ h) ≡ op ∷ lift h
lift-some e h op k = lift-cons e h ∙ ap (λ o. option_to_list o ++ lift h) k

-- a Section with the operation's identifier
pub record IsLifted (e : Op) (op : Op) : Type 0 where
  pub own : id_of op ≡ id_of e
  pub fit : fits SectionRole op ≡ true

-- a Section is lifted as it is
section_lifted : (o op : Op) → fits SectionRole o ≡ true → Some o ≡ Some op → IsLifted o op
section_lifted o op f k = let d : o ≡ op = some_inj o op k in record { own = sym (ap id_of d); fit = ap (fits SectionRole) (sym d) ∙ f }

pub is_lifted : (h : List Op) (b : List Op) (e : Op) (op : Op) → lifted_of h b e ≡ Some op → IsLifted e op
is_lifted h b (Section i l r t) op k = section_lifted (Section i l r t) op refl k
is_lifted h b (Text i s l r c) op k = absurd (not_both None op refl k)
is_lifted h b (Delete i) op k = absurd (not_both None op refl k)
is_lifted h b (Note id named code body) op k =
    let e : Op = Note id named code body in
    let r = map_from as_section (passing (is_valid h b) (move_in e)) op k in
    let p = passing_from (is_valid h b) (move_in e) r.0 r.1 in
    record { own = sym (ap id_of r.2) ∙ sym (shape e r.0 p.0).own; fit = sym (ap (fits SectionRole) r.2) }

own-lifted : (e : Op) (op : Op) (x : Identifier) → IsLifted e op → is_own x op ≡ is_own x e
own-lifted e op x k = ap (λ o. origin_eq o (Some x)) k.own

-- by another identifier the older ones are searched
pub lift-other : (e : Op) (h : List Op) (x : Identifier) → is_own x e ≡ false → holder (lift (e ∷ h)) x ≡ holder (lift h) x
lift-other e h x k =
    elim (cases_option (lifted_of h (lift h) e)) [
      | inl n ↦ ap (λ l. holder l x) (lift-none e h n)
      | inr o ↦ ap (λ l. holder l x) (lift-some e h o.0 o.1) ∙ holder-other o.0 (lift h) x (own-lifted e o.0 x (is_lifted h (lift h) e o.0 o.1) ∙ k)
    ]

-- what is not held is not lifted
pub unlifted : (h : List Op) (x : Identifier) → holder h x ≡ None → holder (lift h) x ≡ None
unlifted [] x n = ap (λ l. holder l x) lift-nil
unlifted (e ∷ h) x n =
    elim (cases_Bool (is_own x e)) [
      | inl t ↦ absurd (not_both (holder (e ∷ h) x) e n (holder-own e h x t))
      | inr t ↦ lift-other e h x t ∙ unlifted h x (sym (holder-other e h x t) ∙ n)
    ]

lift-own : (e : Op) (h : List Op) (x : Identifier) → Joins h e → is_own x e ≡ true → holder (lift (e ∷ h)) x ≡ lifted_of h (lift h) e
lift-own e h x w k =
    elim (cases_option (lifted_of h (lift h) e)) [
      | inl n ↦ ap (λ l. holder l x) (lift-none e h n) ∙ unlifted h x (w.fresh x (own_id e x k)) ∙ sym n
      | inr o ↦ ap (λ l. holder l x) (lift-some e h o.0 o.1) ∙ holder-own o.0 (lift h) x (own-lifted e o.0 x (is_lifted h (lift h) e o.0 o.1) ∙ k) ∙ sym o.1
    ]

-- one more operation leaves which moves are valid
is_present-kept : (e : Op) (h : List Op) (o : Option Identifier) → Joins h e → ((l : Identifier) → o ≡ Some l → IsHeld h l) → is_present (lift (e ∷ h)) o ≡ is_present (lift h) o
is_present-kept e h None w k = refl
is_present-kept e h (Some l) w k = let f = k l refl in ap is_some (lift-other e h l (not_own e f.0 h l w f.1))

pub section-kept : (e : Op) (h : List Op) (s : Identifier) → Joins h e → IsHeld h s → is_section (e ∷ h) s ≡ is_section h s
section-kept e h s w f = ap section_by (holder-other e h s (not_own e f.0 h s w f.1))

valid-kept : (e : Op) (h : List Op) (m : Move) → Joins h e → Rests h m → is_valid (e ∷ h) (lift (e ∷ h)) m ≡ is_valid h (lift h) m
valid-kept e h m w r =
    let s = section-kept e h m.section w r.section in
    let a = is_present-kept e h m.value.left w r.left in
    let b = is_present-kept e h m.value.right w r.right in
    λ i. s i && (a i && b i)

pub move-kept : (e : Op) (h : List Op) (f : Op) → Joins h e → All (Fits h) (names f)
    → passing (is_valid (e ∷ h) (lift (e ∷ h))) (move_in f) ≡ passing (is_valid h (lift h)) (move_in f)
move-kept e h f w all =
    passing-same (is_valid (e ∷ h) (lift (e ∷ h))) (is_valid h (lift h)) (move_in f) (λ m k. valid-kept e h m w (rests_of h f m all (shape f m k)))

pub lifted-kept : (e : Op) (h : List Op) (f : Op) → Joins h e → All (Fits h) (names f) → lifted_of (e ∷ h) (lift (e ∷ h)) f ≡ lifted_of h (lift h) f
lifted-kept e h (Section i l r t) w all = refl
lifted-kept e h (Text i s l r c) w all = refl
lifted-kept e h (Delete i) w all = refl
lifted-kept e h (Note id named code body) w all = ap (option_map as_section) (move-kept e h (Note id named code body) w all)

-- what is lifted of what a look-up holder
abbrev pub lifted_at : List Op → Option Op → Option Op
lifted_at h o = option_and_then (lifted_of h (lift h)) o

-- a look-up in what is lifted is one in the history
pub holder-lift : (h : List Op) (x : Identifier) → Lawful h → holder (lift h) x ≡ lifted_at h (holder h x)
holder-lift [] x w = ap (λ l. holder l x) lift-nil
holder-lift (e ∷ h) x w =
    elim (cases_Bool (is_own x e)) [
      | inl t ↦ lift-own e h x (joins h e w.0) t ∙ sym (lifted-kept e h e (joins h e w.0) (joins h e w.0).fit) ∙ sym (ap (lifted_at (e ∷ h)) (holder-own e h x t))
      | inr t ↦ lift-other e h x t ∙ holder-lift h x w.1
          ∙ elim (cases_option (holder h x)) [
            | inl n ↦ ap (lifted_at h) n ∙ sym (ap (lifted_at (e ∷ h)) n)
            | inr f ↦ ap (lifted_at h) f.1 ∙ sym (lifted-kept e h f.0 (joins h e w.0) (names_held h x f.0 w.1 f.1)) ∙ sym (ap (lifted_at (e ∷ h)) f.1)
          ]
          ∙ sym (ap (lifted_at (e ∷ h)) (holder-other e h x t))
    ]

-- what was lifted, and of which operation
pub lifted_from : (h : List Op) (x : Identifier) (op : Op) → Lawful h → holder (lift h) x ≡ Some op → (f : Op) × (holder h x ≡ Some f) × (lifted_of h (lift h) f ≡ Some op)
lifted_from h x op w k =
    let q : lifted_at h (holder h x) ≡ Some op = sym (holder-lift h x w) ∙ k in
    elim (cases_option (holder h x)) [
      | inl n ↦ absurd (not_both (lifted_at h (holder h x)) op (ap (lifted_at h) n) q)
      | inr f ↦ (f.0, f.1, sym (ap (lifted_at h) f.1) ∙ q)
    ]

pub lifted_to : (h : List Op) (x : Identifier) (f : Op) (op : Op) → Lawful h → holder h x ≡ Some f → lifted_of h (lift h) f ≡ Some op → holder (lift h) x ≡ Some op
lifted_to h x f op w k q = holder-lift h x w ∙ ap (lifted_at h) k ∙ q

-- all that is lifted are Sections
pub lift_fits : (h : List Op) (x : Identifier) (op : Op) → Lawful h → holder (lift h) x ≡ Some op → fits SectionRole op ≡ true
lift_fits h x op w k = let f = lifted_from h x op w k in (is_lifted h (lift h) f.0 op f.2).fit

-- a Section is lifted as it is
pub section_lifts_as : (h b : List Op) (f : Op) → fits SectionRole f ≡ true → lifted_of h b f ≡ Some f
section_lifts_as h b (Section i l r t) k = refl
section_lifts_as h b (Text i s l r c) k = absurd (false≢true k)
section_lifts_as h b (Delete i) k = absurd (false≢true k)
section_lifts_as h b (Note i ns code body) k = absurd (false≢true k)

pub section_lifts : (h : List Op) (x : Identifier) (f : Op) → Lawful h → holder h x ≡ Some f → fits SectionRole f ≡ true → holder (lift h) x ≡ Some f
section_lifts h x f w k s = lifted_to h x f f w k (section_lifts_as h (lift h) f s)

-- an origin is the start or the end, or a Section of the list
abbrev pub IsFit : List Op → Option Identifier → Type 0
IsFit g o = All (Fits g) (given_as SectionRole o)

-- one more Section, whose identifier is new and whose origins are there
pub one_more : (g : List Op) (i : Identifier) (l r : Option Identifier) (t : List ℕ) → Lawful g → holder g i ≡ None → IsFit g l → IsFit g r → Lawful (Section i l r t ∷ g)
one_more g i l r t w n a b =
    let op : Op = Section i l r t in
    let f = all_fit g (names op) (All-append (Fits g) (given_as SectionRole l) (given_as SectionRole r) a b) in (
      becomes_ready g op (false_from_ne_true (has_op g op) (λ k. not_both (holder g i) op n (has-holder g i op w k (id_eq-refl i)))) (ap is_some n) f.0 f.1,
      w,
    )

-- the origins of a Section are lifted
fit_section : (h : List Op) (o : Option Identifier) → Lawful h → All (Fits h) (given_as SectionRole o) → IsFit (lift h) o
fit_section h None w all = All-nil (Fits (lift h))
fit_section h (Some i) w all =
    let f = All-head (Fits h) (i, SectionRole) [] all in
    All-cons (Fits (lift h)) (i, SectionRole) [] (f.0, section_lifts h i f.0 w f.1 f.2, f.2) (All-nil (Fits (lift h)))

-- so are those of a valid move
pub fit_lifted : (h : List Op) (o : Option Identifier) → Lawful h → is_present (lift h) o ≡ true → IsFit (lift h) o
fit_lifted h None w k = All-nil (Fits (lift h))
fit_lifted h (Some i) w k =
    let f = found (holder (lift h) i) k in
    All-cons (Fits (lift h)) (i, SectionRole) [] (f.0, f.1, lift_fits h i f.0 w f.1) (All-nil (Fits (lift h)))

new_lawful : (h : List Op) (e : Op) (op : Op) → Lawful h → Lawful (lift h) → Joins h e → lifted_of h (lift h) e ≡ Some op → Lawful (op ∷ lift h)
new_lawful h (Section i l r t) op w v e k =
    subst (λ z. Lawful (z ∷ lift h)) (some_inj (Section i l r t) op k)
    (one_more (lift h) i l r t v (unlifted h i (e.fresh i refl))
    (fit_section h l w (all_before (Fits h) (given_as SectionRole l) (given_as SectionRole r) e.fit))
    (fit_section h r w (all_after (Fits h) (given_as SectionRole l) (given_as SectionRole r) e.fit)))
new_lawful h (Text i s l r c) op w v e k = absurd (not_both None op refl k)
new_lawful h (Delete i) op w v e k = absurd (not_both None op refl k)
new_lawful h (Note id named code body) op w v e k =
    let n : Op = Note id named code body in
    let r = map_from as_section (passing (is_valid h (lift h)) (move_in n)) op k in
    let p = passing_from (is_valid h (lift h)) (move_in n) r.0 r.1 in
    let m : Move = r.0 in
    let q = and_parts (is_section h m.section) (is_present (lift h) m.value.left && is_present (lift h) m.value.right) p.1 in
    let s = and_parts (is_present (lift h) m.value.left) (is_present (lift h) m.value.right) q.1 in
    subst (λ z. Lawful (z ∷ lift h)) r.2
    (one_more (lift h) m.id m.value.left m.value.right (codes "-") v (unlifted h m.id (e.fresh m.id (shape n m p.0).own))
    (fit_lifted h m.value.left w s.0) (fit_lifted h m.value.right w s.1))

-- what is lifted of a lawful history is lawful
pub lift_lawful : (h : List Op) → Lawful h → Lawful (lift h)
lift_lawful [] w = subst Lawful (sym lift-nil) tt
lift_lawful (e ∷ h) w =
    elim (cases_option (lifted_of h (lift h) e)) [
      | inl n ↦ subst Lawful (sym (lift-none e h n)) (lift_lawful h w.1)
      | inr o ↦ subst Lawful (sym (lift-some e h o.0 o.1)) (new_lawful h e o.0 w.1 (lift_lawful h w.1) (joins h e w.0) o.1)
    ]

-- the Sections of a lawful list are the members of its order
pub in_order : (g : List Op) (x : Identifier) (op : Op) → Lawful g → fits SectionRole op ≡ true → holder g x ≡ Some op → Contains (order catalogue g) x
in_order g x op v f k =
    ((order_total catalogue g v).lists x).0 (record { op = op; held = k; place = fits_element catalogue op f ∙ own_id op x (holder_owns g x op k) })

pub order_held : (g : List Op) (x : Identifier) → Lawful g → Contains (order catalogue g) x → (op : Op) × (holder g x ≡ Some op)
order_held g x v m = let i = ((order_total catalogue g v).lists x).1 m in (i.op, i.held)
