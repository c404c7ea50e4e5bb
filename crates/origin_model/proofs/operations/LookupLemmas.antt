-- What a look-up in a history finds, and what one more operation changes in it; what a Ready operation names is held and fits.
use Rattle.origin_model.proofs.Words.{All, All-cons, All-head, All-nil, All-tail, Bool, Identifier, Lawful, List, None, Op, Option, Place, Ready, Role, Some, [], all_before}
use Rattle.origin_model.proofs.Words.{all_after, ap, cases_Bool, false, false_from_ne_true, false≢true, first_line, first_missing, first_stray, fits, given_as, has_op, holder}
use Rattle.origin_model.proofs.Words.{holds, id_held, id_of, if◌then◌else◌, inl, inr, is_own, is_some, left_of, names, not_some, older_of, op_eq, op_eq-refl, op_eq-true, or_cases}
use Rattle.origin_model.proofs.Words.{or_left, or_right, origin_eq-true, refl, reverse, reverse-append, right_at, right_of, subst, sym, true, true≢false, verdict, ◌++◌, ◌||◌, ◌∙◌}
use Rattle.origin_model.proofs.Words.{◌∷◌, ◌≡◌, ◌⊎◌}
use Rattle.origin_model.specs.declared.operations.node.Node.{Node}
use Rattle.origin_model.specs.operations.History.{element, place}
use Rattle.origin_model.proofs.operations.ElementLemmas.{element_names, home_names, role_in}
use Rattle.origin_model.specs.declared.operations.Role.TheVariants.{Any}
use Rattle.std.specs.Option.{option_or}
use Rattle.std.specs.List.{Contains}
use Rattle.fugue_ids.proofs.ListLemmas.{contains_cases, contains_none}

-- an identifier that is the operation's own, as an equation
pub own_id : (op : Op) (x : Identifier) → is_own x op ≡ true → id_of op ≡ Some x
own_id op x = origin_eq-true (id_of op) (Some x)

-- the newest operation is found by its own identifier
pub holder-own : (op : Op) (older : List Op) (i : Identifier) → is_own i op ≡ true → holder (op ∷ older) i ≡ Some op
holder-own op older i e = rw (e, holder)

-- by any other identifier the older ones are searched
pub holder-other : (op : Op) (older : List Op) (i : Identifier) → is_own i op ≡ false → holder (op ∷ older) i ≡ holder older i
holder-other op older i e = rw (e, holder)

-- the newest operation's own identifier is held
pub holds-own : (op : Op) (older : List Op) (i : Identifier) → is_own i op ≡ true → holds (op ∷ older) i ≡ true
holds-own op older i e = ap is_some (holder-own op older i e)

-- any other identifier is held where the older ones hold it
pub holds-other : (op : Op) (older : List Op) (i : Identifier) → is_own i op ≡ false → holds (op ∷ older) i ≡ holds older i
holds-other op older i e = ap is_some (holder-other op older i e)

-- what was held stays held
pub holds-older : (op : Op) (older : List Op) (i : Identifier) → holds older i ≡ true → holds (op ∷ older) i ≡ true
holds-older op older i h = elim (cases_Bool (is_own i op)) [ inl e ↦ holds-own op older i e | inr e ↦ holds-other op older i e ∙ h ]

-- an identifier is held where the newest operation has it, or an older one
pub holds-cons : (op : Op) (older : List Op) (i : Identifier) → holds (op ∷ older) i ≡ (is_own i op || holds older i)
holds-cons op older i = elim (cases_Bool (is_own i op)) [ inl e ↦ rw (e, holder) | inr e ↦ rw (e, holder) ]

-- the identifier is held
abbrev pub IsHeld : List Op → Identifier → Type 0
IsHeld history x = holds history x ≡ true

-- a held identifier has a holder
pub found : (o : Option Op) → is_some o ≡ true → (op : Op) × (o ≡ Some op)
found None h = absurd (false≢true h)
found (Some op) h = (op, refl)

-- the holder of an identifier has it as its own
pub holder_owns : (h : List Op) (i : Identifier) (op : Op) → holder h i ≡ Some op → is_own i op ≡ true
holder_owns [] i op e = cc
holder_owns (o ∷ h) i op e =
    elim (cases_Bool (is_own i o)) [
      | inl k ↦ let d : o ≡ op = cc (holder-own o h i k, e) in ap (is_own i) (sym d) ∙ k
      | inr k ↦ holder_owns h i op (sym (holder-other o h i k) ∙ e)
    ]

-- the holder of an identifier is an operation of the history
pub holder-has : (h : List Op) (i : Identifier) (op : Op) → holder h i ≡ Some op → has_op h op ≡ true
holder-has [] i op e = cc
holder-has (o ∷ h) i op e =
    elim (cases_Bool (is_own i o)) [
      | inl k ↦ let d : o ≡ op = cc (holder-own o h i k, e) in or_left (op_eq o op) (has_op h op) (subst (λ a. op_eq a op ≡ true) (sym d) (op_eq-refl op))
      | inr k ↦ or_right (op_eq o op) (has_op h op) (holder-has h i op (sym (holder-other o h i k) ∙ e))
    ]

-- a look-up finds nothing, or an operation
pub cases_held : (o : Option Op) → (o ≡ None) ⊎ ((op : Op) × (o ≡ Some op))
cases_held None = inl refl
cases_held (Some op) = inr (op, refl)

-- a name that is held is passed
pub missing-held : (h : List Op) (n : Identifier × Role) (ns : List (Identifier × Role)) (o : Op) → holder h n.0 ≡ Some o → first_missing h (n ∷ ns) ≡ first_missing h ns
missing-held h n ns o e = rw (e, first_missing)

-- a name that is not held is the first missing one
missing-gone : (h : List Op) (n : Identifier × Role) (ns : List (Identifier × Role)) → holder h n.0 ≡ None → first_missing h (n ∷ ns) ≡ Some n.0
missing-gone h n ns e = rw (e, first_missing)

-- the first Stray name, by what a look-up of the first name found
abbrev stray_on : List Op → Identifier × Role → List (Identifier × Role) → Option Op → Option Identifier
stray_on h n ns o = elim o [ None ↦ first_stray h ns | Some op ↦ if fits n.1 op then first_stray h ns else Some n.0 ]

-- a name that fits is passed
pub stray-fits : (h : List Op) (n : Identifier × Role) (ns : List (Identifier × Role)) (o : Op) → holder h n.0 ≡ Some o → fits n.1 o ≡ true
    → first_stray h (n ∷ ns) ≡ first_stray h ns
stray-fits h n ns o e f = ap (stray_on h n ns) e ∙ ap (λ b. if b then first_stray h ns else Some n.0) f

-- a name that is held and does not fit is the first Stray one
pub stray-not : (h : List Op) (n : Identifier × Role) (ns : List (Identifier × Role)) (o : Op) → holder h n.0 ≡ Some o → fits n.1 o ≡ false → first_stray h (n ∷ ns) ≡ Some n.0
stray-not h n ns o e f = ap (stray_on h n ns) e ∙ ap (λ b. if b then first_stray h ns else Some n.0) f

-- a name that is not held is passed
pub stray-gone : (h : List Op) (n : Identifier × Role) (ns : List (Identifier × Role)) → holder h n.0 ≡ None → first_stray h (n ∷ ns) ≡ first_stray h ns
stray-gone h n ns e = ap (stray_on h n ns) e

-- a name is held by an operation that fits
abbrev pub Fits : List Op → Identifier × Role → Type 0
Fits h n = (o : Op) × (holder h n.0 ≡ Some o) × (fits n.1 o ≡ true)

-- where no name is Stray or missing, each is so
pub fit_each : (h : List Op) (ns : List (Identifier × Role)) → first_stray h ns ≡ None → first_missing h ns ≡ None → All (Fits h) ns
fit_each h [] a b = All-nil (Fits h)
fit_each h (n ∷ ns) a b =
    elim (cases_held (holder h n.0)) [
      | inl e ↦ absurd (not_some n.0 (sym (missing-gone h n ns e) ∙ b))
      | inr e ↦ elim (cases_Bool (fits n.1 e.0)) [
        | inl t ↦ All-cons (Fits h) n ns (e.0, e.1, t) (fit_each h ns (sym (stray-fits h n ns e.0 e.1 t) ∙ a) (sym (missing-held h n ns e.0 e.1) ∙ b))
        | inr t ↦ absurd (not_some n.0 (sym (stray-not h n ns e.0 e.1 t) ∙ a))
      ]
    ]

-- where each is so, no name is Stray or missing
pub all_fit : (h : List Op) (ns : List (Identifier × Role)) → All (Fits h) ns → (first_stray h ns ≡ None) × (first_missing h ns ≡ None)
all_fit h [] f = (refl, refl)
all_fit h (n ∷ ns) f =
    let o = All-head (Fits h) n ns f in
    let rest = all_fit h ns (All-tail (Fits h) n ns f) in
    (stray-fits h n ns o.0 o.1 o.2 ∙ rest.0, missing-held h n ns o.0 o.1 ∙ rest.1)

-- the first that does not fit, of one name more
pub stray-push : (h : List Op) (ns : List (Identifier × Role)) (n : Identifier × Role) → first_stray h (ns ++ n ∷ []) ≡ option_or (first_stray h ns) (first_stray h (n ∷ []))
stray-push h [] n = refl
stray-push h (m ∷ ns) n =
    elim (holder h m.0) as (λ o.
    (elim o [ None ↦ first_stray h (ns ++ n ∷ []) | Some op ↦ if fits m.1 op then first_stray h (ns ++ n ∷ []) else Some m.0 ])
    ≡ option_or (elim o [ None ↦ first_stray h ns | Some op ↦ if fits m.1 op then first_stray h ns else Some m.0 ]) (first_stray h (n ∷ []))) [
      | None ↦ stray-push h ns n
      | Some op ↦ elim (fits m.1 op) as (λ b.
          (if b then first_stray h (ns ++ n ∷ []) else Some m.0) ≡ option_or (if b then first_stray h ns else Some m.0) (first_stray h (n ∷ []))) [
            | true ↦ stray-push h ns n
            | false ↦ refl
          ]
    ]

-- the first that is not held, of one name more
pub missing-push : (h : List Op) (ns : List (Identifier × Role)) (n : Identifier × Role)
    → first_missing h (ns ++ n ∷ []) ≡ option_or (first_missing h ns) (first_missing h (n ∷ []))
missing-push h [] n = refl
missing-push h (m ∷ ns) n =
    elim (holder h m.0) as (λ o.
    (elim o [ None ↦ Some m.0 | Some op ↦ first_missing h (ns ++ n ∷ []) ]) ≡ option_or (elim o [ None ↦ Some m.0 | Some op ↦ first_missing h ns ]) (first_missing h (n ∷ []))) [
      | None ↦ refl
      | Some op ↦ missing-push h ns n
    ]

-- the operation and its identifier are new, and no named one is missing or does not fit
pub record IsReady (older : List Op) (op : Op) : Type 0 where
  pub absent : has_op older op ≡ false
  pub fresh : id_held older (id_of op) ≡ false
  pub none_stray : first_stray older (names op) ≡ None
  pub none_missing : first_missing older (names op) ≡ None

-- the last line decides only where no other applies
ready_line : (b c : Bool) (s m : Option Identifier) → first_line b c s m ≡ Ready → (b ≡ false) × (c ≡ false) × (s ≡ None) × (m ≡ None)
ready_line true c s m h = cc
ready_line false true s m h = cc
ready_line false false (Some i) m h = cc
ready_line false false None (Some i) h = cc
ready_line false false None None h = (refl, refl, refl, refl)

-- what the verdict Ready says
pub when_ready : (older : List Op) (op : Op) → verdict older op ≡ Ready → IsReady older op
unfolding verdict
when_ready older op h =
    let r = ready_line (has_op older op) (id_held older (id_of op)) (first_stray older (names op)) (first_missing older (names op)) h in
    record { absent = r.0; fresh = r.1; none_stray = r.2; none_missing = r.3 }

-- the role in which an operation names its origins, by where it stands
abbrev pub role_by : Option Place → Role
role_by o = elim o [ None ↦ Any | Some p ↦ role_in p ]

abbrev pub origin_role : Op → Role
origin_role op = role_by (place op)

abbrev place_by : Option (Place × Node) → Option Place
place_by o = elim o [ None ↦ None | Some e ↦ Some e.0 ]

-- what a Ready operation names is held and fits
pub ready_fits : (h : List Op) (op : Op) → IsReady h op → All (Fits h) (names op)
ready_fits h op w = fit_each h (names op) w.none_stray w.none_missing

-- so is what its element names
pub record ElementFits (h : List Op) (e : Place × Node) : Type 0 where
  pub home : All (Fits h) (home_names e.0)
  pub left : All (Fits h) (given_as (role_in e.0) e.1.left)
  pub right : All (Fits h) (given_as (role_in e.0) e.1.right)

pub element_ready : (h : List Op) (op : Op) (e : Place × Node) → IsReady h op → element op ≡ Some e → ElementFits h e
element_ready h op e w k =
    let lefts : List (Identifier × Role) = given_as (role_in e.0) e.1.left in
    let rights : List (Identifier × Role) = given_as (role_in e.0) e.1.right in
    let all : All (Fits h) (home_names e.0 ++ lefts ++ rights) = subst (All (Fits h)) (element_names op e k) (ready_fits h op w) in
    let front : All (Fits h) (home_names e.0 ++ lefts) = all_before (Fits h) (home_names e.0 ++ lefts) rights all in
    record {
      home = all_before (Fits h) (home_names e.0) lefts front;
      left = all_after (Fits h) (home_names e.0) lefts front;
      right = all_after (Fits h) (home_names e.0 ++ lefts) rights all;
    }

-- an origin among them
origin_fits : (h : List Op) (role : Role) (o : Option Identifier) (i : Identifier) → All (Fits h) (given_as role o) → o ≡ Some i → Fits h (i, role)
origin_fits h role o i f e = All-head (Fits h) (i, role) [] (subst (λ o. All (Fits h) (given_as role o)) e f)

-- its left origin
pub left_fits : (h : List Op) (op : Op) (l : Identifier) → IsReady h op → left_of op ≡ Some l → Fits h (l, origin_role op)
left_fits h op l w e = by_element (element op) refl e
  where
    by_element : (o : Option (Place × Node)) → element op ≡ o → (elim o [ None ↦ None | Some e ↦ e.1.left ]) ≡ Some l
        → Fits h (l, role_by (place_by o))
    by_element None k e = cc e
    by_element (Some n) k e = origin_fits h (role_in n.0) n.1.left l (element_ready h op n w k).left e

-- and its right origin
pub right_fits : (h : List Op) (op : Op) (r : Identifier) → IsReady h op → right_of op ≡ Some r → Fits h (r, origin_role op)
right_fits h op r w e = by_element (element op) refl e
  where
    by_element : (o : Option (Place × Node)) → element op ≡ o → (elim o [ None ↦ None | Some e ↦ e.1.right ]) ≡ Some r
        → Fits h (r, role_by (place_by o))
    by_element None k e = cc e
    by_element (Some n) k e = origin_fits h (role_in n.0) n.1.right r (element_ready h op n w k).right e

-- its origins are held
pub left_named : (h : List Op) (op : Op) (l : Identifier) → IsReady h op → left_of op ≡ Some l → IsHeld h l
left_named h op l w e = ap is_some (left_fits h op l w e).1

pub right_named : (h : List Op) (op : Op) (r : Identifier) → IsReady h op → right_of op ≡ Some r → IsHeld h r
right_named h op r w e = ap is_some (right_fits h op r w e).1

-- a new operation owns no held identifier
pub held_not_own : (op : Op) (older : List Op) (x : Identifier) → IsReady older op → IsHeld older x → is_own x op ≡ false
held_not_own op older x w p =
    false_from_ne_true _ (λ e. true≢false (sym p ∙ (sym (ap (id_held older) (own_id op x e)) ∙ w.fresh)))

-- the right origin of what a look-up found
abbrev pub right_by : Option Op → Option Identifier
right_by o = elim o [ None ↦ None | Some op ↦ right_of op ]

-- what all operations but the newest hold is held
held_further : (h : List Op) (r : Identifier) → IsHeld (older_of h) r → IsHeld h r
held_further [] r p = p
held_further (op ∷ older) r p = holds-older op older r p

-- a right origin is held by the operations before the newest
pub right_at_held : (h : List Op) (c r : Identifier) → Lawful h → right_at h c ≡ Some r → IsHeld (older_of h) r
right_at_held [] c r w e = cc
right_at_held (op ∷ older) c r w e =
    elim (cases_Bool (is_own c op)) [
      | inl o ↦ right_named older op r (when_ready older op w.0) (sym (ap right_by (holder-own op older c o)) ∙ e)
      | inr o ↦ held_further older r (right_at_held older c r w.1 (sym (ap right_by (holder-other op older c o)) ∙ e))
    ]

-- in a lawful history each operation is found by its own identifier
pub has-holder : (h : List Op) (i : Identifier) (op : Op) → Lawful h → has_op h op ≡ true → is_own i op ≡ true → holder h i ≡ Some op
has-holder [] i op w e k = absurd (false≢true e)
has-holder (o ∷ h) i op w e k =
    elim (or_cases (op_eq o op) (has_op h op) e) [
      | inl t ↦ let d : o ≡ op = op_eq-true o op t in holder-own o h i (ap (is_own i) d ∙ k) ∙ ap Some d
      | inr t ↦ let j = has-holder h i op w.1 t k in holder-other o h i (held_not_own o h i (when_ready h o w.0) (ap is_some j)) ∙ j
    ]

-- the first two of three tests, exchanged
pub swap_or : (a b c : Bool) → (a || (b || c)) ≡ (b || (a || c))
swap_or true true c = refl
swap_or true false c = refl
swap_or false b c = refl

-- a test, or none
or_none_right : (a : Bool) → (a || false) ≡ a
or_none_right true = refl
or_none_right false = refl

-- three tests
or_assoc : (a b c : Bool) → (a || (b || c)) ≡ ((a || b) || c)
or_assoc true b c = refl
or_assoc false b c = refl

-- an operation of two joined lists is one of the first or of the second
pub has-append : (a b : List Op) (x : Op) → has_op (a ++ b) x ≡ (has_op a x || has_op b x)
has-append [] b x = refl
has-append (o ∷ a) b x = ap (λ t. op_eq o x || t) (has-append a b x) ∙ or_assoc (op_eq o x) (has_op a x) (has_op b x)

-- a reversed list has the same operations
pub has-reverse : (ops : List Op) (x : Op) → has_op (reverse ops) x ≡ has_op ops x
has-reverse [] x = refl
has-reverse (o ∷ ops) x =
    ap (λ l. has_op l x) (reverse-append (o ∷ []) ops)
    ∙ has-append (reverse ops) (o ∷ []) x
    ∙ ap (λ t. t || (op_eq o x || false)) (has-reverse ops x)
    ∙ swap_or (has_op ops x) (op_eq o x) false
    ∙ ap (λ t. op_eq o x || t) (or_none_right (has_op ops x))

-- an empty history holds nothing
pub id_held-nil : (o : Option Identifier) → id_held [] o ≡ false
id_held-nil None = refl
id_held-nil (Some i) = refl

-- the members of a history are its operations
pub has_member : (h : List Op) (op : Op) → Contains h op → has_op h op ≡ true
has_member [] op m = absurd (contains_none op m)
has_member (o ∷ h) op m =
    elim (contains_cases o h op m) [
      | inl e ↦ ap (λ t. t || has_op h op) (ap (op_eq o) (sym e) ∙ op_eq-refl o)
      | inr k ↦ or_right (op_eq o op) (has_op h op) (has_member h op k)
    ]
