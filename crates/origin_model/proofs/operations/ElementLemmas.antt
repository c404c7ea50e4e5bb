-- The elements that operations make: their identifiers, their places and what they name.
use Rattle.origin_model.proofs.Words.{Identifier, List, None, Op, Option, Place, Role, Section, SectionRole, Some, Text, TextOf, Delete, Note, [], ap, cases_Bool, catalogue}
use Rattle.origin_model.proofs.Words.{element_of, false, false≢true, fits, given_as, id_eq-refl, id_eq-true, id_of, if◌then◌else◌, inl, inr, is_own, names, not_some, origin_eq}
use Rattle.origin_model.proofs.Words.{place_eq, refl, sym, true, within, ◌++◌, ◌∙◌, ◌∷◌, ◌≡◌, ◌≢◌}
use Rattle.origin_model.specs.declared.operations.node.Node.{Node}
use Rattle.origin_model.specs.operations.History.{element, place, stands_at}

-- the element has the operation's own identifier
pub element_id : (op : Op) (e : Place × Node) → element op ≡ Some e → id_of op ≡ Some e.1.id
element_id (Section i l r t) e k = ap (λ (o : Option (Place × Node)). elim o [ None ↦ None | Some e ↦ Some e.1.id ]) k
element_id (Text i s l r c) e k = ap (λ (o : Option (Place × Node)). elim o [ None ↦ None | Some e ↦ Some e.1.id ]) k
element_id (Delete i) e k = cc k
element_id (Note i ns c b) e k = cc k

-- the role in which the elements of a place name their origins
abbrev pub role_in : Place → Role
role_in catalogue = SectionRole
role_in (within s) = TextOf s

-- what the elements of a place name before their origins: a text names its section
abbrev pub home_names : Place → List (Identifier × Role)
home_names catalogue = []
home_names (within s) = (s, SectionRole) ∷ []

abbrev names_by : Option (Place × Node) → List (Identifier × Role)
names_by None = []
names_by (Some e) = home_names e.0 ++ given_as (role_in e.0) e.1.left ++ given_as (role_in e.0) e.1.right

-- what an element names
pub element_names : (op : Op) (e : Place × Node) → element op ≡ Some e → names op ≡ home_names e.0 ++ given_as (role_in e.0) e.1.left ++ given_as (role_in e.0) e.1.right
element_names (Section i l r t) e k = ap names_by k
element_names (Text i s l r c) e k = ap names_by k
element_names (Delete i) e k = cc k
element_names (Note i ns c b) e k = cc k

pub place_eq-true : (q p : Place) → place_eq q p ≡ true → q ≡ p
place_eq-true catalogue catalogue h = refl
place_eq-true catalogue (within t) h = absurd (false≢true h)
place_eq-true (within s) catalogue h = absurd (false≢true h)
place_eq-true (within s) (within t) h = ap within (id_eq-true s t h)

pub place_eq-refl : (p : Place) → place_eq p p ≡ true
place_eq-refl catalogue = refl
place_eq-refl (within s) = id_eq-refl s

-- an operation that stands in a place has an element there
pub element_there : (op : Op) (p : Place) → place op ≡ Some p → (e : Place × Node) × (element op ≡ Some e) × (e.0 ≡ p)
element_there op p k = by_element (element op) refl k
  where
    by_element : (o : Option (Place × Node)) → element op ≡ o → (elim o [ None ↦ None | Some e ↦ Some e.0 ]) ≡ Some p → (e : Place × Node) × (element op ≡ Some e) × (e.0 ≡ p)
    by_element None e k = cc k
    by_element (Some n) e k = (n, e, cc k)

-- and stands there alone
pub stands_place : (op : Op) (p : Place) → stands_at p op ≡ true → place op ≡ Some p
stands_place op p = by_place (place op)
  where
    by_place : (o : Option Place) → (elim o [ None ↦ false | Some q ↦ place_eq q p ]) ≡ true → o ≡ Some p
    by_place None k = absurd (false≢true k)
    by_place (Some q) k = ap Some (place_eq-true q p k)

pub place_stands : (op : Op) (p : Place) → place op ≡ Some p → stands_at p op ≡ true
place_stands op p k = ap (λ (o : Option Place). elim o [ None ↦ false | Some q ↦ place_eq q p ]) k ∙ place_eq-refl p

-- the element of an operation stands in the place, and has the operation's own identifier
pub element_stands : (p : Place) (op : Op) (x : Identifier) → element_of p op ≡ Some x → (place op ≡ Some p) × (id_of op ≡ Some x)
element_stands p op x e =
    elim (cases_Bool (stands_at p op)) [
      | inl s ↦ (stands_place op p s, sym (ap (λ b. if b then id_of op else None) s) ∙ e)
      | inr n ↦ absurd (not_some x (sym e ∙ ap (λ b. if b then id_of op else None) n))
    ]

-- an operation that stands in the place adds its element there
pub stands_element : (p : Place) (op : Op) → place op ≡ Some p → element_of p op ≡ id_of op
stands_element p op k = ap (λ b. if b then id_of op else None) (place_stands op p k)

pub element_own : (p : Place) (op : Op) (x : Identifier) → element_of p op ≡ Some x → is_own x op ≡ true
element_own p op x e = ap (λ o. origin_eq o (Some x)) (element_stands p op x e).1 ∙ id_eq-refl x

-- an element stands in one place
pub one_place : (p q : Place) (op : Op) (x y : Identifier) → element_of p op ≡ Some x → element_of q op ≡ Some y → q ≡ p
one_place p q op x y e f = cc ((element_stands p op x e).0, (element_stands q op y f).0)

-- and in no other
pub none_elsewhere : (p q : Place) (op : Op) (x : Identifier) → element_of p op ≡ Some x → q ≢ p → element_of q op ≡ None
none_elsewhere p q op x e apart = by_element (element_of q op) refl
  where
    by_element : (o : Option Identifier) → element_of q op ≡ o → o ≡ None
    by_element None k = refl
    by_element (Some y) k = absurd (apart (one_place p q op x y e k))

-- what fits as an origin of the place's elements stands there
pub fits_place : (p : Place) (op : Op) → fits (role_in p) op ≡ stands_at p op
fits_place catalogue op = refl
fits_place (within s) op = refl

pub fits_element : (p : Place) (op : Op) → fits (role_in p) op ≡ true → element_of p op ≡ id_of op
fits_element p op h = stands_element p op (stands_place op p (sym (fits_place p op) ∙ h))

pub element_fits : (p : Place) (op : Op) (x : Identifier) → element_of p op ≡ Some x → fits (role_in p) op ≡ true
element_fits p op x e = fits_place p op ∙ place_stands op p (element_stands p op x e).0
