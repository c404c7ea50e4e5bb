-- The set of the operations fixes the arrangement, the headings and the text of both.
use Rattle.std.proofs.Common.{Bool, List, [], ap, inl, inr, not, refl, subst, sym, true, ℕ, ◌&&◌, ◌++◌, ◌∙◌, ◌∷◌, ◌≡◌}
use Rattle.std.specs.Prelude.{None, Option, Some, codes, filter, flat_map, is_some, option_map}
use Rattle.std.specs.List.{All, Contains}
use Rattle.std.specs.Str.{encode_utf8_all}
use Rattle.std.proofs.lemmas.Bool.{and_from, and_parts, cases_Bool, false≢true, or_cases}
use Rattle.fugue_ids.specs.Identifiers.{Identifier, id_eq}
use Rattle.fugue_ids.specs.Ops.{id_of, op_eq}
use Rattle.fugue_ids.specs.declared.op.Op.{Op}
use Rattle.fugue_ids.specs.declared.op.Op.TheVariants.{Delete, Note, Section, Text}
use Rattle.fugue_ids.proofs.IdentifierLemmas.{id_eq-refl}
use Rattle.fugue_ids.proofs.ListLemmas.{contains_filter, contains_filter_from}
use Rattle.fugue_ids.proofs.OpLemmas.{op_eq-true}
use Rattle.origin_model.specs.declared.operations.Place.{Place}
use Rattle.origin_model.specs.declared.operations.Place.TheVariants.{Catalogue as catalogue, Section as within_section}
use Rattle.origin_model.specs.declared.operations.Role.TheVariants.{Section as SectionRole}
use Rattle.origin_model.specs.operations.History.{has_op, holder, holds, is_own}
use Rattle.origin_model.specs.operations.Verdict.{Lawful, fits, names}
use Rattle.origin_model.specs.order.Laws.{IsIn, IsPartOf}
use Rattle.origin_model.specs.order.Order.{before, order}
use Rattle.origin_model.specs.order.Printed.{is_hidden, scalar_of, shown, title_of}
use Rattle.origin_model.proofs.SharedLemmas.{Fits, found, has-holder, hidden-has, holder-has, holder-own, order_total, parts_keep_order, Within-part}
use Rattle.catalogue_notes.specs.Arranged.{arranged, counts, heading, winner}
use Rattle.catalogue_notes.specs.Arranged.{arranged_text}
use Rattle.catalogue_notes.specs.Claims.{Claim, Move, move_in, retitle_in}
use Rattle.catalogue_notes.specs.Laws.{ArrangedBySet, LiftedOrderStays}
use Rattle.catalogue_notes.specs.Lift.{as_section, claims, is_section, is_valid_title, lift, lifted_of, moves, passing, retitles, is_present}
use Rattle.catalogue_notes.proofs.ArrangedLemmas.{move_test, position_by}
use Rattle.catalogue_notes.proofs.ClaimLemmas.{best-same, claim_found, found_claim, one_claim}
use Rattle.catalogue_notes.proofs.HolderLemmas.{Joins, cases_option, holder-kept, is_section-held, joins, not_both, same_value, section_held}
use Rattle.catalogue_notes.proofs.LiftLemmas.{holder-lift, is_lifted, lift-nil, lift-none, lift-other, lift-some, lift_lawful, lifted-kept, lifted_from, lifted_to, map_from}
use Rattle.catalogue_notes.proofs.LiftLemmas.{move-kept, order_held, passing_from, passing_to, shape}
use Rattle.catalogue_notes.proofs.PartLemmas.{filter_full}
use Rattle.catalogue_notes.proofs.RetitleLemmas.{title-kept, title_shape}

-- what a finds, b finds
abbrev IsWithin : List Op → List Op → Type 0
IsWithin a b = (x : Identifier) (e : Op) → holder a x ≡ Some e → holder b x ≡ Some e

-- options that are there alike are equal
same_option : {X : Type 0} → (o q : Option X) → ((x : X) → o ≡ Some x → q ≡ Some x) → ((x : X) → q ≡ Some x → o ≡ Some x) → o ≡ q
same_option None None f g = refl
same_option None (Some x) f g = g x refl
same_option (Some x) q f g = sym (f x refl)

-- what is lifted of a part is lifted of the whole
is_present-within : (g k : List Op) (o : Option Identifier) → ((x : Identifier) (op : Op) → holder g x ≡ Some op → holder k x ≡ Some op) → is_present g o ≡ true
    → is_present k o ≡ true
is_present-within g k None f t = refl
is_present-within g k (Some x) f t = let r = found (holder g x) t in ap is_some (f x r.0 r.1)

section-within : (a b : List Op) (s : Identifier) → IsWithin a b → is_section a s ≡ true → is_section b s ≡ true
section-within a b s f t = let r = section_held a s t in is_section-held b s r.0 (f s r.0 r.1) r.2

valid-within : (a b : List Op) (m : Move) → IsWithin a b → ((x : Identifier) (op : Op) → holder (lift a) x ≡ Some op → holder (lift b) x ≡ Some op) → move_test a m ≡ true
    → move_test b m ≡ true
valid-within a b m f g t =
    let p = and_parts (is_section a m.section) (is_present (lift a) m.value.left && is_present (lift a) m.value.right) t in
    let q = and_parts (is_present (lift a) m.value.left) (is_present (lift a) m.value.right) p.1 in
    and_from (is_section b m.section) (is_present (lift b) m.value.left && is_present (lift b) m.value.right) (section-within a b m.section f p.0)
    (and_from (is_present (lift b) m.value.left) (is_present (lift b) m.value.right) (is_present-within (lift a) (lift b) m.value.left g q.0)
    (is_present-within (lift a) (lift b) m.value.right g q.1))

lifted-within : (a b : List Op) (e : Op) (op : Op) → IsWithin a b → ((x : Identifier) (op : Op) → holder (lift a) x ≡ Some op → holder (lift b) x ≡ Some op)
    → lifted_of a (lift a) e ≡ Some op → lifted_of b (lift b) e ≡ Some op
lifted-within a b (Section i l r t) op f g k = k
lifted-within a b (Text i s l r c) op f g k = k
lifted-within a b (Delete i) op f g k = k
lifted-within a b (Note id named code body) op f g k =
    let n : Op = Note id named code body in
    let r = map_from as_section (passing (move_test a) (move_in n)) op k in
    let p = passing_from (move_test a) (move_in n) r.0 r.1 in
    ap (option_map as_section) (passing_to (move_test b) (move_in n) r.0 p.0 (valid-within a b r.0 f g p.1)) ∙ ap Some r.2

lift-within : (a b : List Op) → Lawful a → Lawful b → IsWithin a b → (x : Identifier) (op : Op) → holder (lift a) x ≡ Some op → holder (lift b) x ≡ Some op
lift-within [] b v w f x op k = absurd (not_both (holder (lift []) x) op (holder-lift [] x v) k)
lift-within (e ∷ a) b v w f x op k =
    let g : IsWithin a b = λ i z j. f i z (holder-kept e z a i (joins a e v.0) j) in
    let rest = lift-within a b v.1 w g in
    elim (cases_Bool (is_own x e)) [
      | inl t ↦
          let q = lifted_from (e ∷ a) x op v k in
          let d : e ≡ q.0 = same_value (holder (e ∷ a) x) e q.0 (holder-own e a x t) q.1 in
          let own : lifted_of a (lift a) e ≡ Some op = sym (lifted-same e a v) ∙ ap (lifted_of (e ∷ a) (lift (e ∷ a))) d ∙ q.2 in
          lifted_to b x e op w (f x e (holder-own e a x t)) (lifted-within a b e op g rest own)
      | inr t ↦ rest x op (sym (lift-other e a x t) ∙ k)
    ]
  where
    lifted-same : (e : Op) (a : List Op) → Lawful (e ∷ a) → lifted_of (e ∷ a) (lift (e ∷ a)) e ≡ lifted_of a (lift a) e
    lifted-same e a v = lifted-kept e a e (joins a e v.0) (joins a e v.0).fit

-- a list of Sections
abbrev AreSections : List Op → Type 0
AreSections g = (op : Op) → has_op g op ≡ true → fits SectionRole op ≡ true

-- a Section has an identifier
section_own : (op : Op) → fits SectionRole op ≡ true → (x : Identifier) × (is_own x op ≡ true)
section_own (Section i l r t) k = (i, id_eq-refl i)
section_own (Text i s l r c) k = absurd (false≢true k)
section_own (Delete i) k = absurd (false≢true k)
section_own (Note i ns c b) k = absurd (false≢true k)

part : (g k : List Op) → Lawful g → AreSections g → ((x : Identifier) (op : Op) → holder g x ≡ Some op → holder k x ≡ Some op) → IsPartOf g k
part g k v s f op t = let x = section_own op (s op t) in holder-has k x.0 op (f x.0 op (has-holder g x.0 op v t x.1))

-- two lawful lists of Sections that find the same have one order
one_order : (g k : List Op) → Lawful g → Lawful k → AreSections g → ((x : Identifier) → holder g x ≡ holder k x) → order catalogue g ≡ order catalogue k
one_order g k v w s f =
    (parts_keep_order catalogue g k v w (part g k v s (λ x op q. sym (f x) ∙ q))).same_order
    ∙ filter_all (order catalogue k) (λ x m. let q = order_held k x w m in ap is_some (f x ∙ q.1))
  where
    filter_all : (xs : List Identifier) → ((x : Identifier) → Contains xs x → holds g x ≡ true) → filter (holds g) xs ≡ xs
    filter_all xs all = filter_full (holds g) xs all

-- all that is lifted are Sections
has_lifted : (h : List Op) → AreSections (lift h)
has_lifted [] op k = absurd (false≢true (sym (ap (λ g. has_op g op) lift-nil) ∙ k))
has_lifted (e ∷ h) op k =
    elim (cases_option (lifted_of h (lift h) e)) [
      | inl n ↦ has_lifted h op (sym (ap (λ g. has_op g op) (lift-none e h n)) ∙ k)
      | inr o ↦ elim (or_cases (op_eq o.0 op) (has_op (lift h) op) (sym (ap (λ g. has_op g op) (lift-some e h o.0 o.1)) ∙ k)) [
        | inl t ↦ subst (λ z. fits SectionRole z ≡ true) (op_eq-true o.0 op t) (is_lifted h (lift h) e o.0 o.1).fit
        | inr t ↦ has_lifted h op t
      ]
    ]

-- what is lifted of a part stands in the order of the whole
pub lifted_order_stays : LiftedOrderStays
lifted_order_stays a b v w f =
    (parts_keep_order catalogue (lift a) (lift b) (lift_lawful a v) (lift_lawful b w)
    (part (lift a) (lift b) (lift_lawful a v) (has_lifted a) (lift-within a b v w (Within-part a b w f)))).same_order

-- and two of its elements stand so in the whole as in the part
pub lifted_before_stays : (a b : List Op) → Lawful a → Lawful b → IsPartOf a b → (x y : Identifier) → IsIn catalogue (lift a) x → IsIn catalogue (lift a) y
    → before catalogue (lift a) x y ≡ before catalogue (lift b) x y
lifted_before_stays a b v w f =
    (parts_keep_order catalogue (lift a) (lift b) (lift_lawful a v) (lift_lawful b w)
    (part (lift a) (lift b) (lift_lawful a v) (has_lifted a) (lift-within a b v w (Within-part a b w f)))).same_before

-- the same claims are valid, where the tests agree on what is holder
module _ {V : Type 0} (says : Op → Option (Claim V)) (test : List Op → Claim V → Bool)
    (own : (e : Op) (c : Claim V) → says e ≡ Some c → id_of e ≡ Some c.id)
    (kept : (e : Op) (h : List Op) (f : Op) → Joins h e → All (Fits h) (names f) → passing (test (e ∷ h)) (says f) ≡ passing (test h) (says f)) where
  claims_within : (a b : List Op) → Lawful a → Lawful b → IsWithin a b → ((c : Claim V) → test a c ≡ true → test b c ≡ true) → (c : Claim V) → Contains (claims says test a) c
      → Contains (claims says test b) c
  claims_within a b v w f t c m =
      let r = claim_found says test own kept a c v m in
      let p = passing_from (test a) (says r.0) c r.2 in
      found_claim says test own kept b c.id r.0 c w (f c.id r.0 r.1) (passing_to (test b) (says r.0) c p.0 (t c p.1))

  winner-same : (a b : List Op) → Lawful a → Lawful b → IsWithin a b → IsWithin b a → ((c : Claim V) → test a c ≡ true → test b c ≡ true)
      → ((c : Claim V) → test b c ≡ true → test a c ≡ true)
      → ((x : Identifier) → is_hidden a x ≡ is_hidden b x) → (s : Identifier) → winner a s (claims says test a) ≡ winner b s (claims says test b)
  winner-same a b v w f g t u hid s =
      let agree : (c : Claim V) → counts a s c ≡ counts b s c = λ c. ap (λ z. id_eq c.section s && not z) (hid c.id) in
      best-same (filter (counts a s) (claims says test a)) (filter (counts b s) (claims says test b))
      (λ c m. let r = contains_filter_from (counts a s) (claims says test a) c m in
      contains_filter (counts b s) (claims says test b) c (claims_within a b v w f t c r.0) (sym (agree c) ∙ r.1))
      (λ c m. let r = contains_filter_from (counts b s) (claims says test b) c m in
      contains_filter (counts a s) (claims says test a) c (claims_within b a w v g u c r.0) (agree c ∙ r.1))
      (λ c d m n. one_claim says test own kept a c d v (contains_filter_from (counts a s) (claims says test a) c m).0
      (contains_filter_from (counts a s) (claims says test a) d n).0)

-- an order is that of a history with the same operations
order_same : (p : Place) (a b : List Op) → Lawful a → Lawful b → IsPartOf a b → ((x : Identifier) → holder a x ≡ holder b x) → order p a ≡ order p b
order_same p a b v w f all =
    (parts_keep_order p a b v w f).same_order
    ∙ filter_full (holds a) (order p b) (λ x m. let i = ((order_total p b w).lists x).1 m in ap is_some (all x ∙ i.held))

-- the text of the arrangement, by what it is made of
abbrev text_from : List Identifier → (Identifier → List ℕ) → (Identifier → Option Op) → (Identifier → List Identifier) → List ℕ
text_from listed head hold elements =
    flat_map (λ s. codes "# " ++ encode_utf8_all (head s) ++ 10 ∷ encode_utf8_all (flat_map (λ x. scalar_of (hold x)) (elements s)) ++ 10 ∷ []) listed

arranged_text-from : (h : List Op) → arranged_text h ≡ text_from (arranged h) (heading h) (holder h) (λ s. shown (within_section s) h)
unfolding arranged_text
arranged_text-from h = refl

-- the set of the operations fixes the arrangement, the headings and the text
pub arranged_by_set : ArrangedBySet
arranged_by_set a b v w same =
    let into : IsPartOf a b = λ op k. sym (same op) ∙ k in
    let back : IsPartOf b a = λ op k. same op ∙ k in
    let f : IsWithin a b = Within-part a b w into in
    let g : IsWithin b a = Within-part b a v back in
    let all : (x : Identifier) → holder a x ≡ holder b x = λ x. same_option (holder a x) (holder b x) (f x) (g x) in
    let hid : (x : Identifier) → is_hidden a x ≡ is_hidden b x = λ x. hidden-has a x ∙ same (Delete x) ∙ sym (hidden-has b x) in
    let up = lift-within a b v w f in
    let down = lift-within b a w v g in
    let held : (x : Identifier) → holder (lift a) x ≡ holder (lift b) x = λ x. same_option (holder (lift a) x) (holder (lift b) x) (up x) (down x) in
    let lifted : order catalogue (lift a) ≡ order catalogue (lift b) = one_order (lift a) (lift b) (lift_lawful a v) (lift_lawful b w) (has_lifted a) held in
    let visible : (p : Place) → shown p a ≡ shown p b = λ p. λ i. filter (λ s. not (hid s i)) (order_same p a b v w into all i) in
    let moved : (s : Identifier) → winner a s (moves a) ≡ winner b s (moves b) =
    winner-same move_in move_test (λ e m k. (shape e m k).own) move-kept a b v w f g (λ m. valid-within a b m f up) (λ m. valid-within b a m g down) hid in
    let titled : (s : Identifier) → winner a s (retitles a) ≡ winner b s (retitles b) =
    winner-same retitle_in is_valid_title (λ e r k. (title_shape e r k).own) title-kept a b v w f g (λ r. section-within a b r.section f)
    (λ r. section-within b a r.section g) hid in
    let listed : arranged a ≡ arranged b = λ i. flat_map (λ x. filter (λ s. id_eq (position_by s (moved s i)) x) (visible catalogue i)) (lifted i) in
    let head : (s : Identifier) → heading a s ≡ heading b s = λ s. λ i. elim (titled s i) [ None ↦ title_of (all s i) | Some r ↦ r.value ] in
    record {
      same_arranged = listed;
      same_headings = head;
      same_text =
          arranged_text-from a
          ∙ (λ i. text_from (listed i) (λ s. head s i) (λ x. all x i) (λ s. visible (within_section s) i))
          ∙ sym (arranged_text-from b);
    }
