-- The turns of the way up two chains of left origins.
use Rattle.std.proofs.Common.{drop, take-append-drop, ◌≡◌, ◌≢◌, ◌⊎◌, inl, inr, ℕ, suc, ◌<◌, List, [], ◌∷◌, ◌++◌, length, take, min, reverse, ap, sym, subst, ◌∙◌, arith}
use Rattle.std.proofs.Common.{append_assoc}
use Rattle.std.specs.Prelude.{Some}
use Rattle.std.proofs.lemmas.List.{append-nil, length-reverse, length-take, reverse-append}
use Rattle.fugue_ids.specs.Identifiers.{Identifier}
use Rattle.fugue_ids.specs.declared.op.Op.{Op}
use Rattle.origin_model.specs.operations.History.{left_of}
use Rattle.origin_model.specs.operations.Verdict.{Lawful}
use Rattle.origin_model.proofs.SharedLemmas.{Lawful-append}
use Rattle.order_proof.specs.Certificates.{Chain}
use Rattle.order_proof.specs.Parting.{AreDowns, IsUnpassed, IsOneWay, IsPassedMember, PassedChains, age, nothing_passed, with_one, with_other}
unfoldable use Rattle.order_proof.specs.Parting.{passed_up}
use Rattle.order_proof.specs.Positions.{IsAtPosition, history_at}
use Rattle.order_proof.specs.declared.parting.Ascent.{Ascent}
use Rattle.order_proof.proofs.PassedLemmas.{as_of-short, passed_is_down, passed_is_other_down, passed-missing, passed-nothing, passed_turn-one, passed_turn-other}

long : (ops : List Op) (n : ℕ) → length (history_at ops n) ≡ min n (length ops)
long ops n = length-reverse (take n ops) ∙ length-take n ops

-- an operation at a later position has more operations up to it
pub newer_age : (ops : List Op) (below at place : ℕ) (y : Identifier) (op : Op) → IsAtPosition ops below y place op → at < place
    → suc (length (history_at ops at)) < age (history_at ops below) (Some y)
newer_age ops below at place y op there later =
    omega (arith, later, ap length there.newest, as_of-short (history_at ops below) y, long ops at, long ops place, long ops below)

module _ (ops : List Op) (below : ℕ) (one other : Ascent) (apart : one.next ≢ other.next) where
  pub way_of_one : (at : ℕ) (new : Ascent) → IsPassedMember ops below at one new other.next → IsOneWay ops below at one other new other
  way_of_one at new p =
      let rest : PassedChains = passed_up (history_at ops at) (left_of p.op) other.next in
      let now : passed_up (history_at ops at) new.next other.next ≡ rest = ap (λ o. passed_up (history_at ops at) o other.next) p.next in
      let turn : passed_up (history_at ops below) one.next other.next ≡ with_one (Some p.member) rest =
      ap (λ o. passed_up (history_at ops below) o other.next) p.next_is
      ∙ passed_turn-one (history_at ops below) p.member other.next p.op (history_at ops at) p.there.newest p.there.own (λ same. apart (p.next_is ∙ same)) p.newest in
      record {
        one_is = (λ i. p.passed i ++ (now i).one) ∙ append_assoc one.passed.items (p.member ∷ []) rest.one ∙ ap (λ t. one.passed.items ++ t.one) (sym turn);
        other_is = ap (λ t. other.passed.items ++ t.other) now ∙ ap (λ t. other.passed.items ++ t.other) (sym turn);
      }

  pub way_of_other : (at : ℕ) (same new : Ascent) → same ≡ one → IsPassedMember ops below at other new one.next → IsOneWay ops below at one other same new
  way_of_other at same new is p =
      let rest : PassedChains = passed_up (history_at ops at) one.next (left_of p.op) in
      let now : passed_up (history_at ops at) same.next new.next ≡ rest = (λ i. passed_up (history_at ops at) ((is i).next) (p.next i)) in
      let turn : passed_up (history_at ops below) one.next other.next ≡ with_other (Some p.member) rest =
      ap (passed_up (history_at ops below) one.next) p.next_is
      ∙ passed_turn-other (history_at ops below) p.member one.next p.op (history_at ops at) p.there.newest p.there.own (λ same. apart (sym (p.next_is ∙ same))) p.newest in
      record {
        one_is = (λ i. (is i).passed.items ++ (now i).one) ∙ ap (λ t. one.passed.items ++ t.one) (sym turn);
        other_is = (λ i. p.passed i ++ (now i).other) ∙ append_assoc other.passed.items (p.member ∷ []) rest.other ∙ ap (λ t. other.passed.items ++ t.other) (sym turn);
      }

  -- neither is there
  pub way_of_none : (same_one same_other : Ascent) → IsUnpassed (history_at ops below) one same_one other.next → IsUnpassed (history_at ops below) other same_other same_one.next
      → IsOneWay ops below 0 one other same_one same_other
  way_of_none same_one same_other p q =
      let h : List Op = history_at ops below in
      let rival : (age h other.next ≡ 0) ⊎ (age h other.next < age h one.next) = subst (λ (a : Ascent). (age h other.next ≡ 0) ⊎ (age h other.next < age h a.next)) p.same q.why in
      let none : (age h one.next ≡ 0) × (age h other.next ≡ 0) = elim p.why [
        | inl e ↦ elim rival [ inl f ↦ (e, f) | inr f ↦ absurd (omega (arith, e, f)) ]
        | inr e ↦ elim rival [ inl f ↦ absurd (omega (arith, e, f)) | inr f ↦ absurd (omega (arith, e, f)) ]
      ] in
      let was : passed_up h one.next other.next ≡ nothing_passed = passed-missing h one.next other.next none.0 none.1 in
      let now : passed_up (history_at ops 0) same_one.next same_other.next ≡ nothing_passed = passed-nothing same_one.next same_other.next in
      record {
        one_is = (λ i. (p.same i).passed.items ++ (now i).one) ∙ ap (λ t. one.passed.items ++ t.one) (sym was);
        other_is = (λ i. (q.same i).passed.items ++ (now i).other) ∙ ap (λ t. other.passed.items ++ t.other) (sym was);
      }

lawful_first : (ops : List Op) (n : ℕ) → Lawful (reverse ops) → Lawful (history_at ops n)
lawful_first ops n w =
    Lawful-append (reverse (drop n ops)) (history_at ops n)
    (subst Lawful (ap reverse (sym (take-append-drop n ops)) ∙ reverse-append (take n ops) (drop n ops)) w)

-- so far the way goes on from there
pub record IsOnWay (ops : List Op) (end : ℕ) (x y : Identifier) (below : ℕ) (one other : Ascent) : Type 0 where
  pub one_is : one.passed.items ++ (passed_up (history_at ops below) one.next other.next).one ≡ (passed_up (history_at ops end) (Some x) (Some y)).one
  pub other_is : other.passed.items ++ (passed_up (history_at ops below) one.next other.next).other ≡ (passed_up (history_at ops end) (Some x) (Some y)).other

module _ (ops : List Op) (end : ℕ) (x y : Identifier) where
  pub way_begins : (one other : Ascent) → one.passed.items ≡ [] → one.next ≡ Some x → other.passed.items ≡ [] → other.next ≡ Some y → IsOnWay ops end x y end one other
  way_begins one other e f p q = record {
    one_is = (λ i. e i ++ (passed_up (history_at ops end) (f i) (q i)).one);
    other_is = (λ i. p i ++ (passed_up (history_at ops end) (f i) (q i)).other);
  }

  pub way_goes_on : (below at : ℕ) (one other new_one new_other : Ascent) → IsOnWay ops end x y below one other → IsOneWay ops below at one other new_one new_other
      → IsOnWay ops end x y at new_one new_other
  way_goes_on below at one other new_one new_other w s = record { one_is = s.one_is ∙ w.one_is; other_is = s.other_is ∙ w.other_is }

  pub way_ends : (below : ℕ) (one other : Ascent) → Lawful (reverse ops) → IsOnWay ops end x y below one other
      → passed_up (history_at ops below) one.next other.next ≡ nothing_passed → (down_x down_y : Chain) → down_x ≡ reverse one.passed.items → down_y ≡ reverse other.passed.items
      → AreDowns (history_at ops end) x y down_x down_y
  way_ends below one other w way none down_x down_y e f =
      let h : List Op = history_at ops end in
      let lawful : Lawful h = lawful_first ops end w in
      record {
        of_x = e ∙ ap reverse (sym (append-nil one.passed.items) ∙ ap (λ t. one.passed.items ++ t.one) (sym none) ∙ way.one_is) ∙ passed_is_down h lawful x y;
        of_y = f ∙ ap reverse (sym (append-nil other.passed.items) ∙ ap (λ t. other.passed.items ++ t.other) (sym none) ∙ way.other_is) ∙ passed_is_other_down h lawful x y;
      }
