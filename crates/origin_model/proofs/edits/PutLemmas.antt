-- Elements of a put, and a section that is added: each is Ready in its turn, and they land directly after the left
-- origin, in the order in which they are made.
use Rattle.origin_model.proofs.Words.{All-append, names, All, All-cons, All-nil, AllPairs, Bool, Identifier, IsIn, Lawful, List, None, Op, Option, Place, Ready, Section}
use Rattle.origin_model.proofs.Words.{SectionRole, Some, Text, TextOf, [], ap, append-nil, append_assoc, arith, catalogue, contains_filter_from, drop, element_of, false}
use Rattle.origin_model.proofs.Words.{false_from_ne_true, filter, filter-append, given_as, has_op, holds, id_eq-refl, id_of, if◌then◌else◌, is_hidden, is_own, is_some, length}
use Rattle.origin_model.proofs.Words.{ne-id_eq, not, order, origin_eq, refl, shown, slice_get, subst, suc, sym, take, true, true≢false, verdict, within, ℕ, ◌++◌, ◌+◌, ◌∙◌, ◌∷◌}
use Rattle.origin_model.proofs.Words.{◌≡◌, ◌≢◌, ◌≤◌}
use Rattle.origin_model.proofs.operations.CauseLemmas.{becomes_ready}
use Rattle.origin_model.proofs.operations.LookupLemmas.{Fits, all_fit, has-holder, holds-other, when_ready}
use Rattle.origin_model.proofs.operations.ElementLemmas.{element_fits, none_elsewhere, role_in}
use Rattle.origin_model.proofs.operations.FoundedLemmas.{not_hidden_before}
use Rattle.origin_model.proofs.order.{IsIn-older, Stands, order-member, order-none, order_total}
use Rattle.origin_model.specs.edits.Edits.{Add, IsEdit, Put, ReadyInTurn, history_with, id_at, left_for, made, next_counter, put_in, right_for, typed_texts, typed_ids}
use Rattle.origin_model.specs.edits.Landing.{StandsAfter, following, first_after}
use Rattle.fugue_ids.specs.Listed.{last_before}
use Rattle.origin_model.proofs.edits.FreshIdLemmas.{NoneFrom, history_below, none_from}
use Rattle.origin_model.proofs.edits.LandsBehindLemmas.{lands_behind}
use Rattle.origin_model.proofs.edits.SplitLemmas.{is_shown, Split, end_push, end_stands, filter_all, following_end, get_in, head_stands, split, split_origin}

-- an element of the place fits
one_fit : (p : Place) (h : List Op) (x : Identifier) → IsIn p h x → All (Fits h) ((x, role_in p) ∷ [])
one_fit p h x m = All-cons (Fits h) (x, role_in p) [] (m.op, m.held, element_fits p m.op x m.place) (All-nil (Fits h))

-- an origin that stands in the order fits
origin_fit : (p : Place) (h : List Op) (o : Option Identifier) → Lawful h → Stands o (order p h) → All (Fits h) (given_as (role_in p) o)
origin_fit p h None w s = All-nil (Fits h)
origin_fit p h (Some x) w s = one_fit p h x (order-member p h x w s)

-- a new identifier is no operation's
pub new_op : (h : List Op) (op : Op) (x : Identifier) → Lawful h → id_of op ≡ Some x → is_own x op ≡ true → holds h x ≡ false → has_op h op ≡ false
new_op h op x w e o k = false_from_ne_true _ (λ t. true≢false (sym (ap is_some (has-holder h x op w t o)) ∙ k))

-- a text between origins of its section is Ready
text_ready : (h : List Op) (x s : Identifier) (l r : Option Identifier) (ch : ℕ) → Lawful h → holds h x ≡ false → IsIn catalogue h s → Stands l (order (within s) h)
    → Stands r (order (within s) h)
    → verdict h (Text x s l r ch) ≡ Ready
text_ready h x s l r ch w k m a b =
    let first = All-append (Fits h) ((s, SectionRole) ∷ []) (given_as (TextOf s) l) (one_fit catalogue h s m) (origin_fit (within s) h l w a) in
    let f = all_fit h (names (Text x s l r ch)) (All-append (Fits h) ((s, SectionRole) ∷ given_as (TextOf s) l) (given_as (TextOf s) r) first (origin_fit (within s) h r w b)) in
    becomes_ready h (Text x s l r ch) (new_op h (Text x s l r ch) x w refl (id_eq-refl x) k) k f.0 f.1

-- a section between sections is Ready
section_ready : (h : List Op) (x : Identifier) (l r : Option Identifier) (t : List ℕ) → Lawful h → holds h x ≡ false → Stands l (order catalogue h) → Stands r (order catalogue h)
    → verdict h (Section x l r t) ≡ Ready
section_ready h x l r t w k a b =
    let f = all_fit h (names (Section x l r t))
    (All-append (Fits h) (given_as SectionRole l) (given_as SectionRole r) (origin_fit catalogue h l w a) (origin_fit catalogue h r w b)) in
    becomes_ready h (Section x l r t) (new_op h (Section x l r t) x w refl (id_eq-refl x) k) k f.0 f.1

-- what operations that are elements of one place do
record Landed (p : Place) (h ops : List Op) (ids front back : List Identifier) : Type 0 where
  ready : ReadyInTurn h ops
  lawful : Lawful (history_with h ops)
  after : order p (history_with h ops) ≡ front ++ ids ++ back
  hidden : (x : Identifier) → is_hidden (history_with h ops) x ≡ is_hidden h x
  elsewhere : (q : Place) → q ≢ p → order q (history_with h ops) ≡ order q h

-- a text is an element of its section
pub text_here : (x s : Identifier) (l r : Option Identifier) (ch : ℕ) → element_of (within s) (Text x s l r ch) ≡ Some x
text_here x s l r ch = ap (λ b. if b then Some x else None) (id_eq-refl s)

-- the next identifiers are new once one is taken
none_next : (r c : ℕ) (h : List Op) (op : Op) → id_of op ≡ Some (id_at r c) → NoneFrom r c h → NoneFrom r (suc c) (op ∷ h)
none_next r c h op e none n k =
    let apart : id_at r c ≢ id_at r n = λ d. let z : c ≡ n = ap (λ i. i.counter) d in omega (arith, z, k) in
    holds-other op h (id_at r n) (ap (λ o. origin_eq o (Some (id_at r n))) e ∙ ne-id_eq (id_at r c) (id_at r n) apart)
    ∙ none n (omega (arith, k))

-- texts that are typed land in their order
typing : (chs : List ℕ) (r c : ℕ) (s : Identifier) (h : List Op) (left right : Option Identifier) (front back : List Identifier)
    → Lawful h → IsIn catalogue h s → NoneFrom r c h → order (within s) h ≡ front ++ back → left ≡ last_before front → right ≡ first_after back
    → Landed (within s) h (typed_texts r c s left right chs) (typed_ids r c chs) front back
typing [] r c s h left right front back w m none o a b =
    record { ready = tt; lawful = w; after = o ∙ ap (λ f. f ++ back) (sym (append-nil front)); hidden = λ x. refl; elsewhere = λ q n. refl }
typing (ch ∷ chs) r c s h left right front back w m none o a b =
    let p : Place = within s in
    let x : Identifier = id_at r c in
    let op : Op = Text x s left right ch in
    let fresh : holds h x ≡ false = none c (omega arith) in
    let sl : Stands left (order p h) = subst (Stands left) (sym o) (subst (λ z. Stands z (front ++ back)) (sym a) (end_stands front back)) in
    let sr : Stands right (order p h) = subst (Stands right) (sym o) (subst (λ z. Stands z (front ++ back)) (sym b) (head_stands front back)) in
    let ready : verdict h op ≡ Ready = text_ready h x s left right ch w fresh m sl sr in
    let lands : order p (op ∷ h) ≡ front ++ x ∷ back = lands_behind p op h x front back (ready, w) (text_here x s left right ch) o a b in
    let rest = typing chs r (suc c) s (op ∷ h) (Some x) right (front ++ x ∷ []) back (ready, w) (IsIn-older catalogue op h s (when_ready h op ready) m)
    (none_next r c h op refl none) (lands ∙ sym (append_assoc front (x ∷ []) back)) (sym (end_push front x)) b in
    record {
      ready = (ready, rest.ready);
      lawful = rest.lawful;
      after = rest.after ∙ ap (λ z. z ++ back) (append_assoc front (x ∷ []) (typed_ids r (suc c) chs));
      hidden = λ y. rest.hidden y;
      elsewhere = λ q n. rest.elsewhere q n ∙ order-none q op h (none_elsewhere p q op x (text_here x s left right ch) n);
    }

-- new elements are shown, where their identifiers are new
typed_shown : (chs : List ℕ) (r c : ℕ) (h : List Op) → Lawful h → NoneFrom r c h → All (λ x. not (is_hidden h x) ≡ true) (typed_ids r c chs)
typed_shown [] r c h w none = All-nil (λ x. not (is_hidden h x) ≡ true)
typed_shown (ch ∷ chs) r c h w none =
    All-cons (λ x. not (is_hidden h x) ≡ true) (id_at r c) (typed_ids r (suc c) chs) (ap not (not_hidden_before h (id_at r c) w (none c (omega arith))))
    (typed_shown chs r (suc c) h w (λ n k. none n (omega (arith, k))))

-- an edit whose elements land in the gap of the place `at`
inserted : (p : Place) (h ops : List Op) (at : ℕ) (ids : List Identifier) (s : Split (is_shown h) (order p h) at) → All (λ x. is_shown h x ≡ true) ids
    → Landed p h ops ids s.front s.back → IsEdit p h ops at 0 ids × StandsAfter (left_for p h at) ids (order p h) (order p (history_with h ops))
inserted p h ops at ids s each l =
    let k : Identifier → Bool = is_shown h in
    let same : (q : Place) → shown q (history_with h ops) ≡ filter k (order q (history_with h ops)) = λ q. (λ i. filter (λ x. not (l.hidden x i)) (order q (history_with h ops))) in
    let zero_more : at ≡ at + 0 = omega arith in (
      record {
        ready = l.ready;
        lawful = l.lawful;
        here =
            same p ∙ ap (filter k) l.after
            ∙ filter-append k (s.front ++ ids) s.back
            ∙ ap (λ f. f ++ filter k s.back) (filter-append k s.front ids)
            ∙ (λ i. s.kept_front i ++ filter_all k ids each i ++ s.kept_back i)
            ∙ ap (λ n. take at (shown p h) ++ ids ++ drop n (shown p h)) zero_more;
        elsewhere = λ q n. same q ∙ ap (filter k) (l.elsewhere q n);
      },
      record {
        front = s.front;
        back = s.back;
        was = s.whole;
        origin = split_origin k (order p h) at s;
        is = l.after;
      },
    )

-- the right origin is the first after the gap
right_is : (p : Place) (h : List Op) (at : ℕ) (s : Split (is_shown h) (order p h) at) → Lawful h → right_for p h at ≡ first_after s.back
right_is p h at s w =
    let o : left_for p h at ≡ last_before s.front = sym (split_origin (is_shown h) (order p h) at s) in
    (λ i. following (s.whole i) (o i))
    ∙ following_end s.front s.back (subst (AllPairs (λ x y. x ≢ y)) s.whole (order_total p h w).once)

-- a shown element is an element of the place
pub shown_in : (p : Place) (h : List Op) (k : ℕ) (x : Identifier) → Lawful h → slice_get (shown p h) k ≡ Some x → IsIn p h x
shown_in p h k x w e = order-member p h x w (contains_filter_from (is_shown h) (order p h) x (get_in (shown p h) k x e)).0

-- a put in a section that is there
put_in_lands : (r : ℕ) (h w : List Op) (s : Identifier) (at : ℕ) (new : List ℕ) → Lawful h → IsIn catalogue h s → at ≤ length (shown (within s) h)
    → IsEdit (within s) h (put_in r h w s at new) at 0 (typed_ids r (next_counter r h w) new)
    × StandsAfter (left_for (within s) h at) (typed_ids r (next_counter r h w) new) (order (within s) h) (order (within s) (history_with h (put_in r h w s at new)))
put_in_lands r h w s at new v m l =
    let p : Place = within s in
    let c : ℕ = next_counter r h w in
    let none : NoneFrom r c h = none_from r c h (history_below r h w) in
    let z = split (is_shown h) (order p h) at l in
    inserted p h (put_in r h w s at new) at (typed_ids r c new) z (typed_shown new r c h v none)
    (typing new r c s h (left_for p h at) (right_for p h at) z.front z.back v m none z.whole (sym (split_origin (is_shown h) (order p h) at z)) (right_is p h at z v))

-- a put lands where it was asked
pub put_lands : (r : ℕ) (h w : List Op) (k at : ℕ) (new : List ℕ) (s : Identifier) → Lawful h
    → slice_get (shown catalogue h) k ≡ Some s → at ≤ length (shown (within s) h)
    → let ops = made r h w (Put k at new) in
    let ids = typed_ids r (next_counter r h w) new in
    IsEdit (within s) h ops at 0 ids × StandsAfter (left_for (within s) h at) ids (order (within s) h) (order (within s) (history_with h ops))
put_lands r h w k at new s v e l =
    let c : List Identifier = typed_ids r (next_counter r h w) new in
    let ops : made r h w (Put k at new) ≡ put_in r h w s at new = ap (λ o. elim o [ None ↦ [] | Some s ↦ put_in r h w s at new ]) e in
    subst (λ ops. IsEdit (within s) h ops at 0 c × StandsAfter (left_for (within s) h at) c (order (within s) h) (order (within s) (history_with h ops))) (sym ops)
    (put_in_lands r h w s at new v (shown_in catalogue h k s v e) l)

-- a section lands where it was asked
pub add_lands : (r : ℕ) (h w : List Op) (at : ℕ) (title : List ℕ) → Lawful h → at ≤ length (shown catalogue h)
    → let ops = made r h w (Add at title) in
    let ids = id_at r (next_counter r h w) ∷ [] in
    IsEdit catalogue h ops at 0 ids × StandsAfter (left_for catalogue h at) ids (order catalogue h) (order catalogue (history_with h ops))
add_lands r h w at title v l =
    let c : ℕ = next_counter r h w in
    let x : Identifier = id_at r c in
    let none : NoneFrom r c h = none_from r c h (history_below r h w) in
    let z = split (is_shown h) (order catalogue h) at l in
    let left : Option Identifier = left_for catalogue h at in
    let right : Option Identifier = right_for catalogue h at in
    let op : Op = Section x left right title in
    let a : left ≡ last_before z.front = sym (split_origin (is_shown h) (order catalogue h) at z) in
    let b : right ≡ first_after z.back = right_is catalogue h at z v in
    let sl : Stands left (order catalogue h) = subst (Stands left) (sym z.whole) (subst (λ o. Stands o (z.front ++ z.back)) (sym a) (end_stands z.front z.back)) in
    let sr : Stands right (order catalogue h) = subst (Stands right) (sym z.whole) (subst (λ o. Stands o (z.front ++ z.back)) (sym b) (head_stands z.front z.back)) in
    let fresh : holds h x ≡ false = none c (omega arith) in
    let ready : verdict h op ≡ Ready = section_ready h x left right title v fresh sl sr in
    inserted catalogue h (op ∷ []) at (x ∷ []) z (All-cons (λ y. is_shown h y ≡ true) x [] (ap not (not_hidden_before h x v fresh)) (All-nil (λ y. is_shown h y ≡ true))) (record {
      ready = (ready, tt);
      lawful = (ready, v);
      after = lands_behind catalogue op h x z.front z.back (ready, v) refl z.whole a b ∙ sym (append_assoc z.front (x ∷ []) z.back);
      hidden = λ y. refl;
      elsewhere = λ q n. order-none q op h (none_elsewhere catalogue q op x refl n);
    })
