-- The framing that is written: each frame from the front stands for as many operations as one can, and it is the only such one.
use Rattle.origin_model.proofs.Words.{All, All-cons, All-head, All-nil, All-push, All-tail, Bool, Delete, Note, Identifier, List, None, Op, Option, Section, Some, Text, [], ap}
use Rattle.origin_model.proofs.Words.{append-nil, append_assoc, arith, false, flat_map, if◌then◌else◌, inl, inr, length, length-append, map, op_eq, op_eq-refl, op_eq-true, refl}
use Rattle.origin_model.proofs.Words.{subst, sym, true, ℕ, ◌&&◌, ◌++◌, ◌+◌, ◌<◌, ◌∙◌, ◌∷◌, ◌≡◌, ◌≤◌}
use Rattle.std.specs.Prelude.{nat_lt}
use Rattle.std.specs.Char.{IsScalar}
use Rattle.std.proofs.lemmas.Bool.{and_from, and_parts, cases_lt, lt-ltb, ltb-true}
use Rattle.origin_model.specs.declared.grammar.Grammar.TheVariants.{Version2}
use Rattle.origin_model.specs.frames.Frames.{Framed, HasFrame, HasRunFrame, IsFrame, IsIdentifier, IsItem, IsFrameOrigin, Item, Reads, Run, Single, Typed, Whole, item_bytes}
use Rattle.origin_model.specs.frames.Frames.{item_ops, run_ops}
use Rattle.origin_model.specs.frames.Framings.{AreLongest, IsFraming, IsLongest, IsWritten, item_with, frames, items, items_from, longer, next_text, run_more, scalar_in}
use Rattle.origin_model.proofs.frames.ItemLemmas.{bytes_of, item_framed, item_is_framed, ops_of, same_parts}
use Rattle.origin_model.proofs.frames.TypedLemmas.{goes_on, length-run, run_by_ops, typed_more}
use Rattle.fugue_ids.specs.Runs.{in_a_row}

-- a run that may grow: it may have one Text
pub record IsBegun (run : Run) : Type 0 where
  pub id : IsIdentifier run.id
  pub section : IsIdentifier run.section
  pub left : IsFrameOrigin run.left
  pub right : IsFrameOrigin run.right
  pub some : 1 ≤ length run.text
  pub scalars : All IsScalar run.text

abbrev pub one_text : (id section : Identifier) (left right : Option Identifier) → ℕ → Run
one_text id section left right ch = record { id = id; section = section; left = left; right = right; text = ch ∷ [] }

pub begun_one : (id section : Identifier) (left right : Option Identifier) (ch : ℕ) → HasFrame (Text id section left right ch) → IsBegun (one_text id section left right ch)
begun_one id section left right ch has =
    record { id = has.0; section = has.1; left = has.2; right = has.3; some = omega arith; scalars = All-cons IsScalar ch [] has.4 (All-nil IsScalar) }

pub begun_run : (run : Run) → HasRunFrame run → IsBegun run
begun_run run is = record { id = is.id; section = is.section; left = is.left; right = is.right; some = omega (arith, is.text.some); scalars = is.text.scalars }

-- one item stands for the operations of an item and one more
pub record Extends (begun : Item) (op : Op) (more : Item) : Type 0 where
  pub is_item : IsItem Version2 more
  pub ops : item_ops more ≡ item_ops begun ++ op ∷ []

if_some : {A : Type 0} (b : Bool) (x y : A) → (if b then Some x else None) ≡ Some y → (b ≡ true) × (x ≡ y)
if_some true x y is = (refl, cc is)
if_some false x y is = absurd (cc is)

if_none : {A : Type 0} (b : Bool) (x : A) → (if b then Some x else None) ≡ None → b ≡ true → ⊥
if_none true x is was = cc is
if_none false x is was = cc was

longer_is : (run : Run) (op : Op) (more : Item) → IsBegun run → HasFrame op → longer run op ≡ Some more → (IsItem Version2 more) × (item_ops more ≡ run_ops run ++ op ∷ [])
longer_is run op more begun has e =
    let p = if_some (nat_lt (length run.text) 1024 && op_eq op (next_text run (scalar_in op))) (Typed (run_more run (scalar_in op))) more e in
    let parts = and_parts (nat_lt (length run.text) 1024) (op_eq op (next_text run (scalar_in op))) p.0 in
    let room : length run.text < 1024 = ltb-true (length run.text) 1024 parts.0 in
    let is : op ≡ next_text run (scalar_in op) = op_eq-true op (next_text run (scalar_in op)) parts.1 in
    let next = subst HasFrame is has in
    let long : length (run.text ++ scalar_in op ∷ []) ≡ length run.text + 1 = length-append run.text (scalar_in op ∷ []) in
    let item_with : HasRunFrame (run_more run (scalar_in op)) = record {
      id = begun.id;
      section = begun.section;
      left = begun.left;
      right = begun.right;
      text = record { some = omega (arith, long, begun.some); short = omega (arith, long, room); scalars = All-push IsScalar run.text (scalar_in op) begun.scalars next.4 };
      counters_fit = omega (arith, long, next.0.counter_fits);
    } in
    subst (λ (i : Item). (IsItem Version2 i) × (item_ops i ≡ run_ops run ++ op ∷ [])) p.1
    (item_with, typed_more run (scalar_in op) ∙ ap (λ (o : Op). run_ops run ++ o ∷ []) (sym is))

pub extends : (begun : Item) (op : Op) (more : Item) → IsItem Version2 begun → HasFrame op → item_with begun op ≡ Some more → Extends begun op more
extends (Single (Section id left right title)) op more is has e = absurd (cc e)
extends (Single (Delete target)) op more is has e = absurd (cc e)
extends (Single (Note id named code body)) op more is has e = absurd (cc e)
extends (Single (Text id section left right ch)) op more is has e =
    let p = longer_is (one_text id section left right ch) op more (begun_one id section left right ch is) has e in record { is_item = p.0; ops = p.1 }
extends (Typed run) op more is has e = let p = longer_is run op more (begun_run run is) has e in record { is_item = p.0; ops = p.1 }

-- a run that does not grow by an operation has the Texts of no longer one there
not_longer : (run other : Run) (op : Op) (rest behind : List Op) → IsBegun run → HasRunFrame other → longer run op ≡ None → run_ops run ++ op ∷ rest ≡ run_ops other ++ behind
    → length other.text ≤ length run.text
not_longer run other op rest behind begun is none same = elim (cases_lt (length run.text) (length other.text)) [
  | inr le ↦ le
  | inl less ↦
      let next : op ≡ next_text run (scalar_in op) = goes_on run other op rest behind begun.some less same in
      let room : length run.text < 1024 = omega (arith, less, is.text.short) in
      absurd (if_none (nat_lt (length run.text) 1024 && op_eq op (next_text run (scalar_in op))) (Typed (run_more run (scalar_in op))) none
      (and_from (nat_lt (length run.text) 1024) (op_eq op (next_text run (scalar_in op))) (lt-ltb (length run.text) 1024 room)
      (subst (λ (o : Op). op_eq op o ≡ true) next (op_eq-refl op))))
]

-- the first of a run's operations is a Text
no_section : (id : Identifier) (left right : Option Identifier) (title : List ℕ) (i s : Identifier) (l r : Option Identifier) (text : List ℕ) (rest behind : List Op)
    → 1 ≤ length text
    → Section id left right title ∷ rest ≡ in_a_row i s l r text ++ behind → ⊥
no_section id left right title i s l r [] rest behind some same = omega (arith, some)
no_section id left right title i s l r (c ∷ text) rest behind some same = cc same

no_delete : (target : Identifier) (i s : Identifier) (l r : Option Identifier) (text : List ℕ) (rest behind : List Op) → 1 ≤ length text
    → Delete target ∷ rest ≡ in_a_row i s l r text ++ behind → ⊥
no_delete target i s l r [] rest behind some same = omega (arith, some)
no_delete target i s l r (c ∷ text) rest behind some same = cc same

no_note : (id : Identifier) (named : List Identifier) (code : ℕ) (body : List ℕ) (i s : Identifier) (l r : Option Identifier) (text : List ℕ) (rest behind : List Op)
    → 1 ≤ length text
    → Note id named code body ∷ rest ≡ in_a_row i s l r text ++ behind → ⊥
no_note id named code body i s l r [] rest behind some same = omega (arith, some)
no_note id named code body i s l r (c ∷ text) rest behind some same = cc same

no_longer : (begun other : Item) (op : Op) (rest behind : List Op) → IsItem Version2 begun → IsItem Version2 other → item_with begun op ≡ None
    → item_ops begun ++ op ∷ rest ≡ item_ops other ++ behind
    → length (item_ops other) ≤ length (item_ops begun)
no_longer (Single a) (Single b) op rest behind is has none same = omega arith
no_longer (Typed run) (Single b) op rest behind is has none same = omega (arith, length-run run, is.text.some)
no_longer (Single (Section id left right title)) (Typed other) op rest behind is has none same =
    absurd (no_section id left right title other.id other.section other.left other.right other.text (op ∷ rest) behind (omega (arith, has.text.some)) same)
no_longer (Single (Delete target)) (Typed other) op rest behind is has none same =
    absurd (no_delete target other.id other.section other.left other.right other.text (op ∷ rest) behind (omega (arith, has.text.some)) same)
no_longer (Single (Note id named code body)) (Typed other) op rest behind is has none same =
    absurd (no_note id named code body other.id other.section other.left other.right other.text (op ∷ rest) behind (omega (arith, has.text.some)) same)
no_longer (Single (Text id section left right ch)) (Typed other) op rest behind is has none same =
    omega (arith, length-run other, not_longer (one_text id section left right ch) other op rest behind (begun_one id section left right ch is) has none same)
no_longer (Typed run) (Typed other) op rest behind is has none same =
    omega (arith, length-run other, length-run run, not_longer run other op rest behind (begun_run run is) has none same)

pub longest_here : (begun : Item) (op : Op) (rest : List Op) → IsItem Version2 begun → item_with begun op ≡ None → IsLongest (item_framed begun) (item_ops begun ++ op ∷ rest)
longest_here begun op rest is none other behind has same =
    subst (λ (n : ℕ). n ≤ length (item_ops begun)) (ap length (sym has.ops_are))
    (no_longer begun has.item op rest behind is has.is_item none (same ∙ ap (λ (l : List Op). l ++ behind) has.ops_are))

pub longest_at_end : (begun : Item) → IsLongest (item_framed begun) (item_ops begun ++ [])
longest_at_end begun other behind has same = omega (arith, ap length same, length-append (item_ops begun) [], length-append other.ops behind)

-- a list of items that is the greedy one of its operations
pub record AreItems (found : List Framed) (ops : List Op) : Type 0 where
  pub are_frames : All (IsFrame Version2) found
  pub ops_are : ops ≡ ops_of found
  pub longest : AreLongest found

pub one_before : (begun : Item) (ops : List Op) (found : List Framed) → IsItem Version2 begun → IsLongest (item_framed begun) (item_ops begun ++ ops) → AreItems found ops
    → AreItems (item_framed begun ∷ found) (item_ops begun ++ ops)
one_before begun ops found is longest behind = record {
  are_frames = All-cons (IsFrame Version2) (item_framed begun) found (item_is_framed Version2 begun is) behind.are_frames;
  ops_are = ap (λ (l : List Op). item_ops begun ++ l) behind.ops_are;
  longest = (subst (λ (l : List Op). IsLongest (item_framed begun) (item_ops begun ++ l)) behind.ops_are longest, behind.longest);
}

pub none_left : AreItems [] []
none_left = record { are_frames = All-nil (IsFrame Version2); ops_are = refl; longest = tt }

from_are : (begun : Item) (ops : List Op) → IsItem Version2 begun → All HasFrame ops → AreItems (map item_framed (items_from begun ops)) (item_ops begun ++ ops)
from_are begun [] is all = one_before begun [] [] is (longest_at_end begun) none_left
from_are begun (op ∷ ops) is all =
    by_case (item_with begun op) refl (λ more allowed. from_are more ops allowed (All-tail HasFrame op ops all))
    (from_are (Single op) ops (All-head HasFrame op ops all) (All-tail HasFrame op ops all))
  where
    by_case : (o : Option Item) → item_with begun op ≡ o → ((more : Item) → IsItem Version2 more → AreItems (map item_framed (items_from more ops)) (item_ops more ++ ops))
        → AreItems (map item_framed (items_from (Single op) ops)) (op ∷ ops)
        → AreItems (map item_framed (elim o [ Some more ↦ items_from more ops | None ↦ begun ∷ items_from (Single op) ops ])) (item_ops begun ++ op ∷ ops)
    by_case (Some more) e item_with single =
        let p = extends begun op more is (All-head HasFrame op ops all) e in
        subst (AreItems (map item_framed (items_from more ops))) (ap (λ (l : List Op). l ++ ops) p.ops ∙ append_assoc (item_ops begun) (op ∷ []) ops) (item_with more p.is_item)
    by_case None e item_with single = one_before begun (op ∷ ops) (map item_framed (items_from (Single op) ops)) is (longest_here begun op ops is e) single

pub items_are : (ops : List Op) → All HasFrame ops → AreItems (map item_framed (items ops)) ops
items_are [] all = none_left
items_are (op ∷ ops) all = from_are (Single op) ops (All-head HasFrame op ops all) (All-tail HasFrame op ops all)

items_bytes : (its : List Item) → flat_map item_bytes its ≡ bytes_of (map item_framed its)
items_bytes [] = refl
items_bytes (i ∷ its) = ap (λ (l : List ℕ). item_bytes i ++ l) (items_bytes its)

pub written : (ops : List Op) → All HasFrame ops → IsWritten ops (frames ops)
written ops all =
    let are = items_are ops all in
    record { found = map item_framed (items ops); are_frames = are.are_frames; ops_are = are.ops_are; bytes_are = items_bytes (items ops); longest = are.longest }

-- each item stands for some operation
item_some : (i : Item) → IsItem Version2 i → 1 ≤ length (item_ops i)
item_some (Single op) is = omega arith
item_some (Typed run) is = omega (arith, length-run run, is.text.some)

frame_some : (f : Framed) → IsFrame Version2 f → 1 ≤ length f.ops
frame_some f is = omega (arith, ap length is.ops_are, item_some is.item is.is_item)

-- one item has these operations
item_by_ops : (a b : Item) → IsItem Version2 a → IsItem Version2 b → item_ops a ≡ item_ops b → a ≡ b
item_by_ops (Single a) (Single b) p q same = cc same
item_by_ops (Single a) (Typed w) p q same = absurd (omega (arith, ap length same, length-run w, q.text.some))
item_by_ops (Typed v) (Single b) p q same = absurd (omega (arith, ap length same, length-run v, p.text.some))
item_by_ops (Typed v) (Typed w) p q same = ap Typed (run_by_ops v w (omega (arith, p.text.some)) (omega (arith, q.text.some)) same)

same_bytes : (f h : Framed) → IsFrame Version2 f → IsFrame Version2 h → f.ops ≡ h.ops → f.bytes ≡ h.bytes
same_bytes f h p q same = p.bytes_are ∙ ap item_bytes (item_by_ops p.item q.item p.is_item q.is_item (sym p.ops_are ∙ same ∙ q.ops_are)) ∙ sym q.bytes_are

-- one framing is the greedy one
greedy_once : (fs hs : List Framed) → All (IsFrame Version2) fs → All (IsFrame Version2) hs → AreLongest fs → AreLongest hs → ops_of fs ≡ ops_of hs → bytes_of fs ≡ bytes_of hs
greedy_once [] [] p q a b same = refl
greedy_once [] (h ∷ hs) p q a b same =
    absurd (omega (arith, ap length same, length-append h.ops (ops_of hs), frame_some h (All-head (IsFrame Version2) h hs q)))
greedy_once (f ∷ fs) [] p q a b same =
    absurd (omega (arith, ap length same, length-append f.ops (ops_of fs), frame_some f (All-head (IsFrame Version2) f fs p)))
greedy_once (f ∷ fs) (h ∷ hs) p q a b same =
    let x = All-head (IsFrame Version2) f fs p in
    let y = All-head (IsFrame Version2) h hs q in
    let down : length h.ops ≤ length f.ops = a.0 h (ops_of hs) y same in
    let up : length f.ops ≤ length h.ops = b.0 f (ops_of fs) x (sym same) in
    let halves = same_parts f.ops (ops_of fs) h.ops (ops_of hs) (omega (arith, down, up)) same in
    let rest = greedy_once fs hs (All-tail (IsFrame Version2) f fs p) (All-tail (IsFrame Version2) h hs q) a.1 b.1 halves.1 in
    λ i. same_bytes f h x y halves.0 i ++ rest i

pub written_once : (ops : List Op) (bytes others : List ℕ) → IsWritten ops bytes → IsWritten ops others → bytes ≡ others
written_once ops bytes others p q =
    p.bytes_are ∙ greedy_once p.found q.found p.are_frames q.are_frames p.longest q.longest (sym p.ops_are ∙ q.ops_are) ∙ sym q.bytes_are

-- each framing is read as the operations
pub framing_read : (ops : List Op) (bytes : List ℕ) → IsFraming ops bytes → Reads Version2 bytes ops Whole
framing_read ops bytes f = record {
  found = f.found;
  are_frames = f.are_frames;
  ops_are = f.ops_are;
  rest = [];
  split = f.bytes_are ∙ sym (append-nil (bytes_of f.found));
  ends = refl;
}

-- what is written is one
pub written_framing : (ops : List Op) → All HasFrame ops → IsFraming ops (frames ops)
written_framing ops all = let w = written ops all in record { found = w.found; are_frames = w.are_frames; ops_are = w.ops_are; bytes_are = w.bytes_are }
