-- What the bytes of a whole frame say, field by field.
use Rattle.std.proofs.Common.{◌≡◌, ℕ, zero, suc, ◌-◌, ◌<◌, ◌≤◌, List, [], ◌∷◌, ◌++◌, length, take, drop, get_or, refl, ap, sym, subst, ◌∙◌, arith}
use Rattle.std.specs.Prelude.{flat_map}
use Rattle.std.specs.Str.{encode_utf8_all}
use Rattle.std.specs.Int.{byte_at}
use Rattle.std.specs.Char.{IsScalar}
use Rattle.std.proofs.lemmas.List.{take_all}
use Rattle.std.proofs.lemmas.Str.{encodes_same}
use Rattle.fugue_ids.specs.Identifiers.{Identifier}
use Rattle.fugue_ids.specs.declared.op.Op.{Op}
use Rattle.origin_model.specs.declared.grammar.Grammar.{Grammar}
use Rattle.origin_model.specs.declared.grammar.Grammar.TheVariants.{Version2}
use Rattle.origin_model.specs.frames.Frames.{AreNames, IsByte, IsFrame, IsIdentifier, IsItem, IsTitle, Item, Single, Typed, id_bytes, item_bytes, item_ops}
use Rattle.origin_model.specs.frames.Frames.{names_bytes, title_bytes}
use Rattle.op_frame.specs.Firsts.{StartsWith}
use Rattle.op_frame.specs.FrameFronts.{AreNamesBytes, Completes, IsBodyBytes, IsCodeBytes, IsFrameOf, IsIdentifierBytes, IsLast, IsOwnFrame, LeavesDue, Several}
use Rattle.op_frame.specs.FrameFronts.{Then, scalar_of_bytes}
use Rattle.op_frame.specs.declared.due.Due.{Due}
use Rattle.op_frame.specs.declared.due.Due.TheVariants.{Kind}
use Rattle.op_frame.specs.declared.due.Last.TheVariants.{Title}
use Rattle.op_frame.proofs.CodeLemmas.{identifier_code, names_code, scalar_below}
use Rattle.op_frame.proofs.FormatLemmas.{after_field, identifier, names, several_of}
use Rattle.op_frame.proofs.ItemLemmas.{has_frame, has_run_frame, item_code}
use Rattle.op_frame.proofs.ReadingLemmas.{framed_some}

-- the first byte, and those after it
pub head_is : (b : List ℕ) (x : ℕ) → 1 ≤ length b → get_or b 0 0 ≡ x → b ≡ x ∷ take (length b - 1) (drop 1 b)
head_is [] x some is = absurd (omega (arith, some))
head_is (y ∷ b) x some is = λ i. is i ∷ sym (take_all (suc (length b) - 1) b (omega arith)) i

-- after the first byte of a frame its fields follow
pub fields_there : (g : Grammar) (kind : ℕ) (next : Due) (bytes : List ℕ) → LeavesDue (kind ∷ []) (Kind g) next → IsFrameOf g bytes → 1 ≤ length bytes → get_or bytes 0 0 ≡ kind
    → Completes next (take (length bytes - 1) (drop 1 bytes))
fields_there g kind next bytes p f some is = (p.rest (take (length bytes - 1) (drop 1 bytes))).0 (f.1.item, f.1.is_item, sym (head_is bytes kind some is) ∙ f.1.bytes_are)

-- one operation's own frame is a frame of version 2
own_is_frame : (bytes : List ℕ) → IsOwnFrame bytes → IsFrameOf Version2 bytes
own_is_frame bytes f = (f.0 ∷ [], record { item = Single f.0; is_item = f.1; bytes_are = f.2; ops_are = refl })

pub own_fields : (kind : ℕ) (next : Due) (bytes : List ℕ) → LeavesDue (kind ∷ []) (Kind Version2) next → IsOwnFrame bytes → get_or bytes 0 0 ≡ kind
    → Completes next (take (length bytes - 1) (drop 1 bytes))
own_fields kind next bytes p f is =
    let whole = own_is_frame bytes f in fields_there Version2 kind next bytes p whole (framed_some Version2 _ whole.1) is

-- version 2 has each operation's own frame, and those of runs
pub no_run : (bytes : List ℕ) → IsFrameOf Version2 bytes → (get_or bytes 0 0 ≡ 4 → ⊥) → IsOwnFrame bytes
no_run bytes f other = by_item f.1.item f.1.is_item f.1.bytes_are
  where
    by_item : (item : Item) → IsItem Version2 item → bytes ≡ item_bytes item → IsOwnFrame bytes
    by_item (Single op) has is = (op, has, is)
    by_item (Typed run) has is = absurd (other (ap (λ (x : List ℕ). get_or x 0 0) is))

wider : (g : Grammar) (item : Item) → IsItem g item → IsItem Version2 item
wider g (Single op) has = has_frame g op has
wider g (Typed run) has = has_run_frame g run has

-- a frame has one meaning, by both grammars
pub same_meaning : (g : Grammar) (bytes : List ℕ) (ops : List Op) → IsFrameOf g bytes → IsFrame Version2 (record { bytes = bytes; ops = ops })
    → IsFrame g (record { bytes = bytes; ops = ops })
same_meaning g bytes ops f is =
    let same : f.1.item ≡ is.item =
    ((item_code Version2).once f.1.item is.item [] [] (wider g f.1.item f.1.is_item) is.is_item (ap (λ (b : List ℕ). b ++ []) (sym f.1.bytes_are ∙ is.bytes_are))).0 in
    record { item = f.1.item; is_item = f.1.is_item; bytes_are = f.1.bytes_are; ops_are = is.ops_are ∙ ap item_ops (sym same) }

pub frame_wider : (g : Grammar) (bytes : List ℕ) → IsFrameOf g bytes → IsFrameOf Version2 bytes
frame_wider g bytes f = (f.0, record { item = f.1.item; is_item = wider g f.1.item f.1.is_item; bytes_are = f.1.bytes_are; ops_are = f.1.ops_are })

-- the text after a title's length
pub text_there : (bytes : List ℕ) (t : IsLast Title bytes) → take (length bytes - 2) (drop 2 bytes) ≡ encode_utf8_all t.0
text_there bytes t = ap (λ (x : List ℕ). take (length x - 2) (drop 2 x)) t.2 ∙ take_all (length (title_bytes t.0) - 2) (encode_utf8_all t.0) (omega arith)

pub title_there : (bytes title text : List ℕ) → IsLast Title bytes → encode_utf8_all title ≡ text → text ≡ take (length bytes - 2) (drop 2 bytes)
    → IsTitle title × (bytes ≡ title_bytes title)
title_there bytes title text t is there =
    let same : t.0 ≡ title = encodes_same t.0 title (sym (is ∙ there ∙ text_there bytes t)) in subst (λ (x : List ℕ). IsTitle x × (bytes ≡ title_bytes x)) same (t.1, t.2)

-- the number of a scalar's three bytes
pub code_is : (c : ℕ) → IsScalar c → scalar_of_bytes (byte_at 2 c) (byte_at 1 c) (byte_at 0 c) ≡ c
code_is c is = omega (arith, scalar_below c is)

-- the names after their number
pub names_there : (bytes : List ℕ) → StartsWith AreNamesBytes bytes
    → (1 ≤ length bytes) × (get_or bytes 0 0 ≤ 3) × Several (get_or bytes 0 0) IsIdentifierBytes (λ rest. Unit {0}) (take (length bytes - 1) (drop 1 bytes))
names_there bytes t =
    let is : bytes ≡ names_bytes t.2.0 ++ t.1 = t.4 ∙ ap (λ (f : List ℕ). f ++ t.1) t.2.2 in
    let all : take (length (names_bytes t.2.0 ++ t.1) - 1) (flat_map id_bytes t.2.0 ++ t.1) ≡ flat_map id_bytes t.2.0 ++ t.1
    = take_all (length (names_bytes t.2.0 ++ t.1) - 1) (flat_map id_bytes t.2.0 ++ t.1) (omega arith) in
    subst (λ (b : List ℕ). (1 ≤ length b) × (get_or b 0 0 ≤ 3) × Several (get_or b 0 0) IsIdentifierBytes (λ rest. Unit {0}) (take (length b - 1) (drop 1 b))) (sym is) (
      omega arith,
      t.2.1.few,
      subst (Several (length t.2.0) IsIdentifierBytes (λ rest. Unit {0})) (sym all)
          (several_of identifier (λ rest. Unit {0}) t.2.0 t.1 t.2.1.identifiers tt),
    )

-- a note's code, and its body
pub record CodeThere (bytes : List ℕ) : Type 0 where
  pub some : 1 ≤ length bytes
  pub is_byte : IsByte (get_or bytes 0 0)
  pub body : IsBodyBytes (take (length bytes - 1) (drop 1 bytes))

code_there : (bytes : List ℕ) → Then IsCodeBytes IsBodyBytes bytes → CodeThere bytes
code_there bytes t =
    let is : bytes ≡ t.2.0 ∷ t.1 = t.4 ∙ ap (λ (f : List ℕ). f ++ t.1) t.2.2 in
    subst CodeThere (sym is) (record { some = omega arith; is_byte = t.2.1; body = subst IsBodyBytes (sym (take_all (length (t.2.0 ∷ t.1) - 1) t.1 (omega arith))) t.3 })

-- they follow the names
pub code_after : (bytes middle rest : List ℕ) (id : Identifier) (named : List Identifier) → Then IsIdentifierBytes (Then AreNamesBytes (Then IsCodeBytes IsBodyBytes)) bytes
    → IsIdentifier id → bytes ≡ id_bytes id ++ middle → AreNames named → middle ≡ names_bytes named ++ rest → CodeThere rest
code_after bytes middle rest id named t is split are further =
    let behind = after_field identifier identifier_code (Then AreNamesBytes (Then IsCodeBytes IsBodyBytes)) bytes t id middle is split in
    code_there rest (after_field names names_code (Then IsCodeBytes IsBodyBytes) middle behind named rest are further)

-- the first of some names, and those after it
pub first_name : (n : ℕ) (bytes : List ℕ) → 0 < n → Several n IsIdentifierBytes (λ rest. Unit {0}) bytes → StartsWith IsIdentifierBytes bytes
first_name zero bytes some t = absurd (omega (arith, some))
first_name (suc n) bytes some t = (t.0, t.1, t.2, tt, t.4)

pub later_names : (n m : ℕ) (bytes rest : List ℕ) (id : Identifier) → n ≡ suc m → Several n IsIdentifierBytes (λ rest. Unit {0}) bytes → IsIdentifier id
    → bytes ≡ id_bytes id ++ rest
    → Several m IsIdentifierBytes (λ rest. Unit {0}) rest
later_names n m bytes rest id more t is split =
    after_field identifier identifier_code (Several m IsIdentifierBytes (λ rest. Unit {0})) bytes
    (subst (λ (k : ℕ). Several k IsIdentifierBytes (λ rest. Unit {0}) bytes) more t) id rest is split
