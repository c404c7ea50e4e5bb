-- Formats of fields: which values a field may have, and how each is spelled.
use Rattle.std.proofs.Common.{◌≡◌, ℕ, zero, suc, ◌<◌, List, [], ◌∷◌, ◌++◌, length, refl, ap, sym, subst, ◌∙◌, ◌⊎◌, inl, inr, append_assoc, arith}
use Rattle.std.specs.Prelude.{◌↔◌, ◌^◌, All, Option, flat_map}
use Rattle.std.proofs.lemmas.List.Elements.{All-cons, All-head, All-nil, All-tail}
use Rattle.std.specs.Char.{IsScalar}
use Rattle.std.specs.Int.{to_be_bytes, w32}
use Rattle.fugue_ids.specs.Identifiers.{Identifier}
use Rattle.fugue_ids.specs.declared.op.Op.{Op}
use Rattle.origin_model.specs.declared.grammar.Grammar.{Grammar}
use Rattle.origin_model.specs.frames.Frames.{id_bytes, origin_bytes, title_bytes, scalar_bytes, text_bytes, names_bytes, body_bytes, frame, item_bytes, AreNames, HasFrame, IsBody}
use Rattle.origin_model.specs.frames.Frames.{IsByte, IsIdentifier, IsItem, IsFrameOrigin, IsRunText, IsTitle, Item}
use Rattle.op_frame.specs.FrameFronts.{Several, Then}

pub record Format (T : Type 0) : Type 1 where
  pub valid : T → Type 0
  pub spelling : T → List ℕ

abbrev pub number : Format ℕ
number = record { valid = λ n. n < 2 ^ 32; spelling = to_be_bytes w32 }

abbrev pub replica : Format ℕ
replica = record { valid = λ n. (0 < n) × (n < 2 ^ 32); spelling = to_be_bytes w32 }

abbrev pub identifier : Format Identifier
identifier = record { valid = IsIdentifier; spelling = id_bytes }

abbrev pub origin : Format (Option Identifier)
origin = record { valid = IsFrameOrigin; spelling = origin_bytes }

abbrev pub scalar : Format ℕ
scalar = record { valid = IsScalar; spelling = scalar_bytes }

abbrev pub title : Format (List ℕ)
title = record { valid = IsTitle; spelling = title_bytes }

abbrev pub run_text : Format (List ℕ)
run_text = record { valid = IsRunText; spelling = text_bytes }

abbrev pub byte : Format ℕ
byte = record { valid = IsByte; spelling = λ b. b ∷ [] }

abbrev pub names : Format (List Identifier)
names = record { valid = AreNames; spelling = names_bytes }

abbrev pub body : Format (List ℕ)
body = record { valid = IsBody; spelling = body_bytes }

abbrev pub operation : Format Op
operation = record { valid = HasFrame; spelling = frame }

-- what a frame of the grammar stands for
abbrev pub item : Grammar → Format Item
item grammar = record { valid = IsItem grammar; spelling = item_bytes }

-- one format after another
abbrev pub join : {A B : Type 0} → Format A → Format B → Format (A × B)
join first second = record { valid = λ pair. first.valid pair.0 × second.valid pair.1; spelling = λ pair. first.spelling pair.0 ++ second.spelling pair.1 }

-- the bytes of a field's values
abbrev pub Spelled : {T : Type 0} → Format T → List ℕ → Type 0
Spelled {T} F bytes = (v : T) × F.valid v × (bytes ≡ F.spelling v)

-- equal bytes begin with one value, and one rest stands after it
pub record IsCode {T : Type 0} (format : Format T) : Type 0 where
  pub once : (v w : T) (r s : List ℕ) → format.valid v → format.valid w → format.spelling v ++ r ≡ format.spelling w ++ s → (v ≡ w) × (r ≡ s)

-- of two fronts of one list, one begins the other
pub record Reaches (xs zs : List ℕ) : Type 0 where
  pub between : List ℕ
  pub is : zs ≡ xs ++ between

pub record FallsShort (xs zs : List ℕ) : Type 0 where
  pub between : List ℕ
  pub some : 0 < length between
  pub is : xs ≡ zs ++ between

pub two_fronts : (xs ys zs ws : List ℕ) → xs ++ ys ≡ zs ++ ws → Reaches xs zs ⊎ FallsShort xs zs
two_fronts [] ys zs ws same = inl (record { between = zs; is = refl })
two_fronts (x ∷ xs) ys [] ws same = inr (record { between = x ∷ xs; some = omega arith; is = refl })
two_fronts (x ∷ xs) ys (z ∷ zs) ws same =
    let first : x ≡ z = cc same in
    let behind : xs ++ ys ≡ zs ++ ws = cc same in
    elim (two_fronts xs ys zs ws behind) [
      | inl p ↦ inl (record { between = p.between; is = λ i. sym first i ∷ p.is i })
      | inr p ↦ inr (record { between = p.between; some = p.some; is = λ i. first i ∷ p.is i })
    ]

pub code_join : {A B : Type 0} (F : Format A) (G : Format B) → IsCode F → IsCode G → IsCode (join F G)
code_join F G f g = record {
  once = λ v w r s p q same.
      let halves = f.once v.0 w.0 (G.spelling v.1 ++ r) (G.spelling w.1 ++ s) p.0 q.0
      (sym (append_assoc (F.spelling v.0) (G.spelling v.1) r) ∙ same ∙ append_assoc (F.spelling w.0) (G.spelling w.1) s) in
      let rests = g.once v.1 w.1 r s p.1 q.1 halves.1 in
      ((λ i. (halves.0 i, rests.0 i)), rests.1);
}

-- what follows a field is known once the field is
module _ {T : Type 0} (F : Format T) (code : IsCode F) (Rest : List ℕ → Type 0) where
  pub after_field : (bytes : List ℕ) → Then (Spelled F) Rest bytes → (v : T) (rest : List ℕ) → F.valid v → bytes ≡ F.spelling v ++ rest → Rest rest
  after_field bytes t v rest valid is =
      subst Rest (code.once t.2.0 v t.1 rest t.2.1 valid (ap (λ f. f ++ t.1) (sym t.2.2) ∙ sym t.4 ∙ is)).1 t.3

  pub field_done : (bytes : List ℕ) → Spelled F bytes → (more : List ℕ) → Then (Spelled F) Rest (bytes ++ more) ↔ Rest more
  field_done bytes is more = (λ t. after_field (bytes ++ more) t is.0 more is.1 (ap (λ b. b ++ more) is.2), λ r. (bytes, more, is, r, refl))

-- values of one format, one after the other, and then what follows them
module _ {T : Type 0} (F : Format T) (Rest : List ℕ → Type 0) where
  pub several_of : (values : List T) (rest : List ℕ) → All F.valid values → Rest rest → Several (length values) (Spelled F) Rest (flat_map F.spelling values ++ rest)
  several_of [] rest all r = r
  several_of (v ∷ values) rest all r = (
    F.spelling v,
    flat_map F.spelling values ++ rest,
    (v, All-head F.valid v values all, refl),
    several_of values rest (All-tail F.valid v values all) r,
    append_assoc (F.spelling v) (flat_map F.spelling values) rest,
  )

  pub record ValuesOf (n : ℕ) (bytes : List ℕ) : Type 0 where
    pub values : List T
    pub long : length values ≡ n
    pub valid : All F.valid values
    pub rest : List ℕ
    pub behind : Rest rest
    pub is : bytes ≡ flat_map F.spelling values ++ rest

  pub values_of : (n : ℕ) (bytes : List ℕ) → Several n (Spelled F) Rest bytes → ValuesOf n bytes
  values_of zero bytes r = record { values = []; long = refl; valid = All-nil F.valid; rest = bytes; behind = r; is = refl }
  values_of (suc n) bytes t =
      let p = values_of n t.1 t.3 in
      record {
        values = t.2.0 ∷ p.values;
        long = ap suc p.long;
        valid = All-cons F.valid t.2.0 p.values t.2.1 p.valid;
        rest = p.rest;
        behind = p.behind;
        is = t.4 ∙ (λ i. t.2.2 i ++ p.is i) ∙ sym (append_assoc (F.spelling t.2.0) (flat_map F.spelling p.values) p.rest);
      }
