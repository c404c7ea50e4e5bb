-- A letter's frame, field by field.
use Rattle.std.proofs.Common.{◌≡◌, ◌⊎◌, ℕ, ◌≤◌, List, [], ◌∷◌, ◌++◌, length, take, drop, get_or, refl, ap, inl, inr, sym, ◌∙◌, append_assoc, arith, length-append}
use Rattle.std.specs.Prelude.{Option}
use Rattle.std.proofs.lemmas.List.{append-nil, take_at}
use Rattle.fugue_ids.specs.Identifiers.{Identifier}
use Rattle.fugue_ids.specs.declared.op.Op.{Op}
use Rattle.fugue_ids.specs.declared.op.Op.TheVariants.{Delete, Note, Section, Text}
use Rattle.origin_model.specs.declared.grammar.Grammar.{Grammar}
use Rattle.origin_model.specs.frames.Frames.{HasFrame, IsFrame, IsFrameOrigin, IsIdentifier, IsOfVersion1, Single, frame, id_bytes, origin_bytes, scalar_bytes}
use Rattle.op_frame.specs.Firsts.{IsLetter, IsLetterFrame, StartsWith}
use Rattle.op_frame.specs.FrameFronts.{IsIdentifierBytes, IsOriginBytes, IsOwnFrame, IsScalarBytes, Then}
use Rattle.op_frame.specs.NextRuns.{IsOpFront}
use Rattle.op_frame.proofs.CodeLemmas.{identifier_code, origin_code}
use Rattle.op_frame.proofs.FormatLemmas.{after_field, identifier, origin}
use Rattle.op_frame.proofs.ItemLemmas.{of_each_version}
use Rattle.op_frame.proofs.OperationLemmas.{regroup5}

-- each grammar has a letter's frame
known : (op : Op) → IsLetter op → IsOfVersion1 op
known (Text id s l r ch) letter = tt
known (Delete id) letter = tt
known (Section id l r t) letter = absurd letter
known (Note id n c b) letter = absurd letter

-- the fields of a Text, from one of them on, and anything after them
abbrev FromRight : List ℕ → Type 0
FromRight = Then IsOriginBytes (StartsWith IsScalarBytes)

abbrev FromLeft : List ℕ → Type 0
FromLeft = Then IsOriginBytes FromRight

abbrev FromSection : List ℕ → Type 0
FromSection = Then IsIdentifierBytes FromLeft

abbrev FromId : List ℕ → Type 0
FromId = Then IsIdentifierBytes FromSection

pub starts : {Field Rest : List ℕ → Type 0} (bytes : List ℕ) → Then Field Rest bytes → StartsWith Field bytes
starts bytes t = (t.0, t.1, t.2, tt, t.4)

-- a letter's fields follow its first byte
letter_fields : (b : List ℕ) → StartsWith IsLetterFrame b → ((get_or b 0 0 ≡ 2) × FromId (drop 1 b)) ⊎ ((get_or b 0 0 ≡ 3) × StartsWith IsIdentifierBytes (drop 1 b))
letter_fields b t = by_op t.2.0 t.2.1 t.2.2 (t.4 ∙ ap (λ (f : List ℕ). f ++ t.1) t.2.3)
  where
    by_op : (op : Op) → IsLetter op → HasFrame op → b ≡ frame op ++ t.1 → ((get_or b 0 0 ≡ 2) × FromId (drop 1 b)) ⊎ ((get_or b 0 0 ≡ 3) × StartsWith IsIdentifierBytes (drop 1 b))
    by_op (Text id s l r ch) letter has is = inl (
      ap (λ (x : List ℕ). get_or x 0 0) is,
      (
        id_bytes id,
        id_bytes s ++ (origin_bytes l ++ (origin_bytes r ++ (scalar_bytes ch ++ t.1))),
        (id, has.0, refl),
        (
          id_bytes s,
          origin_bytes l ++ (origin_bytes r ++ (scalar_bytes ch ++ t.1)),
          (s, has.1, refl),
          (
            origin_bytes l,
            origin_bytes r ++ (scalar_bytes ch ++ t.1),
            (l, has.2, refl),
            (origin_bytes r, scalar_bytes ch ++ t.1, (r, has.3, refl), (scalar_bytes ch, t.1, (ch, has.4, refl), tt, refl), refl),
            refl,
          ),
          refl,
        ),
        ap (drop 1) is ∙ append_assoc (id_bytes id ++ id_bytes s ++ origin_bytes l ++ origin_bytes r) (scalar_bytes ch) t.1
            ∙ regroup5 (id_bytes id) (id_bytes s) (origin_bytes l) (origin_bytes r) (scalar_bytes ch ++ t.1),
      ),
    )
    by_op (Delete id) letter has is = inr (ap (λ (x : List ℕ). get_or x 0 0) is, (id_bytes id, t.1, (id, has, refl), tt, ap (drop 1) is))
    by_op (Section id l r title) letter has is = absurd letter
    by_op (Note id n c body) letter has is = absurd letter

pub delete_fields : (rest : List ℕ) → StartsWith IsLetterFrame (3 ∷ rest) → StartsWith IsIdentifierBytes rest
delete_fields rest t = elim (letter_fields (3 ∷ rest) t) [ inl p ↦ absurd (cc p.0) | inr p ↦ p.1 ]

-- where the fields of a Text end, one after the other, the next one stands
module _ (bytes : List ℕ) (t : StartsWith IsLetterFrame (2 ∷ bytes)) where
  pub from_id : FromId bytes
  from_id = elim (letter_fields (2 ∷ bytes) t) [ inl p ↦ p.1 | inr p ↦ absurd (cc p.0) ]

  module _ (id : Identifier) (a : List ℕ) (is : IsIdentifier id) (split : bytes ≡ id_bytes id ++ a) where
    pub from_section : FromSection a
    from_section = after_field identifier identifier_code FromSection bytes from_id id a is split

    module _ (section : Identifier) (b : List ℕ) (section_is : IsIdentifier section) (section_split : a ≡ id_bytes section ++ b) where
      pub from_left : FromLeft b
      from_left = after_field identifier identifier_code FromLeft a from_section section b section_is section_split

      module _ (left : Option Identifier) (c : List ℕ) (left_is : IsFrameOrigin left) (left_split : b ≡ origin_bytes left ++ c) where
        pub from_right : FromRight c
        from_right = after_field origin origin_code FromRight b from_left left c left_is left_split

        pub from_scalar : (right : Option Identifier) (d : List ℕ) → IsFrameOrigin right → c ≡ origin_bytes right ++ d → StartsWith IsScalarBytes d
        from_scalar right d is split = after_field origin origin_code (StartsWith IsScalarBytes) c from_right right d is split

-- an operation's own frame that is no Section's and no Note's is a letter's
pub letter_there : (bytes : List ℕ) → IsOwnFrame bytes → (get_or bytes 0 0 ≡ 1 → ⊥) → (get_or bytes 0 0 ≡ 5 → ⊥) → StartsWith IsLetterFrame bytes
letter_there bytes f a b = (bytes, [], (f.0, by_op f.0 f.2, f.1, f.2), tt, sym (append-nil bytes))
  where
    by_op : (op : Op) → bytes ≡ frame op → IsLetter op
    by_op (Section id l r t) is = absurd (a (ap (λ (x : List ℕ). get_or x 0 0) is))
    by_op (Text id s l r ch) is = tt
    by_op (Delete id) is = tt
    by_op (Note id n k body) is = absurd (b (ap (λ (x : List ℕ). get_or x 0 0) is))

-- a letter's frame at the front of bytes
module _ (op : Op) (len : ℕ) (bytes : List ℕ) (p : IsOpFront op len bytes) where
  front_there : (take len bytes ≡ frame op) × (len ≤ length bytes)
  front_there =
      let long : length (frame op) ≡ len = omega (arith, ap length p.split, length-append (frame op) p.rest, p.len_is) in
      (ap (take len) p.split ∙ take_at (frame op) p.rest len long, omega (arith, p.len_is))

  pub letter_within : len ≤ length bytes
  letter_within = front_there.1

  pub letter_whole : (g : Grammar) → IsLetter op → IsFrame g (record { bytes = take len bytes; ops = op ∷ [] })
  letter_whole g letter = record { item = Single op; is_item = of_each_version g op p.has_frame (known op letter); bytes_are = front_there.0; ops_are = refl }
