-- Equal bytes begin with one operation's frame.
use Rattle.std.proofs.Common.{◌≡◌, ℕ, List, [], ◌∷◌, ◌++◌, drop, ap, sym, ◌∙◌, append_assoc}
use Rattle.std.specs.Prelude.{Option}
use Rattle.fugue_ids.specs.Identifiers.{Identifier}
use Rattle.fugue_ids.specs.declared.op.Op.{Op}
use Rattle.fugue_ids.specs.declared.op.Op.TheVariants.{Section, Text, Delete, Note}
use Rattle.origin_model.specs.frames.Frames.{frame, HasFrame, body_bytes, id_bytes, names_bytes, origin_bytes, scalar_bytes, title_bytes}
use Rattle.op_frame.proofs.FormatLemmas.{Format, IsCode, body, byte, code_join, identifier, join, names, operation, origin, scalar, title}
use Rattle.op_frame.proofs.CodeLemmas.{body_code, byte_code, identifier_code, names_code, origin_code, scalar_code, title_code}

abbrev pub SectionFields : Type 0
SectionFields = Identifier × (Option Identifier × (Option Identifier × List ℕ))

abbrev pub TextFields : Type 0
TextFields = Identifier × (Identifier × (Option Identifier × (Option Identifier × ℕ)))

abbrev pub NoteFields : Type 0
NoteFields = Identifier × (List Identifier × (ℕ × List ℕ))

abbrev pub section_fields : Format SectionFields
section_fields = join identifier (join origin (join origin title))

abbrev pub text_fields : Format TextFields
text_fields = join identifier (join identifier (join origin (join origin scalar)))

abbrev pub note_fields : Format NoteFields
note_fields = join identifier (join names (join byte body))

regroup4 : (a b c d : List ℕ) → ((a ++ b) ++ c) ++ d ≡ a ++ (b ++ (c ++ d))
regroup4 a b c d = simp append_assoc

pub regroup5 : (a b c d e : List ℕ) → (((a ++ b) ++ c) ++ d) ++ e ≡ a ++ (b ++ (c ++ (d ++ e)))
regroup5 a b c d e = simp append_assoc

abbrev pub section_of : SectionFields → Op
section_of v = Section v.0 v.1.0 v.1.1.0 v.1.1.1

abbrev pub text_of : TextFields → Op
text_of v = Text v.0 v.1.0 v.1.1.0 v.1.1.1.0 v.1.1.1.1

abbrev pub note_of : NoteFields → Op
note_of v = Note v.0 v.1.0 v.1.1.0 v.1.1.1

section_code : IsCode section_fields
section_code = code_join identifier (join origin (join origin title)) identifier_code
    (code_join origin (join origin title) origin_code (code_join origin title origin_code title_code))

text_code : IsCode text_fields
text_code = code_join identifier (join identifier (join origin (join origin scalar))) identifier_code
    (code_join identifier (join origin (join origin scalar)) identifier_code (code_join origin (join origin scalar) origin_code (code_join origin scalar origin_code scalar_code)))

note_code : IsCode note_fields
note_code = code_join identifier (join names (join byte body)) identifier_code (code_join names (join byte body) names_code (code_join byte body byte_code body_code))

section_is : (v : SectionFields) → drop 1 (frame (section_of v)) ≡ section_fields.spelling v
section_is v = regroup4 (id_bytes v.0) (origin_bytes v.1.0) (origin_bytes v.1.1.0) (title_bytes v.1.1.1)

text_is : (v : TextFields) → drop 1 (frame (text_of v)) ≡ text_fields.spelling v
text_is v = regroup5 (id_bytes v.0) (id_bytes v.1.0) (origin_bytes v.1.1.0) (origin_bytes v.1.1.1.0) (scalar_bytes v.1.1.1.1)

note_is : (v : NoteFields) → drop 1 (frame (note_of v)) ≡ note_fields.spelling v
note_is v = regroup4 (id_bytes v.0) (names_bytes v.1.0) (v.1.1.0 ∷ []) (body_bytes v.1.1.1)

code_of_kind : (v w : Op) (r s : List ℕ) → HasFrame v → HasFrame w → frame v ++ r ≡ frame w ++ s → (v ≡ w) × (r ≡ s)
code_of_kind (Section i l r t) (Section j m s u) x y p q same =
    let v : SectionFields = (i, (l, (r, t))) in
    let w : SectionFields = (j, (m, (s, u))) in
    let behind : drop 1 (frame (section_of v)) ++ x ≡ drop 1 (frame (section_of w)) ++ y = cc same in
    let both = section_code.once v w x y (p.0, (p.1, (p.2, p.3))) (q.0, (q.1, (q.2, q.3)))
    (ap (λ (a : List ℕ). a ++ x) (sym (section_is v)) ∙ behind ∙ ap (λ (a : List ℕ). a ++ y) (section_is w)) in
    (ap section_of both.0, both.1)
code_of_kind (Section i l r t) (Text j k m s u) x y p q same = absurd (cc same)
code_of_kind (Section i l r t) (Delete j) x y p q same = absurd (cc same)
code_of_kind (Section i l r t) (Note j n c b) x y p q same = absurd (cc same)
code_of_kind (Text i k l r t) (Section j m s u) x y p q same = absurd (cc same)
code_of_kind (Text i k l r c) (Text j n m s d) x y p q same =
    let v : TextFields = (i, (k, (l, (r, c)))) in
    let w : TextFields = (j, (n, (m, (s, d)))) in
    let behind : drop 1 (frame (text_of v)) ++ x ≡ drop 1 (frame (text_of w)) ++ y = cc same in
    let both = text_code.once v w x y (p.0, (p.1, (p.2, (p.3, p.4)))) (q.0, (q.1, (q.2, (q.3, q.4))))
    (ap (λ (a : List ℕ). a ++ x) (sym (text_is v)) ∙ behind ∙ ap (λ (a : List ℕ). a ++ y) (text_is w)) in
    (ap text_of both.0, both.1)
code_of_kind (Text i k l r t) (Delete j) x y p q same = absurd (cc same)
code_of_kind (Text i k l r t) (Note j n c b) x y p q same = absurd (cc same)
code_of_kind (Delete i) (Section j m s u) x y p q same = absurd (cc same)
code_of_kind (Delete i) (Text j k m s u) x y p q same = absurd (cc same)
code_of_kind (Delete i) (Delete j) x y p q same =
    let behind : id_bytes i ++ x ≡ id_bytes j ++ y = cc same in
    let both = identifier_code.once i j x y p q behind in
    (ap Delete both.0, both.1)
code_of_kind (Delete i) (Note j n c b) x y p q same = absurd (cc same)
code_of_kind (Note i n c b) (Section j m s u) x y p q same = absurd (cc same)
code_of_kind (Note i n c b) (Text j k m s u) x y p q same = absurd (cc same)
code_of_kind (Note i n c b) (Delete j) x y p q same = absurd (cc same)
code_of_kind (Note i n c b) (Note j m d e) x y p q same =
    let v : NoteFields = (i, (n, (c, b))) in
    let w : NoteFields = (j, (m, (d, e))) in
    let behind : drop 1 (frame (note_of v)) ++ x ≡ drop 1 (frame (note_of w)) ++ y = cc same in
    let both = note_code.once v w x y (p.0, (p.1, (p.2, p.3))) (q.0, (q.1, (q.2, q.3)))
    (ap (λ (a : List ℕ). a ++ x) (sym (note_is v)) ∙ behind ∙ ap (λ (a : List ℕ). a ++ y) (note_is w)) in
    (ap note_of both.0, both.1)

-- equal bytes begin with one frame
pub operation_code : IsCode operation
operation_code = record { once = code_of_kind }
