-- What stands at the front of any bytes, by a grammar: a frame, a proper front of one, or neither.
use Rattle.std.proofs.Common.{◌≡◌, ℕ, ◌+◌, ◌<◌, List, [], ◌∷◌, ◌++◌, length, refl, ap, sym, subst, ◌∙◌, arith, inl, inr}
use Rattle.std.specs.Prelude.{◌^◌, Option, Some, None}
use Rattle.std.specs.Char.{IsScalar}
use Rattle.std.specs.Str.{encode_utf8_all}
use Rattle.std.proofs.lemmas.List.Elements.{All-from_recursion, recursion_from_All}
use Rattle.std.proofs.lemmas.Str.{length-le-encodes}
use Rattle.fugue_ids.specs.Identifiers.{Identifier}
use Rattle.fugue_ids.specs.Titles.{IsTitleText}
use Rattle.fugue_ids.specs.declared.op.Op.{Op}
use Rattle.fugue_ids.specs.declared.op.Op.TheVariants.{Section, Text, Delete, Note}
use Rattle.origin_model.specs.declared.grammar.Grammar.{Grammar}
use Rattle.origin_model.specs.declared.grammar.Grammar.TheVariants.{Version1, Version2}
use Rattle.origin_model.specs.frames.Frames.{AreNames, Begins, Framed, HasFrame, HasRunFrame, IsBad, IsBody, IsByte, IsIdentifier, IsItem, IsOfVersion1, IsFrameOrigin, IsPartial}
use Rattle.origin_model.specs.frames.Frames.{IsRunText, IsTitle, Item, Single, Typed, item_bytes}
use Rattle.op_frame.proofs.CodeLemmas.{scalar_below}
use Rattle.op_frame.proofs.OperationLemmas.{section_fields, text_fields, note_fields, section_of, text_of, note_of}
use Rattle.op_frame.proofs.ItemLemmas.{fields_of, fields_valid, item_framed, item_is_framed, run_fields, run_of}
use Rattle.op_frame.proofs.SearchLemmas.{Found, IsSearched, below, narrowed, mapped, paired, listed}
use Rattle.fugue_ids.proofs.DecideLemmas.{both_decided, Decided, decided_by, equal_decided, is_true_decided, less_decided, title_decided}

identifiers : IsSearched IsIdentifier
identifiers =
    mapped _ (paired _ (narrowed _ (below (2 ^ 32)) (λ n. 0 < n) (less_decided 0)) _ (below (2 ^ 32)))
    (λ pair. record { replica = pair.0; counter = pair.1 }) (λ i. (i.replica, i.counter)) IsIdentifier
    (λ pair is. record { some_replica = is.0.1; replica_fits = is.0.0; counter_fits = is.1 }) (λ i is. (((is.replica_fits, is.some_replica), is.counter_fits), refl))

origins : IsSearched IsFrameOrigin
origins property test = by_none (test None) (identifiers (λ i. property (Some i)) (λ i. test (Some i)))
  where
    none_there : (property None → ⊥) → (Found IsIdentifier (λ i. property (Some i)) → ⊥) → (o : Option Identifier) → IsFrameOrigin o → property o → ⊥
    none_there none other None is p = none p
    none_there none other (Some i) is p = other (record { value = i; member = is; holds = p })

    by_none : Decided (property None) → Decided (Found IsIdentifier (λ i. property (Some i))) → Decided (Found IsFrameOrigin property)
    by_none (inl p) other = inl (record { value = None; member = tt; holds = p })
    by_none (inr none) (inl f) = inl (record { value = Some f.value; member = f.member; holds = f.holds })
    by_none (inr none) (inr other) = inr (λ f. none_there none other f.value f.member f.holds)

scalars : IsSearched IsScalar
scalars =
    mapped _ (narrowed _ (below 1114112) IsScalar (λ c. is_true_decided _)) (λ c. c) (λ c. c) IsScalar (λ c is. is.1) (λ c is. ((scalar_below c is, is), refl))

titles : IsSearched IsTitle
titles =
    mapped _ (narrowed _ (listed _ scalars 480) (λ t. IsTitleText (encode_utf8_all t)) (λ t. title_decided (encode_utf8_all t))) (λ t. t) (λ t. t) IsTitle
    (λ t is. record { scalars = All-from_recursion IsScalar t is.0.1; text = is.1 })
    (λ t is. (((omega (arith, length-le-encodes t, is.text.short), recursion_from_All IsScalar t is.scalars), is.text), refl))

sections : IsSearched section_fields.valid
sections = paired _ identifiers _ (paired _ origins _ (paired _ origins _ titles))

texts : IsSearched text_fields.valid
texts = paired _ identifiers _ (paired _ identifiers _ (paired _ origins _ (paired _ origins _ scalars)))

names : IsSearched AreNames
names =
    mapped _ (listed _ identifiers 3) (λ n. n) (λ n. n) AreNames (λ n is. record { few = is.0; identifiers = All-from_recursion IsIdentifier n is.1 })
    (λ n is. ((is.few, recursion_from_All IsIdentifier n is.identifiers), refl))

bytes : IsSearched IsByte
bytes = below 256

bodies : IsSearched IsBody
bodies =
    mapped _ (listed _ bytes 1024) (λ b. b) (λ b. b) IsBody (λ b is. record { short = is.0; bytes = All-from_recursion IsByte b is.1 })
    (λ b is. ((is.short, recursion_from_All IsByte b is.bytes), refl))

notes : IsSearched note_fields.valid
notes = paired _ identifiers _ (paired _ names _ (paired _ bytes _ bodies))

operations : IsSearched HasFrame
operations property test =
    by_kind (sections (λ f. property (section_of f)) (λ f. test (section_of f))) (texts (λ f. property (text_of f)) (λ f. test (text_of f)))
    (identifiers (λ i. property (Delete i)) (λ i. test (Delete i))) (notes (λ f. property (note_of f)) (λ f. test (note_of f)))
  where
    none_there : (Found section_fields.valid (λ f. property (section_of f)) → ⊥) → (Found text_fields.valid (λ f. property (text_of f)) → ⊥)
        → (Found IsIdentifier (λ i. property (Delete i)) → ⊥)
        → (Found note_fields.valid (λ f. property (note_of f)) → ⊥) → (op : Op) → HasFrame op → property op → ⊥
    none_there a b c d (Section i l r t) has p = a (record { value = (i, (l, (r, t))); member = (has.0, (has.1, (has.2, has.3))); holds = p })
    none_there a b c d (Text i s l r ch) has p = b (record { value = (i, (s, (l, (r, ch)))); member = (has.0, (has.1, (has.2, (has.3, has.4)))); holds = p })
    none_there a b c d (Delete i) has p = c (record { value = i; member = has; holds = p })
    none_there a b c d (Note i n k b') has p = d (record { value = (i, (n, (k, b'))); member = (has.0, (has.1, (has.2, has.3))); holds = p })

    by_kind : Decided (Found section_fields.valid (λ f. property (section_of f))) → Decided (Found text_fields.valid (λ f. property (text_of f)))
        → Decided (Found IsIdentifier (λ i. property (Delete i))) → Decided (Found note_fields.valid (λ f. property (note_of f))) → Decided (Found HasFrame property)
    by_kind (inl f) b c d = inl (record { value = section_of f.value; member = (f.member.0, f.member.1.0, f.member.1.1.0, f.member.1.1.1); holds = f.holds })
    by_kind (inr no_section) (inl f) c d =
        inl (record { value = text_of f.value; member = (f.member.0, f.member.1.0, f.member.1.1.0, f.member.1.1.1.0, f.member.1.1.1.1); holds = f.holds })
    by_kind (inr no_section) (inr no_text) (inl f) d = inl (record { value = Delete f.value; member = f.member; holds = f.holds })
    by_kind (inr no_section) (inr no_text) (inr no_delete) (inl f) =
        inl (record { value = note_of f.value; member = (f.member.0, f.member.1.0, f.member.1.1.0, f.member.1.1.1); holds = f.holds })
    by_kind (inr no_section) (inr no_text) (inr no_delete) (inr no_note) = inr (λ f. none_there no_section no_text no_delete no_note f.value f.member f.holds)

version_1_decided : (op : Op) → Decided (IsOfVersion1 op)
version_1_decided (Section i l r t) = inl tt
version_1_decided (Text i s l r ch) = inl tt
version_1_decided (Delete i) = inl tt
version_1_decided (Note i n c b) = inr (λ none. none)

old_operations : IsSearched (λ op. HasFrame op × IsOfVersion1 op)
old_operations = narrowed _ operations IsOfVersion1 version_1_decided

run_texts : IsSearched IsRunText
run_texts =
    mapped _ (narrowed _ (listed _ scalars 1024) (λ t. 1 < length t) (λ t. less_decided 1 (length t))) (λ t. t) (λ t. t) IsRunText
    (λ t is. record { some = omega (arith, is.1); short = is.0.0; scalars = All-from_recursion IsScalar t is.0.1 })
    (λ t is. (((is.short, recursion_from_All IsScalar t is.scalars), omega (arith, is.some)), refl))

runs : IsSearched HasRunFrame
runs =
    mapped _ (narrowed _ fields (λ v. v.0.counter + length v.1.1.1.1 < 2 ^ 32 + 1) (λ v. less_decided (v.0.counter + length v.1.1.1.1) (2 ^ 32 + 1))) run_of fields_of HasRunFrame
    (λ v is. record { id = is.0.0; section = is.0.1.0; left = is.0.1.1.0; right = is.0.1.1.1.0; text = is.0.1.1.1.1; counters_fit = omega (arith, is.1) })
    (λ run has. ((fields_valid run has, omega (arith, has.counters_fit)), refl))
  where
    fields : IsSearched run_fields.valid
    fields = paired _ identifiers _ (paired _ identifiers _ (paired _ origins _ (paired _ origins _ run_texts)))

items : (g : Grammar) → IsSearched (IsItem g)
items Version1 property test = by_single (old_operations (λ op. property (Single op)) (λ op. test (Single op)))
  where
    none_there : (Found (λ op. HasFrame op × IsOfVersion1 op) (λ op. property (Single op)) → ⊥) → (i : Item) → IsItem Version1 i → property i → ⊥
    none_there none (Single op) is p = none (record { value = op; member = is; holds = p })
    none_there none (Typed run) is p = absurd is

    by_single : Decided (Found (λ op. HasFrame op × IsOfVersion1 op) (λ op. property (Single op))) → Decided (Found (IsItem Version1) property)
    by_single (inl f) = inl (record { value = Single f.value; member = f.member; holds = f.holds })
    by_single (inr none) = inr (λ f. none_there none f.value f.member f.holds)
items Version2 property test = by_single (operations (λ op. property (Single op)) (λ op. test (Single op))) (runs (λ run. property (Typed run)) (λ run. test (Typed run)))
  where
    none_there : (Found HasFrame (λ op. property (Single op)) → ⊥) → (Found HasRunFrame (λ run. property (Typed run)) → ⊥) → (i : Item) → IsItem Version2 i → property i → ⊥
    none_there none other (Single op) is p = none (record { value = op; member = is; holds = p })
    none_there none other (Typed run) is p = other (record { value = run; member = is; holds = p })

    by_single : Decided (Found HasFrame (λ op. property (Single op))) → Decided (Found HasRunFrame (λ run. property (Typed run))) → Decided (Found (IsItem Version2) property)
    by_single (inl f) other = inl (record { value = Single f.value; member = f.member; holds = f.holds })
    by_single (inr none) (inl f) = inl (record { value = Typed f.value; member = f.member; holds = f.holds })
    by_single (inr none) (inr other) = inr (λ f. none_there none other f.value f.member f.holds)

-- some bytes begin others, and what follows has a property
abbrev Continues : (List ℕ → Type 0) → (front bytes : List ℕ) → Type 0
Continues property front bytes = (rest : List ℕ) × property rest × (bytes ≡ front ++ rest)

continues_decided : (property : List ℕ → Type 0) → ((rest : List ℕ) → Decided (property rest)) → (front bytes : List ℕ) → Decided (Continues property front bytes)
continues_decided property test [] bytes = decided_by (test bytes) (λ p. (bytes, p, refl)) (λ c. subst property (sym c.2) c.1)
continues_decided property test (x ∷ front) [] = inr (λ c. cc c.2)
continues_decided property test (x ∷ front) (y ∷ bytes) =
    decided_by (both_decided (equal_decided y x) (continues_decided property test front bytes))
    (λ p. (p.1.0, p.1.1, λ i. p.0 i ∷ p.1.2 i)) (λ c. (cc c.2, (c.0, c.1, cc c.2)))

-- what stands at the front
pub data Front (g : Grammar) (b : List ℕ) : Type 0 where
  frame_there : (framed : Framed) (rest : List ℕ) → Begins g b framed rest → Front g b
  front_there : IsPartial g b → Front g b
  bad_there : IsBad g b → Front g b

pub front_of : (g : Grammar) (b : List ℕ) → Front g b
front_of g b =
    by_search (items g (λ i. Continues (λ rest. Unit {0}) (item_bytes i) b) (λ i. continues_decided (λ rest. Unit {0}) (λ rest. inl tt) (item_bytes i) b))
    (items g (λ i. Continues (λ rest. 0 < length rest) b (item_bytes i)) (λ i. continues_decided (λ rest. 0 < length rest) (λ rest. less_decided 0 (length rest)) b (item_bytes i)))
  where
    by_search : Decided (Found (IsItem g) (λ i. Continues (λ rest. Unit {0}) (item_bytes i) b))
        → Decided (Found (IsItem g) (λ i. Continues (λ rest. 0 < length rest) b (item_bytes i)))
        → Front g b
    by_search (inl f) other = frame_there (item_framed f.value) f.holds.0 (record { is_frame = item_is_framed g f.value f.member; split = f.holds.2 })
    by_search (inr none) (inl f) =
        front_there (record { framed = item_framed f.value; is_frame = item_is_framed g f.value f.member; more = f.holds.0; lacks = f.holds.1; front = f.holds.2 })
    by_search (inr none) (inr neither) = bad_there (record {
      no_frame = λ framed rest p. none
          (record { value = p.is_frame.item; member = p.is_frame.is_item; holds = (rest, tt, p.split ∙ ap (λ (l : List ℕ). l ++ rest) p.is_frame.bytes_are) });
      no_front = λ p. neither (record { value = p.is_frame.item; member = p.is_frame.is_item; holds = (p.more, p.lacks, sym p.is_frame.bytes_are ∙ p.front) });
    })
