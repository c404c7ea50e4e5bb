-- The elements of a section, written one by one with a run open, are its runs in their marks.
use Rattle.std.proofs.Common.{List, [], ap, append_assoc, false, inl, inr, refl, sym, true, ℕ, ◌++◌, ◌∙◌, ◌∷◌, ◌≡◌}
use Rattle.std.specs.Prelude.{Bool, None, Option, Some, if◌then◌else◌, ◌||◌}
use Rattle.std.specs.List.{list_any}
use Rattle.std.specs.Str.{encode_utf8_all}
use Rattle.std.proofs.lemmas.List.{append-nil}
use Rattle.std.proofs.lemmas.Bool.{cases_Bool, eqb-true, false≢true}
use Rattle.fugue_ids.specs.Identifiers.{Identifier}
use Rattle.fugue_ids.specs.declared.op.Op.{Op}
use Rattle.fugue_ids.proofs.TextLemmas.{encode-append}
use Rattle.change_marks.specs.Changes.{is_marked}
use Rattle.change_marks.specs.Marks.{closing_mark, letter_of, run_letters, mark_eq, text_with_marks, opening}
use Rattle.change_marks.specs.Steps.{element_part, is_changed_element, open_after, parts_from, turn_of_run}
use Rattle.change_marks.specs.Stretches.{Stretch, joined_stretch, stretches}
use Rattle.change_marks.specs.declared.mark.Mark.{Mark}
use Rattle.change_marks.specs.declared.mark.Mark.TheVariants.{Kept, New, Gone}

pub mark_eq-true : (a b : Mark) → mark_eq a b ≡ true → a ≡ b
mark_eq-true Kept Kept e = refl
mark_eq-true Kept (New b) e = absurd (false≢true e)
mark_eq-true Kept Gone e = absurd (false≢true e)
mark_eq-true (New a) Kept e = absurd (false≢true e)
mark_eq-true (New a) (New b) e = ap New (eqb-true a b e)
mark_eq-true (New a) Gone e = absurd (false≢true e)
mark_eq-true Gone Kept e = absurd (false≢true e)
mark_eq-true Gone (New b) e = absurd (false≢true e)
mark_eq-true Gone Gone e = refl

-- the letters of an open run in front of other runs, the rest of it, and these
abbrev inside : List Op → Stretch Mark → List (Stretch Mark) → List ℕ
inside h r rs = encode_utf8_all (run_letters h r) ++ (closing_mark r.key ++ text_with_marks h rs)

-- what stands after the start of a run of a mark, where these stretches are to come
abbrev behind : List Op → Mark → List (Stretch Mark) → List ℕ
behind h m [] = closing_mark m
behind h m (r ∷ rs) = if mark_eq m r.key then inside h r rs else closing_mark m ++ text_with_marks h (r ∷ rs)

-- an element in front of stretches, by the first one that comes of it
abbrev first_of_joined : List Op → Mark → Identifier → List (Stretch Mark) → Type 0
first_of_joined h k x ss =
    (r : Stretch Mark) × (rs : List (Stretch Mark)) × (joined_stretch mark_eq k x ss ≡ r ∷ rs) × (r.key ≡ k)
    × (encode_utf8_all (letter_of h x) ++ behind h k ss ≡ inside h r rs)

alone : List Op → Mark → Identifier → Stretch Mark
alone h k x = record { key = k; elements = x ∷ [] }

joins_first : (h : List Op) (k : Mark) (x : Identifier) (ss : List (Stretch Mark)) → first_of_joined h k x ss
unfolding alone
joins_first h k x [] =
    (alone h k x, [], refl, refl, (λ i. encode_utf8_all (sym (append-nil (letter_of h x)) i) ++ sym (append-nil (closing_mark k)) i))
joins_first h k x (s ∷ ss) =
    let after : Bool → List (Stretch Mark) = λ b. if b then record { key = k; elements = x ∷ s.elements } ∷ ss else record { key = k; elements = x ∷ [] } ∷ s ∷ ss in
    let rest : Bool → List ℕ = λ b. if b then inside h s ss else closing_mark k ++ text_with_marks h (s ∷ ss) in
    let one : List ℕ = encode_utf8_all (letter_of h x) in
    elim (cases_Bool (mark_eq k s.key)) [
      | inl e ↦
          let same : s.key ≡ k = sym (mark_eq-true k s.key e) in (
            record { key = k; elements = x ∷ s.elements },
            ss,
            ap after e,
            refl,
            ap (λ b. one ++ rest b) e
                ∙ sym (append_assoc one (encode_utf8_all (run_letters h s)) (closing_mark s.key ++ text_with_marks h ss))
                ∙ (λ i. sym (encode-append (letter_of h x) (run_letters h s)) i ++ (closing_mark (same i) ++ text_with_marks h ss)),
          )
      | inr e ↦ (
        alone h k x,
        s ∷ ss,
        ap after e,
        refl,
        ap (λ b. one ++ rest b) e ∙ ap (λ l. encode_utf8_all l ++ (closing_mark k ++ text_with_marks h (s ∷ ss))) (sym (append-nil (letter_of h x))),
      )
    ]

-- the end of a run, the start of the next one and its letters
turned : (h : List Op) (m k : Mark) (x : Identifier) (ss : List (Stretch Mark))
    → (turn_of_run (Some m) k ++ encode_utf8_all (letter_of h x)) ++ behind h k ss ≡ behind h m (joined_stretch mark_eq k x ss)
turned h m k x ss =
    let f = joins_first h k x ss in
    let one : List ℕ = encode_utf8_all (letter_of h x) in
    let start : Bool → List ℕ = λ b. if b then [] else closing_mark m ++ opening k in
    let rest : Mark → Bool → List ℕ = λ z b. if b then inside h f.0 f.1 else closing_mark m ++ text_with_marks h (f.0 ∷ f.1) in
    let begins : text_with_marks h (f.0 ∷ f.1) ≡ opening k ++ inside h f.0 f.1 =
    simp append_assoc (ap (λ z. opening z ++ inside h f.0 f.1) f.3) in
    append_assoc (turn_of_run (Some m) k) one (behind h k ss)
    ∙ ap (λ l. turn_of_run (Some m) k ++ l) f.4
    ∙ elim (cases_Bool (mark_eq m k)) [
      | inl e ↦
          ap (λ b. start b ++ inside h f.0 f.1) e
          ∙ sym (ap (behind h m) f.2 ∙ ap (λ z. if mark_eq m z then inside h f.0 f.1 else closing_mark m ++ text_with_marks h (f.0 ∷ f.1)) f.3 ∙ ap (rest k) e)
      | inr e ↦
          ap (λ b. start b ++ inside h f.0 f.1) e ∙ append_assoc (closing_mark m) (opening k) (inside h f.0 f.1) ∙ ap (λ l. closing_mark m ++ l) (sym begins)
          ∙ sym (ap (behind h m) f.2 ∙ ap (λ z. if mark_eq m z then inside h f.0 f.1 else closing_mark m ++ text_with_marks h (f.0 ∷ f.1)) f.3 ∙ ap (rest k) e)
    ]

-- what is written after the start of a run
parts_after : (h : List Op) (key : Identifier → Option Mark) (m : Mark) (xs : List Identifier) → parts_from h key (Some m) xs ≡ behind h m (stretches mark_eq key xs)
parts_after h key m [] = refl
parts_after h key m (x ∷ xs) =
    elim (key x) as (λ (o : Option Mark). element_part h (Some m) o x
    ++ parts_from h key (open_after (Some m) o) xs ≡ behind h m (elim o [ None ↦ stretches mark_eq key xs | Some k ↦ joined_stretch mark_eq k x (stretches mark_eq key xs) ])) [
      | None ↦ parts_after h key m xs
      | Some k ↦ ap (λ l. (turn_of_run (Some m) k ++ encode_utf8_all (letter_of h x)) ++ l) (parts_after h key k xs) ∙ turned h m k x (stretches mark_eq key xs)
    ]

-- all that is written is the runs in their marks
pub parts_marked : (h : List Op) (key : Identifier → Option Mark) (xs : List Identifier) → parts_from h key None xs ≡ text_with_marks h (stretches mark_eq key xs)
parts_marked h key [] = refl
parts_marked h key (x ∷ xs) =
    elim (key x) as (λ (o : Option Mark). element_part h None o x
    ++ parts_from h key (open_after None o) xs ≡ text_with_marks h
    (elim o [ None ↦ stretches mark_eq key xs | Some k ↦ joined_stretch mark_eq k x (stretches mark_eq key xs) ])) [
      | None ↦ parts_marked h key xs
      | Some k ↦
          let ss = stretches mark_eq key xs in
          let f = joins_first h k x ss in
          ap (λ l. (opening k ++ encode_utf8_all (letter_of h x)) ++ l) (parts_after h key k xs)
          ∙ append_assoc (opening k) (encode_utf8_all (letter_of h x)) (behind h k ss)
          ∙ ap (λ l. opening k ++ l) f.4
          ∙ sym (ap (text_with_marks h) f.2 ∙ simp append_assoc (ap (λ z. opening z ++ inside h f.0 f.1) f.3))
    ]

-- an element in front of stretches: it is in a marked run, or another one has marks
joined_marks : (k : Mark) (x : Identifier) (ss : List (Stretch Mark)) → list_any is_marked (joined_stretch mark_eq k x ss) ≡ (is_changed_element (Some k) || list_any is_marked ss)
joined_marks k x [] = refl
joined_marks k x (s ∷ ss) =
    let after : Bool → List (Stretch Mark) = λ b. if b then record { key = k; elements = x ∷ s.elements } ∷ ss else record { key = k; elements = x ∷ [] } ∷ s ∷ ss in
    elim (cases_Bool (mark_eq k s.key)) [
      | inl e ↦
          ap (λ b. list_any is_marked (after b)) e ∙ again (is_changed_element (Some k)) (list_any is_marked ss)
          ∙ ap (λ z. is_changed_element (Some k) || (is_changed_element (Some z) || list_any is_marked ss)) (mark_eq-true k s.key e)
      | inr e ↦ ap (λ b. list_any is_marked (after b)) e
    ]
  where
    again : (a b : Bool) → (a || b) ≡ (a || (a || b))
    again true b = refl
    again false b = refl

-- a run has marks around it where one of its elements is such
pub marks_by_elements : (key : Identifier → Option Mark) (xs : List Identifier) → list_any is_marked (stretches mark_eq key xs) ≡ list_any (λ x. is_changed_element (key x)) xs
marks_by_elements key [] = refl
marks_by_elements key (x ∷ xs) =
    elim (key x) as (λ (o : Option Mark). list_any is_marked
    (elim o [ None ↦ stretches mark_eq key xs | Some k ↦ joined_stretch mark_eq k x (stretches mark_eq key xs) ])
    ≡ (is_changed_element o || list_any (λ y. is_changed_element (key y)) xs)) [
      | None ↦ marks_by_elements key xs
      | Some k ↦ joined_marks k x (stretches mark_eq key xs) ∙ ap (λ b. is_changed_element (Some k) || b) (marks_by_elements key xs)
    ]
