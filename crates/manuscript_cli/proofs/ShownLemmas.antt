-- No replica shows more sections and letters than it may hold operations.
use Rattle.std.proofs.Common.{◌≡◌, ◌≢◌, inl, inr, ℕ, ◌+◌, ◌≤◌, List, [], ◌∷◌, Option, None, Some, length, ap, sym, ◌∙◌, refl, arith}
use Rattle.std.specs.Prelude.{All, AllPairs, count_by, not}
use Rattle.std.specs.List.{sum_by}
use Rattle.std.proofs.lemmas.List.Edits.{length-insert}
use Rattle.std.proofs.lemmas.List.Sums.{count_by-le-length, length-filter, sum_by-cons, sum_by-le, sum_by-le-sum_by}
use Rattle.std.proofs.lemmas.List.Concat.{length-flat_map}
use Rattle.std.proofs.lemmas.List.Elements.{All-head, All-tail, All-weaker}
use Rattle.fugue_ids.proofs.ListLemmas.{all_from_contains, all_pairs_head, all_pairs_tail}
use Rattle.fugue_ids.specs.Identifiers.{Identifier}
use Rattle.fugue_ids.specs.declared.op.Op.{Op}
use Rattle.fugue_ids.specs.declared.op.Op.TheVariants.{Delete, Note, Section, Text}
use Rattle.origin_model.specs.declared.operations.Place.{Place}
use Rattle.origin_model.specs.declared.operations.Place.TheVariants.{Catalogue as catalogue, Section as within}
use Rattle.origin_model.specs.operations.History.{element_of, holder}
use Rattle.origin_model.specs.order.Order.{before_in, order}
use Rattle.origin_model.specs.order.Printed.{is_hidden, scalar_of, shown, text}
use Rattle.catalogue_notes.specs.Arranged.{arranged}
use Rattle.catalogue_notes.proofs.ArrangedLemmas.{arranged_length, arranged_once}
use Rattle.manuscript_cli.specs.Revising.{ShowsNoMore}
use Rattle.origin_model.proofs.SharedLemmas.{none_elsewhere, order-none, order-some, order_bounded}
use Rattle.fugue_ids.proofs.IdentifierLemmas.{cases_origin}

-- how many elements these sections have
abbrev elements : List Op → List Identifier → ℕ
elements h sections = sum_by (λ s. length (order (within s) h)) sections

-- one more where the operation is an element of the place
one_more : (p : Place) (op : Op) (h : List Op) (x : Identifier) → element_of p op ≡ Some x → length (order p (op ∷ h)) ≡ length (order p h) + 1
one_more p op h x e =
    let stands = λ (z : Identifier). before_in (order p h) (op ∷ h) z x in
    ap length (order-some p op h x e) ∙ length-insert (order p h) (count_by stands (order p h)) x (count_by-le-length stands (order p h))

-- sections that are not the place of the operation have the elements that they had
others_stay : (p : Place) (op : Op) (h : List Op) (x : Identifier) (sections : List Identifier) → element_of p op ≡ Some x → All (λ s. p ≢ within s) sections
    → elements (op ∷ h) sections ≡ elements h sections
others_stay p op h x [] e apart = refl
others_stay p op h x (s ∷ sections) e apart =
    let here : order (within s) (op ∷ h) ≡ order (within s) h =
    order-none (within s) op h (none_elsewhere p (within s) op x e (λ same. All-head (λ s. p ≢ within s) s sections apart (sym same))) in
    let rest = others_stay p op h x sections e (All-tail (λ s. p ≢ within s) s sections apart) in
    omega (arith, ap length here, rest, sum_by-cons (λ s. length (order (within s) (op ∷ h))) s sections, sum_by-cons (λ s. length (order (within s) h)) s sections)

same_section : (s t : Identifier) → within s ≡ within t → s ≡ t
same_section s t e = cc e

-- so an operation is an element of one section at most
sections_gain : (op : Op) (h : List Op) (sections : List Identifier) → AllPairs (λ s t. s ≢ t) sections → elements (op ∷ h) sections ≤ elements h sections + 1
sections_gain op h [] once = omega arith
sections_gain op h (s ∷ sections) once =
    let new = sum_by-cons (λ s. length (order (within s) (op ∷ h))) s sections in
    let old = sum_by-cons (λ s. length (order (within s) h)) s sections in
    elim (cases_origin (element_of (within s) op)) [
      | inl none ↦ omega (arith, new, old, ap length (order-none (within s) op h none), sections_gain op h sections (all_pairs_tail (λ s t. s ≢ t) s sections once))
      | inr some ↦
          let apart = All-weaker (λ t. s ≢ t) (λ t. within s ≢ within t) (λ t other same. other (same_section s t same)) sections (all_pairs_head (λ s t. s ≢ t) s sections once) in
          omega (arith, new, old, one_more (within s) op h some.0 some.1, others_stay (within s) op h some.0 sections some.1 apart)
    ]

never_catalogue : (sections : List Identifier) → All (λ s. catalogue ≢ within s) sections
never_catalogue sections = all_from_contains (λ s. catalogue ≢ within s) sections (λ s member same. cc same)

-- or of the catalogue
elements_few : (h : List Op) (sections : List Identifier) → AllPairs (λ s t. s ≢ t) sections → length (order catalogue h) + elements h sections ≤ length h
elements_few [] sections once =
    omega (
      arith,
      order_bounded catalogue [],
      sum_by-le (λ s. length (order (within s) [])) 0 sections
          (all_from_contains (λ s. length (order (within s) []) ≤ 0) sections (λ s member. order_bounded (within s) [])),
    )
elements_few (op ∷ h) sections once =
    let before = elements_few h sections once in
    elim (cases_origin (element_of catalogue op)) [
      | inl none ↦ omega (arith, before, ap length (order-none catalogue op h none), sections_gain op h sections once)
      | inr some ↦ omega (arith, before, one_more catalogue op h some.0 some.1, others_stay catalogue op h some.0 sections some.1 (never_catalogue sections))
    ]

scalar_one : (o : Option Op) → length (scalar_of o) ≤ 1
scalar_one None = omega arith
scalar_one (Some (Section id left right title)) = omega arith
scalar_one (Some (Text id section left right ch)) = omega arith
scalar_one (Some (Delete target)) = omega arith
scalar_one (Some (Note id names code body)) = omega arith

-- each letter that is shown is an element
letters_few : (h : List Op) (s : Identifier) → length (text h s) ≤ length (order (within s) h)
letters_few h s =
    let members : List Identifier = shown (within s) h in
    omega (
      arith,
      length-flat_map (λ x. scalar_of (holder h x)) members,
      sum_by-le (λ x. length (scalar_of (holder h x))) 1 members (all_from_contains (λ x. length (scalar_of (holder h x)) ≤ 1) members (λ x member. scalar_one (holder h x))),
      length-filter (λ x. not (is_hidden h x)) (order (within s) h),
      count_by-le-length (λ x. not (is_hidden h x)) (order (within s) h),
    )

-- no more sections and letters are shown than there are operations
shown_few : (h : List Op) (sections : List Identifier) → AllPairs (λ s t. s ≢ t) sections → length sections ≡ length (shown catalogue h)
    → length sections + sum_by (λ s. length (text h s)) sections ≤ length h
shown_few h sections once all =
    omega (
      arith,
      all,
      length-filter (λ x. not (is_hidden h x)) (order catalogue h),
      count_by-le-length (λ x. not (is_hidden h x)) (order catalogue h),
      elements_few h sections once,
      sum_by-le-sum_by (λ s. length (text h s)) (λ s. length (order (within s) h)) sections (letters_few h),
    )

pub shows_no_more : ShowsNoMore
shows_no_more s stands =
    let h : List Op = s.held.history in
    omega (arith, shown_few h (arranged h) (arranged_once h stands.lawful) (arranged_length h stands.lawful), stands.few, stands.most_within.1)
