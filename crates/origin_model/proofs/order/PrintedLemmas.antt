-- What is printed, by the parts that the elements of the list add.
use Rattle.origin_model.proofs.Words.{Bool, Identifier, List, Op, Place, [], ap, append_assoc, catalogue, codes, cond, false, filter, flat_map, holder, if◌then◌else◌, is_hidden}
use Rattle.origin_model.proofs.Words.{manuscript, not, place_eq, printed_section, refl, scalar_of, shown, sym, text, true, within, ℕ, ◌&&◌, ◌++◌, ◌∙◌, ◌∷◌, ◌≡◌}
use Rattle.std.specs.Str.{encode_utf8_all}
use Rattle.fugue_ids.proofs.TextLemmas.{encode-parts}
use Rattle.origin_model.specs.declared.order.listing.Listed.{Listed}
use Rattle.origin_model.specs.order.Listed.{elements_at, ListsAll, part, scalar_bytes_of, shows}

module _ (bytes_of : Identifier → List ℕ) (h : List Op) (p : Place) where
  abbrev kept : List Identifier → List Identifier
  kept xs = filter (λ x. not (is_hidden h x)) xs

  -- the parts of a list, joined, are the bytes of the elements that are kept
  parts_join : (es : List Listed) → flat_map (part bytes_of h p) es ≡ flat_map bytes_of (kept (elements_at p es))
  parts_join [] = refl
  parts_join (e ∷ es) =
      let rest : List Identifier = kept (elements_at p es) in
      let parts : List ℕ = flat_map (part bytes_of h p) es in
      elim (place_eq e.place p) as (λ (b : Bool).
      (if b && not (is_hidden h e.id) then bytes_of e.id else []) ++ parts
      ≡ flat_map bytes_of (kept (if b then e.id ∷ elements_at p es else elements_at p es))) [
        | true ↦ elim (is_hidden h e.id) as (λ (b : Bool).
            (if not b then bytes_of e.id else []) ++ parts ≡ flat_map bytes_of (cond (not b) (e.id ∷ rest) rest)) [
              | true ↦ parts_join es
              | false ↦ ap (λ (t : List ℕ). bytes_of e.id ++ t) (parts_join es)
            ]
        | false ↦ parts_join es
      ]

  pub parts_shown : (es : List Listed) → ListsAll h es → flat_map (part bytes_of h p) es ≡ flat_map bytes_of (shown p h)
  parts_shown es all = parts_join es ∙ ap (λ (xs : List Identifier). flat_map bytes_of (kept xs)) (all p)

-- the list's parts of a section are its text
pub text_parts : (h : List Op) (s : Identifier) (es : List Listed) → ListsAll h es → flat_map (part (scalar_bytes_of h) h (within s)) es ≡ encode_utf8_all (text h s)
text_parts h s es all = parts_shown (scalar_bytes_of h) h (within s) es all ∙ sym (encode-parts (λ x. scalar_of (holder h x)) (shown (within s) h))

-- the list's parts of the catalogue are the manuscript
pub manuscript_parts : (h : List Op) (es : List Listed) → ListsAll h es → flat_map (part (printed_section h) h catalogue) es ≡ manuscript h
unfolding manuscript
manuscript_parts h es all = parts_shown (printed_section h) h catalogue es all

-- a section is its heading, its text and a line end
pub section_joins : (title text : List ℕ) → (codes "# " ++ title ++ 10 ∷ []) ++ (text ++ 10 ∷ []) ≡ codes "# " ++ title ++ 10 ∷ text ++ 10 ∷ []
section_joins title text =
    append_assoc (codes "# " ++ title) (10 ∷ []) (text ++ 10 ∷ []) ∙ sym (append_assoc (codes "# " ++ title) (10 ∷ text) (10 ∷ []))

-- what an element that is shown adds
pub part-shown : (bytes_of : Identifier → List ℕ) (h : List Op) (p : Place) (e : Listed) → shows h p e ≡ true → part bytes_of h p e ≡ bytes_of e.id
part-shown bytes_of h p e k = ap (λ b. if b then bytes_of e.id else []) k
