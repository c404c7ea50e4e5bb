-- What is printed by what was looked up is what the definitions say.
use Rattle.std.proofs.Common.{List, [], ap, false, inl, inr, not, refl, subst, sym, true, ℕ, ◌++◌, ◌∙◌, ◌∷◌, ◌≡◌, ◌⊎◌}
use Rattle.std.specs.Prelude.{IfSome, IsSome, None, Option, Some, codes, drop, flat_map, if◌then◌else◌, nat_eq, option_map}
use Rattle.std.specs.List.{Contains}
use Rattle.std.specs.Str.{chars, encode_utf8_all}
use Rattle.std.proofs.lemmas.Bool.{cases_Bool, false≢true}
use Rattle.fugue_ids.specs.Identifiers.{Identifier}
use Rattle.fugue_ids.specs.declared.op.Op.{Op}
use Rattle.fugue_ids.specs.declared.op.Op.TheVariants.{Delete, Note, Section, Text}
use Rattle.fugue_ids.proofs.ListLemmas.{contains_filter_from}
use Rattle.origin_model.specs.declared.operations.Place.TheVariants.{Catalogue as catalogue}
use Rattle.origin_model.specs.declared.operations.Role.TheVariants.{Section as SectionRole}
use Rattle.origin_model.specs.operations.History.{holder}
use Rattle.origin_model.specs.operations.Verdict.{Lawful, fits}
use Rattle.origin_model.specs.order.Order.{order}
use Rattle.origin_model.specs.order.Printed.{is_hidden, title_of}
use Rattle.origin_model.proofs.SharedLemmas.{order_total}
use Rattle.section_list.specs.SectionList.{Listing}
use Rattle.section_catalogue.specs.Contents.{Contents, text_at}
use Rattle.section_catalogue.specs.Manuscript.{IsTextOf, LookUpsAgree}
use Rattle.catalogue_notes.specs.Arranged.{arranged, arranged_section, arranged_text, heading, winner}
use Rattle.catalogue_notes.specs.Claims.{Retitle, claim, is_title, retitle_in, retitle_of, stamp_of}
use Rattle.catalogue_notes.specs.Laws.{IsValidRetitle, IsWinner}
use Rattle.catalogue_notes.specs.Lift.{is_section, retitles}
use Rattle.catalogue_notes.specs.Printing.{IsLayout, page, printed_by, title_source, title_in, title_of_op, utf8_or_none}
use Rattle.catalogue_notes.specs.Readings.{candidate_of}
use Rattle.catalogue_notes.specs.declared.layout.Layout.{Layout}
use Rattle.catalogue_notes.specs.declared.reading.Candidate.{Candidate}
use Rattle.catalogue_notes.specs.declared.limits.TheConstants.{RETITLE_CODE}
use Rattle.catalogue_notes.proofs.ArrangedLemmas.{arranged_shown}
use Rattle.catalogue_notes.proofs.HolderLemmas.{cases_option, not_both, section_held}
use Rattle.catalogue_notes.proofs.LiftLemmas.{if_so, some_inj}
use Rattle.catalogue_notes.proofs.PartLemmas.{parts_same}
use Rattle.catalogue_notes.proofs.RetitlingLemmas.{arranged_section as arranged_held, title_bytes, title_utf8}
use Rattle.catalogue_notes.proofs.ValidLemmas.{valid_in_whole, winners}

-- what a retitle gives as a title
note_title : (id : Identifier) (named : List Identifier) (body : List ℕ) (r : Retitle) → retitle_of id named body ≡ Some r → utf8_or_none (drop 4 body) ≡ encode_utf8_all r.value
note_title id (s ∷ []) (a ∷ b ∷ c ∷ d ∷ title) r k = by (cases_Bool (is_title title))
  where
    one : Retitle
    one = claim id s (stamp_of a b c d) (chars title)

    by : (is_title title ≡ true) ⊎ (is_title title ≡ false) → utf8_or_none title ≡ encode_utf8_all r.value
    by (inl t) =
        let q : one ≡ r = some_inj one r (sym (ap (λ z. if z then Some one else None) t) ∙ k) in
        ap (λ z. if z then title else []) (title_utf8 title t) ∙ sym (title_bytes title t) ∙ ap (λ (z : Retitle). encode_utf8_all z.value) q
    by (inr t) = absurd (not_both (if is_title title then Some one else None) r (ap (λ z. if z then Some one else None) t) k)
note_title id _ _ r k = absurd (not_both None r refl k)

retitle_title : (op : Op) (r : Retitle) → retitle_in op ≡ Some r → title_in op ≡ encode_utf8_all r.value
retitle_title (Section i l t ti) r k = absurd (not_both None r refl k)
retitle_title (Text i s l t c) r k = absurd (not_both None r refl k)
retitle_title (Delete i) r k = absurd (not_both None r refl k)
retitle_title (Note id named code body) r k = note_title id named body r (if_so (nat_eq code RETITLE_CODE) (retitle_of id named body) r k)

section_title : (op : Op) → fits SectionRole op ≡ true → title_in op ≡ encode_utf8_all (title_of (Some op))
section_title (Section i l r t) k = refl
section_title (Text i s l r c) k = cc
section_title (Delete i) k = cc
section_title (Note i ns c b) k = cc

abbrev value_by : List ℕ → Option Retitle → List ℕ
value_by own o = elim o [ None ↦ own | Some r ↦ r.value ]

abbrev source_by : List Op → Identifier → Option Candidate → Option Op
source_by h s o = elim o [ None ↦ holder h s | Some b ↦ holder h b.id ]

-- the title that was found is the heading
pub heading_found : (h : List Op) (l : Layout) (s : Identifier) → Lawful h → IsLayout h l → is_section h s ≡ true → title_of_op (title_source h l s) ≡ encode_utf8_all (heading h s)
heading_found h l s w f k =
    elim (cases_option (winner h s (retitles h))) [
      | inl n ↦
          let own = section_held h s k in
          let ops_source : title_source h l s ≡ holder h s = ap (source_by h s) (f.winners s ∙ ap (option_map candidate_of) n) in
          ap title_of_op (ops_source ∙ own.1)
          ∙ section_title own.0 own.2
          ∙ sym (ap (λ o. encode_utf8_all (value_by (title_of (holder h s)) o)) n ∙ ap (λ o. encode_utf8_all (title_of o)) own.1)
      | inr r ↦
          let ops_source : title_source h l s ≡ holder h r.0.id = ap (source_by h s) (f.winners s ∙ ap (option_map candidate_of) r.1) in
          let won : IsWinner h s (retitles h) r.0 = subst (λ o. IfSome o (λ c. IsWinner h s (retitles h) c)) r.1 (winners h s w).1.is in
          let valid : IsValidRetitle h r.0 = ((valid_in_whole h w).retitles_are r.0).0 won.member in
          ap title_of_op (ops_source ∙ valid.held)
          ∙ retitle_title valid.op r.0 valid.says
          ∙ sym (ap (λ o. encode_utf8_all (value_by (title_of (holder h s)) o)) r.1)
    ]

-- an arranged section has its text
text_found : (m : Contents) (h : List Op) (s : Identifier) → Lawful h → LookUpsAgree m h → Contains (arranged h) s → (l : Listing) × (text_at m s ≡ Some l) × IsTextOf s h l
text_found m h s w a k =
    let in_order = (contains_filter_from (λ s. not (is_hidden h s)) (order catalogue h) s (arranged_shown h s k)).0 in
    let there = (a.there s).1 (((order_total catalogue h w).lists s).1 in_order) in
    by (text_at m s) there (a.section_is s)
  where
    by : (o : Option Listing) → IsSome o → IfSome o (IsTextOf s h) → (l : Listing) × (o ≡ Some l) × IsTextOf s h l
    by None t i = absurd (false≢true t)
    by (Some l) t i = (l, refl, i)

-- so what is printed is the text of the definitions
pub printed_all : (m : Contents) (h : List Op) (l : Layout) → Lawful h → LookUpsAgree m h → IsLayout h l
    → flat_map (printed_by m h l) l.arrangement.sections.items ≡ arranged_text h
unfolding arranged_text
printed_all m h l w a f =
    ap (flat_map (printed_by m h l)) f.arranged.sections
    ∙ parts_same (printed_by m h l) (arranged_section h) (arranged h) (λ s k.
    let t = text_found m h s w a k in
    let head = heading_found h l s w f (arranged_held h s w k) in
    ap (page (title_of_op (title_source h l s))) t.1
    ∙ (λ i. codes "# " ++ head i ++ 10 ∷ encode_utf8_all (t.2.text i) ++ 10 ∷ []))
