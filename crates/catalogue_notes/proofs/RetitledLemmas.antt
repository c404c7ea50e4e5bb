-- The valid retitles, as operations are passed one after another.
use Rattle.std.proofs.Common.{Bool, List, [], ap, false, get_or, inl, inr, length, map, refl, reverse, sym, ℕ, ◌+◌, ◌++◌, ◌<◌, ◌∙◌, ◌∷◌, ◌≡◌}
use Rattle.std.specs.Prelude.{None, Option, Some, if◌then◌else◌, option_map, option_to_list}
use Rattle.std.specs.List.{All}
use Rattle.std.proofs.lemmas.Bool.{cases_Bool, true≢false}
use Rattle.std.proofs.lemmas.List.{reverse-append}
use Rattle.std.proofs.lemmas.List.Elements.{All-head}
use Rattle.fugue_ids.specs.Identifiers.{Identifier}
use Rattle.fugue_ids.specs.declared.op.Op.{Op}
use Rattle.fugue_ids.specs.declared.op.Op.TheVariants.{Delete, Note, Section, Text}
use Rattle.origin_model.specs.operations.Verdict.{Lawful}
use Rattle.replica_core.specs.Index.{is_section_or_note}
use Rattle.catalogue_notes.specs.Claims.{Claim, Retitle, retitle_in}
use Rattle.catalogue_notes.specs.Lift.{is_section, is_valid_title, passing, retitles}
use Rattle.catalogue_notes.specs.Lift.{claims}
use Rattle.catalogue_notes.specs.Readings.{candidate_of, known_candidate, known_retitle, retitle_candidate}
use Rattle.catalogue_notes.specs.declared.reading.Candidate.{Candidate}
use Rattle.catalogue_notes.proofs.ClaimLemmas.{claims-none, claims-some}
use Rattle.catalogue_notes.proofs.HolderLemmas.{anything, cases_option, joins}
use Rattle.catalogue_notes.proofs.LiftingLemmas.{Passed, lawful_at, section_at}
use Rattle.origin_model.proofs.SharedLemmas.{Fits}
use Rattle.catalogue_notes.proofs.RetitleLemmas.{title_shape}
use Rattle.replica_core.proofs.WalkLemmas.{passed_step}
use Rattle.std.proofs.Common.{subst}

-- what one operation more adds
step : (known : Identifier → Bool) (h : List Op) (op : Op) → ((r : Retitle) → retitle_in op ≡ Some r → known r.section ≡ is_section h r.section)
    → map candidate_of (retitles (op ∷ h)) ≡ option_to_list (known_retitle known op) ++ map candidate_of (retitles h)
step known h op k =
    let by : Option Candidate → List Candidate = λ o. option_to_list (known_candidate known o) ++ map candidate_of (retitles h) in
    let valid : Option Retitle → Option Retitle = λ o. passing (is_valid_title h) o in
    elim (cases_option (retitle_in op)) [
      | inl n ↦ ap (map candidate_of) (claims-none retitle_in is_valid_title op h (ap valid n)) ∙ sym (ap by (ap (option_map retitle_candidate) n))
      | inr r ↦
          let pick : Bool → Option Retitle = λ b. if b then Some r.0 else None in
          let pick' : Bool → Option Candidate = λ b. if b then Some (candidate_of r.0) else None in
          let s = k r.0 r.1 in
          elim (cases_Bool (is_section h r.0.section)) [
            | inl t ↦ ap (map candidate_of) (claims-some retitle_in is_valid_title op h r.0 (ap valid r.1 ∙ ap pick t))
                ∙ sym (ap by (ap (option_map retitle_candidate) r.1) ∙ ap (λ b. option_to_list (pick' b) ++ map candidate_of (retitles h)) (s ∙ t))
            | inr t ↦ ap (map candidate_of) (claims-none retitle_in is_valid_title op h (ap valid r.1 ∙ ap pick t))
                ∙ sym (ap by (ap (option_map retitle_candidate) r.1) ∙ ap (λ b. option_to_list (pick' b) ++ map candidate_of (retitles h)) (s ∙ t))
          ]
    ]

-- what the operation at a place of the list adds
pub retitled_more : (ops : List Op) (i : ℕ) (op : Op) (known : Identifier → Bool) → Lawful (reverse ops) → ((s : Identifier) → known s ≡ is_section (reverse ops) s)
    → i < length ops → op ≡ get_or ops i op
    → map candidate_of (retitles (op ∷ Passed ops i)) ≡ option_to_list (known_retitle known op) ++ map candidate_of (retitles (Passed ops i))
retitled_more ops i op known w k l e =
    let h : List Op = Passed ops i in
    let v = lawful_at ops i op w l e in
    step known h op (λ r q.
    let f = All-head (Fits h) (anything r.section) [] (subst (All (Fits h)) (title_shape op r q).named (joins h op v.0).fit) in
    k r.section ∙ section_at ops i op r.section w l e (f.0, f.1))

-- what is neither a Section nor a Note adds none
no_retitle : (h : List Op) (op : Op) → is_section_or_note op ≡ false → retitles (op ∷ h) ≡ retitles h
no_retitle h (Section i l r t) e = absurd (true≢false e)
no_retitle h (Text i s l r c) e = claims-none retitle_in is_valid_title (Text i s l r c) h refl
no_retitle h (Delete i) e = claims-none retitle_in is_valid_title (Delete i) h refl
no_retitle h (Note i ns c b) e = absurd (true≢false e)

pub not_retitled : (known : Identifier → Bool) (op : Op) → is_section_or_note op ≡ false → known_retitle known op ≡ None
not_retitled known (Section i l r t) e = absurd (true≢false e)
not_retitled known (Text i s l r c) e = refl
not_retitled known (Delete i) e = refl
not_retitled known (Note i ns c b) e = absurd (true≢false e)

-- so it is passed over
pub retitled_between : (ops : List Op) (candidates : List Candidate) (i : ℕ) (op : Op) → i < length ops → op ≡ get_or ops i op → is_section_or_note op ≡ false
    → reverse candidates ≡ map candidate_of (retitles (Passed ops i)) → reverse candidates ≡ map candidate_of (retitles (Passed ops (i + 1)))
retitled_between ops candidates i op l e other is =
    passed_step (λ h. reverse candidates ≡ map candidate_of (retitles h)) ops i op l e (is ∙ ap (map candidate_of) (sym (no_retitle (Passed ops i) op other)))

-- one candidate more, pushed or not
pub candidates_more : (candidates : List Candidate) (o : Option Candidate) (h g : List Op) → reverse candidates ≡ map candidate_of (retitles h)
    → map candidate_of (retitles g) ≡ option_to_list o ++ map candidate_of (retitles h)
    → reverse (candidates ++ option_to_list o) ≡ map candidate_of (retitles g)
candidates_more candidates o h g k s = reverse-append candidates (option_to_list o) ∙ (λ i. reverse-one o i ++ k i) ∙ sym s
  where
    reverse-one : (o : Option Candidate) → reverse (option_to_list o) ≡ option_to_list o
    reverse-one None = refl
    reverse-one (Some b) = refl

pub no_retitles : retitles [] ≡ []
unfolding claims
no_retitles = refl

-- the stamps of claims are those of their candidates
pub candidate_stamps : {V : Type 0} → (cs : List (Claim V)) → map (λ (b : Candidate). b.stamp) (map candidate_of cs) ≡ map (λ (c : Claim V). c.stamp) cs
candidate_stamps [] = refl
candidate_stamps (c ∷ cs) = ap (λ l. c.stamp ∷ l) (candidate_stamps cs)
