-- A move or retitle is valid in a part of a history exactly where it is valid in the whole.
use Rattle.std.proofs.Common.{List, [], ap, inl, inr, refl, subst, sym, true, ◌&&◌, ◌∙◌, ◌∷◌, ◌≡◌}
use Rattle.std.specs.Prelude.{None, Option, Some, is_some, option_map}
use Rattle.std.specs.List.{All, Contains}
use Rattle.std.proofs.lemmas.Bool.{cases_Bool}
use Rattle.std.proofs.lemmas.List.Elements.{All-head}
use Rattle.fugue_ids.specs.Identifiers.{Identifier}
use Rattle.fugue_ids.specs.declared.op.Op.{Op}
use Rattle.fugue_ids.specs.declared.op.Op.TheVariants.{Delete, Note, Section, Text}
use Rattle.origin_model.specs.operations.History.{has_op, holder, is_own}
use Rattle.origin_model.specs.operations.Verdict.{Lawful, names}
use Rattle.origin_model.proofs.SharedLemmas.{Fits, has-holder, holder-has, holder-other, holder-own, is_own-id, Within, Within-part}
use Rattle.catalogue_notes.specs.Claims.{Move, Retitle, move_in, retitle_in}
use Rattle.catalogue_notes.specs.Lift.{as_section, is_section, lift, lifted_of, moves, retitles, is_present}
use Rattle.catalogue_notes.proofs.ArrangedLemmas.{found_move, move_found, move_test}
use Rattle.catalogue_notes.proofs.HolderLemmas.{IsHeld, anything, holder-kept, joins, names_held, section_by}
use Rattle.catalogue_notes.proofs.LiftLemmas.{Rests, holder-lift, lift-other, lifted-kept, lifted_at, passing-same, passing_from, passing_to, rests_of, shape}
use Rattle.catalogue_notes.proofs.RetitleLemmas.{title_shape}
use Rattle.catalogue_notes.proofs.ValidLemmas.{valid_in_whole}
use Rattle.note_laws.specs.MoveLaws.{MoveInPart, RetitleInPart}

-- of what the part holds, the same is lifted in both
abbrev LiftsAlike : List Op → List Op → Type 0
LiftsAlike part whole = (x : Identifier) → IsHeld part x → holder (lift part) x ≡ holder (lift whole) x

section_alike : (part whole : List Op) (s : Identifier) → Within part whole → IsHeld part s → is_section part s ≡ is_section whole s
section_alike part whole s f o = ap section_by (o.1 ∙ sym (f s o.0 o.1))

stands_alike : (part whole : List Op) (o : Option Identifier) → LiftsAlike part whole → ((x : Identifier) → o ≡ Some x → IsHeld part x)
    → is_present (lift part) o ≡ is_present (lift whole) o
stands_alike part whole None l k = refl
stands_alike part whole (Some x) l k = ap is_some (l x (k x refl))

-- so a move whose names the part holds is valid in both or in neither
valid_alike : (part whole : List Op) (m : Move) → Within part whole → LiftsAlike part whole → Rests part m → move_test part m ≡ move_test whole m
valid_alike part whole m f l r =
    let s = section_alike part whole m.section f r.section in
    let a = stands_alike part whole m.value.left l r.left in
    let b = stands_alike part whole m.value.right l r.right in
    λ i. s i && (a i && b i)

lifted_alike : (part whole : List Op) (op : Op) → Within part whole → LiftsAlike part whole → All (Fits part) (names op)
    → lifted_of part (lift part) op ≡ lifted_of whole (lift whole) op
lifted_alike part whole (Section i l r t) f k all = refl
lifted_alike part whole (Text i s l r c) f k all = refl
lifted_alike part whole (Delete i) f k all = refl
lifted_alike part whole (Note id named code body) f k all =
    let n : Op = Note id named code body in
    ap (option_map as_section) (passing-same (move_test part) (move_test whole) (move_in n) (λ m e. valid_alike part whole m f k (rests_of part n m all (shape n m e))))

lifts_alike : (part whole : List Op) → Lawful part → Lawful whole → Within part whole → LiftsAlike part whole
lifts_alike [] whole v w f x o = cc (o.1)
lifts_alike (e ∷ part) whole v w f x o =
    let j = joins part e v.0 in
    let g : Within part whole = λ i op k. f i op (holder-kept e op part i j k) in
    let older : LiftsAlike part whole = lifts_alike part whole v.1 w g in
    elim (cases_Bool (is_own x e)) [
      | inl t ↦
          let own : holder (e ∷ part) x ≡ Some e = holder-own e part x t in
          holder-lift (e ∷ part) x v
          ∙ ap (lifted_at (e ∷ part)) own
          ∙ lifted-kept e part e j j.fit
          ∙ lifted_alike part whole e g older j.fit
          ∙ sym (ap (lifted_at whole) (f x e own))
          ∙ sym (holder-lift whole x w)
      | inr t ↦ lift-other e part x t ∙ older x (o.0, sym (holder-other e part x t) ∙ o.1)
    ]

pub move_in_part : MoveInPart
move_in_part part whole op m v w f k says =
    let within : Within part whole = Within-part part whole w f in
    let here : holder part m.id ≡ Some op = has-holder part m.id op v k (is_own-id op m.id (shape op m says).own) in
    let there : holder whole m.id ≡ Some op = within m.id op here in
    let alike : move_test part m ≡ move_test whole m =
    valid_alike part whole m within (lifts_alike part whole v w within) (rests_of part op m (names_held part m.id op v here) (shape op m says)) in (
      λ c.
          let e = move_found part m v c in
          found_move whole m.id op m w there (passing_to (move_test whole) (move_in op) m says (sym alike ∙ (passing_from (move_test part) (move_in e.0) m e.2).1)),
      λ c.
          let e = move_found whole m w c in
          found_move part m.id op m v here (passing_to (move_test part) (move_in op) m says (alike ∙ (passing_from (move_test whole) (move_in e.0) m e.2).1)),
    )

pub retitle_in_part : RetitleInPart
retitle_in_part part whole op r v w f k says =
    let within : Within part whole = Within-part part whole w f in
    let here : holder part r.id ≡ Some op = has-holder part r.id op v k (is_own-id op r.id (title_shape op r says).own) in
    let there : holder whole r.id ≡ Some op = within r.id op here in
    let section = All-head (Fits part) (anything r.section) [] (subst (All (Fits part)) (title_shape op r says).named (names_held part r.id op v here)) in
    let alike : is_section part r.section ≡ is_section whole r.section = section_alike part whole r.section within (section.0, section.1) in
    let a = (valid_in_whole part v).retitles_are r in
    let b = (valid_in_whole whole w).retitles_are r in (
      λ c. b.1 (record { op = op; held = there; says = says; section = sym alike ∙ (a.0 c).section }),
      λ c. a.1 (record { op = op; held = here; says = says; section = alike ∙ (b.0 c).section }),
    )

-- an operation of a history that says a valid claim
pub record IsSaid {X : Type 0} (says : Op → Option X) (h : List Op) (x : X) : Type 0 where
  pub op : Op
  pub there : has_op h op ≡ true
  pub claims : says op ≡ Some x

pub move_said : (h : List Op) (m : Move) → Lawful h → Contains (moves h) m → IsSaid move_in h m
move_said h m w c = let e = ((valid_in_whole h w).moves_are m).0 c in record { op = e.op; there = holder-has h m.id e.op e.held; claims = e.says }

pub retitle_said : (h : List Op) (r : Retitle) → Lawful h → Contains (retitles h) r → IsSaid retitle_in h r
retitle_said h r w c = let e = ((valid_in_whole h w).retitles_are r).0 c in record { op = e.op; there = holder-has h r.id e.op e.held; claims = e.says }
