-- What a retitle of a replica is.
use Rattle.std.proofs.Common.{Bool, List, [], ap, arith, length, subst, sym, true, ℕ, ◌+◌, ◌<◌, ◌≤◌, ◌∙◌, ◌∷◌, ◌≡◌, ◌&&◌, not}
use Rattle.std.specs.Prelude.{Err, IfOk, Ok, Result, nat_le, nat_lt}
use Rattle.std.specs.List.{Contains}
use Rattle.std.specs.Str.{IsUtf8, chars, encode_utf8_all, is_utf8}
use Rattle.std.proofs.lemmas.Bool.{and_from, and_parts}
use Rattle.std.proofs.lemmas.Bool.Decides.{nat_tests}
use Rattle.std.proofs.lemmas.Str.{IsUtf8-from_is_utf8, is_utf8-from_IsUtf8}
use Rattle.fugue_ids.specs.Identifiers.{Identifier}
use Rattle.fugue_ids.specs.Titles.{IsTitleText, has_line_end}
use Rattle.fugue_ids.specs.declared.limits.TheConstants.{LONGEST_TITLE}
use Rattle.fugue_ids.specs.declared.op.Op.{Op}
use Rattle.fugue_ids.proofs.TextLemmas.{encode_utf8_all-chars}
use Rattle.origin_model.specs.edits.Edits.{id_at}
use Rattle.origin_model.specs.edits.Noting.{AreHeld, IsNoted, note_by}
use Rattle.origin_model.specs.edits.Effect.{Gains}
use Rattle.origin_model.specs.edits.Refusal.{next_of_own}
use Rattle.origin_model.specs.edits.State.{IsSound, State}
use Rattle.origin_model.specs.operations.Verdict.{Lawful}
use Rattle.catalogue_notes.specs.Arranged.{arranged, heading}
use Rattle.catalogue_notes.specs.Claims.{is_title}
use Rattle.catalogue_notes.specs.Laws.{IsRetitled}
use Rattle.catalogue_notes.specs.Lift.{is_section, stamp}
use Rattle.catalogue_notes.specs.Making.{retitle_body}
use Rattle.catalogue_notes.specs.Moving.{IsRetitleMade, IsRetitlePlan, retitle_by}
use Rattle.catalogue_notes.specs.declared.moving.MoveFault.{MoveFault}
use Rattle.catalogue_notes.specs.declared.moving.Plan.{Plan}
use Rattle.catalogue_notes.specs.declared.limits.TheConstants.{RETITLE_CODE}
use Rattle.catalogue_notes.proofs.ArrangedLemmas.{arranged_shown, shown_is}
use Rattle.catalogue_notes.proofs.HolderLemmas.{is_section-held}
use Rattle.catalogue_notes.proofs.MovingLemmas.{fresh, ready_held}
use Rattle.catalogue_notes.proofs.RetitleLemmas.{retitle_lands}
use Rattle.origin_model.proofs.edits.SplitLemmas.{get_in}

title_length : (n : ℕ) → 0 < n → n ≤ LONGEST_TITLE → (nat_lt 0 n ≡ true) × (nat_le n LONGEST_TITLE ≡ true)
title_length n a b = (grind (arith, nat_tests), grind (arith, nat_tests))

-- the text of a title is one
pub title_text : (bytes : List ℕ) → IsUtf8 bytes → IsTitleText bytes → is_title bytes ≡ true
title_text bytes u t =
    let l = title_length (length bytes) t.some t.short in
    let a : Bool = nat_lt 0 (length bytes) in
    let b : Bool = nat_le (length bytes) LONGEST_TITLE in
    let utf8 = is_utf8-from_IsUtf8 bytes u in
    let one = and_from (is_utf8 bytes) a utf8 l.0 in
    let two = and_from (is_utf8 bytes && a) b one l.1 in
    and_from (is_utf8 bytes && a && b) (not (has_line_end bytes)) two (ap not t.one_line)

-- a title is UTF-8
pub title_utf8 : (bytes : List ℕ) → is_title bytes ≡ true → is_utf8 bytes ≡ true
title_utf8 bytes t =
    let a : Bool = nat_lt 0 (length bytes) in
    let b : Bool = nat_le (length bytes) LONGEST_TITLE in
    let two = (and_parts (is_utf8 bytes && a && b) (not (has_line_end bytes)) t).0 in
    let one = (and_parts (is_utf8 bytes && a) b two).0 in
    (and_parts (is_utf8 bytes) a one).0

-- and its bytes are those of its scalars
pub title_bytes : (bytes : List ℕ) → is_title bytes ≡ true → encode_utf8_all (chars bytes) ≡ bytes
title_bytes bytes t = encode_utf8_all-chars bytes (IsUtf8-from_is_utf8 bytes (title_utf8 bytes t))

-- an arranged section is held by a Section
pub arranged_section : (h : List Op) (s : Identifier) → Lawful h → Contains (arranged h) s → is_section h s ≡ true
arranged_section h s w m = let f = shown_is h s w (arranged_shown h s m) in is_section-held h s f.0 f.1 f.2

-- the planned retitle lands
module _ (s : State) (k : ℕ) (title : List ℕ) (plan : Plan) (p : IsRetitlePlan s k title plan) (st : IsSound s) where
  pub retitle_plan_lands : IsRetitled s.held.history (retitle_by s p.section title) p.section title
  retitle_plan_lands =
      subst (IsRetitled s.held.history (retitle_by s p.section title) p.section) p.scalars
      (retitle_lands s.held.history (id_at s.number (next_of_own s)) p.section (encode_utf8_all title) st.lawful (fresh s) p.left_over
      (arranged_section s.held.history p.section st.lawful (get_in (arranged s.held.history) k p.section p.placed)) p.is_text)

  pub retitle_plan_held : AreHeld s.held.history plan.names
  retitle_plan_held =
      let h : List Op = s.held.history in
      subst (AreHeld h) (sym p.names_are)
      (ready_held h (id_at s.number (next_of_own s)) (p.section ∷ []) RETITLE_CODE (retitle_body (stamp h + 1) (encode_utf8_all title)) retitle_plan_lands.ready)

  retitle_made : (new : State) (n : ℕ) → IsNoted s new plan.names RETITLE_CODE plan.body n → IsRetitleMade s new k title n
  retitle_made new n i =
      let g : Gains s new (retitle_by s p.section title ∷ []) = subst (λ (op : Op). Gains s new (op ∷ [])) (λ t. note_by s (p.names_are t) RETITLE_CODE (p.body_is t)) i.gained in
      record {
        count = i.count;
        section = p.section;
        placed = p.placed;
        gained = g;
        titled = ap (λ (z : State). heading z.held.history p.section) g.others ∙ retitle_plan_lands.titled;
        retitled = retitle_plan_lands;
      }

  -- an answer, by its plan
  pub retitled_by_plan : (new : State) (r : Result ℕ MoveFault) → IfOk r (λ n. IsNoted s new plan.names RETITLE_CODE plan.body n) → IfOk r (λ n. IsRetitleMade s new k title n)
  retitled_by_plan new (Ok n) i = retitle_made new n i
  retitled_by_plan new (Err e) i = tt
