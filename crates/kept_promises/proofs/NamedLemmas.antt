-- A version stays the one with its name, where nothing that comes gives the name or withdraws it.
use Rattle.std.proofs.Common.{Bool, List, [], ap, false, inl, inr, nat_eq, not, refl, subst, sym, true, ℕ, ◌&&◌, ◌++◌, ◌∙◌, ◌∷◌, ◌≡◌, ◌≢◌, length}
use Rattle.std.specs.Prelude.{All, None, Option, Some, if◌then◌else◌}
use Rattle.std.proofs.lemmas.List.Elements.{All-head, All-tail}
use Rattle.std.proofs.lemmas.Bool.{cases_Bool, false_from_ne_true, false≢true, or_cases, or_left, or_parts, or_right, true≢false}
use lib.Pointwise.{bytes_decides, pointwise}
use Rattle.fugue_ids.specs.Identifiers.{Identifier, origin_eq}
use Rattle.fugue_ids.specs.Ops.{id_of, op_eq}
use Rattle.fugue_ids.specs.declared.op.Op.{Op}
use Rattle.fugue_ids.specs.declared.op.Op.TheVariants.{Delete, Note, Section, Text}
use Rattle.fugue_ids.proofs.IdentifierLemmas.{id_eq-refl, id_eq-true}
use Rattle.fugue_ids.proofs.ListLemmas.{all_from_contains}
use Rattle.fugue_ids.proofs.OpLemmas.{op_eq-refl, op_eq-true}
use Rattle.origin_model.specs.declared.operations.Role.TheVariants.{Any}
use Rattle.origin_model.specs.declared.operations.Verdict.TheVariants.{Ready}
use Rattle.origin_model.specs.operations.History.{has_op, is_own}
use Rattle.origin_model.specs.operations.Verdict.{Lawful, verdict}
use Rattle.origin_model.specs.order.Laws.{IsPartOf}
use Rattle.origin_model.specs.order.Printed.{deletes}
use Rattle.origin_model.specs.taking.Taking.{Held, IsSettled, decided_on, held_from}
use Rattle.origin_model.proofs.SharedLemmas.{has-append, has-holder, has_member, missing-held, ready_absent}
use Rattle.version_views.specs.Laws.{leaves_version, view_named}
use Rattle.version_views.specs.Versions.{is_version, is_withdrawn_version, name_given, op_after, version_with, withdraws, withdraws_note}
use Rattle.version_views.proofs.FrontMakingLemmas.{intakes_grow}
use Rattle.version_views.proofs.VersionLemmas.{later_ops_leave_written}
use Rattle.kept_promises.proofs.CameLemmas.{BecomesSo, Came, came, names_missing}

-- what is newer is not among the older ones
newer_absent : (new old : List Op) (x : Op) → Lawful (new ++ old) → has_op new x ≡ true → has_op old x ≡ false
newer_absent [] old x w m = absurd (false≢true m)
newer_absent (op ∷ new) old x w m =
    elim (or_cases (op_eq op x) (has_op new x) m) [
      | inl q ↦
          let absent : has_op (new ++ old) x ≡ false = subst (λ y. has_op (new ++ old) y ≡ false) (op_eq-true op x q) (ready_absent (new ++ old) op w.0) in
          (or_parts (has_op new x) (has_op old x) (sym (has-append new old x) ∙ absent)).1
      | inr j ↦ newer_absent new old x w.1 j
    ]

-- an operation with so many before it is one of the list
after_has : (ops : List Op) (n : ℕ) (op : Op) → op_after ops n ≡ Some op → has_op ops op ≡ true
after_has [] n op e = cc e
after_has (o ∷ older) n op e =
    let step : Bool → Option Op = λ b. if b then Some o else op_after older n in
    elim (cases_Bool (nat_eq (length older) n)) [
      | inl k ↦
          let same : Some o ≡ Some op = sym (ap step k) ∙ e in
          let is : o ≡ op = cc same in
          or_left (op_eq o op) (has_op older op) (subst (λ y. op_eq o y ≡ true) is (op_eq-refl o))
      | inr k ↦ or_right (op_eq o op) (has_op older op) (after_has older n op (sym (ap step k) ∙ e))
    ]

module _ (old : List Op) (r : ℕ) (name : List ℕ) where
  -- the operation neither gives the name nor withdraws its version
  abbrev pub Leaves : Op → Type 0
  Leaves op = (name_given r op ≢ Some name) × (withdraws old r name op ≡ false)

  -- ---- what waits does neither
  names_none : (op : Op) (body : List ℕ) → name_given r op ≡ Some body → (h : List Op) → Lawful h → IsPartOf old h → decided_on old op ≡ false → verdict h op ≡ Ready → ⊥
  names_none (Section id left right title) body e h w f u v = cc e
  names_none (Text id section left right ch) body e h w f u v = cc e
  names_none (Delete target) body e h w f u v = cc e
  names_none (Note id [] code words) body e h w f u v = names_missing old h (Note id [] code words) w f u v refl
  names_none (Note id (n ∷ ns) code words) body e h w f u v = cc e

  deletes_none : (op : Op) (note : Op) (i : Identifier) → Lawful old → has_op old note ≡ true → id_of note ≡ Some i → deletes i op ≡ true
      → (h : List Op) → Lawful h → IsPartOf old h → decided_on old op ≡ false → verdict h op ≡ Ready → ⊥
  deletes_none (Section id left right title) note i l m own d h w f u v = false≢true d
  deletes_none (Text id section left right ch) note i l m own d h w f u v = false≢true d
  deletes_none (Note id named code words) note i l m own d h w f u v = false≢true d
  deletes_none (Delete target) note i l m own d h w f u v =
      let is : is_own target note ≡ true = ap (λ o. origin_eq o (Some target)) (own ∙ ap Some (sym (id_eq-true target i d))) ∙ id_eq-refl target in
      names_missing old h (Delete target) w f u v (missing-held old (target, Any) [] note (has-holder old target note l m is))

  withdraws_none : (op : Op) → Lawful old → withdraws old r name op ≡ true → (h : List Op) → Lawful h → IsPartOf old h → decided_on old op ≡ false → verdict h op ≡ Ready → ⊥
  withdraws_none op l t h w f u v = by (version_with old r name) refl
    where
      version_case : Option ℕ → Bool
      version_case o = elim o [ None ↦ false | Some n ↦ withdraws_note old n op ]

      note_case : Option Op → Bool
      note_case o = elim o [ None ↦ false | Some note ↦ elim (id_of note) [ None ↦ false | Some i ↦ deletes i op ] ]

      id_case : Option Identifier → Bool
      id_case o = elim o [ None ↦ false | Some i ↦ deletes i op ]

      by_id : (note : Op) → has_op old note ≡ true → (o : Option Identifier) → id_of note ≡ o → id_case o ≡ true → ⊥
      by_id note m None own d = false≢true d
      by_id note m (Some i) own d = deletes_none op note i l m own d h w f u v

      by_note : (n : ℕ) → (o : Option Op) → op_after old n ≡ o → note_case o ≡ true → ⊥
      by_note n None e d = false≢true d
      by_note n (Some note) e d = by_id note (after_has old n note e) (id_of note) refl d

      by : (o : Option ℕ) → version_with old r name ≡ o → ⊥
      by None e = false≢true (sym (ap version_case e) ∙ t)
      by (Some n) e = by_note n (op_after old n) refl (sym (ap version_case e) ∙ t)

  waiting_leaves : (op : Op) → Lawful old → decided_on old op ≡ false → BecomesSo Leaves old op
  waiting_leaves op l u h w f v =
      ((λ e. names_none op name e h w f u v), false_from_ne_true (withdraws old r name op) (λ t. withdraws_none op l t h w f u v))

  -- ---- so it is of all that is accepted later
  found_undecided : (w : List Op) → All (λ op. decided_on old op ≡ false) w → (x : Op) → has_op w x ≡ true → decided_on old x ≡ false
  found_undecided [] all x m = absurd (false≢true m)
  found_undecided (o ∷ w) all x m =
      elim (or_cases (op_eq o x) (has_op w x) m) [
        | inl q ↦ subst (λ y. decided_on old y ≡ false) (op_eq-true o x q) (All-head (λ op. decided_on old op ≡ false) o w all)
        | inr j ↦ found_undecided w (All-tail (λ op. decided_on old op ≡ false) o w all) x j
      ]

  no_version : (h : List Op) (op : Op) → name_given r op ≢ Some name → is_version r h name op ≡ false
  no_version h op other = by_name (is_withdrawn_version h op) (name_given r op) refl
    where
      is_named : Option (List ℕ) → Bool
      is_named o = elim o [ None ↦ false | Some body ↦ pointwise nat_eq body name ]

      by_name : (b : Bool) (o : Option (List ℕ)) → name_given r op ≡ o → is_named (if b then None else o) ≡ false
      by_name true o e = refl
      by_name false None e = refl
      by_name false (Some body) e = false_from_ne_true (pointwise nat_eq body name) (λ t. other (e ∙ ap Some ((bytes_decides body name).0 t)))

  leaves_it : (new : List Op) (op : Op) → Leaves op → leaves_version new old r name op ≡ true
  leaves_it new op is = λ i. not (no_version (new ++ old) op is.0 i) && not (is.1 i)

  pub written_stays : (hold most : ℕ) (w ops : List Op) → Lawful old → IsSettled (record { history = old; waiting = w }) → All Leaves ops
      → view_named (held_from hold most (record { history = old; waiting = w }) ops).history r name ≡ view_named old r name
  written_stays hold most w ops l settled leaves =
      let start : Held = record { history = old; waiting = w } in
      let begun : Came Leaves old start = record {
        lawful = l;
        part = λ x m. m;
        each = λ x m. inl m;
        waiting = λ x m. waiting_leaves x l (found_undecided w settled x m);
      } in
      let c = came Leaves old hold most start ops begun leaves in
      let g = intakes_grow hold most start ops in
      let lawful : Lawful (g.newer ++ old) = subst Lawful g.grown c.lawful in
      let each : All (λ op. leaves_version g.newer old r name op ≡ true) g.newer =
      all_from_contains (λ op. leaves_version g.newer old r name op ≡ true) g.newer (λ x k.
      let m : has_op g.newer x ≡ true = has_member g.newer x k in
      let there : has_op (held_from hold most start ops).history x ≡ true =
      subst (λ h. has_op h x ≡ true) (sym g.grown) (has-append g.newer old x ∙ or_left (has_op g.newer x) (has_op old x) m) in
      elim (c.each x there) [
        | inl e ↦ absurd (true≢false (sym e ∙ newer_absent g.newer old x lawful m))
        | inr p ↦ leaves_it g.newer x p
      ]) in
      ap (λ h. view_named h r name) g.grown ∙ later_ops_leave_written r name g.newer old each
