-- What an edit and a noting make: operations of their replica that are Ready in turn, and none where they are refused.
-- Those of an edit land where they were asked, and a note shows nothing.
use Rattle.std.proofs.Common.{Bool, List, [], ap, false, inl, inr, refl, subst, sym, true, ◌∙◌, ◌∷◌, ◌≡◌, ℕ, suc}
use Rattle.std.specs.Prelude.{All, None, Option, Some, drop, if◌then◌else◌, slice_get, take}
use Rattle.std.specs.List.{list_all}
use Rattle.std.proofs.lemmas.Bool.{cases_Bool}
use Rattle.std.proofs.lemmas.List.Sums.{AllPass-from_list_all}
use Rattle.std.proofs.lemmas.List.Elements.{All-cons, All-map, All-nil}
use Rattle.fugue_ids.specs.Identifiers.{Identifier}
use Rattle.fugue_ids.specs.declared.op.Op.{Op}
use Rattle.fugue_ids.specs.declared.op.Op.TheVariants.{Delete, Text}
use Rattle.fugue_ids.proofs.ListLemmas.{all_from_contains}
use Rattle.origin_model.specs.declared.operations.Place.TheVariants.{Catalogue as catalogue, Section as within}
use Rattle.origin_model.specs.operations.History.{holds}
use Rattle.origin_model.specs.operations.Verdict.{Lawful}
use Rattle.origin_model.specs.order.Printed.{shown}
use Rattle.origin_model.specs.edits.Edits.{Add, Command, Cut, DropSection, Put, ReadyInTurn, op_of_add, cut_in, deletes_of, id_at, left_for, made, next_counter, put_in, right_for}
use Rattle.origin_model.specs.edits.Edits.{typed_texts}
use Rattle.origin_model.specs.edits.State.{State}
use Rattle.origin_model.specs.edits.Refusal.{made_by, refusal_message}
use Rattle.origin_model.specs.edits.Effect.{Lands, with_ops}
use Rattle.origin_model.specs.edits.Noting.{ShowsAsBefore, note_by, note_refusal}
use Rattle.origin_model.specs.declared.edit_fault.EditFault.{EditFault}
use Rattle.origin_model.proofs.edits.FreshIdLemmas.{IsUnknown}
use Rattle.origin_model.proofs.edits.NotedLemmas.{noted_ready, noted_shows, noted_unknown, unchanged_shows}
use Rattle.origin_model.proofs.edits.RefusalLemmas.{edit_lands, made_ready}
use Rattle.origin_model.proofs.edits.UndecidedLemmas.{made_unknown}
use Rattle.list_spec.specs.Worlds.{replica_after_note, replica_after_edit, effect, note_effect}
use Rattle.list_spec.proofs.PoolLemmas.{IsBy}

-- an edit that is not refused makes its operations
pub made_whole : (command : Command) (s : State) → refusal_message s command ≡ None → effect s command ≡ made_by s command
made_whole command s e = ap (λ o. elim o [ None ↦ made_by s command | Some fault ↦ [] ]) e

-- one that is refused makes nothing
pub made_none : (command : Command) (s : State) (fault : EditFault) → refusal_message s command ≡ Some fault → effect s command ≡ []
made_none command s fault e = ap (λ o. elim o [ None ↦ made_by s command | Some fault ↦ [] ]) e

-- the operations are by their replica
typed_by : (chs : List ℕ) (r c : ℕ) (s : Identifier) (l q : Option Identifier) → All (IsBy r) (typed_texts r c s l q chs)
typed_by [] r c s l q = All-nil (IsBy r)
typed_by (ch ∷ chs) r c s l q =
    All-cons (IsBy r) (Text (id_at r c) s l q ch) (typed_texts r (suc c) s (Some (id_at r c)) q chs) refl (typed_by chs r (suc c) s (Some (id_at r c)) q)

deletes_by : (r : ℕ) (xs : List Identifier) → All (IsBy r) (deletes_of xs)
deletes_by r xs = All-map (IsBy r) (λ x. Delete x) xs (all_from_contains (λ x. IsBy r (Delete x)) xs (λ x m. tt))

made_are_by : (r : ℕ) (h w : List Op) (command : Command) → All (IsBy r) (made r h w command)
made_are_by r h w (Put k at new) =
    elim (slice_get (shown catalogue h) k) as (λ z. All (IsBy r) (elim z [ None ↦ [] | Some s ↦ put_in r h w s at new ])) [
      | None ↦ All-nil (IsBy r)
      | Some s ↦ typed_by new r (next_counter r h w) s (left_for (within s) h at) (right_for (within s) h at)
    ]
made_are_by r h w (Cut k at n) =
    elim (slice_get (shown catalogue h) k) as (λ z. All (IsBy r) (elim z [ None ↦ [] | Some s ↦ cut_in h s at n ])) [
      | None ↦ All-nil (IsBy r)
      | Some s ↦ deletes_by r (take n (drop at (shown (within s) h)))
    ]
made_are_by r h w (Add at title) = All-cons (IsBy r) (op_of_add r h w at title) [] refl (All-nil (IsBy r))
made_are_by r h w (DropSection k) =
    elim (slice_get (shown catalogue h) k) as (λ z. All (IsBy r) (elim z [ None ↦ [] | Some s ↦ Delete s ∷ [] ])) [
      | None ↦ All-nil (IsBy r)
      | Some s ↦ deletes_by r (s ∷ [])
    ]

-- what a noting makes, as its names are held or not and it is refused or not
abbrev note_of : State → (named : List Identifier) → (code : ℕ) → (body : List ℕ) → Bool → Option EditFault → List Op
note_of s named code body b o = elim o [ None ↦ if b then note_by s named code body ∷ [] else [] | Some fault ↦ [] ]

-- what an edit or a noting makes, refused or not
pub record IsEffect (s : State) (ops : List Op) : Type 0 where
  pub ready : ReadyInTurn s.held.history ops
  pub by : All (IsBy s.number) ops
  pub unknown : All (IsUnknown s.held.waiting) ops

pub effect_is : (command : Command) (s : State) → Lawful s.held.history → IsEffect s (effect s command)
effect_is command s w = by_refusal (refusal_message s command) refl
  where
    by_refusal : (o : Option EditFault) → refusal_message s command ≡ o → IsEffect s (effect s command)
    by_refusal None e =
        subst (IsEffect s) (sym (made_whole command s e)) (record {
          ready = made_ready command s w e;
          by = made_are_by s.number s.held.history s.held.waiting command;
          unknown = made_unknown s.number s.held.history s.held.waiting command;
        })
    by_refusal (Some fault) e =
        subst (IsEffect s) (sym (made_none command s fault e)) (record { ready = tt; by = All-nil (IsBy s.number); unknown = All-nil (IsUnknown s.held.waiting) })

-- an edit that is not refused lands where it was asked
pub lands : (command : Command) (s : State) → Lawful s.held.history → refusal_message s command ≡ None → Lands s (replica_after_edit command s) command
lands command s w e = edit_lands command s (replica_after_edit command s) w e (ap (with_ops s) (made_whole command s e))

-- a noting that is refused makes nothing
pub note_refused : (named : List Identifier) (code : ℕ) (body : List ℕ) (s : State) (fault : EditFault) → note_refusal s ≡ Some fault → note_effect s named code body ≡ []
note_refused named code body s fault e = ap (note_of s named code body (list_all (holds s.held.history) named)) e

-- so does one that names what is not held
pub note_lacking : (named : List Identifier) (code : ℕ) (body : List ℕ) (s : State) → list_all (holds s.held.history) named ≡ false → note_effect s named code body ≡ []
note_lacking named code body s k = ap (λ b. note_of s named code body b (note_refusal s)) k ∙ nothing (note_refusal s)
  where
    nothing : (o : Option EditFault) → note_of s named code body false o ≡ []
    nothing None = refl
    nothing (Some fault) = refl

-- any other makes its note
pub note_whole : (named : List Identifier) (code : ℕ) (body : List ℕ) (s : State) → note_refusal s ≡ None → list_all (holds s.held.history) named ≡ true
    → note_effect s named code body ≡ note_by s named code body ∷ []
note_whole named code body s e k = λ i. note_of s named code body (k i) (e i)

-- so what a noting makes, its note or nothing, is Ready and its replica's own
pub note_effect_is : (named : List Identifier) (code : ℕ) (body : List ℕ) (s : State) → Lawful s.held.history → IsEffect s (note_effect s named code body)
note_effect_is named code body s w = by_refusal (note_refusal s) refl
  where
    none : IsEffect s []
    none = record { ready = tt; by = All-nil (IsBy s.number); unknown = All-nil (IsUnknown s.held.waiting) }

    by_refusal : (o : Option EditFault) → note_refusal s ≡ o → IsEffect s (note_effect s named code body)
    by_refusal (Some fault) e = subst (IsEffect s) (sym (note_refused named code body s fault e)) none
    by_refusal None e =
        elim (cases_Bool (list_all (holds s.held.history) named)) [
          | inl t ↦ subst (IsEffect s) (sym (note_whole named code body s e t)) (record {
            ready = (noted_ready s.number s.held.history s.held.waiting named code body w (AllPass-from_list_all (holds s.held.history) named t), tt);
            by = All-cons (IsBy s.number) (note_by s named code body) [] refl (All-nil (IsBy s.number));
            unknown = All-cons (IsUnknown s.held.waiting) (note_by s named code body) [] (noted_unknown s.number s.held.history s.held.waiting named code body)
                (All-nil (IsUnknown s.held.waiting));
          })
          | inr f ↦ subst (IsEffect s) (sym (note_lacking named code body s f)) none
        ]

-- a noting shows nothing, and what waits waits
pub note_quiet : (named : List Identifier) (code : ℕ) (body : List ℕ) (s : State)
    → ShowsAsBefore s (replica_after_note named code body s) × ((replica_after_note named code body s).held.waiting ≡ s.held.waiting)
note_quiet named code body s = (by (list_all (holds s.held.history) named) (note_refusal s), refl)
  where
    by : (b : Bool) (o : Option EditFault) → ShowsAsBefore s (with_ops s (note_of s named code body b o))
    by true None = noted_shows s (with_ops s (note_by s named code body ∷ [])) named code body refl
    by false None = unchanged_shows s s refl
    by b (Some fault) = unchanged_shows s s refl
