-- An operation that names its own identifier: Ready asks that this identifier is not held, and that each named one is.
use Rattle.origin_model.proofs.Words.{All-contains, Lawful, List, Op, Ready, [], ap, false, false_from_ne_true, has_op, holds, id_held, inl, inr, is_some, names, op_eq, op_eq-true}
use Rattle.origin_model.proofs.Words.{or_cases, refl, sym, true≢false, verdict, ◌∙◌, ◌∷◌, ◌≡◌, ◌≢◌}
use Rattle.fugue_ids.proofs.ListLemmas.{contains_map_from}
use Rattle.origin_model.specs.taking.Closure.{NamesItself, SelfNamedNeverAccepted}
use Rattle.origin_model.proofs.operations.LookupLemmas.{Fits, IsHeld, ready_fits, when_ready}

-- it is Ready on no history
never_ready : (op : Op) → NamesItself op → (h : List Op) → verdict h op ≢ Ready
never_ready op s h v =
    let ready = when_ready h op v in
    let n = contains_map_from (λ n. n.0) (names op) s.id s.named in
    let held : IsHeld h n.0.0 = ap is_some (All-contains (Fits h) (names op) n.0 (ready_fits h op ready) n.1).1 in
    true≢false (sym held ∙ ap (holds h) n.2 ∙ sym (ap (id_held h) s.own) ∙ ready.fresh)

-- so no lawful history has it
in_none : (op : Op) → NamesItself op → (h : List Op) → Lawful h → has_op h op ≡ false
in_none op s [] w = refl
in_none op s (o ∷ h) w =
    false_from_ne_true (has_op (o ∷ h) op) (λ t. elim (or_cases (op_eq o op) (has_op h op) t) [
      | inl q ↦ never_ready op s h (ap (verdict h) (sym (op_eq-true o op q)) ∙ w.0)
      | inr j ↦ true≢false (sym j ∙ in_none op s h w.1)
    ])

-- it is never accepted
pub self_named_never_accepted : SelfNamedNeverAccepted
self_named_never_accepted op s = record { never_ready = never_ready op s; in_none = in_none op s }
