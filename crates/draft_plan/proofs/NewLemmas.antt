-- Elements that a history does not hold yet.
use Rattle.std.proofs.Common.{List, [], arith, false, subst, suc, sym, true, ℕ, ◌∙◌, ◌∷◌, ◌≡◌}
use Rattle.std.proofs.lemmas.Bool.{false_from_ne_true, true≢false}
use Rattle.std.proofs.lemmas.List.Elements.{All-cons, All-nil, All-weaker}
use Rattle.fugue_ids.specs.Identifiers.{Identifier}
use Rattle.fugue_ids.specs.declared.op.Op.{Op}
use Rattle.origin_model.specs.edits.Edits.{history_with, id_at, typed_ids}
use Rattle.origin_model.specs.edits.Effect.{Gains}
use Rattle.origin_model.specs.edits.Refusal.{next_of_own, put_ids}
use Rattle.origin_model.specs.edits.State.{State}
use Rattle.origin_model.specs.operations.History.{holds}
use Rattle.origin_model.proofs.SharedLemmas.{holds-older}
use Rattle.origin_model.proofs.edits.FreshIdLemmas.{NoneFrom, history_below, none_from}
use Rattle.draft_plan.specs.Texts.{AreUnknown}

still_held : (ops h : List Op) (x : Identifier) → holds h x ≡ true → holds (history_with h ops) x ≡ true
still_held [] h x k = k
still_held (op ∷ ops) h x k = still_held ops (op ∷ h) x (holds-older op h x k)

not_yet : (ops h : List Op) (x : Identifier) → holds (history_with h ops) x ≡ false → holds h x ≡ false
not_yet ops h x none = false_from_ne_true (holds h x) (λ k. true≢false (sym (still_held ops h x k) ∙ none))

-- what is new after operations was new in front of them
pub new_earlier : (old mid : State) (ops : List Op) → Gains old mid ops → (xs : List Identifier) → AreUnknown mid.held.history xs → AreUnknown old.held.history xs
new_earlier old mid ops g xs new =
    All-weaker (λ x. holds mid.held.history x ≡ false) (λ x. holds old.held.history x ≡ false)
    (λ x none. not_yet ops old.held.history x (subst (λ (s : State). holds s.held.history x ≡ false) g.others none)) xs new

-- what is typed is new
typed_new : (chs : List ℕ) (r c : ℕ) (h : List Op) → NoneFrom r c h → AreUnknown h (typed_ids r c chs)
typed_new [] r c h none = All-nil (λ x. holds h x ≡ false)
typed_new (ch ∷ chs) r c h none =
    All-cons (λ x. holds h x ≡ false) (id_at r c) (typed_ids r (suc c) chs) (none c (omega arith)) (typed_new chs r (suc c) h (λ n l. none n (omega (arith, l))))

pub put_new : (s : State) (chs : List ℕ) → AreUnknown s.held.history (put_ids s chs)
put_new s chs =
    let c : ℕ = next_of_own s in
    typed_new chs s.number c s.held.history (none_from s.number c s.held.history (history_below s.number s.held.history s.held.waiting))
