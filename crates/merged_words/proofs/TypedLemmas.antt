-- What an editor types at one place is put in one go.
use Rattle.std.proofs.Common.{List, [], ap, append_assoc, subst, suc, sym, ℕ, ◌++◌, ◌∙◌, ◌∷◌, ◌≡◌}
use Rattle.std.specs.Prelude.{Option, Some}
use Rattle.fugue_ids.specs.Identifiers.{Identifier}
use Rattle.fugue_ids.specs.declared.op.Op.{Op}
use Rattle.fugue_ids.specs.declared.op.Op.TheVariants.{Text}
use Rattle.fugue_ids.proofs.IdentifierLemmas.{id_eq-refl}
use Rattle.origin_model.specs.declared.operations.Place.{Place}
use Rattle.origin_model.specs.declared.operations.Place.TheVariants.{Section as within}
use Rattle.origin_model.specs.edits.Edits.{Put, ReadyInTurn, history_with, id_at, left_for, made, next_counter, put_in, right_for, typed_texts, typed_ids}
use Rattle.origin_model.specs.edits.Landing.{StandsAfter}
use Rattle.origin_model.specs.edits.Passages.{GoesForward}
use Rattle.origin_model.specs.operations.History.{holder}
use Rattle.origin_model.specs.operations.Verdict.{Lawful}
use Rattle.origin_model.specs.order.Order.{order}
use Rattle.origin_model.proofs.SharedLemmas.{Within-append, holder-own, left_by}
use Rattle.origin_model.proofs.edits.MadeLemmas.{put_made}
use Rattle.origin_model.proofs.edits.PutLemmas.{put_lands, text_here}
use Rattle.merged_words.specs.Drafts.{IsPutInOneGo, TypedInOneGo}

-- what is held stays so
holder_stays : (ops h : List Op) (x : Identifier) (op : Op) → Lawful h → ReadyInTurn h ops → holder h x ≡ Some op → holder (history_with h ops) x ≡ Some op
holder_stays [] h x op w ready e = e
holder_stays (next ∷ ops) h x op w ready e = holder_stays ops (next ∷ h) x op (ready.0, w) ready.1 (Within-append (next ∷ []) h (ready.0, w) x op e)

-- typed texts after an element have each the one before as left origin
typed_forward : (r c : ℕ) (s x : Identifier) (right : Option Identifier) (chs : List ℕ) (h : List Op) → Lawful h → ReadyInTurn h (typed_texts r c s (Some x) right chs)
    → GoesForward (within s) (history_with h (typed_texts r c s (Some x) right chs)) x (typed_ids r c chs)
typed_forward r c s x right [] h w ready = tt
typed_forward r c s x right (ch ∷ chs) h w ready =
    let id : Identifier = id_at r c in
    let op : Op = Text id s (Some x) right ch in
    let rest : List Op = typed_texts r (suc c) s (Some id) right chs in
    let held : holder (history_with (op ∷ h) rest) id ≡ Some op = holder_stays rest (op ∷ h) id op (ready.0, w) ready.1 (holder-own op h id (id_eq-refl id)) in
    (record { op = op; held = held; place = text_here id s (Some x) right ch }, ap left_by held, typed_forward r (suc c) s id right chs (op ∷ h) (ready.0, w) ready.1)

-- typed texts that stand after an element are put in one go
typed_at_once : (r c : ℕ) (s : Identifier) (left right : Option Identifier) (chs : List ℕ) (h : List Op) → Lawful h → ReadyInTurn h (typed_texts r c s left right chs)
    → StandsAfter left (typed_ids r c chs) (order (within s) h) (order (within s) (history_with h (typed_texts r c s left right chs)))
    → IsPutInOneGo (within s) (history_with h (typed_texts r c s left right chs)) left (typed_ids r c chs)
typed_at_once r c s left right [] h w ready b = tt
typed_at_once r c s left right (ch ∷ chs) h w ready b =
    let behind : List Identifier = typed_ids r (suc c) chs in (
      (b.front, behind ++ b.back, b.is ∙ append_assoc b.front (id_at r c ∷ behind) b.back, b.origin),
      typed_forward r (suc c) s (id_at r c) right chs (Text (id_at r c) s left right ch ∷ h) (ready.0, w) ready.1,
    )

pub typed_in_one_go : TypedInOneGo
typed_in_one_go old new k at n scalars s w e l m =
    let h : List Op = old.held.history in
    let p : Place = within s in
    let lands = put_lands old.number h old.held.waiting k at scalars s w e l in
    let c : ℕ = next_counter old.number h old.held.waiting in
    let ops : made old.number h old.held.waiting (Put k at scalars) ≡ put_in old.number h old.held.waiting s at scalars = put_made old.number h old.held.waiting k s at scalars e in
    let history : new.held.history ≡ history_with h (put_in old.number h old.held.waiting s at scalars) = ap (λ t. t.held.history) m.gained.others ∙ ap (history_with h) ops in
    subst (λ g. IsPutInOneGo p g (left_for p h at) (typed_ids old.number c scalars)) (sym history)
    (typed_at_once old.number c s (left_for p h at) (right_for p h at) scalars h w (subst (ReadyInTurn h) ops lands.0.ready)
    (subst (λ (o : List Op). StandsAfter (left_for p h at) (typed_ids old.number c scalars) (order p h) (order p (history_with h o))) ops lands.1))
