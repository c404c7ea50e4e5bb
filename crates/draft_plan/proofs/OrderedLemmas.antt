-- Orders of places that operations leave.
use Rattle.std.proofs.Common.{List, [], ap, cond, refl, suc, sym, ℕ, ◌∙◌, ◌∷◌, ◌≡◌, ◌≢◌}
use Rattle.std.specs.Prelude.{None, Option, Some, slice_get}
use Rattle.fugue_ids.specs.Identifiers.{Identifier}
use Rattle.fugue_ids.specs.declared.op.Op.{Op}
use Rattle.fugue_ids.specs.declared.op.Op.TheVariants.{Text}
use Rattle.fugue_ids.proofs.IdentifierLemmas.{ne-id_eq}
use Rattle.origin_model.specs.declared.operations.Place.TheVariants.{Catalogue as catalogue, Section as within}
use Rattle.origin_model.specs.edits.Edits.{Put, history_with, id_at, left_for, made, next_counter, right_for, typed_texts}
use Rattle.origin_model.specs.order.Order.{order}
use Rattle.origin_model.specs.order.Printed.{shown}
use Rattle.origin_model.proofs.edits.MadeLemmas.{put_made}
use Rattle.origin_model.proofs.SharedLemmas.{order-none}

-- texts that are typed leave the orders of other sections
typed_orders : (chs : List ℕ) (r c : ℕ) (s t : Identifier) (left right : Option Identifier) (h : List Op) → t ≢ s
    → order (within t) (history_with h (typed_texts r c s left right chs)) ≡ order (within t) h
typed_orders [] r c s t left right h d = refl
typed_orders (ch ∷ chs) r c s t left right h d =
    let first : Op = Text (id_at r c) s left right ch in
    typed_orders chs r (suc c) s t (Some (id_at r c)) right (first ∷ h) d
    ∙ order-none (within t) first h (ap (λ b. cond b (Some (id_at r c)) None) (ne-id_eq s t (λ e. d (sym e))))

pub put_orders : (r : ℕ) (h w : List Op) (k at : ℕ) (new : List ℕ) (s t : Identifier) → slice_get (shown catalogue h) k ≡ Some s → t ≢ s
    → order (within t) (history_with h (made r h w (Put k at new))) ≡ order (within t) h
put_orders r h w k at new s t e d =
    ap (λ ops. order (within t) (history_with h ops)) (put_made r h w k s at new e)
    ∙ typed_orders new r (next_counter r h w) s t (left_for (within s) h at) (right_for (within s) h at) h d
