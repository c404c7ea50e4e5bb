-- The certificate that `prove` makes.
use Rattle.std.specs.Prelude.{Option, Some, None, if◌then◌else◌, List, [], ◌∷◌, ℕ, suc, drop}
use Rattle.fugue_ids.specs.Identifiers.{Identifier, id_eq}
use Rattle.fugue_ids.specs.declared.op.Op.{Op}
use Rattle.origin_model.specs.order.Order.{lefts, rights, right_at}
use Rattle.order_proof.specs.declared.step.Reason.{Reason}
use Rattle.order_proof.specs.declared.step.Reason.TheVariants.{Prefix, Inner, End, Later, Tie}
use Rattle.order_proof.specs.declared.step.Step.{Step}
use Rattle.order_proof.specs.Certificates.{Certificate, Chain}

-- how many members two chains have in common at their beginning
abbrev pub common_count : Chain → Chain → ℕ
common_count [] ys = 0
common_count (x ∷ xs) [] = 0
common_count (x ∷ xs) (y ∷ ys) = if id_eq x y then suc (common_count xs ys) else 0

-- the reason of two right origins
abbrev pub reason_of : Option Identifier → Option Identifier → Reason
reason_of None None = Tie
reason_of None (Some q) = End
reason_of (Some p) None = Tie
reason_of (Some p) (Some q) = if id_eq p q then Tie else Later p q

-- the reason of two chains of right origins, from where they part
abbrev pub reason_at : List Op → Chain → Chain → Reason
reason_at h (c ∷ cs) (d ∷ ds) = reason_of (right_at h c) (right_at h d)
reason_at h _ _ = Inner

-- the reason of two chains of right origins
abbrev pub reason_between : List Op → Chain → Chain → Reason
reason_between h xs ys = reason_at h (drop (common_count xs ys) xs) (drop (common_count xs ys) ys)

-- the step of two elements, by their chains of left origins from where these part
abbrev pub certificate_made_at : List Op → (x y : Identifier) → Chain → Chain → Step
certificate_made_at h x y (a ∷ as') (b ∷ bs) =
    record {
      x = x;
      y = y;
      down_x = a ∷ as';
      down_y = b ∷ bs;
      right_x = rights h a;
      right_y = rights h b;
      reason = reason_between h (rights h a) (rights h b);
    }
certificate_made_at h x y _ bs = record { x = x; y = y; down_x = []; down_y = x ∷ bs; right_x = []; right_y = []; reason = Prefix }

-- the step of two elements
abbrev pub certificate_made : List Op → (x y : Identifier) → Step
certificate_made h x y =
    let common = common_count (lefts h x) (lefts h y) in
    certificate_made_at h x y (drop common (lefts h x)) (drop common (lefts h y))

-- the claim on which a step rests: q before p
abbrev pub rests_on : Reason → Option (Identifier × Identifier)
rests_on (Later p q) = Some (q, p)
rests_on _ = None

-- the certificate of two elements: what a step rests on was so before the newest operation
unfoldable pub certificate : List Op → (x y : Identifier) → Certificate
certificate [] x y = []
certificate (op ∷ older) x y =
    let step = certificate_made (op ∷ older) x y in
    step ∷ elim (rests_on (step.reason)) [ None ↦ [] | Some claim ↦ certificate older claim.0 claim.1 ]
