-- The test of a certificate: what `check` computes.
use Rattle.std.specs.Prelude.{Option, Some, None, is_some, is_none, Bool, true, false, not, ◌&&◌, if◌then◌else◌, List, [], ◌∷◌}
use Rattle.fugue_ids.specs.Identifiers.{Identifier, id_eq, id_lt, origin_eq}
use Rattle.fugue_ids.specs.declared.op.Op.{Op}
use Rattle.origin_model.specs.operations.History.{holder, place, place_eq}
use Rattle.origin_model.specs.declared.operations.Place.{Place}
use Rattle.origin_model.specs.order.Order.{left_at, right_at}
use Rattle.order_proof.specs.declared.step.Reason.{Reason}
use Rattle.order_proof.specs.declared.step.Reason.TheVariants.{Prefix, Inner, End, Later, Tie}
use Rattle.order_proof.specs.declared.step.Step.{Step}
use Rattle.order_proof.specs.Certificates.{Certificate, Chain, is_later}
use Rattle.order_proof.specs.Chains.{is_down, is_empty, is_rights}

-- the places that two operations have
abbrev pub same_place : Option Place → Option Place → Bool
same_place (Some p) (Some q) = place_eq p q
same_place _ _ = false

-- where the element of an identifier stands
abbrev pub place_holding : List Op → Identifier → Option Place
place_holding h x = elim (holder h x) [ None ↦ None | Some op ↦ place op ]

-- both elements are in one place
abbrev pub in_one_place : List Op → Identifier → Identifier → Bool
in_one_place h x y = same_place (place_holding h x) (place_holding h y)

-- the right origins of c and d decide so
abbrev pub origins_decide : Option Identifier → Option Identifier → Identifier → Identifier → Reason → Bool
origins_decide o q c d End = is_none o && is_some q
origins_decide o q c d (Later u v) = origin_eq o (Some u) && (origin_eq q (Some v) && not (id_eq u v))
origins_decide o q c d Tie = origin_eq o q && id_lt c d
origins_decide o q c d _ = false

-- the reason is Inner: one chain of right origins is a prefix of the other
abbrev pub is_inner : Reason → Bool
is_inner Inner = true
is_inner _ = false

-- two chains of right origins decide so
abbrev pub chains_decide : List Op → Reason → Chain → Chain → Bool
chains_decide h r [] ds = false
chains_decide h r (c ∷ cs) [] = is_inner r
chains_decide h r (c ∷ cs) (d ∷ ds) = if id_eq c d then chains_decide h r cs ds else origins_decide (right_at h c) (right_at h d) c d r

-- two chains begin with distinct siblings, which have these chains of right origins
abbrev pub siblings_at : List Op → (down_x down_y right_x right_y : Chain) → Bool
siblings_at h (a ∷ as') (b ∷ bs) right_x right_y =
    not (id_eq a b) && (origin_eq (left_at h a) (left_at h b) && (is_rights h a right_x && is_rights h b right_y))
siblings_at h _ _ right_x right_y = false

-- a step at siblings
abbrev pub sibling_test : List Op → Step → Reason → Bool
sibling_test h s r =
    siblings_at h s.down_x s.down_y s.right_x s.right_y
    && (is_down h s.x s.down_x && (is_down h s.y s.down_y && chains_decide h r s.right_x s.right_y))

-- the chain begins with x and goes on
abbrev pub continues_chain : Identifier → Chain → Bool
continues_chain x (z ∷ next ∷ more) = id_eq z x
continues_chain x _ = false

-- a step by Prefix
abbrev pub prefix_test : List Op → Step → Bool
prefix_test h s = continues_chain s.x s.down_y
    && (is_down h s.y s.down_y && (is_empty s.down_x && (is_empty s.right_x && is_empty s.right_y)))

-- a step, by its reason
abbrev pub reason_test : List Op → Step → Reason → Bool
reason_test h s Prefix = prefix_test h s
reason_test h s r = sibling_test h s r

-- whether a step holds in the history
abbrev pub step_test : List Op → Step → Bool
step_test h s = in_one_place h s.x s.y && reason_test h s s.reason

-- a step rests on the claim of the next one
abbrev pub rests_test : Reason → Step → Bool
rests_test (Later u v) t = id_eq t.y u && id_eq t.x v
rests_test _ t = false

-- a step rests on no other
abbrev pub rests_on_none : Reason → Bool
rests_on_none r = not (is_later r)

-- whether each step of a certificate holds and rests on the next ones
abbrev pub test : List Op → Certificate → Bool
test h [] = false
test h (s ∷ []) = if step_test h s then rests_on_none s.reason else false
test h (s ∷ t ∷ more) = if step_test h s then (if rests_test s.reason t then test h (t ∷ more) else false) else false
