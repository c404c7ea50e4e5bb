-- What the operations that were accepted first have, read off the lists of all.
use Rattle.version_views.proofs.Words.{Lawful, List, Op, ap, arith, drop, filter, holds, is_hidden, length, length-append, manuscript, not, order}
use Rattle.version_views.proofs.Words.{subst, sym, take, take-append-drop, ℕ, ◌++◌, ◌+◌, ◌-◌, ◌∙◌, ◌≡◌, ◌≤◌}
use Rattle.fugue_ids.proofs.ListLemmas.{filter-both}
use Rattle.origin_model.proofs.SharedLemmas.{Lawful-append, part_at_end, parts_keep_order}
use Rattle.std.proofs.Math.Seq.{drop-append-add}
use Rattle.version_views.specs.Laws.{FirstByFilter, LaterOpsLeaveView, OrderByFilter, ShownByFilter}
use Rattle.version_views.specs.Views.{first_ops}

-- the order of a lawful front is the order of the whole, filtered
pub order_by_filter : OrderByFilter
order_by_filter p new h w = (parts_keep_order p h (new ++ h) (Lawful-append new h w) w (λ op. part_at_end new h op)).same_order

pub shown_by_filter : ShownByFilter
shown_by_filter p new h w =
    ap (filter (λ x. not (is_hidden h x))) (order_by_filter p new h w) ∙ filter-both (holds h) (λ x. not (is_hidden h x)) (order p (new ++ h))

-- the operations after the first n, and these
pub parts : (n : ℕ) (h : List Op) → take (length h - n) h ++ first_ops n h ≡ h
parts n h = take-append-drop (length h - n) h

pub first_by_filter : FirstByFilter
first_by_filter p n h w =
    let new : List Op = take (length h - n) h in
    subst (λ whole. order p (first_ops n h) ≡ filter (holds (first_ops n h)) (order p whole)) (parts n h)
    (order_by_filter p new (first_ops n h) (subst Lawful (sym (parts n h)) w))

-- the first operations are the same ones later
pub first_stay : (n : ℕ) (new h : List Op) → n ≤ length h → first_ops n (new ++ h) ≡ first_ops n h
first_stay n new h l =
    let e : length (new ++ h) - n ≡ length new + (length h - n) = omega (arith, length-append new h, l) in
    ap (λ k. drop k (new ++ h)) e ∙ drop-append-add new h (length h - n)

pub later_ops_leave_view : LaterOpsLeaveView
later_ops_leave_view n new h l = ap manuscript (first_stay n new h l)
