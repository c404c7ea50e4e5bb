-- A front is made of the operations that were accepted first, one after another; and these stay the first.
use Rattle.version_views.proofs.Words.{Lawful, List, Op, [], ap, arith, drop, length, refl, subst, sym, take, take-append-drop, ℕ, ◌+◌, ◌++◌, ◌-◌, ◌∙◌, ◌∷◌, ◌≡◌}
use Rattle.version_views.proofs.Words.{◌≤◌}
use Rattle.std.proofs.Common.{append_assoc, length-drop, length-take, reverse}
use Rattle.std.proofs.lemmas.List.{length-reverse, reverse-append, reverse-reverse}
use Rattle.origin_model.specs.edits.Edits.{ReadyInTurn, history_with}
use Rattle.origin_model.specs.edits.Effect.{Gains, with_ops}
use Rattle.origin_model.specs.edits.State.{State, IsSound}
use Rattle.origin_model.specs.taking.Taking.{Held, held, held_from, nothing_held}
use Rattle.origin_model.proofs.SharedLemmas.{Lawful-append, first_accepted, held-append}
use Rattle.version_views.specs.Accepting.{CanAccept}
use Rattle.version_views.specs.Fronts.{EditsGrow, FilesGrow, FirstStay, GrowsHistory, IntakesGrow, NotesGrow, PartsGrow, front_most, replica_at}
use Rattle.version_views.specs.Views.{first_ops}
use Rattle.version_views.proofs.AcceptingLemmas.{from_nothing, ready_of}
use Rattle.version_views.proofs.ViewLemmas.{first_stay, parts}

-- ---- the first ones of a history
drop-all : (xs ys : List Op) → drop (length xs) (xs ++ ys) ≡ ys
drop-all [] ys = refl
drop-all (x ∷ xs) ys = drop-all xs ys

pub first_taken : (n : ℕ) (h : List Op) → reverse (take n (reverse h)) ≡ first_ops n h
first_taken n h =
    let xs : List Op = reverse h in
    let whole : h ≡ reverse (drop n xs) ++ reverse (take n xs) =
    sym (reverse-reverse h) ∙ ap reverse (sym (take-append-drop n xs)) ∙ reverse-append (take n xs) (drop n xs) in
    let size : length h - n ≡ length (reverse (drop n xs)) = omega (arith, length-reverse (drop n xs), length-reverse h, length-dropped xs n) in
    sym ((λ j. drop (size j) (whole j)) ∙ drop-all (reverse (drop n xs)) (reverse (take n xs)))
  where
    length-dropped : (xs : List Op) (n : ℕ) → length (drop n xs) ≡ length xs - n
    length-dropped xs n = length-drop n xs

pub first_lawful : (n : ℕ) (h : List Op) → Lawful h → Lawful (reverse (take n (reverse h)))
first_lawful n h w =
    subst Lawful (sym (first_taken n h)) (Lawful-append (take (length h - n) h) (first_ops n h) (subst Lawful (sym (parts n h)) w))

pub first_fit : (n : ℕ) (s : State) → n ≤ length s.held.history → IsSound s → length (take n (reverse s.held.history)) ≤ front_most n s
first_fit n s l st = omega (arith, l, st.few, st.most_within.1, length-take n (reverse s.held.history), length-reverse s.held.history)

pub front_is : (n : ℕ) (s begun new : State) → begun ≡ record (replica_at n s) { held = nothing_held }
    → new ≡ with_ops begun (take n (reverse s.held.history)) → new ≡ replica_at n s
front_is n s begun new b e =
    let first : List Op = take n (reverse s.held.history) in
    e ∙ ap (λ (t : State). with_ops t first) b ∙ ap (λ h. record (replica_at n s) { held = record { history = h; waiting = [] } })
    (from_nothing first ∙ first_taken n s.held.history)

-- the replica that holds nothing yet can accept them
pub first_can : (n : ℕ) (s begun : State) → n ≤ length s.held.history → IsSound s → IsSound begun → begun ≡ record (replica_at n s) { held = nothing_held }
    → CanAccept begun (take n (reverse s.held.history))
first_can n s begun l st sound b =
    let first : List Op = take n (reverse s.held.history) in
    let lawful : Lawful (history_with [] first) = subst Lawful (sym (from_nothing first)) (first_lawful n s.held.history st.lawful) in
    let room : 0 + length first ≤ front_most n s = omega (arith, first_fit n s l st) in
    record {
      sound = sound;
      quiet = ap (λ (t : State). t.held.waiting) b;
      ready = subst (λ (t : State). ReadyInTurn t.held.history first) (sym b) (ready_of [] first lawful);
      room = subst (λ (t : State). length t.held.history + length first ≤ t.most) (sym b) room;
    }

-- ---- what was accepted stays
grown_by : (ops h : List Op) → GrowsHistory h (history_with h ops)
grown_by [] h = record { newer = []; grown = refl }
grown_by (op ∷ ops) h =
    let later = grown_by ops (op ∷ h) in
    record { newer = later.newer ++ op ∷ []; grown = later.grown ∙ sym (append_assoc later.newer (op ∷ []) h) }

grown_gaining : (old new : State) (ops : List Op) → Gains old new ops → GrowsHistory old.held.history new.held.history
grown_gaining old new ops g = subst (λ (s : State). GrowsHistory old.held.history s.held.history) (sym g.others) (grown_by ops old.held.history)

pub intakes_grow : IntakesGrow
intakes_grow hold most s ops =
    let e = first_accepted hold most s ops in
    let new : List Op = (held_from hold most s ops).history in
    record {
      newer = reverse e.0;
      grown = sym (reverse-reverse new) ∙ ap reverse e.1 ∙ reverse-append (reverse s.history) e.0 ∙ ap (λ l. reverse e.0 ++ l) (reverse-reverse s.history);
    }

pub files_grow : FilesGrow
files_grow hold most ops more =
    subst (λ (s : Held). GrowsHistory (held hold most ops).history s.history) (held-append hold most nothing_held ops more)
    (intakes_grow hold most (held hold most ops) more)

pub edits_grow : EditsGrow
edits_grow old new command n made = grown_gaining old new _ made.gained

pub parts_grow : PartsGrow
parts_grow old new ops part = grown_gaining old new _ part.gained

pub notes_grow : NotesGrow
notes_grow old new named code body n noted = grown_gaining old new _ noted.gained

pub first_stays : FirstStay
first_stays n old new g l = ap (first_ops n) g.grown ∙ first_stay n g.newer old l
