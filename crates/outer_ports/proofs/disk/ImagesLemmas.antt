-- What the images of a state are.
use Rattle.std.proofs.Common.{◌≡◌, ◌⊎◌, inl, inr, ℕ, ◌+◌, ◌-◌, ◌<◌, ◌≤◌, List, [], ◌∷◌, ◌++◌, length, take, drop, get_or, refl, ap, sym, subst, ◌∙◌, arith, append_assoc}
use Rattle.std.proofs.Common.{length-append, length-drop}
use Rattle.std.proofs.lemmas.List.{length-take-le, get_or-take, get_or-drop, take_at, drop_at, ext_get_or, get_or_append_left}
use Rattle.std.proofs.Math.Seq.{get_or-append_seam}
use Rattle.std.proofs.lemmas.List.Elements.{All-nil, All-cons, All-append}
use Rattle.outer_ports.specs.disk.States.{DiskState, IsFree, IsCrashImage, IsHonest, at_rest, overwritten, torn_state, wrote, tried_state, SameOutside}
use Rattle.outer_ports.specs.disk.Laws.{SyncBringsNone}

-- an offset lies outside a range
abbrev pub IsOutside : ℕ → ℕ × ℕ → Type 0
IsOutside i range = (i < range.0) ⊎ (range.0 + range.1 ≤ i)

free_front : (xs ys : List (ℕ × ℕ)) (i : ℕ) → IsFree (xs ++ ys) i → IsFree xs i
free_front xs ys i free k d below =
    subst (IsOutside i) (get_or_append_left xs ys d k below) (free k d (omega (arith, below, length-append xs ys)))

free_last : (xs : List (ℕ × ℕ)) (range : ℕ × ℕ) (i : ℕ) → IsFree (xs ++ range ∷ []) i → IsOutside i range
free_last xs range i free =
    subst (IsOutside i) (get_or-append_seam xs range [] range) (free (length xs) range (omega (arith, length-append xs (range ∷ []))))

-- outside all of some ranges and outside one more
pub free_more : (xs : List (ℕ × ℕ)) (range : ℕ × ℕ) (i : ℕ) → IsFree xs i → (i < range.0) ⊎ (range.0 + range.1 ≤ i) → IsFree (xs ++ range ∷ []) i
free_more xs range i free outside =
    All-append (IsOutside i) xs (range ∷ []) free (All-cons (IsOutside i) range [] outside (All-nil (IsOutside i)))

-- a byte outside a range that a write left
pub same_byte : (at n i : ℕ) (old new : List ℕ) → SameOutside at n old new → (i < at) ⊎ (at + n ≤ i) → get_or new i 0 ≡ get_or old i 0
same_byte at n i old new same (inl below) =
    sym (get_or-take at new i 0 below) ∙ ap (λ (l : List ℕ). get_or l i 0) same.front ∙ get_or-take at old i 0 below
same_byte at n i old new same (inr above) =
    let is : at + n + (i - (at + n)) ≡ i = omega (arith, above) in
    ap (λ (k : ℕ). get_or new k 0) (sym is) ∙ sym (get_or-drop (at + n) new (i - (at + n)) 0)
    ∙ ap (λ (l : List ℕ). get_or l (i - (at + n)) 0) same.behind
    ∙ get_or-drop (at + n) old (i - (at + n)) 0 ∙ ap (λ (k : ℕ). get_or old k 0) is

pub same_outside : (at : ℕ) (bytes old : List ℕ) → at ≤ length old → SameOutside at (length bytes) old (overwritten old at bytes)
same_outside at bytes old le =
    let front : length (take at old) ≡ at = length-take-le at old le in
    let both : length (take at old ++ bytes) ≡ at + length bytes = omega (arith, length-append (take at old) bytes, front) in
    let long : length (overwritten old at bytes) ≡ at + length bytes + (length old - (at + length bytes)) =
    omega (arith, length-append (take at old ++ bytes) (drop (at + length bytes) old), length-drop (at + length bytes) old, both) in
    record {
      front = ap (take at) (append_assoc (take at old) bytes (drop (at + length bytes) old))
          ∙ take_at (take at old) (bytes ++ drop (at + length bytes) old) at front;
      behind = drop_at (take at old ++ bytes) (drop (at + length bytes) old) (at + length bytes) both;
      no_shorter = omega (arith, long, le);
      no_longer = omega (arith, long, le);
    }

pub same_tried : (at n : ℕ) (old : List ℕ) → SameOutside at n old old
same_tried at n old = record { front = refl; behind = refl; no_shorter = omega arith; no_longer = omega arith }

pub honest_torn : (s : DiskState) (at n : ℕ) (seen : List ℕ) → IsHonest s → SameOutside at n s.seen seen → IsHonest (torn_state at n seen s)
honest_torn s at n seen honest same = record {
  no_shorter = omega (arith, honest.no_shorter, same.no_shorter);
  no_longer = omega (arith, honest.no_longer, same.no_longer);
  same = λ i below free. same_byte at n i s.seen seen same (free_last s.ranges (at, n) i free) ∙ honest.same i below (free_front s.ranges ((at, n) ∷ []) i free);
}

pub honest_wrote : (s : DiskState) (at : ℕ) (bytes : List ℕ) → IsHonest s → at ≤ length s.seen → IsHonest (wrote at bytes s)
honest_wrote s at bytes honest le = honest_torn s at (length bytes) (overwritten s.seen at bytes) honest (same_outside at bytes s.seen le)

pub honest_tried : (s : DiskState) (at n : ℕ) → IsHonest s → IsHonest (tried_state at n s)
honest_tried s at n honest = honest_torn s at n s.seen honest (same_tried at n s.seen)

pub honest_at_rest : (bytes : List ℕ) → IsHonest (at_rest bytes)
honest_at_rest bytes = record { no_shorter = omega arith; no_longer = omega arith; same = λ i below free. refl }

-- at rest, a crash leaves what a read gives
pub image_at_rest : (bytes image : List ℕ) → IsCrashImage (at_rest bytes) image → image ≡ bytes
image_at_rest bytes image is = ext_get_or 0 image bytes (omega (arith, is.no_shorter, is.no_longer))
    (λ i below. is.same i (omega (arith, below, is.no_longer)) (All-nil (IsOutside i)))

-- a sync brings no image
pub sync_brings_none : SyncBringsNone
sync_brings_none s image honest is = subst (IsCrashImage s) (sym (image_at_rest s.seen image is)) honest
