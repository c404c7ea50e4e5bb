-- What a crash leaves while bytes are written after a gate, and while it is opened.
use Rattle.std.proofs.Common.{◌≡◌, ◌⊎◌, inl, inr, ℕ, zero, suc, ◌+◌, ◌-◌, ◌<◌, ◌≤◌, List, [], ◌∷◌, ◌++◌, length, take, drop, get_or, refl, ap, sym, ◌∙◌, arith, append_assoc}
use Rattle.std.proofs.Common.{length-append, length-drop}
use Rattle.std.proofs.lemmas.List.{length-take, length-take-le, get_or-take, get_or-drop, get_or_append_left, get_or-append_right, take_at, drop_at, ext_get_or, get_or_at}
use Rattle.std.proofs.lemmas.List.Elements.{All-nil}
use Rattle.std.proofs.lemmas.Bool.{cases_lt}
use Rattle.std.proofs.lemmas.Option.{slice_get-get_or}
use Rattle.std.specs.Prelude.{Some}
use Rattle.outer_ports.specs.disk.States.{DiskState, IsCrashImage, at_rest, overwritten, torn_state, SameOutside}
use Rattle.outer_ports.proofs.SharedLemmas.{free_more, same_byte, same_outside}
use Rattle.replica_file.specs.Ends.{Agrees}
use Rattle.replica_file.specs.Gates.{IsWrittenAfter, IsOpened}

base_image : (s : DiskState) → IsCrashImage s s.base
base_image s = record { no_shorter = omega arith; no_longer = omega arith; same = λ i below free. refl }

base_long : (s : DiskState) (n : ℕ) → Agrees s n → n ≤ length s.base
base_long s n agrees = omega (arith, ap length (agrees.each s.base (base_image s)), length-take n s.base, length-take n s.seen, agrees.inside)

-- a write after what agrees leaves that
pub agrees_before : (s : DiskState) (n at k : ℕ) (seen image : List ℕ) → Agrees s n → n ≤ at → IsCrashImage (torn_state at k seen s) image → take n image ≡ take n s.seen
agrees_before s n at k seen image agrees le is =
    let based : n ≤ length s.base = base_long s n agrees in
    let long : n ≤ length image = omega (arith, based, is.no_shorter) in
    let front : length (take n image) ≡ n = length-take-le n image long in
    let whole : length (take n image ++ drop n s.base) ≡ length s.base = omega (arith, length-append (take n image) (drop n s.base), front, length-drop n s.base, based) in
    sym (take_at (take n image) (drop n s.base) n front)
    ∙ agrees.each (take n image ++ drop n s.base) (record {
      no_shorter = omega (arith, whole);
      no_longer = omega (arith, whole);
      same = λ i below free. elim (cases_lt i n) [
        | inl early ↦ get_or_append_left (take n image) (drop n s.base) 0 i (omega (arith, early, front)) ∙ get_or-take n image i 0 early
            ∙ is.same i below (free_more s.ranges (at, k) i free (inl (omega (arith, early, le))))
        | inr late ↦ get_or-append_right (take n image) (drop n s.base) n i 0 front late ∙ get_or-drop n s.base (i - n) 0
            ∙ ap (λ (m : ℕ). get_or s.base m 0) (omega (arith, late))
      ];
    })

same_take : (n : ℕ) (xs ys : List ℕ) → n ≤ length xs → n ≤ length ys → ((i : ℕ) → i < n → get_or xs i 0 ≡ get_or ys i 0) → take n xs ≡ take n ys
same_take n xs ys inx iny same =
    let x : length (take n xs) ≡ n = length-take-le n xs inx in
    let y : length (take n ys) ≡ n = length-take-le n ys iny in
    ext_get_or 0 (take n xs) (take n ys) (omega (arith, x, y))
    (λ i below. get_or-take n xs i 0 (omega (arith, below, x)) ∙ same i (omega (arith, below, x)) ∙ sym (get_or-take n ys i 0 (omega (arith, below, x))))

-- equal fronts have equal fronts
pub shorter : (n m : ℕ) (xs ys : List ℕ) → n ≤ m → take m xs ≡ take m ys → take n xs ≡ take n ys
shorter zero m xs ys le same = refl
shorter (suc n) zero xs ys le same = absurd (omega (arith, le))
shorter (suc n) (suc m) [] [] le same = refl
shorter (suc n) (suc m) [] (y ∷ ys) le same = absurd (omega (arith, ap length same))
shorter (suc n) (suc m) (x ∷ xs) [] le same = absurd (omega (arith, ap length same))
shorter (suc n) (suc m) (x ∷ xs) (y ∷ ys) le same =
    let head : x ≡ y = ap (λ (l : List ℕ). get_or l 0 0) same in
    let rest : take n xs ≡ take n ys = shorter n m xs ys (omega (arith, le)) (ap (drop 1) same) in
    λ j. head j ∷ rest j

module _ (before : List ℕ) (gate : ℕ) (bytes : List ℕ) (inside : gate + 1 ≤ length before) where
  -- what a read gives once the bytes stand after the gate
  abbrev pub behind : List ℕ
  behind = overwritten before (gate + 1) bytes

  kept : SameOutside (gate + 1) (length bytes) before behind
  kept = same_outside (gate + 1) bytes before inside

  pub reach : gate + 1 + length bytes ≤ length behind
  reach = omega (
    arith,
    length-append (take (gate + 1) before ++ bytes) (drop (gate + 1 + length bytes) before),
    length-append (take (gate + 1) before) bytes,
    length-take-le (gate + 1) before inside,
  )

  pub front_kept : take (gate + 1) behind ≡ take (gate + 1) before
  front_kept = kept.front

  stands : take (length bytes) (drop (gate + 1) behind) ≡ bytes
  stands =
      let front : length (take (gate + 1) before) ≡ gate + 1 = length-take-le (gate + 1) before inside in
      ap (λ (l : List ℕ). take (length bytes) (drop (gate + 1) l)) (append_assoc (take (gate + 1) before) bytes (drop (gate + 1 + length bytes) before))
      ∙ ap (take (length bytes)) (drop_at (take (gate + 1) before) (bytes ++ drop (gate + 1 + length bytes) before) (gate + 1) front)
      ∙ take_at bytes (drop (gate + 1 + length bytes) before) (length bytes) refl

  -- what differs from it at the gate alone
  but_for_gate : (image : List ℕ) → length behind ≤ length image
      → ((i : ℕ) → i < length behind → (i < gate) ⊎ (gate + 1 ≤ i) → get_or image i 0 ≡ get_or behind i 0) → IsWrittenAfter before gate bytes image
  but_for_gate image long same = record {
    inside = omega (arith, reach, long);
    front = same_take gate image behind (omega (arith, reach, long)) (omega (arith, reach)) (λ i below. same i (omega (arith, below, reach)) (inl below))
        ∙ shorter gate (gate + 1) behind before (omega arith) front_kept;
    behind = same_take (length bytes) (drop (gate + 1) image) (drop (gate + 1) behind)
        (omega (arith, length-drop (gate + 1) image, reach, long)) (omega (arith, length-drop (gate + 1) behind, reach))
        (λ i below. get_or-drop (gate + 1) image i 0 ∙ same (gate + 1 + i) (omega (arith, below, reach)) (inr (omega arith)) ∙ sym (get_or-drop (gate + 1) behind i 0))
        ∙ stands;
  }

  -- while the gate is opened
  pub while_opened : (seen image : List ℕ) → IsCrashImage (torn_state gate 1 seen (at_rest behind)) image → IsWrittenAfter before gate bytes image
  while_opened seen image is =
      but_for_gate image is.no_shorter
      (λ i below outside. is.same i below (free_more [] (gate, 1) i (All-nil (λ (range : ℕ × ℕ). (i < range.0) ⊎ (range.0 + range.1 ≤ i))) outside))

  -- what a read gives with the gate opened
  abbrev pub open_gate : List ℕ
  open_gate = overwritten behind gate (1 ∷ [])

  pub once_opened : IsWrittenAfter before gate bytes open_gate
  once_opened =
      let only : SameOutside gate 1 behind open_gate = same_outside gate (1 ∷ []) behind (omega (arith, reach)) in
      but_for_gate open_gate only.no_shorter (λ i below outside. same_byte gate 1 i behind open_gate only outside)

  pub is_opened : IsOpened before gate bytes (at_rest open_gate)
  is_opened = record {
    written = once_opened;
    opened = slice_get-get_or open_gate gate 0 once_opened.inside
        ∙ ap Some (ap (λ (l : List ℕ). get_or l gate 0) (append_assoc (take gate behind) (1 ∷ []) (drop (gate + 1) behind))
        ∙ get_or_at (take gate behind) 1 (drop (gate + 1) behind) 0 gate (length-take-le gate behind (omega (arith, reach))));
    settled = refl;
  }
