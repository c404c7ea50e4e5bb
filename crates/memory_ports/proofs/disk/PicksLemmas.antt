-- What is picked of the images of a state is one of them.
use Rattle.std.proofs.Common.{◌≡◌, ◌⊎◌, inl, inr, ℕ, ◌+◌, ◌-◌, ◌<◌, ◌≤◌, List, [], ◌∷◌, ◌++◌, length, get_or, refl, subst, ◌∙◌, arith, length-append}
use Rattle.std.proofs.lemmas.List.{length-replicate, get_or_append_left}
use Rattle.std.proofs.lemmas.List.Elements.{All-head, All-tail}
use Rattle.std.proofs.lemmas.Bool.{cases_lt}
use Rattle.std.specs.Prelude.{min, replicate}
use Rattle.outer_ports.specs.disk.States.{DiskState, IsFree, IsCrashImage, IsHonest, SameOutside}
use Rattle.outer_ports.proofs.SharedLemmas.{IsOutside, same_byte, same_outside}
use Rattle.memory_ports.specs.disk.Picks.{range_filled, ranges_filled, padded_bytes, image_picked}
use Rattle.memory_ports.specs.declared.disk.mem_disk.Pick.{Pick}
use Rattle.memory_ports.specs.declared.disk.mem_disk.Pick.TheVariants.{Old, New, Fill}

-- an offset outside of a range is outside of what the range has of so many bytes
outside_within : (at n i long : ℕ) → (i < at) ⊎ (at + n ≤ i) → (i < min at long) ⊎ (min at long + min n (long - at) ≤ i)
outside_within at n i long (inl below) = elim (cases_lt i long) [ inl inside ↦ inl (omega (arith, below, inside)) | inr past ↦ inr (omega (arith, below, past)) ]
outside_within at n i long (inr above) = inr (omega (arith, above))

pub range_filled_same : (at n byte : ℕ) (bytes : List ℕ) → SameOutside (min at (length bytes)) (min n (length bytes - at)) bytes (range_filled at n byte bytes)
range_filled_same at n byte bytes =
    subst (λ k. SameOutside (min at (length bytes)) k bytes (range_filled at n byte bytes)) (length-replicate (min n (length bytes - at)) byte)
    (same_outside (min at (length bytes)) (replicate (min n (length bytes - at)) byte) bytes (omega arith))

pub filled_long : (ranges : List (ℕ × ℕ)) (byte : ℕ) (bytes : List ℕ) → length (ranges_filled ranges byte bytes) ≡ length bytes
filled_long [] byte bytes = refl
filled_long (range ∷ ranges) byte bytes =
    let same = range_filled_same range.0 range.1 byte bytes in
    filled_long ranges byte (range_filled range.0 range.1 byte bytes) ∙ omega (arith, same.no_shorter, same.no_longer)

pub filled_free : (ranges : List (ℕ × ℕ)) (byte : ℕ) (bytes : List ℕ) (i : ℕ) → IsFree ranges i → get_or (ranges_filled ranges byte bytes) i 0 ≡ get_or bytes i 0
filled_free [] byte bytes i free = refl
filled_free (range ∷ ranges) byte bytes i free =
    filled_free ranges byte (range_filled range.0 range.1 byte bytes) i (All-tail (IsOutside i) range ranges free)
    ∙ same_byte (min range.0 (length bytes)) (min range.1 (length bytes - range.0)) i bytes (range_filled range.0 range.1 byte bytes)
    (range_filled_same range.0 range.1 byte bytes) (outside_within range.0 range.1 i (length bytes) (All-head (IsOutside i) range ranges free))

pub padded_long : (long byte : ℕ) (bytes : List ℕ) → length bytes ≤ long → length (padded_bytes long byte bytes) ≡ long
padded_long long byte bytes le = omega (arith, le, length-append bytes (replicate (long - length bytes) byte), length-replicate (long - length bytes) byte)

-- what is picked is an image
pub picked_image : (pick : Pick) (s : DiskState) → IsHonest s → length s.base ≤ s.longest → IsCrashImage s (image_picked pick s)
picked_image Old s honest fits = record { no_shorter = omega arith; no_longer = omega (arith, honest.no_shorter, honest.no_longer); same = λ i below free. refl }
picked_image New s honest fits =
    let long : length (padded_bytes s.longest 0 s.seen) ≡ s.longest = padded_long s.longest 0 s.seen (omega (arith, honest.no_longer, fits)) in
    record {
      no_shorter = omega (arith, long, honest.no_shorter, honest.no_longer);
      no_longer = omega (arith, long);
      same = λ i below free. get_or_append_left s.seen (replicate (s.longest - length s.seen) 0) 0 i (omega (arith, below, honest.no_shorter)) ∙ honest.same i below free;
    }
picked_image (Fill byte) s honest fits =
    let long : length (ranges_filled s.ranges byte (padded_bytes s.longest byte s.base)) ≡ s.longest =
    filled_long s.ranges byte (padded_bytes s.longest byte s.base) ∙ padded_long s.longest byte s.base fits in
    record {
      no_shorter = omega (arith, long, fits);
      no_longer = omega (arith, long);
      same = λ i below free. filled_free s.ranges byte (padded_bytes s.longest byte s.base) i free
          ∙ get_or_append_left s.base (replicate (s.longest - length s.base) byte) 0 i below;
    }
