-- The image that is picked of those that a crash may leave.
use Rattle.std.specs.Prelude.{ℕ, ◌-◌, min, List, [], ◌∷◌, ◌++◌, length, replicate}
use Rattle.outer_ports.specs.disk.States.{DiskState, overwritten}
use Rattle.memory_ports.specs.declared.disk.mem_disk.Pick.{Pick}
use Rattle.memory_ports.specs.declared.disk.mem_disk.Pick.TheVariants.{Old, New, Fill}

-- this byte in what a range has of some bytes
abbrev pub range_filled : ℕ → ℕ → ℕ → List ℕ → List ℕ
range_filled at n byte bytes = overwritten bytes (min at (length bytes)) (replicate (min n (length bytes - at)) byte)

-- this byte in what some ranges have of some bytes
abbrev pub ranges_filled : List (ℕ × ℕ) → ℕ → List ℕ → List ℕ
ranges_filled [] byte bytes = bytes
ranges_filled (range ∷ ranges) byte bytes = ranges_filled ranges byte (range_filled range.0 range.1 byte bytes)

-- bytes up to a length
abbrev pub padded_bytes : ℕ → ℕ → List ℕ → List ℕ
padded_bytes long byte bytes = bytes ++ replicate (long - length bytes) byte

-- the image that a crash leaves: the old bytes, the new ones, or one byte in all ranges
abbrev pub image_picked : Pick → DiskState → List ℕ
image_picked Old s = s.base
image_picked New s = padded_bytes s.longest 0 s.seen
image_picked (Fill byte) s = ranges_filled s.ranges byte (padded_bytes s.longest byte s.base)
