-- A part of a buffer, before and after which bytes come and go.
use Rattle.std.proofs.Common.{◌≡◌, ℕ, ◌+◌, ◌-◌, ◌<◌, ◌≤◌, List, ◌++◌, length, take, drop, refl, ap, sym, ◌∙◌, arith, length-append, length-drop}
use Rattle.std.specs.Prelude.{Result, Ok, Err}
use Rattle.std.specs.Io.KnownBytes.{prepend_known}
use Rattle.std.proofs.lemmas.List.{drop-take, drop-append-le, take-append-le, length-take-le, append-nil, take_at}
use Rattle.std.proofs.Math.Seq.{take-append-add}
use Rattle.outer_ports.specs.Sources.{SourceView}
use Rattle.op_frame.specs.Windows.{Filled, ReadsIntoPart}
use Rattle.outer_ports.proofs.CountLemmas.{count_so}
use Rattle.fugue_ids.proofs.JoinLemmas.{prepend_twice}

part_is : (s e : ℕ) (b : List ℕ) → s ≤ e → drop s (take e b) ≡ take (e - s) (drop s b)
part_is s e b le = let is : e ≡ s + (e - s) = omega (arith, le) in ap (λ (k : ℕ). drop s (take k b)) is ∙ drop-take s (e - s) b

-- bytes placed after a part
placed_after : (old part rest : List ℕ) (s e n : ℕ) → s ≤ e → e ≤ length old → n ≤ length part
    → take (e + n - s) (drop s (take e old ++ (part ++ rest))) ≡ take (e - s) (drop s old) ++ take n part
placed_after old part rest s e n le within enough =
    let long : length (take e old) ≡ e = length-take-le e old within in
    let behind : drop s (take e old ++ (part ++ rest)) ≡ drop s (take e old) ++ (part ++ rest) = drop-append-le s (take e old) (part ++ rest) (omega (arith, long, le)) in
    let front : drop s (take e old) ≡ take (e - s) (drop s old) = part_is s e old le in
    let sized : length (take (e - s) (drop s old)) ≡ e - s = sym (ap length front) ∙ length-drop s (take e old) ∙ ap (λ (k : ℕ). k - s) long in
    let count : e + n - s ≡ length (take (e - s) (drop s old)) + n = omega (arith, sized, le) in
    ap (take (e + n - s)) (behind ∙ ap (λ (l : List ℕ). l ++ (part ++ rest)) front)
    ∙ ap (λ (k : ℕ). take k (take (e - s) (drop s old) ++ (part ++ rest))) count
    ∙ take-append-add (take (e - s) (drop s old)) (part ++ rest) n
    ∙ ap (λ (l : List ℕ). take (e - s) (drop s old) ++ l) (take-append-le n part rest enough)

-- a part written back
written : {E : Type 0} (e to len : ℕ) (items old new : List ℕ) (before after : SourceView) (result : Result ℕ E) → ReadsIntoPart {E = E} old new e to before after result
    → e ≤ to → to ≤ length old → length old ≡ len → take len (new ++ drop (length new) items) ≡ new
written e to len items old new before after result p ordered within all =
    take_at new (drop (length new) items) len
    (ap length p.items ∙ length-append (take e old) (p.part ++ drop to old)
    ∙ omega (arith, p.long, ordered, within, all, length-take-le e old (omega (arith, ordered, within)), length-append p.part (drop to old), length-drop to old))

-- a window with what a read gave after it
pub filled_in : {E T : Type 0} (e : ℕ) (s : ℕ) (to most len n : ℕ) (items old new bytes : List ℕ) (before after : SourceView)
    → ReadsIntoPart {E = E} old new e to before after (Ok n)
    → s ≤ e → e < to → to ≤ length old → length old ≡ len → to - e ≤ most → old ≡ items → bytes ≡ take (e - s) (drop s items)
    → Filled {E = T} bytes (take (e + n - s) (drop s (take len (new ++ drop (length new) items)))) before after most (Ok n)
filled_in {E} {T} e s to most len n items old new bytes before after p le some within all fits same is =
    let moved : take (e + n - s) (drop s (take len (new ++ drop (length new) items))) ≡ bytes ++ take n p.part
    = ap (λ (l : List ℕ). take (e + n - s) (drop s l)) (written e to len items old new before after (Ok n) p (omega (arith, some)) within all ∙ p.items)
    ∙ placed_after old p.part (drop to old) s e n le (omega (arith, some, within)) p.read.bound
    ∙ ap (λ (l : List ℕ). l ++ take n p.part) (ap (λ (l : List ℕ). take (e - s) (drop s l)) same ∙ sym is) in
    record {
      split = ap (prepend_known bytes) p.read.gave ∙ prepend_twice bytes (take n p.part) after.left ∙ ap (λ (l : List ℕ). prepend_known l after.left) (sym moved);
      grew = (
        ap length moved ∙ length-append bytes (take n p.part)
            ∙ ap (λ (k : ℕ). length bytes + k) (length-take-le n p.part p.read.bound),
        omega (arith, p.read.bound, p.long, fits),
      );
      ends = λ none. p.read.ends none (omega (arith, p.long, some));
      stays = λ none. moved ∙ ap (λ (k : ℕ). bytes ++ take k p.part) none ∙ append-nil bytes;
      kept = tt;
      count = count_so _ _ p.read.count (λ is. is) (λ is. is);
    }

-- a window after which nothing came
pub not_filled_in : {E T : Type 0} (x : E) (y : T) (e : ℕ) (s : ℕ) (to most len : ℕ) (items old new bytes : List ℕ) (before after : SourceView)
    → ReadsIntoPart {E = E} old new e to before after (Err x)
    → s ≤ e → e ≤ to → to ≤ length old → length old ≡ len → old ≡ items → bytes ≡ take (e - s) (drop s items)
    → Filled {E = T} bytes (take (e - s) (drop s (take len (new ++ drop (length new) items)))) before after most (Err y)
not_filled_in {E} {T} x y e s to most len items old new bytes before after p le ordered within all same is =
    let moved : take (e - s) (drop s (take len (new ++ drop (length new) items))) ≡ bytes
    = ap (λ (l : List ℕ). take (e - s) (drop s l)) (written e to len items old new before after (Err x) p ordered within all ∙ p.items)
    ∙ ap (λ (k : ℕ). take k (drop s (take e old ++ (p.part ++ drop to old)))) (omega arith)
    ∙ placed_after old p.part (drop to old) s e 0 le (omega (arith, ordered, within)) (omega arith) ∙ append-nil (take (e - s) (drop s old))
    ∙ ap (λ (l : List ℕ). take (e - s) (drop s l)) same ∙ sym is in
    record {
      split = ap (prepend_known bytes) (sym p.read.kept) ∙ ap (λ (l : List ℕ). prepend_known l after.left) (sym moved);
      grew = tt;
      ends = tt;
      stays = tt;
      kept = (moved, p.read.kept);
      count = count_so _ _ p.read.count (λ is. refl) (λ is. refl);
    }
