-- How far a disk was read, look after look.
use Rattle.std.proofs.Common.{◌≡◌, ℕ, ◌+◌, ◌≤◌, List, length, take, ap, arith, length-append, subst, sym}
use Rattle.std.specs.Prelude.{Option, Some, None, Result, Ok, Err, IfOk, OnOk, option_map}
use Rattle.std.proofs.lemmas.List.{length-take-le}
use Rattle.outer_ports.specs.disk.Disks.{DiskView, reach_after}
use Rattle.replica_file.specs.Looks.{ReachesTo, ReadsMore, ReadsNoFurther}
use Rattle.replica_file.specs.declared.gate.Gate.{Gate}
use Rattle.replica_file.specs.declared.stop.Stop.{Stop}

-- nothing was asked for
pub reaches_none : (n : ℕ) (o p : Option ℕ) → p ≡ o → ReachesTo n o p
reaches_none n o p same = subst (ReachesTo n o) (sym same) (stays o)
  where
    stays : (o : Option ℕ) → ReachesTo n o o
    stays None = tt
    stays (Some before) = omega arith

-- one range was
pub reaches_once : (at count n : ℕ) (o p : Option ℕ) → at + count ≤ n → p ≡ option_map (reach_after at count) o → ReachesTo n o p
reaches_once at count n o p within is = subst (ReachesTo n o) (sym is) (once o)
  where
    once : (o : Option ℕ) → ReachesTo n o (option_map (reach_after at count) o)
    once None = tt
    once (Some before) = omega (arith, within)

-- one after the other
pub reaches_then : (m n k : ℕ) (a b c : Option ℕ) → m ≤ k → n ≤ k → ReachesTo m a b → ReachesTo n b c → ReachesTo k a c
reaches_then m n k None b c one_fits two_fits one two = tt
reaches_then m n k (Some x) None c one_fits two_fits one two = absurd one
reaches_then m n k (Some x) (Some y) None one_fits two_fits one two = absurd two
reaches_then m n k (Some x) (Some y) (Some z) one_fits two_fits one two = omega (arith, one_fits, two_fits, one, two)

-- within more
pub reaches_so : (m k : ℕ) (a b : Option ℕ) → m ≤ k → ReachesTo m a b → ReachesTo k a b
reaches_so m k None b fits one = tt
reaches_so m k (Some x) None fits one = absurd one
reaches_so m k (Some x) (Some y) fits one = omega (arith, fits, one)

-- one more read into the buffer
pub more_reaches : {E : Type 0} (a b c : DiskView) (at filled n : ℕ) (before after : List ℕ) → filled ≤ length before → ReadsMore {E = E} b c (Ok n) at filled before after
    → ReadsNoFurther (at + length before) a b → ReadsNoFurther (at + length after) a c
more_reaches a b c at filled n before after within more kept =
    let long : length after ≡ length before = omega (arith, ap length more.items, length-append (take filled before) more.part, length-take-le filled before within, more.long) in
    reaches_then (at + length before) (at + length before) (at + length after) a.reach b.reach c.reach (omega (arith, long)) (omega (arith, long)) kept
    (reaches_once (at + filled) (length more.part) (at + length before) b.reach c.reach (omega (arith, more.long, within)) more.read.asked)

-- the gate after a slot is the furthest byte of it that is read
pub gate_reaches : (result : Result Gate Stop) (at : ℕ) (a b c : Option ℕ) → IfOk result (λ gate. gate.at ≡ at) → OnOk result (ReachesTo (at + 1) b c) → ReachesTo at a b
    → IfOk result (λ gate. ReachesTo (gate.at + 1) a c)
gate_reaches (Err e) at a b c is last first = tt
gate_reaches (Ok gate) at a b c is last first = reaches_then at (at + 1) (gate.at + 1) a b c (omega (arith, is)) (omega (arith, is)) first last
