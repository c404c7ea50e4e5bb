-- Looking at a disk again and again.
use Rattle.std.proofs.Common.{◌≡◌, ℕ, zero, suc, ◌+◌, ◌≤◌, List, [], ◌∷◌, ◌++◌, length, take, drop, refl, ap, sym, subst, ◌∙◌, arith, length-drop}
use Rattle.std.specs.Prelude.{Option, Some, None, IfSome, IsSome, Ok}
use Rattle.std.proofs.Math.Seq.{take-add, take-append-add}
use Rattle.std.proofs.lemmas.List.{length-take-le}
use Rattle.outer_ports.specs.disk.Moments.{History}
use Rattle.outer_ports.specs.disk.Disks.{DiskView, GivesAt, Looks, RoomView}
use Rattle.replica_file.specs.Looks.{LooksOnly, ReadsMore}

both : {X : Type 0} (o p : Option X) (P Q R : Type 0) → p ≡ o → (P → Q → R) → IfSome o (λ x. P) → IfSome p (λ x. Q) → IfSome o (λ x. R)
both None p P Q R same join one two = tt
both (Some x) p P Q R same join one two = join one (subst (λ q. IfSome q (λ y. Q)) same two)

-- a look after others
pub looks_then : (F : Type 0) (a b c : DiskView) → LooksOnly a b ⊥ → LooksOnly b c F → LooksOnly a c F
looks_then F a b c one two = record {
  past = two.past ∙ one.past;
  room = two.room ∙ one.room;
  sizes = two.sizes ∙ one.sizes;
  later = omega (arith, one.later, two.later);
  faulted = λ failed. let up = two.faulted failed in let low = one.later in omega (arith, up, low);
  sure = both a.room b.room (⊥ → ⊥) (F → ⊥) (F → ⊥) one.room (λ p q. q) one.sure two.sure;
  counts_no_fault = both a.room b.room (b.faults ≡ a.faults) (c.faults ≡ b.faults) (c.faults ≡ a.faults) one.room (λ p q. q ∙ p) one.counts_no_fault two.counts_no_fault;
  specified_no_fault = λ specified counts_no_fault. two.specified_no_fault (subst (λ (o : Option History). IsSome o) (sym one.past) specified) counts_no_fault
      ∙ one.specified_no_fault specified (λ none. none);
}

-- a call that only looks, and went well
pub looked : {E T : Type 0} (b c : DiskView) (x : T) → Looks {E = E} b c (Ok x) → c.sizes ≡ b.sizes → LooksOnly b c ⊥
looked b c x looks sizes = record {
  past = looks.past;
  room = looks.room;
  sizes = sizes;
  later = looks.count.cause.later;
  faulted = λ failed. absurd failed;
  sure = never b.room;
  counts_no_fault = looks.count.counts_no_fault;
  specified_no_fault = λ specified counts_no_fault. looks.specified_no_fault specified;
}
  where
    never : (o : Option RoomView) → IfSome o (λ r. ⊥ → ⊥)
    never None = tt
    never (Some r) = λ failed. failed

drop_none : (n : ℕ) → drop {A = ℕ} n [] ≡ []
drop_none zero = refl
drop_none (suc n) = refl

-- where it went well
pub well : (F : Type 0) (b c : DiskView) → (F → ⊥) → LooksOnly b c F → LooksOnly b c ⊥
well F b c fine one = record {
  past = one.past;
  room = one.room;
  sizes = one.sizes;
  later = one.later;
  faulted = λ failed. absurd failed;
  sure = never b.room;
  counts_no_fault = one.counts_no_fault;
  specified_no_fault = λ specified counts_no_fault. one.specified_no_fault specified fine;
}
  where
    never : (o : Option RoomView) → IfSome o (λ r. ⊥ → ⊥)
    never None = tt
    never (Some r) = λ failed. failed

pub drop_twice : (a b : ℕ) (l : List ℕ) → drop a (drop b l) ≡ drop (b + a) l
drop_twice a zero l = ap (λ (n : ℕ). drop n l) {x = a} {y = 0 + a} (omega arith)
drop_twice a (suc b) [] = drop_none a ∙ sym (drop_none (suc b + a))
drop_twice a (suc b) (x ∷ l) = drop_twice a b l ∙ ap (λ (n : ℕ). drop n (x ∷ l)) {x = suc (b + a)} {y = suc b + a} (omega arith)

-- a front of a buffer is what stands on the disk, and so many bytes more
pub read_on : {E : Type 0} (a b c : DiskView) (at filled n : ℕ) (before after : List ℕ) → b.past ≡ a.past → filled ≤ length before
    → ReadsMore {E = E} b c (Ok n) at filled before after
    → IfSome a.past (λ h. (take filled before ≡ take filled (drop at h.last.seen)) × (filled ≤ length (drop at h.last.seen)))
    → IfSome a.past (λ h. (take (filled + n) after ≡ take (filled + n) (drop at h.last.seen)) × (filled + n ≤ length (drop at h.last.seen)))
read_on a b c at filled n before after same within more specified =
    by_specified a.past specified (subst (λ o. IfSome o (λ h. GivesAt h.last.seen (at + filled) n more.part)) same more.read.specified)
  where
    by_specified : (o : Option History) → IfSome o (λ h. (take filled before ≡ take filled (drop at h.last.seen)) × (filled ≤ length (drop at h.last.seen)))
        → IfSome o (λ h. GivesAt h.last.seen (at + filled) n more.part)
        → IfSome o (λ h. (take (filled + n) after ≡ take (filled + n) (drop at h.last.seen)) × (filled + n ≤ length (drop at h.last.seen)))
    by_specified None specified gives = tt
    by_specified (Some h) specified gives =
        let seen : List ℕ = h.last.seen in
        let front : length (take filled before) ≡ filled = length-take-le filled before within in
        let left : take (filled + n) after ≡ take filled before ++ take n more.part =
        (λ i. take (sym front i + n) (more.items i)) ∙ take-append-add (take filled before) more.part n in
        let right : take (filled + n) (drop at seen) ≡ take filled (drop at seen) ++ take n (drop (at + filled) seen) =
        take-add filled n (drop at seen) ∙ ap (λ (l : List ℕ). take filled (drop at seen) ++ take n l) (drop_twice filled at seen) in
        (left ∙ (λ i. specified.0 i ++ gives.given i) ∙ sym right, omega (arith, specified.1, gives.inside, length-drop at seen))
