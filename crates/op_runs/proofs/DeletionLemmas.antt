-- Deletes of neighbours.
use Rattle.std.proofs.Common.{◌≡◌, ℕ, zero, suc, ◌+◌, ◌-◌, ◌<◌, ◌≤◌, ◌^◌, ◌⊎◌, Bool, true, false, List, [], append_assoc, length-append, take, ◌∷◌, ◌++◌, length, refl, ap, sym}
use Rattle.std.proofs.Common.{◌∙◌, arith, inl, inr}
use Rattle.std.proofs.Math.Seq.{take-append_seam}
use Rattle.fugue_ids.specs.Identifiers.{Identifier}
use Rattle.fugue_ids.specs.Runs.{id_after, next_id}
use Rattle.fugue_ids.specs.declared.op.Op.{Op}
use Rattle.fugue_ids.specs.declared.op.Op.TheVariants.{Delete}
use Rattle.fugue_ids.proofs.RunLemmas.{none_after, one_after}
use Rattle.op_runs.specs.Deletions.{deletes_by, deletes_down, deletes_up, id_before, target_by}
use Rattle.op_runs.specs.Growing.{HasMoreDeletes}
use Rattle.op_runs.specs.Parts.{GoesOnBy}
use Rattle.op_runs.specs.declared.part.Deletes.{Deletes}

pub none_before : (id : Identifier) → id_before id 0 ≡ id
none_before id = let e : id.counter - 0 ≡ id.counter = omega arith in λ i. record { replica = id.replica; counter = e i }

pub one_before : (id : Identifier) (n : ℕ) → id_before (id_before id 1) n ≡ id_before id (suc n)
one_before id n = let e : id.counter - 1 - n ≡ id.counter - suc n = omega arith in λ i. record { replica = id.replica; counter = e i }

up-append : (t : Identifier) (n m : ℕ) → deletes_up t (n + m) ≡ deletes_up t n ++ deletes_up (id_after t n) m
up-append t zero m = let e : 0 + m ≡ m = omega arith in λ i. deletes_up (sym (none_after t) i) (e i)
up-append t (suc n) m =
    let e : suc n + m ≡ suc (n + m) = omega arith in
    ap (deletes_up t) e ∙ ap (λ z. Delete t ∷ z) (up-append (next_id t) n m ∙ ap (λ u. deletes_up (next_id t) n ++ deletes_up u m) (one_after t n))

down-append : (t : Identifier) (n m : ℕ) → deletes_down t (n + m) ≡ deletes_down t n ++ deletes_down (id_before t n) m
down-append t zero m = let e : 0 + m ≡ m = omega arith in λ i. deletes_down (sym (none_before t) i) (e i)
down-append t (suc n) m =
    let e : suc n + m ≡ suc (n + m) = omega arith in
    ap (deletes_down t) e ∙ ap (λ z. Delete t ∷ z) (down-append (id_before t 1) n m ∙ ap (λ u. deletes_down (id_before t 1) n ++ deletes_down u m) (one_before t n))

-- Deletes of neighbours parted at any place
pub deletes-append : (down : Bool) (t : Identifier) (n m : ℕ) → deletes_by down t (n + m) ≡ deletes_by down t n ++ deletes_by down (target_by down t n) m
deletes-append true t n m = down-append t n m
deletes-append false t n m = up-append t n m

pub length-deletes : (down : Bool) (t : Identifier) (n : ℕ) → length (deletes_by down t n) ≡ n
length-deletes true t zero = refl
length-deletes true t (suc n) = ap suc (length-deletes true (id_before t 1) n)
length-deletes false t zero = refl
length-deletes false t (suc n) = ap suc (length-deletes false (next_id t) n)

-- one Delete has no direction
single_deletes : (a b : Bool) (t : Identifier) (n : ℕ) → n ≡ 1 → deletes_by a t n ≡ deletes_by b t n
single_deletes a b t n e = ap (deletes_by a t) e ∙ one a b ∙ ap (deletes_by b t) (sym e)
  where
    one : (a b : Bool) → deletes_by a t 1 ≡ deletes_by b t 1
    one true true = refl
    one true false = refl
    one false true = refl
    one false false = refl

same_way : (d : Deletes) (down : Bool) → ((d.count ≡ 1) ⊎ (d.down ≡ down)) → deletes_by d.down d.target d.count ≡ deletes_by down d.target d.count
same_way d down (inl one) = single_deletes d.down down d.target d.count one
same_way d down (inr same) = ap (λ b. deletes_by b d.target d.count) same

-- how many come in a direction: forwards all of so many, backwards one
abbrev pub longer_by : Bool → ℕ → ℕ
longer_by true most = 1
longer_by false most = most

-- Deletes more
pub longer_is : (d : Deletes) (target : Identifier) (most : ℕ) (down : Bool) → 0 < most → target.counter + most ≤ 2 ^ 32 → GoesOnBy d target down
    → HasMoreDeletes d target most (record { target = d.target; count = d.count + longer_by down most; down = down })
longer_is d target most true some fits (way, is) =
    let counter : d.target.counter ≡ target.counter + d.count = ap (λ (i : Identifier). i.counter) is in
    let e : d.target.counter - d.count ≡ target.counter = omega (arith, counter) in
    let there : id_before d.target d.count ≡ target = λ i. record { replica = (ap (λ (z : Identifier). z.replica) is) i; counter = e i } in
    let one : 1 ≡ d.count + 1 - d.count = omega arith in
    record {
      target_is = refl;
      some = omega arith;
      within = omega (arith, some);
      counters = omega (arith, counter);
      ops = deletes-append true d.target d.count 1 ∙ (λ i. sym (same_way d true way) i ++ Delete (there i) ∷ [])
          ∙ ap (λ n. deletes_by d.down d.target d.count ++ deletes_by false target n) one;
    }
longer_is d target most false some fits (way, is) =
    let counter : target.counter ≡ d.target.counter + d.count = ap (λ (i : Identifier). i.counter) is in
    let all : most ≡ d.count + most - d.count = omega arith in
    record {
      target_is = refl;
      some = omega (arith, some);
      within = omega arith;
      counters = omega (arith, counter, fits);
      ops = deletes-append false d.target d.count most ∙ (λ i. sym (same_way d false way) i ++ deletes_up (sym is i) most)
          ∙ ap (λ n. deletes_by d.down d.target d.count ++ deletes_by false target n) all;
    }

-- Deletes that came after others, and those that came after them
pub deletes_after : (old : List Op) (target : Identifier) (n m : ℕ)
    → (old ++ deletes_by false target n) ++ deletes_by false (id_after target n) m ≡ old ++ deletes_by false target (n + m)
deletes_after old target n m = append_assoc old (deletes_up target n) (deletes_up (id_after target n) m) ∙ ap (λ z. old ++ z) (sym (up-append target n m))

-- so many are taken back
pub deletes_back : (old : List Op) (target : Identifier) (n : ℕ) → take (length (old ++ deletes_by false target n) - n) (old ++ deletes_by false target n) ≡ old
deletes_back old target n =
    let len : length (old ++ deletes_up target n) - n ≡ length old = omega (arith, length-append old (deletes_up target n), length-deletes false target n) in
    ap (λ k. take k (old ++ deletes_up target n)) len ∙ take-append_seam old (deletes_up target n)

-- one Delete more
pub deletes_more : (down : Bool) (target : Identifier) (n : ℕ) → deletes_by down target (n + 1) ≡ deletes_by down target n ++ Delete (target_by down target n) ∷ []
deletes_more true target n = deletes-append true target n 1
deletes_more false target n = deletes-append false target n 1
