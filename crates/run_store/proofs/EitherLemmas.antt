-- What a call left, whatever it answered.
use Rattle.std.proofs.Common.{◌≡◌, ◌+◌, ◌≤◌, ℕ, arith, refl, subst, sym, true}
use Rattle.std.proofs.lemmas.Bool.{true≢false}
use Rattle.std.specs.Prelude.{IfNone, IfSome, Option, None, Some, is_some, Result, Ok, Err, OnErr, OnOk}
use Rattle.run_store.specs.Stored.{IsRaisedBy}

module _ {X T E : Type 0} (P : X → Type 0) where
  pub either : (res : Result T E) (a b now : X) → OnOk res (now ≡ a) → OnErr res (now ≡ b) → P a → P b → P now
  either (Ok t) a b now ok err p q = subst P (sym ok) p
  either (Err e) a b now ok err p q = subst P (sym err) q

  pub where-ok : (res : Result T E) (a now : X) → OnOk res (now ≡ a) → P a → OnOk res (P now)
  where-ok (Ok t) a now ok p = subst P (sym ok) p
  where-ok (Err e) a now ok p = tt

  pub where-err : (res : Result T E) (b now : X) → OnErr res (now ≡ b) → P b → OnErr res (P now)
  where-err (Ok t) b now err q = tt
  where-err (Err e) b now err q = subst P (sym err) q

pub kept-raised : (most n : ℕ) → IsRaisedBy most n n
kept-raised most n = record { kept = omega arith; bound = omega arith }

pub one-raised : (n m : ℕ) → m ≡ n + 1 → IsRaisedBy 1 n m
one-raised n m e = record { kept = omega (arith, e); bound = omega (arith, e) }

pub raised-more : (a b n m : ℕ) → a ≤ b → IsRaisedBy a n m → IsRaisedBy b n m
raised-more a b n m l r = record { kept = r.kept; bound = omega (arith, l, r.bound) }

pub raised-twice : (a b n m k : ℕ) → IsRaisedBy a n m → IsRaisedBy b m k → IsRaisedBy (a + b) n k
raised-twice a b n m k r s = record { kept = omega (arith, r.kept, s.kept); bound = omega (arith, r.bound, s.bound) }

-- what holds whatever was answered
pub any-err : {T E : Type 0} (res : Result T E) (P : Type 0) → P → OnErr res P
any-err (Ok t) P p = tt
any-err (Err e) P p = p

pub any-ok : {T E : Type 0} (res : Result T E) (P : Type 0) → P → OnOk res P
any-ok (Ok t) P p = p
any-ok (Err e) P p = tt

-- the value that is there
pub value-of : {X : Type 0} (o : Option X) → is_some o ≡ true → (x : X) × (o ≡ Some x)
value-of None e = absurd (true≢false (sym e))
value-of (Some x) e = (x, refl)

-- what follows at an answer
pub on-ok : {T E : Type 0} (res : Result T E) (P Q : Type 0) → (P → Q) → OnOk res P → OnOk res Q
on-ok (Ok t) P Q f p = f p
on-ok (Err e) P Q f p = tt

pub on-err : {T E : Type 0} (res : Result T E) (P Q : Type 0) → (P → Q) → OnErr res P → OnErr res Q
on-err (Ok t) P Q f p = tt
on-err (Err e) P Q f p = f p

pub if-some : {X : Type 0} (P Q : X → Type 0) (o : Option X) → ((x : X) → P x → Q x) → IfSome o P → IfSome o Q
if-some P Q None f p = tt
if-some P Q (Some x) f p = f x p

pub if-none : {X : Type 0} (P Q : Type 0) (o : Option X) → (P → Q) → IfNone o P → IfNone o Q
if-none P Q None f p = f p
if-none P Q (Some x) f p = tt
