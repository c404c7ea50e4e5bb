-- The laws of the moments.
use Rattle.std.proofs.Common.{◌≡◌, inl, inr, ℕ, ◌+◌, ◌-◌, ◌<◌, ◌≤◌, List, [], ◌∷◌, ◌++◌, length, get_or, refl, ap, sym, subst, ◌∙◌, arith, append_assoc, length-append}
use Rattle.std.proofs.lemmas.List.{get_or_append_left}
use Rattle.std.proofs.lemmas.List.Elements.{All-nil, All-cons, All-append, All-head}
use Rattle.std.proofs.lemmas.Bool.{cases_lt}
use Rattle.std.specs.Prelude.{All}
use Rattle.outer_ports.specs.disk.States.{DiskState, IsCrashImage}
use Rattle.outer_ports.specs.disk.Moments.{History, moments, moment_number, state_at, history_after_step, LeftSince, LeavesOnly}
use Rattle.outer_ports.specs.disk.Laws.{SpansJoin, SinceNow}

-- an image of the moments since t is one of those from t to u, or one of those since u
pub spans_join : SpansJoin
spans_join h t u image le = (
  λ left. elim (cases_lt left.m u) [
    | inl early ↦ inl (record { m = left.m; since = left.since; below = early; until = left.until; left = left.left })
    | inr late ↦ inr (record { m = left.m; since = late; until = left.until; left = left.left })
  ],
  λ either. elim either [
    | inl between ↦ record { m = between.m; since = between.since; until = between.until; left = between.left }
    | inr since ↦ record { m = since.m; since = omega (arith, le, since.since); until = since.until; left = since.left }
  ],
)

state_now : (h : History) (m : ℕ) → moment_number h ≤ m → state_at h m ≡ h.last
state_now h m le = ap (λ (k : ℕ). get_or (moments h) k h.last) {y = 0} (omega (arith, le))

-- since the moment that stands, a crash leaves what it may leave now
pub since_now : SinceNow
since_now h image = (
  λ left. subst (λ s. IsCrashImage s image) (state_now h left.m left.since) left.left,
  λ now. record { m = moment_number h; since = omega arith; until = omega arith; left = subst (λ s. IsCrashImage s image) (sym (state_now h (moment_number h) (omega arith))) now },
)

-- an image of the moments that came has P
pub since_leaves_only : (old new : History) (P : List ℕ → Type 0) (image : List ℕ) → LeavesOnly old new P → LeftSince new (moment_number old + 1) image → P image
since_leaves_only old new P image leaves left =
    let long : length (moments new) ≡ length leaves.recent + length (moments old) = ap length leaves.grows ∙ length-append leaves.recent (moments old) in
    let below : moment_number new - left.m < length leaves.recent = omega (arith, long, left.since, left.until) in
    let is : state_at new left.m ≡ get_or leaves.recent (moment_number new - left.m) new.last
    = ap (λ (l : List DiskState). get_or l (moment_number new - left.m) new.last) leaves.grows
    ∙ get_or_append_left leaves.recent (moments old) new.last (moment_number new - left.m) below in
    leaves.each (moment_number new - left.m) new.last below image (subst (λ s. IsCrashImage s image) is left.left)

-- what has P leaves nothing but what has Q
pub leaves_weaker : (P Q : List ℕ → Type 0) → ((image : List ℕ) → P image → Q image) → (old new : History) → LeavesOnly old new P → LeavesOnly old new Q
leaves_weaker P Q more old new leaves = record {
  recent = leaves.recent;
  grows = leaves.grows;
  each = λ n d below image is. more image (leaves.each n d below image is);
}

module _ (P : List ℕ → Type 0) where
  -- each image of a state has P
  abbrev HasOnly : DiskState → Type 0
  HasOnly s = (image : List ℕ) → IsCrashImage s image → P image

  pub leaves_none : (h : History) → LeavesOnly h h P
  leaves_none h = record { recent = []; grows = refl; each = All-nil HasOnly }

  pub leaves_more : (old new : History) (f : DiskState → DiskState) → LeavesOnly old new P
      → ((image : List ℕ) → IsCrashImage (f new.last) image → P image) → LeavesOnly old (history_after_step f new) P
  leaves_more old new f leaves step = record {
    recent = f new.last ∷ leaves.recent;
    grows = ap (λ (l : List DiskState). f new.last ∷ l) leaves.grows;
    each = All-cons HasOnly (f new.last) leaves.recent step leaves.each;
  }

  -- from one history to a second, and from it to a third
  pub leaves_joins : (a b c : History) → LeavesOnly a b P → LeavesOnly b c P → LeavesOnly a c P
  leaves_joins a b c one two = record {
    recent = two.recent ++ one.recent;
    grows = two.grows ∙ ap (λ (l : List DiskState). two.recent ++ l) one.grows ∙ sym (append_assoc two.recent one.recent (moments a));
    each = All-append HasOnly two.recent one.recent two.each one.each;
  }

  -- the state that stands leaves nothing but what has P, if each that came does, and the one before them did
  pub last_leaves : (old new : History) → LeavesOnly old new P → ((image : List ℕ) → IsCrashImage old.last image → P image) → (image : List ℕ) → IsCrashImage new.last image
      → P image
  last_leaves old new leaves first = by_recent leaves.recent leaves.grows leaves.each
    where
      by_recent : (recent : List DiskState) → moments new ≡ recent ++ moments old → All HasOnly recent → HasOnly new.last
      by_recent [] grows each = let same : new.last ≡ old.last = cc grows in subst HasOnly (sym same) first
      by_recent (s ∷ recent) grows each = let same : new.last ≡ s = cc grows in subst HasOnly (sym same) (All-head HasOnly s recent each)
