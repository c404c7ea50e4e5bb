use Rattle.std.proofs.Common.{List, sym, ℕ, ◌∙◌, ◌≡◌}
use Rattle.std.specs.Prelude.{Err, MatchResult, Ok, Result, is_ok}
use Rattle.std.specs.Str.{IsUtf8, is_utf8}
use Rattle.std.proofs.lemmas.Bool.{false_from_ne_true}
use Rattle.std.proofs.lemmas.Str.{IsUtf8-from_is_utf8, is_utf8-from_IsUtf8}
use Rattle.fugue_ids.proofs.line.is_utf8.Goals as goal

-- the reading succeeds exactly where the bytes are UTF-8
told : {T E : Type 0} → (P : T → Type 0) (Q : E → Type 0) (r : Result T E) (bytes : List ℕ) → MatchResult r (λ s. P s × IsUtf8 bytes) (λ e. (IsUtf8 bytes → ⊥) × Q e)
    → is_ok r ≡ is_utf8 bytes
told P Q (Ok s) bytes k = sym (is_utf8-from_IsUtf8 bytes k.1)
told P Q (Err e) bytes k = sym (false_from_ne_true (is_utf8 bytes) (λ t. k.0 (IsUtf8-from_is_utf8 bytes t)))

pub returns : goal.returns
returns c = c.is_ok.ensures.value ∙ told _ _ c.from_utf8.result c.args.bytes.now c.from_utf8.ensures.cases
