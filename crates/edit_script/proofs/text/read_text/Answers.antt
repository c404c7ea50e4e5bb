use Rattle.std.proofs.Common.{ℕ, List, ◌++◌, ap, sym, ◌∙◌, length, refl, string_bytes, arith, length-append}
use Rattle.std.specs.List.{flat_map}
use Rattle.std.specs.Str.{chars}
use Rattle.std.proofs.lemmas.Bool.{eqb-true}
use Rattle.std.proofs.lemmas.Str.{chars-nil, IsUtf8-string_bytes}
use Rattle.edit_script.specs.Grammar.{escaped_scalar}
use Rattle.edit_script.proofs.EscapeLemmas.{all_read, chars_push, escaped_some, stuck, written_next}
use Rattle.edit_script.proofs.text.read_text.Goals as goal
use Rattle.fugue_ids.proofs.OptionLemmas.{some_if}

pub scalars-init : goal.scalars-init
scalars-init c = (c.utf8.text, sym (ap (λ (l : List ℕ). flat_map escaped_scalar l ++ c.args.text.now) (ap chars c.in_ok-new.ensures.bytes ∙ chars-nil)))

pub returns-in_default-clause-every : goal.returns-in_default-clause-every
returns-in_default-clause-every c new spelled =
    stuck _ (chars (string_bytes c.scalars.new)) _ new c.scalars.invariant.1 (some_if _ (sym c.is_empty.ensures ∙ c.scalars-test.true)) (c.in_default.ensures.none refl) spelled

pub scalars-smaller : goal.scalars-smaller
scalars-smaller c =
    omega (arith, ap length c.in-Some.ensures.some, length-append (escaped_scalar c.in-Some.scalar) c.in-Some.behind.now, escaped_some c.in-Some.scalar)

pub scalars-preserved : goal.scalars-preserved
scalars-preserved c =
    let pushed = chars_push _ _ _ (IsUtf8-string_bytes c.scalars.new) (IsUtf8-string_bytes c.push.new.self) c.in_ok-push.ensures.bytes in (
      c.in-Some.ensures.utf8,
      written_next _ (chars (string_bytes c.scalars.new)) _ c.in-Some.behind.now c.in-Some.scalar c.scalars.invariant.1 c.in-Some.ensures.some
          ∙ ap (λ (l : List ℕ). flat_map escaped_scalar l ++ c.in-Some.behind.now) (sym pushed),
    )

pub returns-clause-every : goal.returns-clause-every
returns-clause-every c new spelled =
    all_read _ (chars (string_bytes c.scalars.new)) _ new c.scalars.invariant.1 (eqb-true _ 0 (sym c.is_empty.ensures ∙ c.scalars-test.false)) spelled
