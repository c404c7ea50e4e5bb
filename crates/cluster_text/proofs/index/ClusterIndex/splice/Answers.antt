use Rattle.std.proofs.Common.{◌≡◌, ◌≤◌, ◌+◌, ◌-◌, List, ℕ, Option, Some, None, length, sym, ap, ◌∙◌, arith}
use Rattle.std.proofs.lemmas.Option.{same_Some}
use Rattle.std.specs.Prelude.{SomeIff}
use Rattle.std.specs.Str.{chars}
use Rattle.std.specs.List.{splice}
use Rattle.std.specs.Prelude.{encode_utf8_all}
use Rattle.cluster_text.specs.Parts.{inside, whole}
use Rattle.cluster_text.proofs.IndexLemmas.{changed_index, changed_inside, index_closes, index_count}
use Rattle.cluster_text.proofs.index.ClusterIndex.splice.Goals as goal

-- a sum that fits
added : (r : Option ℕ) (fits : Type 0) (sum n : ℕ) → r ≡ Some n → SomeIff r fits sum → n ≡ sum
added None fits sum n is by = cc
added (Some m) fits sum n is by = sym (same_Some m n is) ∙ by.1

pub overflow_sub-left : goal.overflow_sub-left
overflow_sub-left c = omega (arith, index_count _ _ c.self.invariant, c.requires, ap (λ (t : List ℕ). length (chars t)) c.self.view_is)

pub overflow_add-at : goal.overflow_add-at
overflow_add-at c = omega (arith, index_count _ _ c.self.invariant, c.requires, ap (λ (t : List ℕ). length (chars t)) c.self.view_is)

pub overflow_add-at-2 : goal.overflow_add-at-2
overflow_add-at-2 c = omega (arith, index_count _ _ c.self.invariant, c.requires, ap (λ (t : List ℕ). length (chars t)) c.self.view_is)

pub overflow_add-at-3 : goal.overflow_add-at-3
overflow_add-at-3 c = omega (arith, index_count _ _ c.self.invariant, c.requires, ap (λ (t : List ℕ). length (chars t)) c.self.view_is)

pub replace-requires-clause-more : goal.replace-requires-clause-more
replace-requires-clause-more c = omega (arith, index_count _ _ c.self.invariant, c.self.invariant.count_is, c.requires, ap (λ (t : List ℕ). length (chars t)) c.self.view_is)

pub invariant_of-self-2 : goal.invariant_of-self-2
invariant_of-self-2 c =
    let fits : c.args.at + c.args.n ≤ length (chars (inside (whole c.self.inside.parts))) = omega (arith, c.requires, ap (λ (t : List ℕ). length (chars t)) c.self.view_is) in
    changed_index c.self.inside.parts c.replace.new.parts c.self.inside.scalars c.self.invariant c.args.new.now c.utf8.new c.args.at c.args.n fits c.in_ok-replace.ensures.ok
    c.in-Some.scalars (added _ _ _ _ c.in-Some.is c.checked_add.ensures ∙ ap (λ k. (c.self.inside.scalars - c.args.n) + k) c.count_scalars.ensures.count)

pub returns-clause-ok : goal.returns-clause-ok
returns-clause-ok c =
    let fits : c.args.at + c.args.n ≤ length (chars (inside (whole c.self.inside.parts))) = omega (arith, c.requires, ap (λ (t : List ℕ). length (chars t)) c.self.view_is) in
    changed_inside c.self.inside.parts c.replace.new.parts c.self.inside.scalars c.self.invariant c.args.new.now c.utf8.new c.args.at c.args.n fits c.in_ok-replace.ensures.ok
    ∙ ap (λ (t : List ℕ). encode_utf8_all (splice (chars t) c.args.at (c.args.at + c.args.n) (chars c.args.new.now))) c.self.view_is

pub replace-requires-clause-closed : goal.replace-requires-clause-closed
replace-requires-clause-closed c = index_closes _ _ c.self.invariant
