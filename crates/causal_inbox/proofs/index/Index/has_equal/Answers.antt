use Rattle.std.proofs.Common.{ap, sym, ◌≡◌, ◌<◌, ◌∙◌, List, ℕ, Bool, length, arith, true, false, subst, get_or, nat_eq, ◌≤◌}
use Rattle.std.specs.List.{list_any, position_or_len}
use Rattle.std.proofs.lemmas.Bool.{or_from}
use Rattle.std.proofs.lemmas.List.{take_all}
use Rattle.std.proofs.lemmas.List.Folds.{list_any_at, list_any_more}
use Rattle.causal_inbox.specs.Key.{main_key}
use Rattle.causal_inbox.specs.Lists.{ages_under}
use Rattle.causal_inbox.specs.Index.{is_equal_at}
use Rattle.causal_inbox.proofs.FindingLemmas.{equal_found}
use Rattle.causal_inbox.proofs.index.Index.has_equal.Goals as goal

-- the test of an age that is tried, by what its call answered
tried : (passes : ℕ → Bool) (items list : List ℕ) (i : ℕ) (answer : Bool) → items ≡ list → i < length items → passes (get_or items i 0) ≡ answer
    → (i < length list) × (passes (get_or list i 0) ≡ answer)
tried passes items list i answer read within is = subst (λ l. (i < length l) × (passes (get_or l i 0) ≡ answer)) read (within, is)

pub loop-age-preserved : goal.loop-age-preserved
loop-age-preserved c =
    let passes : ℕ → Bool = λ a. is_equal_at c.args.ops.now.items c.args.op.now (position_or_len (λ b. nat_eq b a) c.args.self.now.ages.items) in
    let list = ages_under c.args.self.now.lists (main_key c.args.op.now) in
    let t = tried passes _ list c.loop-age.age-index false (c.list_under-age-items.ensures ∙ ap (ages_under c.args.self.now.lists) c.main_key-key.ensures) c.loop-age-test.true
    (ap (is_equal_at c.args.ops.now.items c.args.op.now) (sym c.position.ensures) ∙ sym c.equals_at.ensures ∙ c.if-equals_at.false) in
    list_any_more passes list c.loop-age.age-index 0 t.0 ∙ or_from _ _ c.loop-age.invariant t.1

pub returns-then-equals_at : goal.returns-then-equals_at
returns-then-equals_at c =
    let passes : ℕ → Bool = λ a. is_equal_at c.args.ops.now.items c.args.op.now (position_or_len (λ b. nat_eq b a) c.args.self.now.ages.items) in
    let list = ages_under c.args.self.now.lists (main_key c.args.op.now) in
    let t = tried passes _ list c.loop-age.age-index true (c.list_under-age-items.ensures ∙ ap (ages_under c.args.self.now.lists) c.main_key-key.ensures) c.loop-age-test.true
    (ap (is_equal_at c.args.ops.now.items c.args.op.now) (sym c.position.ensures) ∙ sym c.equals_at.ensures ∙ c.if-equals_at.true) in
    sym (list_any_at passes list c.loop-age.age-index 0 t.0 t.1) ∙ ap (list_any passes) (c.requires.listed (main_key c.args.op.now))
    ∙ equal_found c.args.op.now c.args.ops.now.items c.args.self.now.ages.items c.requires.one_each c.requires.rise

pub returns : goal.returns
returns c =
    let list : List ℕ = ages_under c.args.self.now.lists (main_key c.args.op.now) in
    let read : c.list_under-age-items.result.now ≡ list = c.list_under-age-items.ensures ∙ ap (ages_under c.args.self.now.lists) c.main_key-key.ensures in
    let all : length list ≤ c.loop-age.age-index = omega (arith, c.loop-age-test.false, ap length read) in
    sym c.loop-age.invariant ∙ ap (list_any _) (take_all c.loop-age.age-index list all ∙ c.requires.listed (main_key c.args.op.now))
    ∙ equal_found c.args.op.now c.args.ops.now.items c.args.self.now.ages.items c.requires.one_each c.requires.rise
