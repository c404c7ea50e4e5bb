use Rattle.std.proofs.Common.{ap, drop, sym, take, ◌+◌, ◌++◌, ◌∷◌, ◌∙◌, ◌≡◌, ℕ, zero, suc, List, [], arith}
use Rattle.std.specs.Prelude.{Some, slice_get}
use Rattle.std.proofs.lemmas.List.{drop-drop}
use Rattle.fugue_ids.specs.Identifiers.{Identifier}
use Rattle.replica_core.proofs.edits.planning.gather.Goals as goal

-- one more of a list
taken_more : (xs : List Identifier) (k : ℕ) (x : Identifier) → slice_get (drop k xs) 0 ≡ Some x → take (suc k) xs ≡ take k xs ++ x ∷ []
taken_more [] zero x e = cc
taken_more [] (suc k) x e = cc
taken_more (y ∷ ys) zero x e = cc
taken_more (y ∷ ys) (suc k) x e = ap (λ l. y ∷ l) (taken_more ys k x e)

pub taken-preserved : goal.taken-preserved
taken-preserved c =
    let xs = c.args.walk.now in
    let k = c.taken.counter in
    let next : suc k ≡ k + 1 = omega arith in
    let x : slice_get (drop k xs) 0 ≡ Some c.unwrap.result = ap (λ w. slice_get w 0) (sym c.taken.invariant.0) ∙ sym c.step.ensures.first ∙ c.unwrap.ensures in (
      c.step.ensures.rest ∙ ap (drop 1) c.taken.invariant.0 ∙ drop-drop 1 k xs,
      c.in_ok-push.ensures.items ∙ ap (λ l. l ++ c.unwrap.result ∷ []) c.taken.invariant.1 ∙ sym (taken_more xs k c.unwrap.result x) ∙ ap (λ n. take n xs) next,
    )
