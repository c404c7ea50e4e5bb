use Rattle.std.proofs.Common.{Option, Some, ap, arith, drop, slice_get, subst, sym, ◌∙◌}
use Rattle.std.specs.Prelude.{option_copied, option_map}
use Rattle.node_rope.specs.declared.cells.Link.{Link}
use Rattle.node_rope.specs.Items.{rope_items_of}
use Rattle.node_rope.specs.Walked.{IsNext}
use Rattle.node_rope.proofs.ShapeLemmas.{made-below}
use Rattle.node_rope.proofs.KeyLemmas.{value-made, value-read}
use Rattle.node_rope.proofs.WalkedLemmas.{drop-next, few-passed, next-behind, next-value, none-left}
use Rattle.node_rope.proofs.walk.Walk.step.Goals as goal

pub returns-in_err-link-clause-first : goal.returns-in_err-link-clause-first
returns-in_err-link-clause-first g c =
    let i = c.self.inside in
    let none = none-left i.store.now i.root i.passed (subst (λ (o : Option Link). IsNext i.store.now i.root i.passed o) c.in_err-link.was c.self.invariant) in
    ap option_copied c.from_residual.ensures ∙ sym (ap (λ xs. option_map (λ x. x.1) (slice_get xs 0)) (sym c.self.view_is ∙ none))

pub returns-in_err-link-clause-rest : goal.returns-in_err-link-clause-rest
returns-in_err-link-clause-rest g c =
    let i = c.self.inside in
    let none = sym c.self.view_is ∙ none-left i.store.now i.root i.passed (subst (λ (o : Option Link). IsNext i.store.now i.root i.passed o) c.in_err-link.was c.self.invariant) in
    none ∙ sym (ap (drop 1) none)

pub overflow_add-self : goal.overflow_add-self
overflow_add-self g c =
    let i = c.self.inside in
    omega (arith, few-passed i.store.now i.root i.passed c.in_ok-link.link (subst (λ (o : Option Link). IsNext i.store.now i.root i.passed o) c.in_ok-link.was c.self.invariant))

pub invariant_of-self : goal.invariant_of-self
invariant_of-self g c =
    let i = c.self.inside in
    let b = c.node_after-self-inside in
    next-behind i.store.now i.root i.passed c.in_ok-link.link
    (subst (λ (o : Option Link). IsNext i.store.now i.root i.passed o) c.in_ok-link.was c.self.invariant) b.result b.ensures.made b.ensures.behind

pub returns-clause-first : goal.returns-clause-first
returns-clause-first g c =
    let i = c.self.inside in
    let l = c.in_ok-link.link in
    let n = subst (λ (o : Option Link). IsNext i.store.now i.root i.passed o) c.in_ok-link.was c.self.invariant in
    let v = value-made i.store.now l.number (made-below i.store.now l (n.made l (λ j. Some l))) in
    ap Some (value-read i.store.now l.number c.value-value.result.now v.0 c.value-value.ensures v.1) ∙ sym (next-value i.store.now i.root i.passed l n v.0 v.1)
    ∙ ap (λ xs. option_map (λ x. x.1) (slice_get xs 0)) c.self.view_is

pub returns-clause-rest : goal.returns-clause-rest
returns-clause-rest g c =
    let i = c.self.inside in
    drop-next (rope_items_of i.store.now i.root) i.passed ∙ ap (drop 1) c.self.view_is
