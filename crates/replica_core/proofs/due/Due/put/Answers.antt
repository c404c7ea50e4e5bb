use Rattle.std.proofs.Common.{◌∙◌, ◌≤◌, ◌<◌, ap, arith, sym, subst, Bool, List, length}
use Rattle.std.specs.Prelude.{count_by}
use Rattle.replica_core.specs.Due.{IsClearBefore}
use Rattle.replica_core.proofs.MarkLemmas.{all_clear, clear_put, clear_within}
use Rattle.replica_core.proofs.due.Due.put.Goals as goal
use Rattle.replica_core.proofs.due.Due.put.Goals.{then-self-eq0, else-self-eq0}

-- the marks in front that are known not to be set
known : (c : goal.After-put) → IsClearBefore c.if-self-eq0.clear c.self.inside.marks.items × (c.if-self-eq0.clear ≤ length c.self.inside.marks.items)
known c =
    let marks : List Bool = c.self.inside.marks.items in
    elim c.if-self-eq0.branch [
      | then-self-eq0 w ↦
          let below : c.args.position < length marks = omega (arith, c.requires, ap length c.self.view_is) in (
            subst (λ n. IsClearBefore n marks) (sym w.clear-is) (all_clear marks c.args.position (sym c.self.invariant.counted ∙ w.if-self-eq0.true) below),
            omega (arith, w.clear-is, below),
          )
      | else-self-eq0 w ↦ (subst (λ n. IsClearBefore n marks) (sym w.clear-is) c.self.invariant.front, omega (arith, w.clear-is, c.self.invariant.within))
    ]

pub invariant_of-self : goal.invariant_of-self
invariant_of-self c =
    let marks : List Bool = c.self.inside.marks.items in
    let k = known c in
    record {
      counted = c.count_with-self-inside.ensures ∙ ap (λ l. count_by (λ mark. mark) l.items) (sym c.put.ensures.items);
      front = subst (λ l. IsClearBefore c.clear_with-self-inside.result l.items) (sym c.put.ensures.items)
          (clear_put marks c.if-self-eq0.clear c.clear_with-self-inside.result c.args.position c.args.mark k.0 k.1 c.clear_with-self-inside.ensures);
      within = clear_within marks c.put.new.self.items c.if-self-eq0.clear c.clear_with-self-inside.result c.args.position c.args.mark k.1 c.clear_with-self-inside.ensures
          (ap (λ l. l.items) c.put.ensures.items);
    }
