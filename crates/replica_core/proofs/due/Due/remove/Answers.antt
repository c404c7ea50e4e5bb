use Rattle.std.proofs.Common.{◌<◌, ◌∙◌, ap, sym, subst, Bool, List, length}
use Rattle.std.specs.Prelude.{count_by}
use Rattle.std.proofs.lemmas.Option.{slice_get_within}
use Rattle.replica_core.specs.Due.{IsClearBefore}
use Rattle.replica_core.proofs.MarkLemmas.{clear_left, clear_removed, counted_removed}
use Rattle.replica_core.proofs.due.Due.remove.Goals as goal

pub invariant_of-self : goal.invariant_of-self
invariant_of-self c =
    let marks : List Bool = c.self.inside.marks.items in
    let within : c.args.position < length marks = slice_get_within marks c.args.position c.remove.result c.remove.ensures.item in
    record {
      counted = c.count_with-self-inside.ensures
          ∙ counted_removed marks c.args.position within
          ∙ ap (λ (l : List Bool). count_by (λ mark. mark) l) (sym c.remove.ensures.rest);
      front = subst (IsClearBefore c.clear_without-self-inside.result) (sym c.remove.ensures.rest)
          (clear_removed marks c.self.inside.clear c.clear_without-self-inside.result c.args.position c.self.invariant.front within
          c.clear_without-self-inside.ensures.before c.clear_without-self-inside.ensures.behind);
      within = clear_left marks c.remove.new.self.items c.self.inside.clear c.clear_without-self-inside.result c.args.position c.self.invariant.within within
          c.clear_without-self-inside.ensures.before c.clear_without-self-inside.ensures.behind c.remove.ensures.rest;
    }
