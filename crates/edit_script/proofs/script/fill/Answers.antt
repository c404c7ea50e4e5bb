use Rattle.std.proofs.Common.{◌≡◌, ap, sym, ◌∙◌, List, ℕ, length, take, arith, length-append}
use Rattle.std.specs.Io.KnownBytes.{prepend_known}
use Rattle.std.proofs.lemmas.List.{length-take-le}
use Rattle.outer_ports.proofs.CountLemmas.{count_so, count_then}
use Rattle.edit_script.proofs.SourceLemmas.{placed_longer}
use Rattle.edit_script.proofs.script.fill.Goals as goal
use Rattle.fugue_ids.proofs.JoinLemmas.{prepend_twice}

pub reads-preserved : goal.reads-preserved
reads-preserved g c =
    let kept = c.reads.invariant in
    let placed = c.in_ok-count.ensures in
    let front = take c.reads.len c.reads.buffer in
    let size = ap length placed.items ∙ length-append front placed.part in
    let whole : length c.read_after.new.buffer ≡ length c.reads.buffer = omega (arith, size, length-take-le c.reads.len c.reads.buffer kept.bound, placed.long, kept.bound) in
    record {
      size = whole ∙ kept.size;
      bound = omega (arith, whole, placed.read.bound, placed.long, kept.bound);
      split = kept.split ∙ ap (prepend_known front) placed.read.gave ∙ prepend_twice front (take c.in_ok-count.count placed.part) _
          ∙ ap (λ (l : List ℕ). prepend_known l (g.S.Source.seen c.read_after.new.source).left) (sym (placed_longer _ _ _ _ _ placed.items kept.bound));
      count = count_then _ kept.count (count_so _ _ placed.read.count (λ failed. absurd failed) (λ e. absurd (cc e)));
    }
