use Rattle.std.proofs.Common.{refl}
use Rattle.stretch_map.proofs.KeptLemmas.{kept_becomes}
use Rattle.stretch_map.proofs.PutLemmas.{begun_first, begun_kept}
use Rattle.stretch_map.specs.Contents.{layout}
use Rattle.stretch_map.proofs.put.begin.Goals as goal

pub returns-then-is_after_all-clause-ok : goal.returns-then-is_after_all-clause-ok
returns-then-is_after_all-clause-ok g c =
    begun_first g.V.Follows.nth g.V.Follows.reaches (layout c.args.stretches.now) c.requires.are (c.args.key, c.args.run) c.requires.comes (c.if-is_after_all.ensures.yes refl)
    c.insert.new.self.by_replica.entries c.in_ok-insert.ensures.ok

pub returns-clause-ok : goal.returns-clause-ok
returns-clause-ok g c =
    begun_kept g.V.Follows.nth g.V.Follows.reaches (layout c.args.stretches.now) c.requires.are
    (c.args.key, c.args.run) c.requires.comes c.requires.before c.insert-2.new.self.entries
    (kept_becomes c.args.stretches.now.kept c.insert-2.new.self c.args.key _ c.in_ok-insert-2.ensures.updates c.in_ok-insert-2.ensures.ordered)
