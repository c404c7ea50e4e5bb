use Rattle.std.proofs.Common.{ap, subst, sym, ◌≡◌, ◌∙◌}
use Rattle.std.specs.Prelude.{None, OnOk, Some}
use Rattle.std.specs.FinMap as map
use Rattle.fugue_ids.proofs.RunLemmas.{none_after}
use Rattle.stretch_map.proofs.MapLemmas.{only_first, reaches_one, run_of_one}
use Rattle.stretch_map.proofs.map.StretchMap.insert.Goals as goal

pub insert_run-requires-clause-reached : goal.insert_run-requires-clause-reached
insert_run-requires-clause-reached g c = reaches_one g.V.Follows.reaches g.met.V.Follows.starts c.args.key c.args.value

pub insert_run-requires-clause-free : goal.insert_run-requires-clause-free
insert_run-requires-clause-free g c = only_first (map.get c.args.self.now.values) c.args.key c.requires

pub returns-clause-ok : goal.returns-clause-ok
returns-clause-ok g c =
    subst (λ s. OnOk c.insert_run.result (c.insert_run.new.self ≡ s))
    (λ i. record { values = run_of_one g.V.Follows.nth g.met.V.Follows.at_start c.args.key c.args.value c.args.self.now.values i; newest = Some (none_after c.args.key i) })
    c.insert_run.ensures.ok
