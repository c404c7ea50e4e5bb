use Rattle.std.proofs.Common.{ap, subst, sym, ◌∙◌, ◌+◌, ◌-◌}
use Rattle.std.specs.Prelude.{Some, is_ok}
use Rattle.std.specs.FinMap as map
use Rattle.std.proofs.lemmas.Bool.{false≢true}
use Rattle.fugue_ids.specs.Identifiers.{Identifier}
use Rattle.stretch_map.specs.Contents.{layout}
use Rattle.stretch_map.specs.Rules.{with_run}
use Rattle.stretch_map.specs.Stretches.{EndsAt}
use Rattle.stretch_map.proofs.MapLemmas.{can_come, contents-adds, get-contents}
use Rattle.stretch_map.proofs.map.StretchMap.insert_run.Goals as goal

pub put-requires-clause-comes : goal.put-requires-clause-comes
put-requires-clause-comes g c =
    let old = layout c.self.inside.stretches in
    let last = ap (λ (x : Identifier). x.counter + (c.args.count - 1)) c.first.view_is in
    can_come g.V.Follows.nth g.V.Follows.reaches old (map.get c.args.self.now.values)
    (λ q. sym (ap (λ h. map.get h.values q) c.self.view_is) ∙ get-contents g.V.Follows.nth old q) c.args.first
    c.args.value c.args.count (c.first.inside.counter + (c.args.count - 1)) c.requires.some last c.requires.reached c.requires.free

pub returns-in_err-put-clause-sure : goal.returns-in_err-put-clause-sure
returns-in_err-put-clause-sure g c = λ next.
    let old = layout c.self.inside.stretches in
    let seen = sym (get-contents g.V.Follows.nth old next.before) ∙ ap (λ h. map.get h.values next.before) c.self.view_is in
    let ok =
    c.put.ensures.sure
    (record { before = next.before; at_key = next.at_key; value_before = next.value_before; held = seen ∙ next.held; reached = next.reached; follows = next.follows })
    in
    absurd (false≢true (sym (ap is_ok c.in_err-put.was) ∙ ok))

pub invariant_of-self-3 : goal.invariant_of-self-3
invariant_of-self-3 g c =
    let adds = c.in_ok-put.ensures.ok in
    record {
      are = adds.are;
      ends = subst (λ (x : Identifier). EndsAt (layout c.put.new.stretches) (record { replica = x.replica; counter = c.first.inside.counter + (c.args.count - 1) }))
          (sym c.first-2.view_is) adds.ends;
    }

pub returns-clause-ok : goal.returns-clause-ok
returns-clause-ok g c =
    let n = c.args.count in
    let last = ap (λ (x : Identifier). x.counter + (n - 1)) c.first.view_is in
    let values =
    contents-adds g.V.Follows.nth g.V.Follows.reaches (layout c.self.inside.stretches) (layout c.put.new.stretches) c.args.first c.args.value n
    (c.first.inside.counter + (n - 1)) c.requires.some last
    c.in_ok-put.ensures.ok
    ∙ ap (λ h. with_run g.V.Follows.nth c.args.first c.args.value n h.values) c.self.view_is
    in
    λ i. record { values = values i; newest = Some (record { replica = (c.first-2.view_is i).replica; counter = last i }) }
