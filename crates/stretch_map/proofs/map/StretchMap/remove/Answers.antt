use Rattle.std.proofs.Common.{ap, inl, inr, subst, sym, ◌∙◌, ◌≡◌}
use Rattle.std.specs.Prelude.{IfSome, None, is_ok}
use Rattle.std.specs.FinMap as map
use Rattle.std.proofs.lemmas.Bool.{false≢true}
use Rattle.fugue_ids.specs.Identifiers.{Identifier}
use Rattle.fugue_ids.specs.Runs.{id_after}
use Rattle.stretch_map.specs.Contents.{layout, value_in}
use Rattle.stretch_map.specs.Stretches.{EndsAt}
use Rattle.stretch_map.proofs.MapLemmas.{contents-loses, contents-same, ends_unless_followed, get-contents, still_ends}
use Rattle.stretch_map.proofs.ResultLemmas.{err_from}
use Rattle.stretch_map.proofs.map.StretchMap.remove.Goals as goal

pub invariant_of-self : goal.invariant_of-self
invariant_of-self g c =
    let same = c.in_err-value.ensures.err in
    let old = layout c.self.inside.stretches in
    let new = layout c.take_out.new.stretches in
    record {
      are = same.are;
      ends = still_ends g.V.Follows.nth g.V.Follows.reaches old new same c.self.inside.newest c.self.invariant.ends;
    }

pub returns-in_err-value-clause-err : goal.returns-in_err-value-clause-err
returns-in_err-value-clause-err g c =
    let same = contents-same g.V.Follows.nth (layout c.self.inside.stretches) (layout c.take_out.new.stretches) c.in_err-value.ensures.err.found in
    err_from _ c.from_residual.result ((λ i. record { values = same i; newest = c.self.inside.newest }) ∙ c.self.view_is)

pub returns-in_err-value-clause-sure : goal.returns-in_err-value-clause-sure
returns-in_err-value-clause-sure g c = λ sure.
    let nth = g.V.Follows.nth in
    let old = layout c.self.inside.stretches in
    let seen : (q : Identifier) → map.get c.args.self.now.values q ≡ value_in nth old q = λ q. sym (ap (λ h. map.get h.values q) c.self.view_is) ∙ get-contents nth old q in
    let ends : EndsAt old c.args.key = elim sure [
      | inl is ↦ subst (λ o. IfSome o (EndsAt old)) (ap (λ h. h.newest) c.self.view_is ∙ is) c.self.invariant.ends
      | inr not ↦
          ends_unless_followed nth g.V.Follows.reaches g.met.V.Follows.adds old c.self.invariant.are c.args.key
          (λ f. not (record { value = f.value; held = seen c.args.key ∙ f.held; followed = seen (id_after c.args.key 1) ∙ f.followed }))
    ] in
    absurd (false≢true (sym (ap is_ok c.in_err-value.was) ∙ c.take_out.ensures.sure ends))

pub invariant_of-self-2 : goal.invariant_of-self-2
invariant_of-self-2 g c = record { are = c.in_ok-value.ensures.ok.are; ends = tt }

pub returns-clause-value : goal.returns-clause-value
returns-clause-value g c =
    c.in_ok-value.ensures.value ∙ sym (get-contents g.V.Follows.nth (layout c.self.inside.stretches) c.args.key) ∙ ap (λ h. map.get h.values c.args.key) c.self.view_is

pub returns-clause-ok : goal.returns-clause-ok
returns-clause-ok g c =
    let values =
    contents-loses g.V.Follows.nth g.V.Follows.reaches (layout c.self.inside.stretches) (layout c.take_out.new.stretches) c.args.key c.in_ok-value.ensures.ok
    ∙ ap (λ h. map.remove h.values c.args.key) c.self.view_is
    in
    λ i. record { values = values i; newest = None }
