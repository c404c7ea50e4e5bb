use Rattle.origin_model.proofs.Words.{ap, arith, first_missing, first_stray, names, subst, sym, take, [], ◌++◌, ◌+◌, ◌∙◌, ◌∷◌, ◌≡◌}
use Rattle.std.proofs.lemmas.List.{take_more}
use Rattle.std.specs.Option.{option_or}
use Rattle.origin_model.proofs.operations.LookupLemmas.{missing-push, stray-push}
use Rattle.origin_model.proofs.operations.named.name_faults.Goals as goal

pub names-preserved : goal.names-preserved
names-preserved g c =
    let h = g.L.Lookup.history c.args.lookup.now in
    let named = names c.args.op.now in
    let items = c.as_slice-named-items.result.now in
    let k = c.names.named-index in
    let x = c.named-item.result in
    let more : take (k + 1) named ≡ take k named ++ x ∷ [] =
    subst (λ l. take (k + 1) l ≡ take k l ++ x ∷ []) (c.as_slice-named-items.ensures ∙ c.names_of-names.ensures)
    (take_more items k x (omega (arith, c.names-test.true)) ∙ ap (λ y. take k items ++ y ∷ []) (sym c.named-item.is)) in
    record {
      stray = c.or-faults.ensures.stray
          ∙ (λ i. option_or (c.names.invariant.stray i) (c.faults_of.ensures.stray i))
          ∙ sym (stray-push h (take k named) x) ∙ ap (first_stray h) (sym more);
      missing = c.or-faults.ensures.missing
          ∙ (λ i. option_or (c.names.invariant.missing i) (c.faults_of.ensures.missing i))
          ∙ sym (missing-push h (take k named) x) ∙ ap (first_missing h) (sym more);
    }
