use Rattle.std.proofs.Common.{ap, sym, subst, ◌≡◌, ◌≤◌, ◌∙◌, ◌++◌, ◌∷◌, [], List, ℕ, length, arith}
use Rattle.std.specs.List.{remove}
use Rattle.std.specs.Prelude.{Some, slice_get}
use Rattle.fugue_ids.specs.declared.op.Op.{Op}
use Rattle.causal_inbox.specs.Index.{IsAgeIndex}
use Rattle.causal_inbox.specs.Lists.{ages_under}
use Rattle.causal_inbox.proofs.IndexLemmas.{index_back}
use Rattle.causal_inbox.proofs.open_inbox.OpenInbox.push.Goals as goal
use Rattle.fugue_ids.proofs.ListLemmas.{slice_get-seam}

pub invariant_of-self-in-Err : goal.invariant_of-self-in-Err
invariant_of-self-in-Err c =
    let ops : List Op = c.self.inside.ops.items in
    let op : Op = c.args.op in
    let grown : IsAgeIndex (ops ++ op ∷ []) c.add.new.self.ages.items (ages_under c.add.new.self.lists) = c.in-Ok.ensures.ok ops c.self.invariant.index in
    let same : c.push.new.self.items ≡ ops = ap (λ l. l.items) c.in-Err.ensures.err in
    let at : length ops ≡ c.len-in-Err.result = omega (arith, c.len-in-Err.ensures, ap length same) in
    let there : slice_get (ops ++ op ∷ []) c.len-in-Err.result ≡ Some c.in-Err.refused.value =
    ap (slice_get (ops ++ op ∷ [])) (sym at) ∙ slice_get-seam ops op ∙ ap Some (sym c.in-Err.ensures.handed_back) in
    let back : IsAgeIndex (remove (ops ++ op ∷ []) c.len-in-Err.result) c.remove.new.self.ages.items (ages_under c.remove.new.self.lists) =
    c.remove.ensures.index (ops ++ op ∷ []) grown there in
    record {
      within = subst (λ (l : List Op). length l ≤ c.self.inside.hold) (sym same) c.self.invariant.within;
      index = subst (λ (l : List Op). IsAgeIndex l c.remove.new.self.ages.items (ages_under c.remove.new.self.lists)) (sym same)
          (index_back ops op c.remove.new.self.ages.items (ages_under c.remove.new.self.lists)
          (subst (λ (n : ℕ). IsAgeIndex (remove (ops ++ op ∷ []) n) c.remove.new.self.ages.items (ages_under c.remove.new.self.lists)) (sym at) back));
      no_empty = c.remove.ensures.no_empty (c.add.ensures.no_empty c.self.invariant.no_empty);
    }
