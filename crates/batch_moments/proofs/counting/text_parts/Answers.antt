use Rattle.std.proofs.Common.{ap, map, sym, append-nil, ◌++◌, ◌∙◌, ◌≡◌, []}
use Rattle.std.specs.Map.Iter.{deref_pair}
use Rattle.std.proofs.lemmas.Map.Iter.{rest_all}
use Rattle.batch_moments.proofs.CountLemmas.{as_part, entries_reported}
use Rattle.batch_moments.proofs.counting.text_parts.Goals as goal

pub returns : goal.returns
returns c ops are =
    let none : c.texts.replica-iterator ≡ [] = rest_all deref_pair _ _ _ c.in-None.is c.next.ensures.steps in
    sym (append-nil c.texts.parts.items) ∙ sym (ap (λ l. c.texts.parts.items ++ map as_part l) none) ∙ c.texts.invariant
    ∙ entries_reported c.args.counts.now ops c.iter-replica-items.ensures.ordered are
