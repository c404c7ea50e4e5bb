use Rattle.std.proofs.Common.{ap, sym, ◌∙◌, List, ℕ}
use Rattle.std.specs.Prelude.{is_some, slice_get}
use Rattle.origin_model.specs.operations.Verdict.{id_held}
use Rattle.causal_inbox.specs.Key.{own_key_of}
use Rattle.causal_inbox.specs.Lists.{ages_under}
use Rattle.causal_inbox.proofs.FindingLemmas.{own_found}
use Rattle.causal_inbox.proofs.index.Index.has_id.Goals as goal

pub returns-in-Some : goal.returns-in-Some
returns-in-Some c =
    c.is_some.ensures ∙ ap is_some c.nth_age.ensures
    ∙ ap (λ (l : List ℕ). is_some (slice_get l 0)) (ap (ages_under c.args.self.now.lists) c.own_key.ensures ∙ c.requires.listed (own_key_of c.in-Some.id))
    ∙ own_found c.in-Some.id c.args.ops.now.items c.args.self.now.ages.items c.requires.one_each
    ∙ sym (ap (id_held c.args.ops.now.items) c.in-Some.is)
