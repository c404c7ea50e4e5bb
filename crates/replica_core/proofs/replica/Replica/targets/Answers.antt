use Rattle.std.proofs.Common.{ap, drop, take, ◌∙◌}
use Rattle.replica_core.proofs.DeletingLemmas.{shown_within}
use Rattle.replica_core.proofs.replica.Replica.targets.Goals as goal

pub returns-clause-within : goal.returns-clause-within
returns-clause-within c =
    let text = c.in-Some.ensures.text in
    shown_within c.in-Some.section.id c.args.self.now.held.history c.args.at c.args.n c.in_ok-shown_part.field-0.items c.in-Some.ensures.sound.lawful
    (c.in_ok-shown_part.ensures.part ∙ ap (λ z. take c.args.n (drop c.args.at z)) text.place.visible)
