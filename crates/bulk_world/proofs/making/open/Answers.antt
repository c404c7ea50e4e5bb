use Rattle.std.proofs.Common.{arith, take, ◌∙◌}
use Rattle.std.proofs.lemmas.List.{take_all}
use Rattle.bulk_world.proofs.OpeningLemmas.{second_opens}
use Rattle.bulk_world.proofs.making.open.Goals as goal

pub returns-clause-second : goal.returns-clause-second
returns-clause-second c =
    second_opens _ _ _ (take c.len-count.result c.accepted-ops.result) _ c.in_ok-add_section.ensures c.requires.second
    (take_all c.len-count.result c.accepted-ops.result (omega (arith, c.len-count.ensures)) ∙ c.accepted-ops.ensures.accepted) c.hear.ensures.heard
