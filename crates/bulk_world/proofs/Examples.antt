-- A small bulk manuscript, computed from the definitions.
use Rattle.std.proofs.Common.{refl, true, ◌≡◌}
use Rattle.std.specs.Prelude.{codes}
use lib.Utf8.{encode}
use Rattle.origin_model.specs.order.Order.{chain, order}
use Rattle.origin_model.specs.order.Printed.{manuscript}
use Rattle.origin_model.specs.operations.Verdict.{verdict}
use Rattle.origin_model.specs.taking.Taking.{settle}
use Rattle.bulk_world.specs.Generator.{next, upper}
use Rattle.bulk_world.specs.Turns.{bulk_world, first_text, numbered_replica}
use Rattle.bulk_world.specs.Summary.{summary}

uppers : upper (next 7) ≡ 15648
uppers = refl

text_of_four : first_text (numbered_replica 2 (bulk_world 7 4).replicas) ≡ codes "zgvb"
unfolding order chain verdict settle
text_of_four = refl

summary_of_four : summary (bulk_world 7 4) ≡ record { operations = 5; scalars = 4; sum = 1074; is_equal = true }
unfolding order chain verdict settle manuscript encode
summary_of_four = refl
