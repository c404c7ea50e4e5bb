use Rattle.std.proofs.lemmas.Iterator.{YieldsList-from_chars}
use Rattle.std.proofs.lemmas.Iterator.Consumers.{count_from_yields_List}
use Rattle.bulk_world.proofs.summary.summary_by.Goals as goal

pub returns : goal.returns
returns c =
    let counted = count_from_yields_List _ _ c.count.ensures.ran (YieldsList-from_chars c.args.text.now c.utf8.text cc) in
    λ i. record { operations = c.args.operations; scalars = counted i; sum = c.sum_of.ensures i; is_equal = c.args.is_equal }
