use Rattle.std.proofs.Common.{refl}
use Rattle.std.specs.Prelude.{None, Some, map, string_bytes}
use Rattle.manuscript_cli.specs.declared.command.Command.TheVariants.{Arrange, Print, Show}
use Rattle.manuscript_cli.proofs.HeadlineLemmas.{headline}
use Rattle.manuscript_cli.proofs.RunBlameLemmas.{meets_blameless}
use Rattle.manuscript_cli.proofs.RunLemmas.{arranges_by_set, meets_named, prints_by_set}
use Rattle.manuscript_cli.proofs.top.run.Goals as goal

pub obey-requires : goal.obey-requires
obey-requires g c = c.in-Some.ensures.named

-- Where no command was read, none is named.
pub returns-in-None-clause-decided : goal.returns-in-None-clause-decided
returns-in-None-clause-decided g c hold named = cc (c.in-None.ensures.only (Show hold) named)

pub returns-in-None-clause-headline : goal.returns-in-None-clause-headline
returns-in-None-clause-headline g c hold named = cc (c.in-None.ensures.only (Show hold) named)

pub returns-in-None-clause-by_set : goal.returns-in-None-clause-by_set
returns-in-None-clause-by_set g c named = cc (c.in-None.ensures.only Print named)

pub returns-in-None-clause-arranged_by_set : goal.returns-in-None-clause-arranged_by_set
returns-in-None-clause-arranged_by_set g c named = cc (c.in-None.ensures.only Arrange named)

pub returns-in-None-clause-blameless : goal.returns-in-None-clause-blameless
returns-in-None-clause-blameless g c =
    meets_blameless (map string_bytes c.args.words.now) _ _ _ None (record { end_is = c.tell.ensures.status; others = refl; notes = c.tell.ensures.reported })

pub returns-in-Some-clause-blameless : goal.returns-in-Some-clause-blameless
returns-in-Some-clause-blameless g c = meets_blameless (map string_bytes c.args.words.now) _ _ _ (Some _) c.obey.ensures.meets

-- The command that was read is the one that is named.
pub returns-in-Some-clause-decided : goal.returns-in-Some-clause-decided
returns-in-Some-clause-decided g c hold named =
    (meets_named (map string_bytes c.args.words.now) _ (Show hold) _ _ _ (c.in-Some.ensures.only (Show hold) named) c.obey.ensures.meets).does.decided

pub returns-in-Some-clause-headline : goal.returns-in-Some-clause-headline
returns-in-Some-clause-headline g c hold named =
    headline c.order_by_set.ensures _ _ _ _
    (meets_named (map string_bytes c.args.words.now) _ (Show hold) _ _ _ (c.in-Some.ensures.only (Show hold) named) c.obey.ensures.meets).does.performs

pub returns-in-Some-clause-by_set : goal.returns-in-Some-clause-by_set
returns-in-Some-clause-by_set g c named =
    prints_by_set c.order_by_set.ensures (map string_bytes c.args.words.now) _ _ _
    (meets_named (map string_bytes c.args.words.now) _ Print _ _ _ (c.in-Some.ensures.only Print named) c.obey.ensures.meets)

pub returns-in-Some-clause-arranged_by_set : goal.returns-in-Some-clause-arranged_by_set
returns-in-Some-clause-arranged_by_set g c named =
    arranges_by_set c.arranged_by_set.ensures (map string_bytes c.args.words.now) _ _ _
    (meets_named (map string_bytes c.args.words.now) _ Arrange _ _ _ (c.in-Some.ensures.only Arrange named) c.obey.ensures.meets)
