use Rattle.std.proofs.lemmas.Bool.Decides.{Decides-eqb}
use Rattle.std.proofs.lemmas.Slice.Eq.{strip_prefix_is}
use Rattle.order_proof.proofs.ReadingLemmas.{strip_found, strip_parts}
use Rattle.order_proof.proofs.text_parts.strip.Goals as goal

pub returns-clause-parts : goal.returns-clause-parts
returns-clause-parts c =
    strip_parts c.args.text.now c.args.piece.now c.strip_prefix.result
    (strip_prefix_is Decides-eqb c.args.text.now c.args.piece.now c.strip_prefix.result c.strip_prefix.ensures.cases)

pub returns-clause-every : goal.returns-clause-every
returns-clause-every c rest is =
    strip_found c.args.text.now c.args.piece.now rest c.strip_prefix.result
    (strip_prefix_is Decides-eqb c.args.text.now c.args.piece.now c.strip_prefix.result c.strip_prefix.ensures.cases) is
