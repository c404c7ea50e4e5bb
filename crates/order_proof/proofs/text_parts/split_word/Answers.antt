use Rattle.std.proofs.Common.{sym}
use Rattle.order_proof.proofs.ReadingLemmas.{word_alone, word_found}
use Rattle.order_proof.proofs.text_parts.split_word.Goals as goal

pub returns-in-Some-clause-every : goal.returns-in-Some-clause-every
returns-in-Some-clause-every c word more free is = word_found c.args.text.now word more c.in-Some.end free is (sym c.in-Some.ensures)

pub returns-in-None-clause-every : goal.returns-in-None-clause-every
returns-in-None-clause-every c word more free is = word_alone c.args.text.now word more free is (sym c.in-None.ensures)
