use Rattle.std.proofs.Common.{arith, ◌++◌}
use Rattle.order_proof.specs.Texts.{id_text, ids_text}
use Rattle.order_proof.proofs.TextLemmas.{id_free}
use Rattle.order_proof.proofs.text_parts.Unread.take_id.Goals as goal

pub returns-clause-every : goal.returns-clause-every
returns-clause-every c id more p is =
    let words = c.in_ok-words.ensures.every (id_text id ++ ids_text more) is in
    let parts = c.split_word.ensures.every (id_text id) more (id_free 32 id (omega arith) p.1) words in
    (c.read_id.ensures.every id p parts.0, parts.1)
