use Rattle.std.proofs.Common.{lit<}
use Rattle.std.proofs.lemmas.Str.Pattern.{split_after}
use Rattle.edit_script.proofs.WordLemmas.{is_some_with}
use Rattle.edit_script.proofs.edit.split_word.Goals as goal

pub returns-clause-every : goal.returns-clause-every
returns-clause-every c word rest spaceless is =
    is_some_with c.split_once.result _ (split_after 32 c.args.text.now word rest c.split_once.result c.split_once.ensures.cases (lit< tt) is (λ i below. spaceless i 0 below))
