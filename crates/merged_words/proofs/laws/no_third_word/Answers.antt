use Rattle.merged_words.proofs.LawLemmas.{no_third_word}
use Rattle.merged_words.proofs.laws.no_third_word.Goals as goal

pub returns : goal.returns
returns c = no_third_word
