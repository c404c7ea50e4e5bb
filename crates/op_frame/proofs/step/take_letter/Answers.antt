use Rattle.std.proofs.Common.{refl, sym}
use Rattle.origin_model.specs.declared.grammar.Grammar.TheVariants.{Version2}
use Rattle.op_frame.proofs.LetterLemmas.{letter_whole, letter_within}
use Rattle.op_frame.proofs.step.take_letter.Goals as goal

pub skip-requires : goal.skip-requires
skip-requires c = letter_within _ _ _ c.requires.front

pub returns : goal.returns
returns c = record {
  is_frame = letter_whole _ _ _ c.requires.front Version2 c.requires.letter;
  rest = sym c.skip.ensures;
  held = tt;
  len = refl;
}
