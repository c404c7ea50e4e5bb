use Rattle.std.proofs.Common.{List, ap, sym, ◌++◌, ◌∙◌, ◌∷◌, [], ℕ}
use Rattle.op_frame.proofs.GatherLemmas.{gathers_row, gathers_run}
use Rattle.op_frame.proofs.reader.FrameReader.gather.Goals as goal

pub returns-clause-gathers : goal.returns-clause-gathers
returns-clause-gathers c =
    gathers_run _ c.in-Some.start c.in-Some.ch _ _ _ _ (sym c.read_text.ensures ∙ c.in-Some.is)
    (c.push_reserved.ensures.items ∙ ap (λ (l : List ℕ). l ++ c.in-Some.ch ∷ []) c.requires.empty) c.gather_texts.ensures.gathers

pub returns-in-Delete-clause-gathers : goal.returns-in-Delete-clause-gathers
returns-in-Delete-clause-gathers c =
    rw c.in-Delete.is (gathers_row c.in-Delete.target c.gather_deletes-count.result c.args.text.now.items c.args.self.now c.gather_deletes-count.new.self c.requires.empty
    c.gather_deletes-count.ensures)
