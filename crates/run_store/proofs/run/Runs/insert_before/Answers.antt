use Rattle.std.proofs.Common.{ap, arith, length, refl, subst, sym, true, ℕ, ◌+◌, ◌∙◌, ◌≡◌}
use Rattle.std.specs.Prelude.{OnOk, Option}
use Rattle.std.proofs.lemmas.Bool.{false≢true}
use Rattle.fugue_ids.specs.Listed.{index_of}
use Rattle.run_store.specs.Cells.{cell_ids}
use Rattle.run_store.specs.Changes.{MakesCells}
use Rattle.run_store.specs.Growth.{inserted_at}
use Rattle.run_store.specs.Heads.{typed_cells}
use Rattle.run_store.specs.NewCells.{cell_before, is_continued}
use Rattle.run_store.specs.Runs.{RunsView, cells_in}
use Rattle.run_store.specs.Stored.{IsRaisedBy}
use Rattle.run_store.specs.declared.cell.Cell.{Cell}
use Rattle.run_store.proofs.BeforeLemmas.{first-key, is-behind, is-first}
use Rattle.run_store.proofs.EitherLemmas.{any-ok, kept-raised, on-ok, one-raised, raised-more, where-err}
use Rattle.run_store.proofs.run.Runs.insert_before.Goals as goal

pub insert_behind-requires-clause-held : goal.insert_behind-requires-clause-held
insert_behind-requires-clause-held c =
    (is-behind (cells_in c.args.self.now) c.sound.ensures.distinct c.args.next c.requires.held c.in-Some.behind c.in-Some.ensures).held

pub begin-requires-clause-held : goal.begin-requires-clause-held
begin-requires-clause-held c =
    first-key c.args.self.now c.sound.ensures c.args.next (is-first (cells_in c.args.self.now) c.sound.ensures.distinct c.args.next c.requires.held c.in-None.ensures).1

pub returns-in-Some-clause-makes : goal.returns-in-Some-clause-makes
returns-in-Some-clause-makes c =
    let cs = cells_in c.args.self.now in
    let b = is-behind cs c.sound.ensures.distinct c.args.next c.requires.held c.in-Some.behind c.in-Some.ensures in
    subst (λ (n : ℕ). MakesCells c.insert_behind.result c.args.self.now c.insert_behind.new.self (inserted_at n (typed_cells c.args.head.now c.args.text.now) cs))
    (sym b.index) c.insert_behind.ensures.makes

pub returns-in-None-clause-makes : goal.returns-in-None-clause-makes
returns-in-None-clause-makes c =
    let old = c.args.self.now in
    let new = c.begin.new.self in
    let n = length old.rope in
    let begun = c.begin.ensures in
    record {
      ok = begun.ok;
      err = where-err (λ (r : RunsView). cells_in r ≡ cells_in old) c.begin.result old new begun.err refl;
      raised = on-ok c.begin.result (length new.rope ≡ n + 1) (IsRaisedBy 2 n (length new.rope))
          (λ more. raised-more 1 2 n (length new.rope) (omega arith) (one-raised n (length new.rope) more)) begun.raised;
      refused = where-err (λ (r : RunsView). IsRaisedBy 1 n (length r.rope)) c.begin.result old new begun.err (kept-raised 1 n);
    }

pub returns-in-Some-clause-continued : goal.returns-in-Some-clause-continued
returns-in-Some-clause-continued c =
    let cs = cells_in c.args.self.now in
    let h = c.args.head.now in
    let b = is-behind cs c.sound.ensures.distinct c.args.next c.requires.held c.in-Some.behind c.in-Some.ensures in
    subst (λ (o : Option Cell). OnOk c.insert_behind.result (is_continued o h.id h.left h.right ≡ true → length c.insert_behind.new.self.rope ≡ length c.args.self.now.rope))
    (sym b.cell) c.insert_behind.ensures.continued

pub returns-in-None-clause-continued : goal.returns-in-None-clause-continued
returns-in-None-clause-continued c =
    let cs = cells_in c.args.self.now in
    let h = c.args.head.now in
    let z = (is-first cs c.sound.ensures.distinct c.args.next c.requires.held c.in-None.ensures).0 in
    any-ok c.begin.result (is_continued (cell_before cs (index_of (cell_ids cs) c.args.next)) h.id h.left h.right ≡ true
    → length c.begin.new.self.rope ≡ length c.args.self.now.rope)
    (λ t. absurd (false≢true (sym (ap (λ n. is_continued (cell_before cs n) h.id h.left h.right) z) ∙ t)))
