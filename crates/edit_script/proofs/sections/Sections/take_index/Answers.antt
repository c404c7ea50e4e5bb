use Rattle.std.proofs.Common.{◌≡◌, List, ℕ, subst}
use Rattle.std.specs.Prelude.{IfSome}
use Rattle.std.proofs.lemmas.Result.{IfOk-weaker}
use Rattle.fugue_ids.proofs.IdentifierLemmas.{id_at-other}
use Rattle.edit_script.specs.Sections.{shown_text_in}
use Rattle.edit_script.proofs.SectionLemmas.{kept_at, taken_out}
use Rattle.edit_script.proofs.sections.Sections.take_index.Goals as goal

pub returns-in-Some-clause-text : goal.returns-in-Some-clause-text
returns-in-Some-clause-text c = kept_at _ c.in-Some.index (λ kept. kept ≡ shown_text_in c.args.replica.now c.args.id) c.in-Some.ensures.value (c.requires.kept c.args.id)

pub returns-in-Some-clause-taken : goal.returns-in-Some-clause-taken
returns-in-Some-clause-taken c = c.remove.ensures.updates.1

pub returns-in-Some-clause-others : goal.returns-in-Some-clause-others
returns-in-Some-clause-others c =
    let u = c.remove.ensures.updates in
    taken_out _ _ c.args.replica.now c.args.id u.1 (λ y other. u.2 y (id_at-other c.args.id y other)) c.requires.kept

pub returns-in-None-clause-text : goal.returns-in-None-clause-text
returns-in-None-clause-text c =
    IfOk-weaker c.read_index.result _ (λ (kept : List ℕ). kept ≡ shown_text_in c.args.replica.now c.args.id)
    (λ kept is. subst (λ o. IfSome o (λ x. kept ≡ shown_text_in c.args.replica.now x)) c.requires.shown is) c.read_index.ensures

pub returns-in-None-clause-taken : goal.returns-in-None-clause-taken
returns-in-None-clause-taken c = c.remove.ensures.updates.1

pub returns-in-None-clause-others : goal.returns-in-None-clause-others
returns-in-None-clause-others c =
    let u = c.remove.ensures.updates in
    taken_out _ _ c.args.replica.now c.args.id u.1 (λ y other. u.2 y (id_at-other c.args.id y other)) c.requires.kept
