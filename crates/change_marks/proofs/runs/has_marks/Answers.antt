use Rattle.std.proofs.Common.{ap, length, subst, sym, ◌<◌, ◌∙◌}
use Rattle.std.specs.Prelude.{Bool, IfSome, None, Option, Some, ◌||◌}
use Rattle.std.specs.List.{Contains, list_any}
use Rattle.origin_model.specs.edits.Landing.{following}
use Rattle.fugue_ids.specs.Identifiers.{Identifier}
use Rattle.run_store.specs.Cells.{cell_ids}
use Rattle.change_marks.specs.Marks.{mark_of}
use Rattle.change_marks.specs.Steps.{is_changed_element}
use Rattle.change_marks.specs.declared.mark.Mark.{Mark}
use Rattle.change_marks.proofs.RunLemmas.{marks_by_elements}
use Rattle.change_marks.proofs.WalkLemmas.{follows_in, from_first, from_next, one_less, turn}
use Rattle.change_marks.proofs.runs.has_marks.Goals as goal

pub elements-init : goal.elements-init
elements-init c =
    let ids = cell_ids c.args.list.now.cells in
    let test : Identifier → Bool = λ x. is_changed_element (mark_of c.args.front.now.held.history c.args.replica.now.held.history x) in (
      sym (ap (λ o. list_any test (from_next ids o)) c.after-next.ensures ∙ ap (list_any test) (from_first ids)),
      subst (λ o. IfSome o (Contains ids)) (sym c.after-next.ensures) (follows_in ids None),
    )

pub elements-smaller : goal.elements-smaller
elements-smaller c =
    let ids = cell_ids c.args.list.now.cells in
    subst (λ o. length (from_next ids o) < length (from_next ids c.elements.next)) (sym c.after-next-in-Some.ensures)
    (one_less ids c.elements.next c.in-Some.id c.requires.once c.elements.invariant.1 c.in-Some.is)

pub elements-preserved : goal.elements-preserved
elements-preserved c =
    let ids = cell_ids c.args.list.now.cells in
    let test : Identifier → Bool = λ x. is_changed_element (mark_of c.args.front.now.held.history c.args.replica.now.held.history x) in
    let here = turn ids c.elements.next c.in-Some.id c.requires.once c.elements.invariant.1 c.in-Some.is in
    let no_mark = sym c.is_changed.ensures ∙ c.if-is_changed.false in (
      c.elements.invariant.0 ∙ ap (list_any test) here ∙ ap (λ b. b || list_any test (from_next ids (following ids (Some c.in-Some.id)))) no_mark
          ∙ sym (ap (λ o. list_any test (from_next ids o)) c.after-next-in-Some.ensures),
      subst (λ o. IfSome o (Contains ids)) (sym c.after-next-in-Some.ensures) (follows_in ids (Some c.in-Some.id)),
    )

pub returns-then-is_changed : goal.returns-then-is_changed
returns-then-is_changed c =
    let ids = cell_ids c.args.list.now.cells in
    let key : Identifier → Option Mark = mark_of c.args.front.now.held.history c.args.replica.now.held.history in
    let test : Identifier → Bool = λ x. is_changed_element (key x) in
    let here = turn ids c.elements.next c.in-Some.id c.requires.once c.elements.invariant.1 c.in-Some.is in
    let marked = sym c.is_changed.ensures ∙ c.if-is_changed.true in
    sym (marks_by_elements key ids ∙ c.elements.invariant.0 ∙ ap (list_any test) here ∙ ap (λ b. b || list_any test (from_next ids (following ids (Some c.in-Some.id)))) marked)

pub returns : goal.returns
returns c =
    let ids = cell_ids c.args.list.now.cells in
    let key : Identifier → Option Mark = mark_of c.args.front.now.held.history c.args.replica.now.held.history in
    let test : Identifier → Bool = λ x. is_changed_element (key x) in
    sym (marks_by_elements key ids ∙ c.elements.invariant.0 ∙ ap (λ o. list_any test (from_next ids o)) c.in_default.is)
