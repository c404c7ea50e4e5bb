use Rattle.std.proofs.Common.{ap, drop, length, subst, sym, ◌∙◌, ◌≡◌, ◌≢◌}
use Rattle.origin_model.specs.operations.History.{accepted}
use Rattle.manuscript_cli.specs.SectionCounts.{section_counts}
use Rattle.std.specs.Prelude.{Err}
use Rattle.std.proofs.lemmas.Bool.{false≢true}
use Rattle.std.proofs.lemmas.Result.{err_from_is_err_and}
use Rattle.catalogue_notes.specs.Arranged.{arranged_text}
use Rattle.manuscript_cli.specs.Check.{IsTextRead}
use Rattle.command_kinds.specs.Findings.{Refuses}
use Rattle.command_kinds.specs.Changes.{change}
use Rattle.manuscript_cli.proofs.RevisingLemmas.{base_gives, draft_gives, input_gives, same_gives, text_gives, text_left}
use Rattle.manuscript_cli.proofs.revise.revise_by.Goals as goal

pub returns-in_err-shown-clause-gives : goal.returns-in_err-shown-clause-gives
returns-in_err-shown-clause-gives g c kept =
    let why = c.in_err-shown.field-0.0 in
    let p = err_from_is_err_and c.from_residual.result c.from_residual.ensures.1 in
    rw (p.1, p.2) (
      Refuses why,
      base_gives (change (g.G.Disk.seen c.args.base.now) (g.G.Disk.seen c.check_base.new.base)) (change (g.S.Source.seen c.args.draft.now) (g.S.Source.seen c.args.draft.now))
          c.args.replica.now c.args.replica.now kept _ why c.in_err-shown.ensures.err (λ e. ap Err e) c.in_err-shown.ensures.looks,
    )

pub returns-in_err-text-clause-gives : goal.returns-in_err-text-clause-gives
returns-in_err-text-clause-gives g c kept =
    let why = c.in_err-text.field-0.0 in
    let ok = c.in_ok-shown.ensures.ok in
    let p = err_from_is_err_and c.from_residual-in_err-text.result c.from_residual-in_err-text.ensures.1 in
    rw (p.1, p.2) (
      Refuses why,
      input_gives (change (g.G.Disk.seen c.args.base.now) (g.G.Disk.seen c.check_base.new.base))
          (change (g.S.Source.seen c.args.draft.now) (g.S.Source.seen c.read_text.new.source))
          c.args.replica.now c.args.replica.now kept ok.0 ok.1 ok.2 _ why c.in_err-text.ensures.none (λ e. ap Err e) c.in_err-text.ensures.count,
    )

pub returns-then-is_same-clause-gives : goal.returns-then-is_same-clause-gives
returns-then-is_same-clause-gives g c kept =
    let ok = c.in_ok-shown.ensures.ok in
    let input = change (g.S.Source.seen c.args.draft.now) (g.S.Source.seen c.read_text.new.source) in
    let read = subst (IsTextRead input) (sym c.as_slice-draft.ensures.value) c.in_ok-text.ensures.text in
    let same = c.is_same.ensures.0 c.if-is_same.true ∙ (c.written.ensures ∙ c.in_ok-shown.ensures.shown) in
    same_gives (change (g.G.Disk.seen c.args.base.now) (g.G.Disk.seen c.check_base.new.base)) input
    c.args.replica.now ok.0 c.as_slice-draft.result.now kept ok.1 (text_left input _ read) ok.2 read.short same c.requires.ready.settled c.requires.ready.sound

pub revise_to-requires-clause-other : goal.revise_to-requires-clause-other
revise_to-requires-clause-other g c = λ e.
    false≢true (sym c.if-is_same.false ∙ c.is_same.ensures.1 (e ∙ sym (c.written.ensures ∙ c.in_ok-shown.ensures.shown)))

pub returns-in_err-made-clause-gives : goal.returns-in_err-made-clause-gives
returns-in_err-made-clause-gives g c kept =
    let why = c.in_err-made.field-0.0 in
    let ok = c.in_ok-shown.ensures.ok in
    let input = change (g.S.Source.seen c.args.draft.now) (g.S.Source.seen c.read_text.new.source) in
    let other : c.as_slice-draft.result.now ≢ arranged_text c.args.replica.now.held.history = λ e.
    false≢true (sym c.if-is_same.false ∙ c.is_same.ensures.1 (e ∙ sym (c.written.ensures ∙ c.in_ok-shown.ensures.shown))) in
    let p = err_from_is_err_and c.from_residual-in_err-made.result c.from_residual-in_err-made.ensures.1 in
    rw (p.1, p.2) (
      Refuses why,
      text_gives (change (g.G.Disk.seen c.args.base.now) (g.G.Disk.seen c.check_base.new.base)) input
          c.args.replica.now c.revise_to.new.replica kept ok.0 ok.1 ok.2 c.as_slice-draft.result.now why other
          (subst (IsTextRead input) (sym c.as_slice-draft.ensures.value) c.in_ok-text.ensures.text) c.in_err-made.ensures.err,
    )

pub returns-clause-gives : goal.returns-clause-gives
returns-clause-gives g c kept =
    let ok = c.in_ok-shown.ensures.ok in
    let made = c.in_ok-made.ensures.made in
    let now = c.revise_to.new.replica in
    let input = change (g.S.Source.seen c.args.draft.now) (g.S.Source.seen c.read_text.new.source) in
    let other : c.as_slice-draft.result.now ≢ arranged_text c.args.replica.now.held.history = λ e.
    false≢true (sym c.if-is_same.false ∙ c.is_same.ensures.1 (e ∙ sym (c.written.ensures ∙ c.in_ok-shown.ensures.shown))) in
    let read = subst (IsTextRead input) (sym c.as_slice-draft.ensures.value) c.in_ok-text.ensures.text in
    let counted : c.section_counts-sections.result ≡ section_counts now.held.history (drop (length (accepted c.args.replica.now.held.history)) (accepted now.held.history)) =
    c.section_counts-sections.ensures ∙ ap (λ l. section_counts now.held.history (drop l (accepted now.held.history)))
    (c.len-before.ensures ∙ ap length c.accepted.ensures.accepted) in
    rw counted
    (draft_gives (change (g.G.Disk.seen c.args.base.now) (g.G.Disk.seen c.check_base.new.base)) input
    c.args.replica.now now ok.0 c.as_slice-draft.result.now made.0 _ kept ok.1 (text_left input _ read) ok.2 read.short other made.1 made.2 made.3 c.requires.ready.settled made.4)
