use Rattle.std.proofs.Common.{arith, drop, length, length-drop, List, subst, sym, take, ℕ, ◌-◌, ◌∙◌, ◌∷◌, ◌≡◌}
use Rattle.std.specs.Str.{IsUtf8}
use Rattle.std.proofs.lemmas.List.{take_all}
use Rattle.draft_plan.specs.Drafts.{parts_of, pieces}
use Rattle.draft_plan.proofs.PartLemmas.{part_read}
use Rattle.draft_plan.proofs.reading.split_part.Goals as goal

title_cut : (line : List ℕ) → take (length line - 2) (drop 2 line) ≡ drop 2 line
title_cut line = take_all (length line - 2) (drop 2 line) (omega (arith, length-drop 2 line))

pub text_of-requires : goal.text_of-requires
text_of-requires c =
    let is = part_read c.args.draft.now c.split_line.result.0.now c.split_line.result.1.now c.split_text.result.0.now c.split_text.result.1.now c.requires.good
    c.split_line.ensures c.split_text.ensures in
    subst IsUtf8 (sym (title_cut c.split_line.result.0.now)) is.title

pub text_of-requires-2 : goal.text_of-requires-2
text_of-requires-2 c =
    (part_read c.args.draft.now c.split_line.result.0.now c.split_line.result.1.now c.split_text.result.0.now c.split_text.result.1.now c.requires.good c.split_line.ensures
    c.split_text.ensures).text_utf8

pub returns-clause-parts : goal.returns-clause-parts
returns-clause-parts c =
    let is = part_read c.args.draft.now c.split_line.result.0.now c.split_line.result.1.now c.split_text.result.0.now c.split_text.result.1.now c.requires.good
    c.split_line.ensures c.split_text.ensures in
    let title = sym (c.text_of.ensures ∙ title_cut c.split_line.result.0.now) in
    let text = sym c.text_of-2.ensures in
    is.parts ∙ (λ j. record { title = title j; text = text j } ∷ parts_of (pieces c.split_text.result.1.now))

pub returns-clause-good : goal.returns-clause-good
returns-clause-good c =
    (part_read c.args.draft.now c.split_line.result.0.now c.split_line.result.1.now c.split_text.result.0.now c.split_text.result.1.now c.requires.good c.split_line.ensures
    c.split_text.ensures).good
