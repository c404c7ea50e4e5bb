use Rattle.std.proofs.Common.{subst, sym, ◌≡◌}
use Rattle.std.specs.Prelude.{Err, None, Result, ℕ, ◌↔◌}
use Rattle.origin_model.specs.edits.Refusal.{section_shown}
use Rattle.margin_notes.specs.Commenting.{RefusesComment}
use Rattle.margin_notes.specs.declared.commenting.CommentFault.{CommentFault}
use Rattle.margin_notes.specs.declared.commenting.CommentFault.TheVariants.{NoSection}
use Rattle.margin_notes.proofs.CommentedLemmas.{made_on, names_held, stands_on}
use Rattle.margin_notes.proofs.RefusalLemmas.{refuses_fault, refuses_made, tells_fault, tells_made}
use Rattle.margin_notes.proofs.commenting.comment.Goals as goal

pub note-requires-clause-held : goal.note-requires-clause-held
note-requires-clause-held c = names_held c.args.replica.now c.args.section c.args.at c.args.n c.in_ok-names.names c.in_ok-names.ensures.found c.in_ok-names.ensures.sound.lawful

pub returns-in-Ok-clause-made : goal.returns-in-Ok-clause-made
returns-in-Ok-clause-made c =
    made_on c.args.replica.now c.note.new.self c.args.section c.args.at c.args.n c.in-Ok.made c.args.body c.in_ok-names.names c.in_ok-names.ensures.found c.in-Ok.ensures.made

pub returns-in-Ok-clause-spanned : goal.returns-in-Ok-clause-spanned
returns-in-Ok-clause-spanned c =
    stands_on c.args.replica.now c.note.new.self c.args.section c.args.at c.args.n c.in-Ok.made c.args.body c.in_ok-names.names c.requires.text c.in_ok-names.ensures.found
    c.in-Ok.ensures.made c.in-Ok.ensures.shown c.in-Ok.ensures.sound

pub returns-in-Ok-clause-no_section : goal.returns-in-Ok-clause-no_section
returns-in-Ok-clause-no_section c =
    let p = c.in_ok-names.ensures.found in
    tells_made c.args.replica.now c.args.section c.args.at c.args.n p.section p.first p.last p.passage c.in-Ok.made

pub returns-in-Ok-clause-refused : goal.returns-in-Ok-clause-refused
returns-in-Ok-clause-refused c =
    let p = c.in_ok-names.ensures.found in
    refuses_made c.args.replica.now c.args.section c.args.at c.args.n p.section p.first p.last p.passage c.in-Ok.made c.in-Ok.ensures.refused

pub returns-in-Err-clause-no_section : goal.returns-in-Err-clause-no_section
returns-in-Err-clause-no_section c =
    let p = c.in_ok-names.ensures.found in
    subst (λ (f : CommentFault). (◌≡◌ {A = Result ℕ CommentFault} (Err f) (Err NoSection)) ↔ (section_shown c.args.replica.now c.args.section ≡ None)) (sym c.fault_of.ensures)
    (tells_fault c.args.replica.now c.args.section c.args.at c.args.n p.section p.first p.last p.passage c.in-Err.fault)

pub returns-in-Err-clause-refused : goal.returns-in-Err-clause-refused
returns-in-Err-clause-refused c =
    let p = c.in_ok-names.ensures.found in
    subst (λ f. RefusesComment c.args.replica.now c.args.section c.args.at c.args.n (Err f)) (sym c.fault_of.ensures)
    (refuses_fault c.args.replica.now c.args.section c.args.at c.args.n p.section p.first p.last p.passage c.in-Err.fault c.in-Err.ensures.refused)
