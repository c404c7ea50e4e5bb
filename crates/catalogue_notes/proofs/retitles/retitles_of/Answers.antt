use Rattle.std.proofs.Common.{List, ap, arith, get_or, length, refl, reverse, subst, sym, ℕ, ◌+◌, ◌++◌, ◌∙◌, ◌∷◌, ◌≡◌}
use Rattle.std.proofs.lemmas.List.{append-nil, reverse-reverse}
use Rattle.std.specs.Prelude.{None, Some, map, option_to_list}
use Rattle.fugue_ids.specs.Identifiers.{Identifier}
use Rattle.fugue_ids.specs.declared.op.Op.{Op}
use Rattle.origin_model.specs.operations.Verdict.{Lawful}
use Rattle.replica_core.proofs.WalkLemmas.{Walks, passed_all, passed_step, read_there, walk_begins, walk_comes, walk_ends, walk_goes_on}
use Rattle.catalogue_notes.specs.Lift.{is_section, retitles}
use Rattle.catalogue_notes.specs.Readings.{candidate_of, known_retitle}
use Rattle.catalogue_notes.specs.declared.reading.Candidate.{Candidate}
use Rattle.catalogue_notes.proofs.LiftingLemmas.{Passed}
use Rattle.catalogue_notes.proofs.RetitledLemmas.{candidates_more, no_retitles, retitled_between, retitled_more}
use Rattle.catalogue_notes.proofs.retitles.retitles_of.Goals as goal
use Rattle.catalogue_notes.proofs.retitles.retitles_of.Goals.{in-Some+in_ok-push, in_default}

-- the candidates are those of the retitles before a place of the list
abbrev P : List Op → List Candidate → ℕ → Type 0
P ops candidates i = reverse candidates ≡ map candidate_of (retitles (Passed ops i))

pub walk-init : goal.walk-init
walk-init c =
    walk_begins (P (reverse c.args.replica.now.held.history) c.new-candidates.result.items) c.args.replica.now.held.history
    (reverse c.args.replica.now.held.history) c.sections_and_notes-at-items.result.now refl c.sections_and_notes-at-items.ensures.positions
    (ap reverse c.new-candidates.ensures.items ∙ sym (ap (map candidate_of) no_retitles))

pub walk-preserved : goal.walk-preserved
walk-preserved c =
    let h : List Op = c.args.replica.now.held.history in
    let ops : List Op = reverse h in
    let positions : List ℕ = c.sections_and_notes-at-items.result.now in
    let k : ℕ = c.walk.at-index in
    let p : ℕ = get_or positions k 0 in
    let passed : List Op = Passed ops p in
    let e : reverse ops ≡ h = reverse-reverse h in
    let old : List Candidate = c.walk.candidates.items in
    let at = walk_comes (P ops old) ops (retitled_between ops old) positions k c.walk-test.true c.walk.invariant in
    let adds = retitled_more ops p at.op (is_section h) (subst Lawful (sym e) c.sections_and_notes-at-items.ensures.sound.lawful)
    (λ (s : Identifier). ap (λ z. is_section z s) (sym e)) at.below at.is in
    let read = read_there (known_retitle (is_section h)) ops p at.op c.retitle_at.result at.there c.retitle_at.ensures in
    let goes = λ (candidates : List Candidate). λ (holds : reverse candidates ≡ map candidate_of (retitles (at.op ∷ passed))).
    walk_goes_on (P ops old) (P ops candidates) ops positions k p at (passed_step (λ z. reverse candidates ≡ map candidate_of (retitles z)) ops p at.op at.below at.is holds) in
    elim c.match-retitle_at.branch [
      | in-Some+in_ok-push w ↦
          subst (λ z. Walks (P ops z.items) ops positions (k + 1)) (sym w.candidates-is)
          (goes w.push.new.self.items
          (ap reverse w.in_ok-push.ensures.items
          ∙ candidates_more old (Some w.in-Some.candidate) passed (at.op ∷ passed) at.holds
          (adds ∙ ap (λ o. option_to_list o ++ map candidate_of (retitles passed)) (read ∙ w.in-Some.is))))
      | in_default w ↦
          subst (λ z. Walks (P ops z.items) ops positions (k + 1)) (sym w.candidates-is)
          (goes old
          (ap reverse (sym (append-nil old))
          ∙ candidates_more old None passed (at.op ∷ passed) at.holds (adds ∙ ap (λ o. option_to_list o ++ map candidate_of (retitles passed)) (read ∙ w.in_default.is))))
    ]

pub returns-clause-retitles : goal.returns-clause-retitles
returns-clause-retitles c =
    let h : List Op = c.args.replica.now.held.history in
    let ops : List Op = reverse h in
    subst (λ z. reverse c.walk.candidates.items ≡ map candidate_of (retitles z)) (passed_all ops (length ops) (omega arith) ∙ reverse-reverse h)
    (walk_ends (P ops c.walk.candidates.items) ops (retitled_between ops c.walk.candidates.items) c.sections_and_notes-at-items.result.now c.walk.at-index
    (omega (arith, c.walk-test.false)) c.walk.invariant)
