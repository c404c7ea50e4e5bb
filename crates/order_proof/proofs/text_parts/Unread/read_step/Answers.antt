use Rattle.std.proofs.Common.{[], ap, inl, inr, refl, subst, sym, ◌++◌, ◌∙◌, ◌∷◌, ◌≡◌}
use Rattle.std.specs.Prelude.{codes, flat_map}
use Rattle.std.proofs.lemmas.Bool.{true≢false}
use Rattle.std.proofs.lemmas.Result.{err_from_is_err_and}
use Rattle.order_proof.specs.declared.step.Reason.TheVariants.{Prefix}
use Rattle.order_proof.specs.declared.step.Step.{Step}
use Rattle.order_proof.specs.Readings.{IsReadAs, sibling_lines}
use Rattle.order_proof.specs.Texts.{proof_line_text, step_written_by, word_with_ids}
use Rattle.order_proof.proofs.LineLemmas.{Tells, first_lines, fine_prefix, no_prefix, passed_on, prefix_split, sibling_written, step_from}
use Rattle.order_proof.proofs.text_parts.Unread.read_step.Goals as goal

pub returns-in_err-x-clause-every : goal.returns-in_err-x-clause-every
returns-in_err-x-clause-every c s more p e =
    let k = first_lines s c.args.self.now.rest.now more p e in
    passed_on c.from_residual.result c.in_err-x.field-0.0 _ (err_from_is_err_and c.from_residual.result c.from_residual.ensures.1)
    (c.in_err-x.ensures.every s.x s.y (word_with_ids (codes "down") k.down ++ k.rest) k.claim_fine k.text_is)

pub returns-in_err-down-clause-every : goal.returns-in_err-down-clause-every
returns-in_err-down-clause-every c s more p e =
    let k = first_lines s c.args.self.now.rest.now more p e in
    let one = c.in_ok-x.ensures.every s.x s.y (word_with_ids (codes "down") k.down ++ k.rest) k.claim_fine k.text_is in
    passed_on c.from_residual-in_err-down.result c.in_err-down.field-0.0 _ (err_from_is_err_and c.from_residual-in_err-down.result c.from_residual-in_err-down.ensures.1)
    (c.in_err-down.ensures.every k.down k.rest k.down_fine one.2)

pub returns-then-takes-clause-lines : goal.returns-then-takes-clause-lines
returns-then-takes-clause-lines c =
    let s : Step = record { x = c.in_ok-x.x; y = c.in_ok-x.y; down_x = []; down_y = c.in_ok-down.down; right_x = []; right_y = []; reason = Prefix } in
    let one = c.in_ok-x.ensures.line in
    let two = c.in_ok-down.ensures.line in
    let written = one.0 ∙ ap (λ z. word_with_ids (codes "claim") (s.x ∷ s.y ∷ []) ++ z)
    (two.0 ∙ ap (λ z. word_with_ids (codes "down") s.down_y ++ z) (c.takes.ensures.yes c.if-takes.true))
    ∙ sym (prefix_split s c.takes.new.self.rest.now refl) in
    subst (Tells c.args.self.now.rest.now c.takes.new.self.rest.now) (sym c.by_prefix.ensures) (written, fine_prefix s refl one.1 two.1, refl)

pub returns-then-takes-clause-every : goal.returns-then-takes-clause-every
returns-then-takes-clause-every c s more p e =
    let k = first_lines s c.args.self.now.rest.now more p e in
    let one = c.in_ok-x.ensures.every s.x s.y (word_with_ids (codes "down") k.down ++ k.rest) k.claim_fine k.text_is in
    let two = c.in_ok-down.ensures.every k.down k.rest k.down_fine one.2 in
    elim k.behind [
      | inl b ↦
          let three = c.takes.ensures.every more (two.1 ∙ b.2) in (
            c.by_prefix.ensures
                ∙ (λ i. record { x = one.0 i; y = one.1 i; down_x = []; down_y = (two.0 ∙ b.1) i; right_x = []; right_y = []; reason = Prefix })
                ∙ ap (step_written_by s) (sym b.0),
            three.1,
          )
      | inr b ↦
          let t : codes "prefix\n" ++ c.takes.new.self.rest.now ≡ flat_map proof_line_text (sibling_lines s) ++ more = sym (c.takes.ensures.yes c.if-takes.true) ∙ two.1 ∙ b.3 in
          absurd (no_prefix s c.takes.new.self.rest.now more t)
    ]

pub returns-clause-lines : goal.returns-clause-lines
returns-clause-lines c =
    let one = c.in_ok-x.ensures.line in
    let two = c.in_ok-down.ensures.line in
    step_from c.read_sibling_step.result c.args.self.now.rest.now c.takes.new.self.rest.now c.read_sibling_step.new.self.rest.now c.in_ok-x.x c.in_ok-x.y c.in_ok-down.down
    (one.0 ∙ ap (λ z. word_with_ids (codes "claim") (c.in_ok-x.x ∷ c.in_ok-x.y ∷ []) ++ z)
    (two.0 ∙ ap (λ z. word_with_ids (codes "down") c.in_ok-down.down ++ z) (sym (c.takes.ensures.no c.if-takes.false))))
    one.1 two.1 c.read_sibling_step.ensures.lines

pub returns-clause-every : goal.returns-clause-every
returns-clause-every c s more p e =
    let k = first_lines s c.args.self.now.rest.now more p e in
    let one = c.in_ok-x.ensures.every s.x s.y (word_with_ids (codes "down") k.down ++ k.rest) k.claim_fine k.text_is in
    let two = c.in_ok-down.ensures.every k.down k.rest k.down_fine one.2 in
    elim k.behind [
      | inl b ↦ absurd (true≢false (sym (c.takes.ensures.every more (two.1 ∙ b.2)).0 ∙ c.if-takes.false))
      | inr b ↦
          let same = c.takes.ensures.no c.if-takes.false ∙ two.1 ∙ b.3 in
          subst (λ z. IsReadAs c.read_sibling_step.result (λ found. (found ≡ z) × (c.read_sibling_step.new.self.rest.now ≡ more))) (sym (sibling_written s s.reason b.0))
          (c.read_sibling_step.ensures.every s more b.2 (sym one.0) (sym one.1) (sym (two.0 ∙ b.1)) b.0 same)
    ]
