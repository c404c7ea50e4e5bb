use Rattle.std.proofs.Common.{sym, ◌∙◌, ◌≡◌}
use Rattle.std.proofs.lemmas.Bool.{true≢false}
use Rattle.std.proofs.lemmas.Result.{err_from_is_err_and}
use Rattle.order_proof.specs.declared.step.Reason.TheVariants.{Later}
use Rattle.order_proof.proofs.LineLemmas.{later_is, passed_on}
use Rattle.order_proof.proofs.text_parts.Unread.read_reason.Goals as goal

pub returns-in_err-p-clause-every : goal.returns-in_err-p-clause-every
returns-in_err-p-clause-every c reason more p n e =
    let one : c.takes.new.self.rest.now ≡ c.args.self.now.rest.now = c.takes.ensures.no c.if-takes.false in
    let two : c.takes-2.new.self.rest.now ≡ c.args.self.now.rest.now = c.takes-2.ensures.no c.if-takes-2.false ∙ one in
    let three : c.takes-3.new.self.rest.now ≡ c.args.self.now.rest.now = c.takes-3.ensures.no c.if-takes-3.false ∙ two in
    let k = later_is c.args.self.now.rest.now reason more (λ m t. true≢false (sym (c.takes.ensures.every m t).0 ∙ c.if-takes.false))
    (λ m t. true≢false (sym (c.takes-2.ensures.every m (one ∙ t)).0 ∙ c.if-takes-2.false))
    (λ m t. true≢false (sym (c.takes-3.ensures.every m (two ∙ t)).0 ∙ c.if-takes-3.false)) p n e in
    passed_on c.from_residual.result c.in_err-p.field-0.0 _ (err_from_is_err_and c.from_residual.result c.from_residual.ensures.1)
    (c.in_err-p.ensures.every k.0 k.1 more k.3 (three ∙ k.4))

pub returns-clause-every : goal.returns-clause-every
returns-clause-every c reason more p n e =
    let one : c.takes.new.self.rest.now ≡ c.args.self.now.rest.now = c.takes.ensures.no c.if-takes.false in
    let two : c.takes-2.new.self.rest.now ≡ c.args.self.now.rest.now = c.takes-2.ensures.no c.if-takes-2.false ∙ one in
    let three : c.takes-3.new.self.rest.now ≡ c.args.self.now.rest.now = c.takes-3.ensures.no c.if-takes-3.false ∙ two in
    let k = later_is c.args.self.now.rest.now reason more (λ m t. true≢false (sym (c.takes.ensures.every m t).0 ∙ c.if-takes.false))
    (λ m t. true≢false (sym (c.takes-2.ensures.every m (one ∙ t)).0 ∙ c.if-takes-2.false))
    (λ m t. true≢false (sym (c.takes-3.ensures.every m (two ∙ t)).0 ∙ c.if-takes-3.false)) p n e in
    let found = c.in_ok-p.ensures.every k.0 k.1 more k.3 (three ∙ k.4) in
    ((λ i. Later (found.0 i) (found.1 i)) ∙ sym k.2, found.2)
