use Rattle.std.proofs.Common.{reverse, subst, sym, ◌∙◌}
use Rattle.order_proof.specs.Certificates.{Claims, IsValid}
use Rattle.order_proof.proofs.MadeLemmas.{made_before}
use Rattle.order_proof.proofs.making.prove.Goals as goal

pub new-requires : goal.new-requires
new-requires g c = λ e.
    let h = reverse (g.P.Positions.operations c.args.held.now) in
    subst (IsValid h) (sym c.in_ok-steps.ensures.steps ∙ e) (made_before h c.make.ensures.lawful c.args.x c.args.y (c.requires.before c.make.ensures.lawful)).0

pub returns-clause-valid : goal.returns-clause-valid
returns-clause-valid g c =
    subst (IsValid (reverse (g.P.Positions.operations c.args.held.now))) (sym (c.new.ensures ∙ c.in_ok-steps.ensures.steps))
    (made_before (reverse (g.P.Positions.operations c.args.held.now)) c.make.ensures.lawful c.args.x c.args.y (c.requires.before c.make.ensures.lawful)).0

pub returns-clause-claims : goal.returns-clause-claims
returns-clause-claims g c =
    subst (Claims c.args.x c.args.y) (sym (c.new.ensures ∙ c.in_ok-steps.ensures.steps))
    (made_before (reverse (g.P.Positions.operations c.args.held.now)) c.make.ensures.lawful c.args.x c.args.y (c.requires.before c.make.ensures.lawful)).1
