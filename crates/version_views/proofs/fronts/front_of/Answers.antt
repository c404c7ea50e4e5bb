use Rattle.std.proofs.Common.{ap, subst, sym, take, ◌∙◌}
use Rattle.origin_model.specs.edits.Effect.{with_ops}
use Rattle.version_views.specs.Accepting.{CanAccept}
use Rattle.version_views.proofs.FrontMakingLemmas.{first_can, front_is}
use Rattle.version_views.proofs.fronts.front_of.Goals as goal

pub accept_all-requires : goal.accept_all-requires
accept_all-requires c =
    let s = c.args.replica.now in
    subst (λ l. CanAccept c.new_front-front.result (take c.args.count l)) (sym c.accepted.ensures.accepted)
    (first_can c.args.count s c.new_front-front.result c.requires c.accepted.ensures.sound c.new_front-front.ensures.sound c.new_front-front.ensures.new)

pub returns-in-Ok-clause-front : goal.returns-in-Ok-clause-front
returns-in-Ok-clause-front c =
    let s = c.args.replica.now in
    front_is c.args.count s c.new_front-front.result c.accept_all.new.front c.new_front-front.ensures.new
    (c.in-Ok.ensures.ok ∙ ap (λ l. with_ops c.new_front-front.result (take c.args.count l)) c.accepted.ensures.accepted)
