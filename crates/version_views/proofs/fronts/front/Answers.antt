use Rattle.std.proofs.Common.{ap, arith, length, ◌∙◌, ◌≡◌}
use Rattle.std.proofs.lemmas.List.{length-reverse}
use Rattle.version_views.proofs.fronts.front.Goals as goal

pub front_of-requires : goal.front_of-requires
front_of-requires c =
    let long : length c.accepted.result ≡ length c.args.replica.now.held.history = ap length c.accepted.ensures.accepted ∙ length-reverse c.args.replica.now.held.history in
    omega (arith, c.if-len-count.false, c.len.ensures, long)
