use Rattle.std.proofs.Common.{◌∙◌}
use Rattle.relay_core.proofs.LogLemmas.{logged-keys}
use Rattle.relay_core.proofs.log.has_frame.Goals as goal

pub returns : goal.returns
returns g c = c.contains.ensures ∙ logged-keys c.args.frame.now c.args.log.now.keys
