use Rattle.outer_ports.proofs.watch.patience.Goals as goal

pub returns : goal.returns
returns c = c.from_secs.ensures
