use Rattle.outer_ports.proofs.disk.ImagesLemmas.{sync_brings_none}
use Rattle.outer_ports.proofs.disk.sync_brings_none.Goals as goal

pub returns : goal.returns
returns c = sync_brings_none
