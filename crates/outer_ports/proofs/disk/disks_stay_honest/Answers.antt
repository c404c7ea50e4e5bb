use Rattle.outer_ports.proofs.disk.ImagesLemmas.{honest_at_rest}
use Rattle.outer_ports.proofs.disk.HonestLemmas.{reads_stay_honest, sizes_stay_honest, syncs_stay_honest, writes_stay_honest}
use Rattle.outer_ports.proofs.disk.disks_stay_honest.Goals as goal

pub returns-clause-rest : goal.returns-clause-rest
returns-clause-rest c = honest_at_rest

pub returns-clause-sizes : goal.returns-clause-sizes
returns-clause-sizes c = sizes_stay_honest

pub returns-clause-reads : goal.returns-clause-reads
returns-clause-reads c = reads_stay_honest

pub returns-clause-writes : goal.returns-clause-writes
returns-clause-writes c = writes_stay_honest

pub returns-clause-syncs : goal.returns-clause-syncs
returns-clause-syncs c = syncs_stay_honest
