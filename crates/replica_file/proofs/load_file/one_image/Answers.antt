use Rattle.replica_file.proofs.ImageLemmas.{has_one_image}
use Rattle.replica_file.proofs.load_file.one_image.Goals as goal

pub returns : goal.returns
returns c = has_one_image
