use Rattle.std.proofs.Math.Facts.{Fits-lt-pow}
use Rattle.op_frame.proofs.NoteLemmas.{all_bytes}
use Rattle.op_frame.proofs.framed.bytes.Goals as goal

pub returns : goal.returns
returns c = all_bytes c.args._bytes.now (λ i. Fits-lt-pow (c.type_inv._bytes i))
