-- What a refused push hands back.
use Rattle.fugue_ids.specs.declared.op.Op.{Op}
use Rattle.causal_inbox.specs.declared.inbox.PushFault.{PushFault}
use Rattle.causal_inbox.specs.declared.inbox.PushFault.TheVariants.{Full, NoMemory}

-- the operation that was not taken
abbrev pub refused_op : PushFault → Op
refused_op (Full op) = op
refused_op (NoMemory op) = op
