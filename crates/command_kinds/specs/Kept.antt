-- What is kept for saving, as the list of it.
use Rattle.std.specs.Prelude.{List, Option, Some, None}
use Rattle.fugue_ids.specs.declared.op.Op.{Op}
use Rattle.command_kinds.specs.declared.kept_ops.KeptOps.{KeptOps}
use Rattle.command_kinds.specs.declared.kept_ops.KeptOps.TheVariants.{Copied, Forgotten, Given}

-- the operations, where they are kept
abbrev pub list_kept : KeptOps → Option (List Op)
list_kept Forgotten = None
list_kept (Copied ops) = Some ops
list_kept (Given ops) = Some ops.items
