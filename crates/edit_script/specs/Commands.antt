-- The edits that lines ask for, as the model names them. Their places and counts are clusters.
use Rattle.std.specs.Prelude.{string_bytes}
use Rattle.std.specs.Str.{chars}
use Rattle.origin_model.specs.edits.Edits.{Command, Put, Cut, Add, DropSection}
use Rattle.edit_script.specs.declared.edit.Edit.{Edit}
use Rattle.edit_script.specs.declared.edit.Edit.TheVariants as edit

-- the edit of a replica that an edit of a script is
abbrev pub replica_command : Edit → Command
replica_command (edit.Add at title) = Add at title
replica_command (edit.Put section at text) = Put section at (chars (string_bytes text))
replica_command (edit.Cut section at count) = Cut section at count
replica_command (edit.DropSection section) = DropSection section
