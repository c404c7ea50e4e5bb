-- The edits of a turn as commands.
use Rattle.std.specs.Prelude.{[], ◌∷◌}
use Rattle.origin_model.specs.edits.Edits.{Command}
use Rattle.origin_model.specs.edits.Edits as edits
use Rattle.bulk_world.specs.declared.generator.Edit.{Edit}
use Rattle.bulk_world.specs.declared.generator.Edit.TheVariants.{Put, Cut}

-- the command that an edit is
abbrev pub command_for : Edit → Command
command_for (Put at letter) = edits.Put 0 at (letter ∷ [])
command_for (Cut at) = edits.Cut 0 at 1
