-- The first words of lines.
use Rattle.std.specs.Prelude.{ℕ, List, codes}
use Rattle.edit_script.specs.declared.edit.Form.{Form}
use Rattle.edit_script.specs.declared.edit.Form.TheVariants.{Add, Put, Cut, Drop}

-- the first word of a line of each form
abbrev pub form_word : Form → List ℕ
form_word Add = codes "add"
form_word Put = codes "put"
form_word Cut = codes "cut"
form_word Drop = codes "drop"
