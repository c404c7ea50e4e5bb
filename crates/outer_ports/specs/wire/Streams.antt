-- What passes on a connection, where there is one.
use Rattle.std.specs.Prelude.{◌≡◌, ℕ, List, Option, Some, None, Result}
use Rattle.std.specs.Io.KnownBytes.{ReadConsumes, WriteAppends}

-- the connection stays, and gives what the read answers
abbrev pub Hears : {S E : Type 0} → (S → Option (List ℕ)) → Option S → Option S → Result ℕ E → List ℕ → Type 0
Hears remaining None new result buf = new ≡ None
Hears remaining (Some old) None result buf = ⊥
Hears remaining (Some old) (Some new) result buf = ReadConsumes (remaining old) (remaining new) result buf

-- the connection stays, and takes what the write answers
abbrev pub Says : {S E : Type 0} → (S → Option (List ℕ)) → Option S → Option S → Result ℕ E → List ℕ → Type 0
Says contents None new result piece = new ≡ None
Says contents (Some old) None result piece = ⊥
Says contents (Some old) (Some new) result piece = WriteAppends (contents old) (contents new) result piece
