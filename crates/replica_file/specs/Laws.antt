-- The law of what a file's bytes mean.
use Rattle.std.specs.Prelude.{◌≡◌, ℕ, List}
use Rattle.origin_model.specs.files.Image.{HasImage, Image}

-- each list of bytes has one image
pub record OneImage : Type 0 where
  pub one : (bytes : List ℕ) (a b : Image) → HasImage bytes a → HasImage bytes b → a ≡ b
  pub some : (bytes : List ℕ) → (image : Image) × HasImage bytes image
