-- The moments of a file: how many operations were accepted when the batches up to one had been taken in.
use Rattle.std.specs.Prelude.{◌≡◌, ℕ, nat_lt, true, if◌then◌else◌, List, [], ◌∷◌, ◌++◌, length, Result, Ok, Err}
use Rattle.fugue_ids.specs.declared.limits.TheConstants.{MOST_OPERATIONS}
use Rattle.origin_model.specs.files.Image.{Batch, Content, EndsWell, batch_ops, has_header}
use Rattle.origin_model.specs.taking.Taking.{held}
use Rattle.origin_model.specs.edits.State.{State}
use Rattle.replica_file.specs.Slots.{Walked, WalksOut}
use Rattle.replica_file.specs.declared.gate.Gate.{Gate}
use Rattle.replica_file.specs.declared.load_file.End.{End}

-- how many operations are accepted when those of the batches have been taken in one by one
abbrev pub accepted_by : (hold : ℕ) → List Batch → ℕ
accepted_by hold batches = length (held hold MOST_OPERATIONS (batch_ops batches)).history

-- how many are accepted, where they are more than before
abbrev pub new_moment : (before now : ℕ) → List ℕ
new_moment before now = if nat_lt before now then now ∷ [] else []

-- the moments of batches that come after others: of each one with which more are accepted, how many are
abbrev pub moments_after : (hold : ℕ) (earlier batches : List Batch) → List ℕ
moments_after hold earlier [] = []
moments_after hold earlier (batch ∷ batches) =
    new_moment (accepted_by hold earlier) (accepted_by hold (earlier ++ batch ∷ [])) ++ moments_after hold (earlier ++ batch ∷ []) batches

-- the moments of batches: of each with which more operations are accepted, how many are
abbrev pub moments_of : (hold : ℕ) → List Batch → List ℕ
moments_of hold batches = moments_after hold [] batches

-- the bytes are a replica's file, and its batches have these moments
pub record HasMoments (bytes moments : List ℕ) : Type 0 where
  pub header : has_header bytes ≡ true
  pub content : Content
  pub ends : EndsWell bytes content
  pub are : moments ≡ moments_of content.hold ends.batches

-- the open slots up to a gate were all taken in, and these are their moments
pub record WalkedWith (bytes : List ℕ) (slots : ℕ) (gate : Gate) (replica : State) (moments : List ℕ) : Type 0 where
  pub walked : Walked bytes slots gate replica
  pub are : moments ≡ moments_of replica.hold walked.batches

-- a file was walked to its end, with its moments
pub record WalksOutWith (bytes : List ℕ) (end : End) (replica : State) (moments : List ℕ) : Type 0 where
  pub out : WalksOut bytes end replica
  pub are : moments ≡ moments_of replica.hold out.walked.batches

-- what was loaded, without the moments
abbrev pub loaded_of : {M E : Type 0} → Result (State × End × M) E → Result (State × End) E
loaded_of (Ok loaded) = Ok (loaded.0, loaded.1)
loaded_of (Err fault) = Err fault

-- each replica's file has one list of moments
abbrev pub OneListOfMoments : Type 0
OneListOfMoments = (bytes a b : List ℕ) → HasMoments bytes a → HasMoments bytes b → a ≡ b
