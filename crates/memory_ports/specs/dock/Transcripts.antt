-- What was sent to each session.
use Rattle.std.specs.Prelude.{◌≡◌, ℕ, List, [], Option, option_map, unwrap_or, nat_eq, find}

-- what was sent in a session
pub record TranscriptView : Type 0 where
  pub session : ℕ
  -- what was sent
  pub bytes : List ℕ
  -- how many further bytes are sure to fit
  pub room : ℕ

-- the transcript of a session
abbrev pub log_of : List TranscriptView → ℕ → Option TranscriptView
log_of transcripts session = find (λ transcript. nat_eq transcript.session session) transcripts

-- the bytes that were sent in a session
abbrev pub sent_by : List TranscriptView → ℕ → List ℕ
sent_by transcripts session = unwrap_or (option_map (λ transcript. transcript.bytes) (log_of transcripts session)) []

-- how many further bytes a session takes for sure
abbrev pub room_by : List TranscriptView → ℕ → ℕ
room_by transcripts session = unwrap_or (option_map (λ transcript. transcript.room) (log_of transcripts session)) 0

-- nothing was sent, and what fits is what did
pub record SameTranscripts (old new : List TranscriptView) : Type 0 where
  pub sent : (session : ℕ) → sent_by new session ≡ sent_by old session
  pub room : (session : ℕ) → room_by new session ≡ room_by old session
