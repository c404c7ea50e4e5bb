-- What the proofs of several functions of src/dock/ use.
pub mod RefusedLemmas
pub mod StepsLemmas
pub mod TranscriptsLemmas
