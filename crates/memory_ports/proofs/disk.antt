-- What the proofs of several functions of src/disk/ use.
pub mod PicksLemmas
pub mod ReplaysLemmas
