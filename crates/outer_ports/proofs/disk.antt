-- What the proofs of several functions of src/disk/ use, and what a proof above cites.
pub mod ImagesLemmas
pub mod HonestLemmas
pub mod MomentsLemmas
