-- What several proofs of the way's code share.
pub mod Size
