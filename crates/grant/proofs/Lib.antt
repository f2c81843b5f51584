-- Lemmas on steps.
pub mod Moving
pub mod Listed
