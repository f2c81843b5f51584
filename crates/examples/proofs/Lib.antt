-- Proofs of the worked examples.
pub mod Open
