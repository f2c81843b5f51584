-- Proofs of the instances.
pub mod Reached
pub mod Unsafe
