-- Proofs about calls.
pub mod Refusal
pub mod Follow
pub mod Row
pub mod Keep
pub mod Less
pub mod Answered
