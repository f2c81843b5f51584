-- What the way's code computes with.
pub mod Table
pub mod Lead
pub mod Answer
