-- The proofs of what is stated of ticks.
pub mod Ticks
pub mod Bounds
pub mod Home
pub mod Starving
pub mod Fair
pub mod Finding
pub mod Parts
pub mod Choices
pub mod Serving
pub mod ComingHome
pub mod Nights
pub mod Examples
