-- Ticks: in each the arrivals that are due are made, and the one that has waited longest is granted its step. Definitions and statements.
pub mod Tick
pub mod Rows
pub mod Bound
pub mod Home
pub mod Night
pub mod Starving
pub mod Parts
pub mod Waiting
pub mod Examples
