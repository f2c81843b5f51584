-- Lemmas on memory after the arrivals of a tick, on the waits and the choice, and on what a tick leaves.
pub mod Coming
pub mod Counts
pub mod Best
pub mod Choice
pub mod Rows
pub mod Turn
pub mod Home
