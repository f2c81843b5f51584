-- Answers as numbers.
pub mod Numbers
pub mod TickNumbers
pub mod WayNumbers
