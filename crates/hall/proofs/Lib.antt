-- Lemmas on events and on the entry.
pub mod Events
pub mod Called
pub mod Started
