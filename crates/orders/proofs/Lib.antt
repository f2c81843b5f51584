-- Lemmas on orders.
pub mod Taken
