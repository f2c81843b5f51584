-- The lemmas, by the idea that they serve.
pub mod Tests
pub mod Going
pub mod Taking
pub mod Orders
pub mod Ranks
pub mod Fleets
pub mod Changes
pub mod Grants
pub mod Alike
