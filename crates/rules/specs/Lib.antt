-- The rules of the hall: what a reader has to believe. Definitions only.
pub mod Tests
pub mod Field
pub mod Route
pub mod Shuttle
pub mod Safe
pub mod Event
pub mod Memory
