-- The proofs of the promises: shuttles as agents, where a shuttle may be, what each event keeps, and rows of events.
pub mod Shuttles
pub mod Places
pub mod Events
pub mod GoingOn
pub mod Home
