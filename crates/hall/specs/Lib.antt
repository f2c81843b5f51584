-- The entry's answers and events, as numbers and as the rules have them.
pub mod Answer
pub mod Event
pub mod Call
pub mod Start
