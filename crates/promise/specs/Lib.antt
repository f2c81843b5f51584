-- What is promised of every row of events, and that the hall's rule is the one rule for agents that block each other.
pub mod Promise
pub mod Rule
