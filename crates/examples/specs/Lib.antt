-- Worked examples of the rules, as statements that are computed from the rules alone.
pub mod Hall
pub mod Steps
pub mod Routes
pub mod Orders
pub mod Numbers
pub mod Wrong
