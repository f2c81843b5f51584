-- How a route is judged.
pub mod Judged
