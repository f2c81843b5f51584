-- The answers of the other functions, as numbers.
pub mod Numbers
