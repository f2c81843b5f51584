-- Instances of the theorems, as statements.
pub mod Never
pub mod Reach
pub mod Rows
