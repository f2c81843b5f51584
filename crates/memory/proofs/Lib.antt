-- Memory of a hall, and what is written into it.
pub mod Halls
pub mod Writing
pub mod Written
