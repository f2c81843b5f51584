-- What the code's shuttles stand for, and what is written of them.
pub mod Shuttles
pub mod Written
pub mod Halls
