-- What the code's field, directions and refusals stand for.
pub mod Model
pub mod Directions
pub mod Refusals
