-- What the code's fleets and masks stand for.
pub mod Fleets
pub mod Masks
