-- What a way through a row of squares is, and which of them is the first; and what its legs and its tables of distances are.
pub mod Visit
pub mod Order
pub mod Shortest
pub mod Asked
pub mod Law
pub mod Good
pub mod Leg
pub mod Distances
