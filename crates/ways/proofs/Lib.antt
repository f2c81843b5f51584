-- What is proved of ways.
pub mod Greedy
pub mod Good
pub mod Turn
pub mod Next
pub mod Spread
pub mod Distances
pub mod Leg
pub mod Led
pub mod Only
pub mod Expand
pub mod Prepared
pub mod Ground
pub mod Walk
pub mod Marks
pub mod Leading
pub mod Asked
