-- Fleets that fit into memory, masks as sets, tables of who stands where, and rounds of taking out.
pub mod Fitting
pub mod Masks
pub mod Shifts
pub mod Standing
pub mod Blocked
pub mod Rounds
