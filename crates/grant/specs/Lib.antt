-- What a step makes of a shuttle of the code.
pub mod Moved
