-- What is promised of memory and of the calls that change it.
pub mod Call
