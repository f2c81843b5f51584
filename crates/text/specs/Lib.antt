-- What texts are: lines and words, fields, routes and commands, and what is printed.
pub mod Lines
pub mod Failures
pub mod Fields
pub mod Shown
pub mod Gathered
pub mod Routes
pub mod Printed
pub mod Judged
