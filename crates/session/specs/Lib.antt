-- What is asked for on a line of commands, what comes of it in the hall, and the picture of the hall.
pub mod Numbers
pub mod Commands
pub mod Picture
pub mod Played
pub mod Ways
pub mod Ticks
