-- A tick over lent memory: its answers as numbers, what is turned away, and what it leaves.
pub mod Answer
pub mod Tick
pub mod Coming
pub mod Home
