-- Laws about the definitions of specs/, for the crates above.
pub mod Tests
pub mod Fields
pub mod Words
pub mod Stored
pub mod Memory
pub mod Becomes
