-- What is known of a field of the code, and of the squares that directions lead to.
pub mod Facts
pub mod Leading
