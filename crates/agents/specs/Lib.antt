-- What a reader has to believe: agents that block each other, who of them can go, orders in which all go, and the rule by which a change is
-- granted.
pub mod Numbers
pub mod Going
pub mod Orders
pub mod Kinds
pub mod Statements
