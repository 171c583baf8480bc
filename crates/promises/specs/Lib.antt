-- What engine and checker promise together. Neither uses the other.
pub mod Accepted
pub mod Marked
pub mod Ways
pub mod Orders
