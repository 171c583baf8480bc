pub mod Accepted
pub mod Marked
pub mod Ways
pub mod Orders
