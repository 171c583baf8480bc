pub mod Exact
pub mod Passed
pub mod Callers
pub mod Promises
pub mod Orders
