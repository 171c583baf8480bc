-- Document 01, "The walk": the search, one act at a time, within a budget and without one.
pub mod Configurations
pub mod Steps
pub mod Search
pub mod Answers
pub mod Paper
pub mod Procedure
pub mod Promises
