-- Request W-202, "Show me the other ways": the search that goes on after each proof, and which of its paths succeed.
pub mod Enumeration
pub mod GoingOn
pub mod Smaller
pub mod Renumbering
pub mod Scripts
pub mod Promises
