-- The store of a search, matching act by act, and unification as document 003 defines it.
pub mod Store
pub mod Matching
pub mod Labelled
pub mod Promises
pub mod Bindings
pub mod FormerUnits
pub mod Numbers
