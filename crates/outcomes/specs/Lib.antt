-- What the engine and the checker hand back, in document 01's numbers.
pub mod Outcomes
pub mod Refusals
