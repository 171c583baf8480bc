-- What a node of a range check comes to.
pub mod Visits
