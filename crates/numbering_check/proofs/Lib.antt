-- Laws of the levels that are kept, and laws that the proofs of the code cite.
pub mod LevelCache
pub mod Laws
