-- Laws that the proofs of the code cite.
pub mod Ends
pub mod Heads
pub mod Resuming
pub mod Advancing
pub mod Laws
