-- The checker's judgement of an answer text on flat memory, line by line.
pub mod Sequents
pub mod HypothesisChains
pub mod Members
pub mod Bindings
pub mod Rules
pub mod Clauses
pub mod Judging
pub mod Simulation
