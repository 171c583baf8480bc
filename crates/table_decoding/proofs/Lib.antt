-- Laws of the table that is being made.
pub mod Bits
pub mod Writing
pub mod Sequences
pub mod Adding
pub mod NodeKinds
pub mod Flags
pub mod Under
pub mod Pairs
pub mod Single
pub mod Arguments
pub mod Applied
pub mod Declared
pub mod Clauses
pub mod Lines
