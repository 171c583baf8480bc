-- Laws of the table's definitions.
pub mod Same
pub mod Words
pub mod Decoding
pub mod Nodes
pub mod Bits
pub mod Functors
