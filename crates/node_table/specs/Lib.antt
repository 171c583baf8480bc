-- The lent table of 8,192 numbers: where symbols, nodes, clauses and the order in force are, and how they are read back as trees.
pub mod Layout
pub mod Chains
pub mod Decoding
pub mod WellMade
pub mod Fingerprints
