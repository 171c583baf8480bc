-- The parts of a comparison of instances that are functions of their own in the code.
pub mod OpenNodes
pub mod OpenPairs
