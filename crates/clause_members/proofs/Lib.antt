-- What is found in the table are the members of the clause that the table stands for.
pub mod Prefixes
pub mod Quantifiers
pub mod Laws
pub mod Chains
pub mod Members
