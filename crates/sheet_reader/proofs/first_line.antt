-- The first line of a sheet: laws for the code's proofs, and what holds after it.
pub mod Begins
