-- Laws of folding, for the code's proofs.
pub mod Laws
