-- The engine's run: what it answers and what each lent buffer then holds, for every input.
pub mod EngineRun
pub mod Promises
pub mod Orders
pub mod Handed
pub mod OneProof
pub mod LastLine
pub mod ProofNumbers
