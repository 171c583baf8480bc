-- The interface for C and Rust.
pub mod Results
pub mod RulesRun
pub mod RulesAsk
pub mod RulesCheck
