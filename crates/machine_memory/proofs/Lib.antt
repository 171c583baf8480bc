-- Laws that other crates cite.
pub mod Settling
