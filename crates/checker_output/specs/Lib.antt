-- What the answer checker prints.
pub mod CheckerOutput
pub mod Promises
