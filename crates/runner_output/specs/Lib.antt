-- What the sheet runner prints.
pub mod RunnerOutput
pub mod Promises
