pub mod Laws
pub mod Arguments
pub mod Promises
