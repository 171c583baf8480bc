pub mod Results
pub mod Runs
pub mod Requests
pub mod Checks
