-- Failure, and when it is settled; numbers in a row.
pub mod Settling
pub mod Rows
