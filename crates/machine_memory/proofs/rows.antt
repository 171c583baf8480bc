-- Laws of numbers in a row.
pub mod Laws
