-- Laws of the table's making.
pub mod Laws
