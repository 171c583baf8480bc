-- What is kept from line to line besides the definitions of the crate line_checking.
pub mod Levels
