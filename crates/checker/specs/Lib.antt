-- What the functions of `check` compute on numbers.
pub mod Checking
