-- What the functions of `run` compute on lists.
pub mod Answering
pub mod Listing
pub mod Searching
