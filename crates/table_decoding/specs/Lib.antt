-- What the table stands for while it is being made.
pub mod Decoding
