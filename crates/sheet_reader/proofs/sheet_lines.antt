-- Laws of the reader: its lines, what a line makes, and the sheet's lines in turn.
pub mod Lines
pub mod Steps
pub mod Reading
pub mod Refusals
