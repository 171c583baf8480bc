-- Lines of text in a lent buffer.
pub mod Appending
pub mod RefusalLine
