-- Document 01, "The sheet" and refusals 6 to 11 of "Turned back": what a sheet of bytes is, or why it is none.
pub mod Limits
pub mod Buffers
pub mod Bytes
pub mod SheetLines
pub mod Nodes
pub mod Sheets
pub mod FormerNames
pub mod FormerLines
pub mod FormerOrder
pub mod OrderLines
pub mod Promises
