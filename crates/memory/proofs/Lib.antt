-- Laws of lent buffers.
pub mod Parts
pub mod Records
