-- Scanning a term without recursion: what is held between two steps, and what it stands for.
pub mod Blocks
pub mod Delimiters
pub mod Heads
pub mod Steps
