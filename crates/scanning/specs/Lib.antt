-- Terms as positions in an answer text: scanning them, comparing them with instances of sheet terms, and their numbering by first showing.
pub mod Ranges
pub mod Scanning
pub mod Fields
pub mod Frames
pub mod Classes
pub mod Instances
pub mod BriefComparisons
pub mod Numbering
