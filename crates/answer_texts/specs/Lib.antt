-- Document 01, "The answer text": its lines, their numbering and spelling, and what it is that a text spells a derivation of an
-- instance of the goal, or which of its lines breaks.
pub mod TextLines
pub mod Numbering
pub mod Spelling
pub mod Capitals
pub mod Spelled
pub mod FormerTexts
pub mod Judgements
pub mod Promises
pub mod Enumerations
pub mod EnumerationPromises
