-- The writer in flat memory ("level 2"): from the machine's memory after a proved search the answer text (document 01), shaped as
-- the code is.
pub mod Output
pub mod Numbering
pub mod Bindings
pub mod WriteTerms
pub mod WriteLines
pub mod PathLinks
pub mod Writer
pub mod Written
