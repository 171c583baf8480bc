-- The judgement of an answer text as a function that computes: reading a line back, and judging line by line. Promise T6 says that it is
-- exactly the judgement of document 01, so nothing here is to be believed.
pub mod Reading
pub mod Judging
pub mod Promises
