-- The reader of a sheet: its contract, and what it does with a line.
pub mod Reader
-- The first line, which may give the order (request W-207).
pub mod FirstLine
