-- What the readers of a line's first field answer, by the definitions of `sheet_format`.
pub mod Fields
-- What the reader of a line answers, by the definitions of `sheet_format`.
pub mod Lines
