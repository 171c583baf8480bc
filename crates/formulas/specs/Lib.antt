-- First-order hereditary Harrop formulas: document 01, "The sheet", and document 003, section 3, with the goal "true" added.
pub mod Formulas
pub mod Members
pub mod Rules
