-- The state of a writing of terms.
pub mod State
