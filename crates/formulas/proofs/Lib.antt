pub mod Free
pub mod Rules
pub mod Cases
