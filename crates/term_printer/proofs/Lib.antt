pub mod PositionsRise
pub mod Laws
