-- Laws of declaring and applying symbols.
pub mod Laws
