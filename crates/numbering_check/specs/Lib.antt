-- What the code keeps besides the definitions of the crate scanning: levels of first showings.
pub mod LevelCache
pub mod Sigils
