-- First-order terms over any type of leaves, and the few notions on lists and mappings that every layer uses.
pub mod Lists
pub mod Terms
pub mod Numberless
