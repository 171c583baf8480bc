-- Document 01, "Derivations": sequents, their derivations as trees and as lines, and instances of a goal.
pub mod Symbols
pub mod Sequents
pub mod Derivations
pub mod Lines
pub mod Numbers
pub mod Renamings
pub mod Promises
