-- Promise T3 and the laws that lead to it, in reading order: the bindings as one substitution (Substitution, Look, Solution); what
-- solves a store (Valuation, General); bindings followed one at a time (Follow, Looking); which stores there are (Stores, Fresh);
-- matching is sound, keeps stores formed, is complete, ends, and lowers levels for a reason (Sound, Invariant, Complete,
-- Termination, Track); what it finds (Labelled, Unify, Promises). Then the acts that follow bindings (Bindings), and numbers.
pub mod Substitution
pub mod Look
pub mod Solution
pub mod Valuation
pub mod General
pub mod Follow
pub mod Looking
pub mod Stores
pub mod Fresh
pub mod Sound
pub mod Invariant
pub mod Complete
pub mod Termination
pub mod Track
pub mod Labelled
pub mod Unify
pub mod Promises
pub mod Bindings
pub mod FormerUnits
pub mod Cases
pub mod Numbers
