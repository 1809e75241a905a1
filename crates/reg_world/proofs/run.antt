-- A run as the proofs see it, and induction over its events.
pub mod Traced
pub mod Along
pub mod Begun
