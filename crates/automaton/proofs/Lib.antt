-- The laws that the proofs of `automaton` share.
pub mod Adding
pub mod Striking
pub mod Passing
pub mod Giving
