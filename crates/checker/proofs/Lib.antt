-- The laws that the proofs of `checker` share.
pub mod Finishing
pub mod Outcomes
