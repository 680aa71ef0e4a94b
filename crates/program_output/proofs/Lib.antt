-- The laws that the proofs of `program_output` share.
pub mod Comparing
