-- The laws that the proofs of `sorted_keys` share.
pub mod Keys
pub mod Shifts
