-- The laws that the proofs of `row_table` share.
pub mod Sets
pub mod Keys
pub mod Turns
pub mod Stages
pub mod Collected
