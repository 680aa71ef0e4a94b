-- The laws that the proofs of `rounds` share.
pub mod OpenClaims
pub mod Noting
pub mod Turn
pub mod Settled
pub mod Vain
