-- The laws that the proofs of `lacks` share.
pub mod Lacking
pub mod Raising
pub mod Taking
pub mod Supplying
