-- The laws that the proofs of `candidates` share.
pub mod Holding
pub mod Awaiting
pub mod Finding
pub mod Places
pub mod Trying
pub mod Turned
