-- The laws that the proofs of `ffi` share, and the lendings computed.
pub mod Calling
pub mod Pins
