-- The laws that the proofs of `ffi_session` share.
pub mod Calling
