-- The laws that the proofs of `expression` share.
pub mod Finding
pub mod Framing
pub mod Texts
pub mod Measuring
pub mod Summing
pub mod Noting
pub mod Putting
pub mod Going
pub mod Expressing
