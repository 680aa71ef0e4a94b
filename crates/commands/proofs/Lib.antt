-- The laws that the proofs of `commands` share.
pub mod Values
pub mod Texts
pub mod Words
pub mod Seeking
pub mod Saved
pub mod Examples
