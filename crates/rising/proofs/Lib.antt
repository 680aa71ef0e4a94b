-- The laws that the proofs of `rising` share.
pub mod Sizes
pub mod Visiting
pub mod Levels
