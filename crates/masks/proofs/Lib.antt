-- The laws that the proofs of `masks` share.
pub mod Blocks
pub mod Count
pub mod Digit
pub mod Gathering
pub mod Leaving
pub mod Marking
pub mod Member
pub mod Passing
pub mod Shifting
pub mod Storing
pub mod Turning
pub mod Widths
