-- The definitions that the contracts of `masks` cite.
pub mod Blocks
pub mod Graph
pub mod Mask
pub mod Passing
